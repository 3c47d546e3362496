-- The first hop of an open stream.
use Rattle.std.proofs.Common.{◌≡◌, ℕ, ◌<◌, true, List, [], ◌∷◌, length, length-take, get_or, Some, None, Ok, Option, ◌==◌, false, sym, refl, subst, ⊎_elim, arith}
use Rattle.std.proofs.lemmas.Bool.{and_parts, cases_Bool}
use Rattle.std.specs.List.{list_all}
use Rattle.std.specs.Option.{option_map}
use Rattle.routes.specs.declared.hop.Hop.{Hop}
use Rattle.lanes.specs.declared.size.Size.{Size}
use Rattle.routes.specs.declared.route.Route.{Route}
use Rattle.routes.specs.declared.stream.Stream.{Stream}
use Rattle.routes.specs.Routes.{hops_of, hop_on, hop_at, stream_of}
use Rattle.model.specs.Grid.{route_of, second, next_hop}
use Rattle.model.specs.Calls.{open_stream}
use Rattle.lanes.specs.Sizes.{holds}
use Rattle.grid.specs.declared.tables.Tables.{Tables}
use Rattle.grid.specs.Views.{streams_in}
use Rattle.grid.specs.Makes.{Starts}

-- a list that is not empty begins with the entry at 0
begins : {A : Type 0} (xs : List A) (d : A) → 0 < length xs → (rest : List A) × (xs ≡ get_or xs 0 d ∷ rest)
begins [] d some = absurd (omega arith)
begins (x ∷ xs) d some = (xs, refl)

some_hop : (r : Route) → 0 < length (hops_of r)
some_hop r = let n = length-take r.count r.table in omega (arith, r.some, r.few, r.whole)

pub starts : (t : Tables) (n : ℕ) (s : Stream) → open_stream (streams_in t) n ≡ Ok (stream_of s) → get_or t.streams n None ≡ Some s
    → Starts t n (hop_at (hops_of s.route) 0)
starts t n s is_open entry =
    let b = begins (hops_of s.route) (hop_on 0 0) (some_hop s.route) in
    record {
      rest = b.0;
      request = s.request;
      stream = rw (sym b.1) is_open;
      on_grid = (and_parts _ _ (subst (λ hops. list_all (holds t.lanes.size) hops ≡ true) b.1 (t.placed n s entry))).0;
    }

-- the hop after another of a route that is there is there
next_holds : (size : Size) (hops : List Hop) (link : ℕ) (to : Hop) → list_all (holds size) hops ≡ true → Some to ≡ next_hop link hops → holds size to ≡ true
next_holds size [] link to all is = cc
next_holds size (h ∷ hops) link to all is =
    ⊎_elim
    (λ (here : (h.link == link) ≡ true). second_holds hops (and_parts _ _ all).1 (rw here at is))
    (λ (there : (h.link == link) ≡ false). next_holds size hops link to (and_parts _ _ all).1 (rw there at is))
    (cases_Bool (h.link == link))
  where
    second_holds : (hops : List Hop) → list_all (holds size) hops ≡ true → Some to ≡ second (h ∷ hops) → holds size to ≡ true
    second_holds [] all is = cc
    second_holds (k ∷ hops) all is = let same : to ≡ k = cc in rw same (and_parts _ _ all).0

pub next_on_grid : (t : Tables) (n link : ℕ) (to : Hop) → Some to ≡ next_hop link (route_of (streams_in t n)) → holds t.lanes.size to ≡ true
next_on_grid t n link to is = by_entry (get_or t.streams n None) refl is
  where
    by_entry : (entry : Option Stream) → get_or t.streams n None ≡ entry → Some to ≡ next_hop link (route_of (option_map stream_of entry)) → holds t.lanes.size to ≡ true
    by_entry None e is = cc
    by_entry (Some s) e is = next_holds t.lanes.size (hops_of s.route) link to (t.placed n s e) is
