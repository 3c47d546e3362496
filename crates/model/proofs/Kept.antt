-- What every call keeps of a grid: open routes are proper, and each item stands on a hop of its stream's route.
use Rattle.std.proofs.Common.{◌≡◌, ℕ, ◌<◌, true, false, List, [], ◌∷◌, is_some, Option, sym, refl, ap, ◌∙◌, ⊎_elim, arith}
use Rattle.std.specs.List.{AllByRecursion as All}
use Rattle.std.proofs.lemmas.List.{nil_from_length}
use Rattle.std.proofs.lemmas.Bool.{cases_eq}
use Rattle.std.proofs.lemmas.Bool.Decides.{nat_tests}
use Rattle.routes.specs.declared.hop.Hop.{Hop}
use Rattle.routes.specs.Routes.{OpenStream, hop_on}
use Rattle.routes.specs.Loads.{stream_count}
use Rattle.model.specs.Grid.{Setting, Queue, Grid, enough_slots, route_of, hops_from}
use Rattle.model.specs.Sums.{of_stream, one_of, item_count_of}
use Rattle.model.specs.Law.{NoneOnGrid}
use Rattle.model.specs.Safe.{Proper}
use Rattle.model.proofs.Routes.{proper_from, hops_from_here, hops_from_next}
use Rattle.model.proofs.GridSums.{grid_sum_at}
use Rattle.model.proofs.StreamItems.{of_stream_count}

-- The route of stream n takes a lane of a link, and then the hops of rest.
abbrev pub OnRoute : (ℕ → Option OpenStream) → ℕ → ℕ → ℕ → List Hop → Type 0
OnRoute streams n link lane rest = hops_from link (route_of (streams n)) ≡ hop_on link lane ∷ rest

pub first_on_route : (streams : ℕ → Option OpenStream) (n : ℕ) (first : Hop) (rest : List Hop) → route_of (streams n) ≡ first ∷ rest
    → OnRoute streams n first.link first.lane rest
first_on_route streams n first rest route = ap (hops_from first.link) route ∙ hops_from_here first rest first.link refl

-- An item on a lane of a link: there are slots for all lanes, and the route of its stream takes that lane.
pub record Placed {T : Type 0} (S : Setting) (streams : ℕ → Option OpenStream) (link lane : ℕ) (item : ℕ × T) : Type 0 where
  pub slots : enough_slots S ≡ true
  pub rest : List Hop
  pub on : OnRoute streams item.0 link lane rest

-- Open streams have numbers below the count of streams; all routes are proper, and all items are placed.
pub record Kept {T : Type 0} (S : Setting) (g : Grid T) : Type 0 where
  pub low : (n : ℕ) → is_some (g.streams n) ≡ true → n < stream_count
  pub routes : (n : ℕ) → Proper S (route_of (g.streams n))
  pub placed : (link lane : ℕ) → All (Placed S g.streams link lane) (g.contents link lane)

-- The item at the front of a lane, the queue behind it, and the hops that its route takes after this one.
pub record Front {T : Type 0} (g : Grid T) (link lane : ℕ) (item : ℕ × T) (queue : Queue T) (rest : List Hop) : Type 0 where
  pub is : g.contents link lane ≡ item ∷ queue
  pub on : OnRoute g.streams item.0 link lane rest

module _ {T : Type 0} (S : Setting) (g : Grid T) (kept : Kept S g) where
  on_route_proper : (n link lane : ℕ) (rest : List Hop) → OnRoute g.streams n link lane rest → Proper S (hop_on link lane ∷ rest)
  on_route_proper n link lane rest on = rw on at (proper_from S link (route_of (g.streams n)) (kept.routes n))

  pub all_placed : (link lane : ℕ) (queue : Queue T) → g.contents link lane ≡ queue → All (Placed S g.streams link lane) queue
  all_placed link lane queue is = rw is at (kept.placed link lane)

  pub front_proper : {link lane : ℕ} {item : ℕ × T} {queue : Queue T} {rest : List Hop} → Front g link lane item queue rest
      → Proper S (hop_on link lane ∷ rest)
  front_proper front = on_route_proper _ _ _ _ front.on

  pub next_on_route : {link lane : ℕ} {item : ℕ × T} {queue : Queue T} {next : Hop} {rest : List Hop} → Front g link lane item queue (next ∷ rest)
      → OnRoute g.streams item.0 next.link next.lane rest
  next_on_route {item = item} front = hops_from_next _ _ _ _ _ (kept.routes item.0).apart front.on

  module _ (n : ℕ) where
    -- A stream has no item in a lane if it has none there in case its route takes the lane.
    none_in_queue : (link lane : ℕ) (queue : Queue T) → All (Placed S g.streams link lane) queue
        → ((rest : List Hop) → OnRoute g.streams n link lane rest → of_stream n queue ≡ []) → of_stream n queue ≡ []
    none_in_queue link lane [] placed none = refl
    none_in_queue link lane (item ∷ queue) placed none =
        ⊎_elim
        (λ (mine : item.0 ≡ n). none placed.0.rest (rw mine at placed.0.on))
        (λ (other : item.0 ≡ n → ⊥).
        let after : of_stream n (item ∷ queue) ≡ of_stream n queue = grind (arith, nat_tests) in
        after ∙ none_in_queue link lane queue placed.1 (λ rest on. sym after ∙ none rest on))
        (cases_eq item.0 n)

    pub none_on_grid : ((link lane : ℕ) (rest : List Hop) → OnRoute g.streams n link lane rest → of_stream n (g.contents link lane) ≡ [])
        → NoneOnGrid g n
    none_on_grid none link lane = none_in_queue link lane (g.contents link lane) (kept.placed link lane) (none link lane)

    pub closed_none : is_some (g.streams n) ≡ false → NoneOnGrid g n
    closed_none closed = none_on_grid (λ link lane rest on. grind arith)

    pub counted_none : item_count_of S g n ≡ 0 → NoneOnGrid g n
    counted_none count = none_on_grid (λ link lane rest on.
        let some = grid_sum_at S (one_of n) g.contents (hop_on link lane) (on_route_proper n link lane rest on).on_grid.0 in
        nil_from_length (of_stream n (g.contents link lane)) (omega (arith, of_stream_count n link (g.contents link lane))))
