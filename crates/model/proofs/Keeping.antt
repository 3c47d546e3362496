-- Every call keeps the grid, if open routes stay proper.
use Rattle.std.proofs.Common.{◌≡◌, ℕ, ◌<◌, true, ◌∷◌, is_some, Option, arith}
use Rattle.std.specs.List.{AllByRecursion as All}
use Rattle.std.proofs.ByRecursion.{All-push}
use Rattle.routes.specs.declared.hop.Hop.{Hop}
use Rattle.routes.specs.Routes.{OpenStream}
use Rattle.routes.specs.Loads.{stream_count}
use Rattle.model.specs.Grid.{Setting, Queue, Grid, blank, assign, put, with_stream, route_of}
use Rattle.model.specs.Calls.{Call, Outcome}
use Rattle.model.specs.Law.{NoneOnGrid}
use Rattle.model.proofs.Puts.{assign_other, assign_each, put_each, pushed}
use Rattle.model.specs.Safe.{Proper}
use Rattle.model.proofs.Routes.{proper_none}
use Rattle.model.proofs.StreamItems.{all_others}
use Rattle.model.proofs.Kept.{first_on_route, Placed, Kept, all_placed, next_on_route, closed_none, counted_none}
use Rattle.model.proofs.Does.{Does, refused, opened, closed, sent, passed, left}

-- every item is placed
abbrev AllPlaced : {T : Type 0} → Setting → (ℕ → Option OpenStream) → (ℕ → ℕ → Queue T) → Type 0
AllPlaced S streams contents = (link lane : ℕ) → All (Placed S streams link lane) (contents link lane)

placed_push : {T : Type 0} (S : Setting) (streams : ℕ → Option OpenStream) (contents : ℕ → ℕ → Queue T) (h : Hop) (item : ℕ × T)
    → Placed S streams h.link h.lane item → AllPlaced S streams contents → AllPlaced S streams (pushed contents h item)
placed_push S streams contents h item p placed =
    put_each contents h.link h.lane _ (λ l v. All (Placed S streams l v))
    (All-push (Placed S streams h.link h.lane) (contents h.link h.lane) item (placed h.link h.lane) p) placed

pub kept_blank : {T : Type 0} (S : Setting) → Kept {T = T} S blank
kept_blank S = record {
  low = λ n is_open. grind arith;
  routes = λ n. proper_none S;
  placed = λ link lane. tt;
}

module _ {T : Type 0} (S : Setting) (g : Grid T) (kept : Kept S g) where
  placed_pop : {link lane : ℕ} {item : ℕ × T} {queue : Queue T} → g.contents link lane ≡ item ∷ queue
      → AllPlaced S g.streams (put g.contents link lane queue)
  placed_pop {link} {lane} {item} {queue} is =
      put_each g.contents link lane queue (λ l v. All (Placed S g.streams l v))
      (all_placed S g kept link lane (item ∷ queue) is).1 kept.placed

  -- A stream with no item is opened or closed.
  kept_stream : (n : ℕ) (entry : Option OpenStream) → NoneOnGrid g n → (is_some entry ≡ true → n < stream_count)
      → ((k : ℕ) → Proper S (route_of (assign g.streams n entry k))) → Kept S (with_stream g n entry)
  kept_stream n entry none low routes = record {
    low = assign_each g.streams n entry (λ k entry. is_some entry ≡ true → k < stream_count) low kept.low;
    routes = routes;
    placed = λ link lane. all_others n (Placed S g.streams link lane) (Placed S (assign g.streams n entry) link lane)
        (λ (item : ℕ × T) other (p : Placed S g.streams link lane item). record { slots = p.slots; rest = p.rest; on = rw assign_other p.on })
        (g.contents link lane) (none link lane) (kept.placed link lane);
  }

  -- The contents of the lanes are changed.
  kept_contents : (contents : ℕ → ℕ → Queue T) (places : ℕ → ℕ → ℕ) → AllPlaced S g.streams contents
      → Kept S (record { streams = g.streams; contents = contents; places = places })
  kept_contents contents places placed = record { low = kept.low; routes = kept.routes; placed = placed }

  pub kept_next : {c : Call T} {o : Outcome T} → Does S g c o → ((n : ℕ) → Proper S (route_of (o.grid.streams n))) → Kept S o.grid
  kept_next refused routes = kept
  kept_next (opened low not_open judged) routes = kept_stream _ _ (closed_none S g kept _ not_open) (λ _. low) routes
  kept_next (closed low count) routes = kept_stream _ _ (counted_none S g kept _ count) (λ is_open. grind arith) routes
  kept_next (sent {n} first rest slots route) routes =
      let on = first_on_route g.streams n first rest route in
      kept_contents _ _ (placed_push S g.streams g.contents first _ (record { slots = slots; rest = rest; on = on }) kept.placed)
  kept_next (passed {link} {lane} {item} {queue} {next} {rest} front) routes =
      let slots = (all_placed S g kept link lane (item ∷ queue) front.is).0.slots in
      let on = next_on_route S g kept front in
      kept_contents _ _ (placed_push S g.streams _ next item (record { slots = slots; rest = rest; on = on }) (placed_pop front.is))
  kept_next (left front) routes = kept_contents _ _ (placed_pop front.is)
