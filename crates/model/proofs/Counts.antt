-- How each call changes the hops ahead and the count of items on the grid.
use Rattle.std.proofs.Common.{◌≡◌, ℕ, ◌+◌, List, ◌∷◌, length, Option, refl, ap, arith}
use Rattle.routes.specs.declared.hop.Hop.{Hop}
use Rattle.routes.specs.Routes.{OpenStream, hop_on}
use Rattle.model.specs.Grid.{Setting, Queue, Grid, assign, put, with_queue, enqueue, route_of, hops_from}
use Rattle.model.specs.Sums.{grid_sum, one, item_count, ahead, hops_ahead}
use Rattle.model.specs.Calls.{Call, Outcome}
use Rattle.model.specs.Runs.{entering, leaving, going, hops_entering}
use Rattle.model.specs.Law.{NoneOnGrid}
use Rattle.model.proofs.Puts.{assign_other}
use Rattle.model.proofs.GridSums.{grid_sum_same, grid_sum_push, grid_sum_pop}
use Rattle.model.proofs.StreamItems.{all_others}
use Rattle.model.proofs.Kept.{first_on_route, Placed, Kept, Front, front_proper, next_on_route, closed_none, counted_none}
use Rattle.model.proofs.Does.{Does, refused, opened, closed, sent, passed, left}

module _ {T : Type 0} (S : Setting) (g : Grid T) (kept : Kept S g) where
  -- A sum of what items cost, after one is sent, leaves, or passes to the next hop.
  module _ (cost : ℕ → (ℕ × T) → ℕ) where
    sent_sum : (first : Hop) (rest : List Hop) (item : ℕ × T) → route_of (g.streams item.0) ≡ first ∷ rest
        → grid_sum S cost (enqueue S g first item).contents ≡ grid_sum S cost g.contents + cost first.link item
    sent_sum first rest item route = grid_sum_push S cost g.contents first (rw route at (kept.routes item.0).on_grid).0 item

    pub left_sum : {link lane : ℕ} {item : ℕ × T} {queue : Queue T} {rest : List Hop} → Front g link lane item queue rest
        → grid_sum S cost (with_queue g link lane queue).contents + cost link item ≡ grid_sum S cost g.contents
    left_sum {link} {lane} front = grid_sum_pop S cost g.contents (hop_on link lane) (front_proper S g kept front).on_grid.0 _ _ front.is

    passed_sum : {link lane : ℕ} {item : ℕ × T} {queue : Queue T} {next : Hop} {rest : List Hop} → Front g link lane item queue (next ∷ rest)
        → grid_sum S cost (enqueue S (with_queue g link lane queue) next item).contents + cost link item
        ≡ grid_sum S cost g.contents + cost next.link item
    passed_sum {link} {lane} {item} {queue} {next} front =
        omega (arith, left_sum front, grid_sum_push S cost (put g.contents link lane queue) next (front_proper S g kept front).on_grid.1.0 item)

  -- The hops ahead do not depend on a stream with no item.
  ahead_assign : (n : ℕ) (entry : Option OpenStream) → NoneOnGrid g n → grid_sum S (ahead (assign g.streams n entry)) g.contents ≡ hops_ahead S g
  ahead_assign n entry none =
      grid_sum_same S (ahead (assign g.streams n entry)) (ahead g.streams) g.contents
      (λ link lane. all_others n (Placed S g.streams link lane) (λ i. ahead (assign g.streams n entry) link i ≡ ahead g.streams link i)
      (λ item other _. ap (λ o. length (hops_from link (route_of o))) (assign_other g.streams n entry item.0 other))
      (g.contents link lane) (none link lane) (kept.placed link lane))

  pub hops_next : {c : Call T} {o : Outcome T} → Does S g c o
      → hops_ahead S o.grid + going c o.answer ≡ hops_ahead S g + hops_entering g c o.answer
  hops_next refused = grind arith
  hops_next (opened low not_open judged) = ap (λ k. k + 0) (ahead_assign _ _ (closed_none S g kept _ not_open))
  hops_next (closed low count) = ap (λ k. k + 0) (ahead_assign _ _ (counted_none S g kept _ count))
  hops_next (sent {n} {x} first rest slots route) =
      let on = first_on_route g.streams n first rest route in
      omega (arith, sent_sum (ahead g.streams) first rest (n, x) route, ap length route, ap length on)
  hops_next (passed front) = omega (arith, passed_sum (ahead g.streams) front, ap length front.on, ap length (next_on_route S g kept front))
  hops_next (left front) = omega (arith, left_sum (ahead g.streams) front, ap length front.on)

  pub items_next : {c : Call T} {o : Outcome T} → Does S g c o
      → item_count S o.grid + length (leaving o.answer) ≡ item_count S g + length (entering c o.answer)
  items_next refused = grind arith
  items_next (opened low not_open judged) = refl
  items_next (closed low count) = refl
  items_next (sent {n} {x} first rest slots route) = omega (arith, sent_sum one first rest (n, x) route)
  items_next (passed front) = omega (arith, passed_sum one front)
  items_next (left front) = omega (arith, left_sum one front)
