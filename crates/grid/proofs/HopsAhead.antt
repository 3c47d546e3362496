-- The hops ahead of the items in a lane.
use Rattle.std.proofs.Common.{◌≡◌, ℕ, zero, suc, ◌+◌, ◌≤◌, [], ◌∷◌, length, take, Some, None, Option, refl, arith}
use Rattle.std.specs.List.{slice_get}
use Rattle.std.specs.Option.{option_map}
use Rattle.std.proofs.lemmas.Bool.{cond_both, and_parts, ltb-true}
use Rattle.std.proofs.lemmas.Nat.{mul-add-lt}
use Rattle.routes.specs.Routes.{hop_on}
use Rattle.model.specs.Grid.{Queue}
use Rattle.model.specs.Sums.{queue_sum}
use Rattle.lanes.specs.Sizes.{holds, lane_of}
use Rattle.lanes.specs.Queues.{outline_at}
use Rattle.grid.specs.declared.tables.Tables.{Tables}
use Rattle.grid.specs.Views.{outline}
use Rattle.grid.proofs.Most.{lane_fits}

-- what the item of a stream costs, if there is one
abbrev pub cost_of : (ℕ → ℕ) → Option ℕ → ℕ
cost_of cost None = 0
cost_of cost (Some stream) = cost stream

pub cost_most : (cost : ℕ → ℕ) → ((n : ℕ) → cost n ≤ 24) → (stream : Option ℕ) → cost_of cost stream ≤ 24
cost_most cost most None = omega arith
cost_most cost most (Some stream) = most stream

-- the sum over the first items of a lane, and over one more
pub sum_more : (cost : ℕ → ℕ) (queue : Queue (Unit {0})) (behind : ℕ)
    → queue_sum (λ i. cost i.0) (take (suc behind) queue)
    ≡ queue_sum (λ i. cost i.0) (take behind queue) + cost_of cost (option_map (λ i. i.0) (slice_get queue behind))
sum_more cost [] zero = refl
sum_more cost [] (suc behind) = refl
sum_more cost (i ∷ queue) zero = omega arith
sum_more cost (i ∷ queue) (suc behind) = omega (arith, sum_more cost queue behind)

-- a lane has no more items than its depth, also where it is not there
pub contents_fit : (t : Tables) (link lane : ℕ) → length ((outline t).contents link lane) ≤ t.lanes.size.depth
contents_fit t link lane =
    let s = t.lanes.size in
    let k = lane_of s (hop_on link lane) in
    cond_both (holds s (hop_on link lane)) (outline_at t.lanes k) [] (λ queue. length queue ≤ s.depth)
    (λ on.
    let parts = and_parts _ _ on in
    let there = mul-add-lt link s.lanes lane s.links (ltb-true _ _ parts.0) (ltb-true _ _ parts.1) in
    lane_fits t k (omega (arith, there)))
    (λ off. omega arith)
