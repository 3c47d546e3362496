-- Sums over the items of a queue, and over those on the grid.
use Rattle.std.proofs.Common.{◌≡◌, ℕ, ◌+◌, ◌≤◌, [], ◌∷◌, ◌++◌, refl, ap, arith}
use Rattle.std.specs.List.{AllByRecursion as All}
use Rattle.routes.specs.declared.hop.Hop.{Hop}
use Rattle.routes.specs.Routes.{hop_on}
use Rattle.model.specs.Grid.{Setting, Queue, put}
use Rattle.model.specs.Sums.{queue_sum, grid_sum}
use Rattle.model.proofs.Puts.{put_same, put_other, pushed}
use Rattle.model.specs.Safe.{OnGrid}
use Rattle.model.proofs.LaneSums.{sum_of_lanes_zero, sum_of_lanes_at, sum_of_lanes_same, sum_of_lanes_change}

queue_sum-append : {T : Type 0} (cost : (ℕ × T) → ℕ) (front back : Queue T) → queue_sum cost (front ++ back) ≡ queue_sum cost front + queue_sum cost back
queue_sum-append cost [] back = omega arith
queue_sum-append cost (item ∷ front) back = omega (arith, queue_sum-append cost front back)

queue_sum_same : {T : Type 0} (f g : (ℕ × T) → ℕ) (queue : Queue T) → All (λ i. f i ≡ g i) queue → queue_sum f queue ≡ queue_sum g queue
queue_sum_same f g [] same = refl
queue_sum_same f g (item ∷ queue) same = omega (arith, same.0, queue_sum_same f g queue same.1)

pub grid_sum_same : {T : Type 0} (S : Setting) (f g : ℕ → (ℕ × T) → ℕ) (contents : ℕ → ℕ → Queue T)
    → ((link lane : ℕ) → All (λ i. f link i ≡ g link i) (contents link lane)) → grid_sum S f contents ≡ grid_sum S g contents
unfolding grid_sum
grid_sum_same S f g contents same = sum_of_lanes_same S _ _ (λ link lane. queue_sum_same (f link) (g link) (contents link lane) (same link lane))

module _ {T : Type 0} (S : Setting) (cost : ℕ → (ℕ × T) → ℕ) (contents : ℕ → ℕ → Queue T) where
  pub grid_sum_zero : ((link lane : ℕ) → OnGrid S (hop_on link lane) → queue_sum (cost link) (contents link lane) ≡ 0) → grid_sum S cost contents ≡ 0
  unfolding grid_sum
  grid_sum_zero none = sum_of_lanes_zero S _ none

  module _ (h : Hop) (on_grid : OnGrid S h) where
    pub grid_sum_at : queue_sum (cost h.link) (contents h.link h.lane) ≤ grid_sum S cost contents
    unfolding grid_sum
    grid_sum_at = sum_of_lanes_at S (λ link lane. queue_sum (cost link) (contents link lane)) h on_grid

    grid_sum-put : (queue : Queue T)
        → grid_sum S cost (put contents h.link h.lane queue) + queue_sum (cost h.link) (contents h.link h.lane)
        ≡ grid_sum S cost contents + queue_sum (cost h.link) queue
    unfolding grid_sum
    grid_sum-put queue =
        let new = put contents h.link h.lane queue in
        let change =
        sum_of_lanes_change S (λ link lane. queue_sum (cost link) (new link lane)) (λ link lane. queue_sum (cost link) (contents link lane)) h on_grid
        (λ link lane other. ap (queue_sum (cost link)) (put_other contents h.link h.lane queue link lane other)) in
        omega (arith, ap (queue_sum (cost h.link)) (put_same contents h.link h.lane queue))

    -- An item more at the back of a lane, and one less at its front.
    pub grid_sum_push : (item : ℕ × T) → grid_sum S cost (pushed contents h item) ≡ grid_sum S cost contents + cost h.link item
    grid_sum_push item =
        let queue = contents h.link h.lane in
        omega (arith, grid_sum-put (queue ++ (item ∷ [])), queue_sum-append (cost h.link) queue (item ∷ []))

    pub grid_sum_pop : (item : ℕ × T) (queue : Queue T) → contents h.link h.lane ≡ item ∷ queue
        → grid_sum S cost (put contents h.link h.lane queue) + cost h.link item ≡ grid_sum S cost contents
    grid_sum_pop item queue is = omega (arith, grid_sum-put queue, ap (queue_sum (cost h.link)) is)
