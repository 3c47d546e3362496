-- What is told by the outline of a grid alone.
use Rattle.std.proofs.Common.{◌≡◌, ℕ, ◌+◌, [], ◌∷◌, refl, ap}
use Rattle.std.proofs.Math.Path.{fun_ext}
use Rattle.routes.specs.Loads.{sum_below}
use Rattle.model.specs.Grid.{Setting, Queue, Grid}
use Rattle.model.specs.Sums.{queue_sum, grid_sum, one_of, item_count_of}
use Rattle.model.specs.Calls.{close_refusal}
use Rattle.model.specs.Outlines.{alike, without_items}

queue_sum-alike : {T : Type 0} (cost : (ℕ × Unit {0}) → ℕ) (queue : Queue T)
    → queue_sum cost (alike queue) ≡ queue_sum (λ i. cost (i.0, tt)) queue
queue_sum-alike cost [] = refl
queue_sum-alike cost (item ∷ queue) = ap (λ n. cost (item.0, tt) + n) (queue_sum-alike cost queue)

pub grid_sum-without_items : {T : Type 0} (S : Setting) (cost : ℕ → (ℕ × Unit {0}) → ℕ) (g : Grid T)
    → grid_sum S cost (without_items g).contents ≡ grid_sum S (λ link i. cost link (i.0, tt)) g.contents
unfolding grid_sum
grid_sum-without_items S cost g =
    ap (λ f. sum_below S.links (λ link. sum_below S.lanes (f link)))
    (fun_ext (λ link. fun_ext (λ lane. queue_sum-alike (cost link) (g.contents link lane))))

-- a sum over the items on the grid asks how many links and lanes there are, and nothing else of the setting
pub grid_sum_same_lanes : {T : Type 0} (S S' : Setting) (cost : ℕ → (ℕ × T) → ℕ) (contents : ℕ → ℕ → Queue T)
    → S.links ≡ S'.links → S.lanes ≡ S'.lanes → grid_sum S cost contents ≡ grid_sum S' cost contents
unfolding grid_sum
grid_sum_same_lanes S S' cost contents links lanes = rw (links, lanes)

module _ {T : Type 0} (S : Setting) (g : Grid T) where
  item_count_of-without_items : (n : ℕ) → item_count_of S (without_items g) n ≡ item_count_of S g n
  item_count_of-without_items n = grid_sum-without_items S (one_of n) g

  pub close_refusal-without_items : (n : ℕ) → close_refusal S (without_items g) n ≡ close_refusal S g n
  unfolding close_refusal
  close_refusal-without_items n = rw (item_count_of-without_items n)
