-- A sum over the links and the lanes of each is one over all lanes, counted over all links.
use Rattle.std.proofs.Common.{◌≡◌, ℕ, zero, suc, ◌+◌, ◌*◌, ◌<◌, ◌≤◌, [], ◌∷◌, length, ◌==◌, sym, refl, ap, ◌∙◌, add-zero, add-suc, zero-mul, suc-mul, arith}
use Rattle.std.specs.List.{count_by}
use Rattle.std.proofs.Math.Path.{fun_ext}
use Rattle.std.proofs.lemmas.Bool.{cond-true}
use Rattle.std.proofs.lemmas.Bool.Decides.{nat_tests}
use Rattle.std.proofs.lemmas.List.Recursion.{is_sum_by}
use Rattle.routes.specs.Loads.{sum_below}
use Rattle.routes.specs.Routes.{hop_on}
use Rattle.model.specs.Grid.{Queue}
use Rattle.model.specs.Sums.{queue_sum, grid_sum, one, item_count, one_of, item_count_of}
use Rattle.lanes.specs.declared.size.Size.{Size}
use Rattle.lanes.specs.declared.tables.Lanes.{Lanes}
use Rattle.lanes.specs.Sizes.{holds, lane_count, setting_of}
use Rattle.lanes.specs.Queues.{by_lane, outline_at, outline}

module _ {A : Type 0} (s : Size) (entry : ℕ → A) (none : A) (f : A → ℕ) where
  entry_at : (link lane : ℕ) → link < s.links → lane < s.lanes
      → by_lane s entry none link lane ≡ entry (link * s.lanes + lane)
  entry_at link lane low_link low_lane = cond-true (holds s (hop_on link lane)) _ _ (grind (arith, nat_tests))

  -- the lanes of the links below one, and the first of that link
  sum_of_link : (link n : ℕ) → link < s.links → n ≤ s.lanes
      → sum_below (link * s.lanes) (λ k. f (entry k)) + sum_below n (λ lane. f (by_lane s entry none link lane))
      ≡ sum_below (link * s.lanes + n) (λ k. f (entry k))
  sum_of_link link zero low fits = simp add-zero
  sum_of_link link (suc n) low fits =
      rw (add-suc (link * s.lanes) n, entry_at link n low (omega arith)) (omega (arith, sum_of_link link n low (omega arith)))

  sum_of_links : (n : ℕ) → n ≤ s.links
      → sum_below n (λ link. sum_below s.lanes (λ lane. f (by_lane s entry none link lane))) ≡ sum_below (n * s.lanes) (λ k. f (entry k))
  sum_of_links zero fits = simp zero-mul
  sum_of_links (suc n) fits =
      let some = sum_of_links n (omega arith) in
      let last = sum_of_link n s.lanes (omega arith) (omega arith) in
      rw (suc-mul n s.lanes) (omega arith)

  sum_of_lanes : sum_below s.links (λ link. sum_below s.lanes (λ lane. f (by_lane s entry none link lane)))
      ≡ sum_below (lane_count s) (λ k. f (entry k))
  sum_of_lanes = sum_of_links s.links (omega arith)

queue_sum-one : {T : Type 0} (link : ℕ) (queue : Queue T) → queue_sum (one link) queue ≡ length queue
queue_sum-one link [] = refl
queue_sum-one link (item ∷ queue) = omega (arith, queue_sum-one link queue)

module _ (l : Lanes) where
  -- a sum over the items that asks how many a queue has, and not for the link
  grid_sum-outline : (cost : ℕ → (ℕ × Unit {0}) → ℕ) (f : Queue (Unit {0}) → ℕ)
      → ((link : ℕ) (queue : Queue (Unit {0})) → queue_sum (cost link) queue ≡ f queue)
      → grid_sum (setting_of l.size 0) cost (outline l).contents ≡ sum_below (lane_count l.size) (λ k. f (outline_at l k))
  unfolding grid_sum
  grid_sum-outline cost f same =
      ap (λ sum. sum_below l.size.links (λ link. sum_below l.size.lanes (sum link)))
      (fun_ext (λ link. fun_ext (λ lane. same link ((outline l).contents link lane))))
      ∙ sum_of_lanes l.size (outline_at l) [] f

  pub items_in_all : (n items : ℕ) → n ≡ lane_count l.size → items ≡ sum_below n (λ k. length (outline_at l k))
      → items ≡ item_count (setting_of l.size 0) (outline l)
  items_in_all n items all so_far = so_far ∙ rw all (sym (grid_sum-outline one length queue_sum-one))

  pub items_of_stream : (stream n items : ℕ) → n ≡ lane_count l.size
      → items ≡ sum_below n (λ k. count_by (λ i. i.0 == stream) (outline_at l k))
      → items ≡ item_count_of (setting_of l.size 0) (outline l) stream
  items_of_stream stream n items all so_far =
      let counted = λ (link : ℕ). is_sum_by (queue_sum (one_of stream link)) (one_of stream link) refl (λ _ _. refl) in
      so_far ∙ rw all (sym (grid_sum-outline (one_of stream) (count_by (λ i. i.0 == stream)) counted))
