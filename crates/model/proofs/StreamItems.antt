-- The items of one stream in a queue.
use Rattle.std.proofs.Common.{◌≡◌, ℕ, [], ◌∷◌, ◌++◌, length, refl, arith}
use Rattle.std.specs.List.{AllByRecursion as All}
use Rattle.std.proofs.lemmas.Bool.Decides.{nat_tests}
use Rattle.model.specs.Grid.{Queue}
use Rattle.model.specs.Sums.{of_stream, queue_sum, one_of}

module _ {T : Type 0} (n : ℕ) where
  pub of_stream-append : (front back : Queue T) → of_stream n (front ++ back) ≡ of_stream n front ++ of_stream n back
  of_stream-append [] back = refl
  of_stream-append (item ∷ front) back = let rest = of_stream-append front back in grind (arith, nat_tests)

  -- a stream's items in a queue are as many as the queue's items that count as its own
  pub of_stream_count : (link : ℕ) (queue : Queue T) → queue_sum (one_of n link) queue ≡ length (of_stream n queue)
  of_stream_count link [] = refl
  of_stream_count link (item ∷ queue) = let rest = of_stream_count link queue in grind (arith, nat_tests)

  -- In a queue with no item of the stream, what holds of each item may rest on its being another stream's.
  pub all_others : (P Q : ℕ × T → Type 0) → ((item : ℕ × T) → (item.0 ≡ n → ⊥) → P item → Q item)
      → (queue : Queue T) → of_stream n queue ≡ [] → All P queue → All Q queue
  all_others P Q each [] none all = tt
  all_others P Q each (item ∷ queue) none all =
      let other : item.0 ≡ n → ⊥ = λ mine. grind (arith, nat_tests) in
      let rest : of_stream n queue ≡ [] = grind (arith, nat_tests) in
      (each item other all.0, all_others P Q each queue rest all.1)
