-- The streams of numbers below a bound.
use Rattle.std.proofs.Common.{◌≡◌, ℕ, ◌+◌, ◌<◌, ◌≤◌, true, false, nat_lt, Some, None, refl, sym, ◌∙◌, ⊎_elim, arith}
use Rattle.std.proofs.Math.Path.{fun_ext}
use Rattle.std.proofs.lemmas.Bool.{cases_eq, cases_lt}
use Rattle.std.proofs.lemmas.Bool.Decides.{nat_tests}
use Rattle.routes.specs.Routes.{OpenStream}
use Rattle.routes.specs.Loads.{stream_count}
use Rattle.model.specs.Grid.{Streams, assign}
use Rattle.model.specs.Reopening.{streams_below}
use Rattle.model.proofs.Puts.{assign_same, assign_other}

-- no number is below 0
pub none_below : (streams : Streams) → streams_below 0 streams ≡ λ _. None
none_below streams = fun_ext (λ j. let test : nat_lt j 0 ≡ false = grind (arith, nat_tests) in rw test refl)

-- from one number to the next
module _ (streams : Streams) (k : ℕ) where
  not_below : streams_below k streams k ≡ None
  not_below = let test : nat_lt k k ≡ false = grind (arith, nat_tests) in rw test refl

  below_next : streams_below (k + 1) streams k ≡ streams k
  below_next = let test : nat_lt k (k + 1) ≡ true = grind (arith, nat_tests) in rw test refl

  elsewhere : (j : ℕ) → (j ≡ k → ⊥) → streams_below k streams j ≡ streams_below (k + 1) streams j
  elsewhere j other = let tests : nat_lt j k ≡ nat_lt j (k + 1) = grind (arith, nat_tests) in rw tests refl

  pub below_closed : streams k ≡ None → streams_below k streams ≡ streams_below (k + 1) streams
  below_closed none = fun_ext (λ j. ⊎_elim (λ (here : j ≡ k). rw here (not_below ∙ sym (below_next ∙ none))) (elsewhere j) (cases_eq j k))

  pub below_open : (s : OpenStream) → streams k ≡ Some s → assign (streams_below k streams) k (Some s) ≡ streams_below (k + 1) streams
  below_open s is = fun_ext (λ j.
      ⊎_elim
      (λ (here : j ≡ k). rw here (assign_same (streams_below k streams) k (Some s) ∙ sym (below_next ∙ is)))
      (λ (other : j ≡ k → ⊥). assign_other (streams_below k streams) k (Some s) j other ∙ elsewhere j other)
      (cases_eq j k))

-- no stream has a number from the count on
pub all_below : (streams : Streams) → ((n : ℕ) → stream_count ≤ n → streams n ≡ None) → streams_below stream_count streams ≡ streams
all_below streams beyond = fun_ext (λ n.
    ⊎_elim
    (λ (low : n < stream_count). let test : nat_lt n stream_count ≡ true = grind (arith, nat_tests) in rw test refl)
    (λ (over : stream_count ≤ n). let test : nat_lt n stream_count ≡ false = grind (arith, nat_tests) in rw test (sym (beyond n over)))
    (cases_lt n stream_count))
