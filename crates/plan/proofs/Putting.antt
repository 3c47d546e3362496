-- Numbers written one behind another.
use Rattle.std.proofs.Common.{◌≡◌, ℕ, suc, ◌+◌, ◌<◌, ◌≤◌, List, ◌++◌, length, map, drop, get_or, sym, ap, ◌∙◌, arith, length-append, drop-cons}
use Rattle.codec.specs.Numbers.{number_bytes}
use Rattle.codec.specs.Sequences.{numbers_bytes}

-- The numbers of things from number k on are still to be written; with those that are, they make what is wanted.
pub record ToWrite {X : Type 0} (number : X → ℕ) (xs : List X) (k : ℕ) (written wanted : List ℕ) : Type 0 where
  pub whole : written ++ numbers_bytes (map number (drop k xs)) ≡ wanted

module _ {X : Type 0} (number : X → ℕ) (xs : List X) (k : ℕ) (written wanted : List ℕ) (left : ToWrite number xs k written wanted) where
  next_number : (d : X) → k < length xs → written ++ (number_bytes (number (get_or xs k d)) ++ numbers_bytes (map number (drop (suc k) xs))) ≡ wanted
  next_number d more = ap (λ rest. written ++ numbers_bytes (map number rest)) (sym (drop-cons xs k d more)) ∙ left.whole

  pub room : (d : X) → k < length xs → length written + length (number_bytes (number (get_or xs k d))) ≤ length wanted
  room d more =
      let whole = ap length (next_number d more) in
      omega (
        arith,
        whole,
        length-append written (number_bytes (number (get_or xs k d)) ++ numbers_bytes (map number (drop (suc k) xs))),
        length-append (number_bytes (number (get_or xs k d))) (numbers_bytes (map number (drop (suc k) xs))),
      )
