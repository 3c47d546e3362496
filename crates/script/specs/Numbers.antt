-- Decimal numbers.
use Rattle.std.specs.Prelude.{ℕ, ◌-◌, cond, List, [], ◌∷◌, map, Ok, Err, Result, nat_le}
use Rattle.std.specs.Int.Digits.{number_from_digits}
use Rattle.std.specs.Str.{all_ascii_digits}
use Rattle.script.specs.declared.mistake.Mistake.{Mistake}
use Rattle.script.specs.declared.mistake.Mistake.TheVariants.{NotANumber, NumberTooLarge}

-- the number that digits write in base ten; 48 is the code of 0
abbrev pub written : List ℕ → ℕ
written w = number_from_digits 10 (map (λ b. b - 48) w)

-- a number, unless it is above the largest that fits
abbrev pub within : ℕ → ℕ → Result ℕ Mistake
within most n = cond (nat_le n most) (Ok n) (Err NumberTooLarge)

-- the number that a word writes, if all its bytes are digits
abbrev pub decimal_of : ℕ → List ℕ → Result ℕ Mistake
decimal_of most [] = Err NotANumber
decimal_of most (b ∷ bs) = cond (all_ascii_digits (b ∷ bs)) (within most (written (b ∷ bs))) (Err NotANumber)
