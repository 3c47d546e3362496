-- The bytes that words write in base sixteen.
use Rattle.std.specs.Prelude.{ℕ, ◌+◌, ◌*◌, cond, List, [], ◌∷◌, ◌++◌, Ok, Err}
use Rattle.std.specs.Char.{is_digit, digit_value}
use Rattle.script.specs.declared.mistake.Mistake.TheVariants.{NotBytes}
use Rattle.script.specs.Reads.{Read, and_then}

-- the value of a digit
abbrev pub digit_of : ℕ → Read ℕ
digit_of b = cond (is_digit b 16) (Ok (digit_value b)) (Err NotBytes)

-- the byte of two digits
abbrev pub pair_of : ℕ → ℕ → Read ℕ
pair_of high low = and_then (digit_of high) (λ a. and_then (digit_of low) (λ b. Ok (16 * a + b)))

-- the bytes that a word writes, two digits for each
abbrev pub bytes_of : List ℕ → Read (List ℕ)
bytes_of [] = Ok []
bytes_of (digit ∷ []) = Err NotBytes
bytes_of (high ∷ low ∷ w) = and_then (pair_of high low) (λ byte. and_then (bytes_of w) (λ bytes. Ok (byte ∷ bytes)))

-- the bytes that words write, one word after another
abbrev pub bytes_in : List (List ℕ) → Read (List ℕ)
bytes_in [] = Ok []
bytes_in (w ∷ ws) = and_then (bytes_of w) (λ bytes. and_then (bytes_in ws) (λ more. Ok (bytes ++ more)))
