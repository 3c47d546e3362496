-- Decimal numbers.
use Rattle.std.proofs.Common.{◌≡◌, ℕ, ◌+◌, ◌-◌, ◌*◌, ◌<◌, ◌≤◌, List, [], ◌∷◌, length, get_or, map, drop, refl, arith}
use Rattle.std.proofs.lemmas.Int.Digits.{number_after_ge}
use Rattle.std.proofs.lemmas.List.{at_drop_more, at_drop_all}
use Rattle.std.specs.Char.{is_ascii_digit}
use Rattle.std.specs.Int.Digits.{number_from_digits_after}
use Rattle.std.specs.List.{list_all}
use Rattle.std.specs.Str.{all_ascii_digits}

pub digit_by_digit : (bs : List ℕ) → all_ascii_digits bs ≡ list_all is_ascii_digit bs
digit_by_digit [] = refl
digit_by_digit (b ∷ bs) = rw (digit_by_digit bs) refl

-- the number of n and the digits behind it
abbrev pub on : ℕ → List ℕ → ℕ
on n bs = number_from_digits_after 10 n (map (λ b. b - 48) bs)

pub next_digit : (n : ℕ) (bs : List ℕ) (i : ℕ) → i < length bs → on n (drop i bs) ≡ on (n * 10 + (get_or bs i 0 - 48)) (drop (i + 1) bs)
next_digit n bs i below = at_drop_more (on n) bs i 0 below

pub no_digit : (n : ℕ) (bs : List ℕ) (i : ℕ) → length bs ≤ i → on n (drop i bs) ≡ n
no_digit n bs i all = at_drop_all (on n) bs i all

pub no_smaller : (n : ℕ) (bs : List ℕ) → n ≤ on n bs
no_smaller n bs = number_after_ge 10 n (map (λ b. b - 48) bs) (omega arith)

pub ruleset decimals = (digit_by_digit, next_digit, no_digit, no_smaller)
