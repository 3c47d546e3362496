-- Numbers that stand one after another.
use Rattle.std.specs.Prelude.{ℕ, zero, suc, List, [], ◌∷◌, flat_map, Ok, Err, Result}
use Rattle.codec.specs.declared.number.ByteFault.{ByteFault}
use Rattle.codec.specs.Reads.{then}
use Rattle.codec.specs.Numbers.{number_at, number_bytes}

-- numbers, and the byte behind the last of them
pub record Sequence : Type 0 where
  pub values : List ℕ
  pub next : ℕ

abbrev pub sequence : List ℕ → ℕ → Sequence
sequence values next = record { values = values; next = next }

-- so many numbers from a byte on
unfoldable pub numbers_at : List ℕ → ℕ → ℕ → Result Sequence ByteFault
numbers_at plan place zero = Ok (sequence [] place)
numbers_at plan place (suc n) =
    then (number_at plan place) (λ x. then (numbers_at plan x.next n) (λ more. Ok (sequence (x.value ∷ more.values) more.next)))

-- the byte behind so many numbers
abbrev pub behind : List ℕ → ℕ → ℕ → Result ℕ ByteFault
behind plan place n = then (numbers_at plan place n) (λ s. Ok s.next)

-- the bytes that write numbers one after another
abbrev pub numbers_bytes : List ℕ → List ℕ
numbers_bytes ns = flat_map number_bytes ns

-- the numbers that are read, none where one cannot be
abbrev pub values_in : Result Sequence ByteFault → List ℕ
values_in (Ok s) = s.values
values_in (Err e) = []
