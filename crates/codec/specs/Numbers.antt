-- The numbers of a plan: groups of seven bits, lowest group first; a byte has its top bit set if another follows.
use Rattle.std.specs.Prelude.{ℕ, zero, suc, ◌+◌, ◌*◌, ◌/◌, ◌%◌, Bool, false, cond, not, ◌||◌, List, [], ◌∷◌, length, drop, Ok, Err, Result, ◌==◌, nat_le, nat_lt}
use Rattle.refusals.specs.declared.refusal.Refusal.{Refusal}
use Rattle.refusals.specs.declared.refusal.Refusal.TheVariants.{NumberCut, NumberForm}
use Rattle.codec.specs.declared.number.ByteFault.{ByteFault}
use Rattle.codec.specs.declared.number.ByteFault.TheVariants.{Cut, Form}
use Rattle.codec.specs.declared.number.Number.{Number}

-- why no number can be read, and the byte at which it would start
abbrev pub byte_refusal : ByteFault → Refusal
byte_refusal (Cut place) = NumberCut
byte_refusal (Form place) = NumberForm

abbrev pub byte_place : ByteFault → ℕ
byte_place (Cut place) = place
byte_place (Form place) = place

-- another byte follows
abbrev pub goes_on : ℕ → Bool
goes_on b = nat_le 128 b

-- the number whose groups these bytes carry, lowest group first
abbrev pub value_of : List ℕ → ℕ
value_of [] = 0
value_of (b ∷ bs) = b % 128 + 128 * value_of bs

-- the bytes in front, so many at most, up to the first that none follows
abbrev pub front : ℕ → List ℕ → List ℕ
front zero bs = []
front (suc n) [] = []
front (suc n) (b ∷ bs) = b ∷ cond (goes_on b) (front n bs) []

-- none follows the last byte
abbrev pub is_whole : List ℕ → Bool
is_whole [] = false
is_whole (b ∷ []) = not (goes_on b)
is_whole (b ∷ (c ∷ bs)) = is_whole (c ∷ bs)

-- the last group is 0 and not the only one, so that the same number has fewer bytes
abbrev pub is_padded : List ℕ → Bool
is_padded [] = false
is_padded (b ∷ []) = false
is_padded (b ∷ (c ∷ [])) = c % 128 == 0
is_padded (b ∷ (c ∷ (d ∷ bs))) = is_padded (c ∷ (d ∷ bs))

-- A number has at most three bytes, the fewest, and is at most 65535. Where fewer than three bytes are left and none of them is its
-- last, it is cut.
abbrev pub number_in : ℕ → List ℕ → Result Number ByteFault
number_in place bs =
    cond (is_whole bs)
    (cond (is_padded bs || nat_lt 65535 (value_of bs)) (Err (Form place)) (Ok (record { value = value_of bs; place = place; next = place + length bs })))
    (cond (nat_lt (length bs) 3) (Err (Cut place)) (Err (Form place)))

-- the number that starts at a byte of a plan
abbrev pub number_at : List ℕ → ℕ → Result Number ByteFault
number_at plan place = number_in place (front 3 (drop place plan))

-- the groups of a number, so many at most, each in a byte
abbrev pub groups : ℕ → ℕ → List ℕ
groups zero n = []
groups (suc k) n = cond (nat_lt n 128) (n ∷ []) ((128 + n % 128) ∷ groups k (n / 128))

-- the bytes that write a number
unfoldable pub number_bytes : ℕ → List ℕ
number_bytes n = groups 3 n
