-- A number that is read stands in the bytes as it is written, and one that is written is read.
use Rattle.std.proofs.Common.{◌≡◌, ℕ, zero, suc, ◌+◌, ◌*◌, ◌/◌, ◌%◌, ◌^◌, ◌<◌, ◌≤◌, Bool, true, false, cond, not, ◌||◌, List, [], ◌∷◌, ◌++◌, length, nat_lt, get_or, Ok, Err, refl, sym, ap, ◌∙◌, arith}
use Rattle.std.proofs.Math.Nat.{pow-succ'}
use Rattle.std.proofs.lemmas.Bool.Decides.{nat_tests}
use Rattle.codec.specs.declared.number.ByteFault.TheVariants.{Cut, Form}
use Rattle.codec.specs.declared.number.Number.{Number}
use Rattle.codec.specs.Numbers.{goes_on, value_of, front, is_whole, is_padded, number_in, groups, number_bytes}

-- each of these is a byte
abbrev pub Bytes : List ℕ → Type 0
Bytes bs = (k : ℕ) → get_or bs k 0 < 256

-- the groups of a number behind its lowest one
high_groups : (b v : ℕ) → (b % 128 + 128 * v) / 128 ≡ v
high_groups b v = omega arith

module _ (b : ℕ) where
  whole_behind : (bs : List ℕ) → is_whole bs ≡ true → is_whole (b ∷ bs) ≡ true
  whole_behind [] whole = cc
  whole_behind (c ∷ bs) whole = whole

  padded_behind : (bs : List ℕ) → is_padded bs ≡ false → 0 < value_of bs → is_padded (b ∷ bs) ≡ false
  padded_behind [] full some = refl
  padded_behind (c ∷ []) full some = grind (arith, nat_tests)
  padded_behind (c ∷ (d ∷ bs)) full some = full

  rest_whole : (bs : List ℕ) → goes_on b ≡ true → is_whole (b ∷ bs) ≡ true → is_whole bs ≡ true
  rest_whole [] on whole = let last : not true ≡ true = ap not (sym on) ∙ whole in cc
  rest_whole (c ∷ bs) on whole = whole

  rest_full : (bs : List ℕ) → is_padded (b ∷ bs) ≡ false → is_padded bs ≡ false
  rest_full [] full = refl
  rest_full (c ∷ []) full = refl
  rest_full (c ∷ (d ∷ bs)) full = full

-- bytes behind the first one of a number make more than 0
some_behind : (b : ℕ) (bs : List ℕ) → is_whole bs ≡ true → is_padded (b ∷ bs) ≡ false → 0 < value_of bs
some_behind b [] whole full = cc
some_behind b (c ∷ []) whole full = grind (arith, nat_tests)
some_behind b (c ∷ (d ∷ bs)) whole full = let more = some_behind c (d ∷ bs) whole full in omega arith

last_group : (n b : ℕ) → goes_on b ≡ false → groups (suc n) (b % 128 + 128 * 0) ≡ b ∷ []
last_group n b last =
    let low : b < 128 = grind (arith, nat_tests) in
    let same : b % 128 + 128 * 0 ≡ b = omega arith in
    let test : nat_lt b 128 ≡ true = grind (arith, nat_tests) in
    rw (same, test) refl

more_groups : (n b : ℕ) (bs : List ℕ) → goes_on b ≡ true → b < 256 → 0 < value_of bs → groups n (value_of bs) ≡ bs
    → groups (suc n) (b % 128 + 128 * value_of bs) ≡ b ∷ bs
more_groups n b bs on byte some are =
    let large : 128 ≤ b = grind (arith, nat_tests) in
    let test : nat_lt (b % 128 + 128 * value_of bs) 128 ≡ false = grind (arith, nat_tests) in
    let low : 128 + (b % 128 + 128 * value_of bs) % 128 ≡ b = omega arith in
    rw (test, low, high_groups b (value_of bs), are) refl

-- the bytes of a number are its groups
pub groups_of_front : (n : ℕ) (bs : List ℕ) → Bytes bs → is_whole (front n bs) ≡ true → is_padded (front n bs) ≡ false → groups n (value_of (front n bs)) ≡ front n bs
groups_of_front zero bs all whole full = cc
groups_of_front (suc n) [] all whole full = cc
groups_of_front (suc n) (b ∷ bs) all whole full =
    elim (goes_on b) as (λ on. goes_on b ≡ on → is_whole (b ∷ cond on (front n bs) []) ≡ true → is_padded (b ∷ cond on (front n bs) []) ≡ false
    → groups (suc n) (value_of (b ∷ cond on (front n bs) [])) ≡ b ∷ cond on (front n bs) []) [
      | true ↦ λ on whole full.
          let rest = rest_whole b (front n bs) on whole in
          more_groups n b (front n bs) on (all 0) (some_behind b (front n bs) rest full) (groups_of_front n bs (λ k. all (suc k)) rest (rest_full b (front n bs) full))
      | false ↦ λ on whole full. last_group n b on
    ]
    refl whole full

-- a number in front of some bytes, written
pub record InFront (place : ℕ) (x : Number) (bs : List ℕ) : Type 0 where
  pub rest : List ℕ
  pub bytes : bs ≡ number_bytes x.value ++ rest
  pub next : x.next ≡ place + length (number_bytes x.value)
  pub small : x.value ≤ 65535

-- what it takes to be read
record IsRead (place : ℕ) (bs : List ℕ) (x : Number) : Type 0 where
  whole : is_whole bs ≡ true
  full : is_padded bs ≡ false
  small : value_of bs ≤ 65535
  is : x ≡ record { value = value_of bs; place = place; next = place + length bs }

number_of_ok : (whole wrong cut : Bool) (x y : Number) (place : ℕ)
    → cond whole (cond wrong (Err (Form place)) (Ok y)) (cond cut (Err (Cut place)) (Err (Form place))) ≡ Ok x → (whole ≡ true) × (wrong ≡ false) × (x ≡ y)
number_of_ok true true cut x y place is = cc
number_of_ok true false cut x y place is = (refl, refl, cc)
number_of_ok false wrong true x y place is = cc
number_of_ok false wrong false x y place is = cc

is_read : (place : ℕ) (bs : List ℕ) (x : Number) → number_in place bs ≡ Ok x → IsRead place bs x
is_read place bs x is =
    let told = number_of_ok (is_whole bs) (is_padded bs || nat_lt 65535 (value_of bs)) (nat_lt (length bs) 3) x _ place is in
    record { whole = told.0; full = grind (arith, nat_tests, told.1); small = grind (arith, nat_tests, told.1); is = told.2 }

front_first : (n : ℕ) (bs : List ℕ) → (rest : List ℕ) × (bs ≡ front n bs ++ rest)
front_first zero bs = (bs, refl)
front_first (suc n) [] = ([], refl)
front_first (suc n) (b ∷ bs) =
    elim (goes_on b) as (λ on. (rest : List ℕ) × (b ∷ bs ≡ (b ∷ cond on (front n bs) []) ++ rest))
    [ true ↦ let more = front_first n bs in (more.0, ap (λ r. b ∷ r) more.1) | false ↦ (bs, refl) ]

pub in_front : (place : ℕ) (bs : List ℕ) (x : Number) → Bytes bs → number_in place (front 3 bs) ≡ Ok x → InFront place x bs
unfolding number_bytes
in_front place bs x all is =
    let read = is_read place (front 3 bs) x is in
    let are : number_bytes x.value ≡ front 3 bs = ap (λ y. number_bytes y.value) read.is ∙ groups_of_front 3 bs all read.whole read.full in
    let split = front_first 3 bs in
    record {
      rest = split.0;
      bytes = split.1 ∙ ap (λ f. f ++ split.0) (sym are);
      next = ap (λ y. y.next) read.is ∙ ap (λ f. place + length f) (sym are);
      small = rw read.is read.small;
    }

-- the groups of a number, so many that it has no more, are read as that number
record AreRead (k n : ℕ) (bs : List ℕ) : Type 0 where
  first : (rest : List ℕ) → front k (bs ++ rest) ≡ bs
  whole : is_whole bs ≡ true
  full : is_padded bs ≡ false
  value : value_of bs ≡ n

one_read : (k n : ℕ) → nat_lt n 128 ≡ true → AreRead (suc k) n (n ∷ [])
one_read k n low =
    let last : goes_on n ≡ false = grind (arith, nat_tests) in
    let less : n < 128 = grind (arith, nat_tests) in
    record { first = λ rest. rw last refl; whole = rw last refl; full = refl; value = omega arith }

more_read : (k n : ℕ) (bs : List ℕ) → nat_lt n 128 ≡ false → AreRead k (n / 128) bs → AreRead (suc k) n ((128 + n % 128) ∷ bs)
more_read k n bs high more =
    let on : goes_on (128 + n % 128) ≡ true = grind (arith, nat_tests) in
    let large : 128 ≤ n = grind (arith, nat_tests) in
    record {
      first = λ rest. rw (on, more.first rest) refl;
      whole = whole_behind (128 + n % 128) bs more.whole;
      full = padded_behind (128 + n % 128) bs more.full (rw more.value (omega arith));
      value = rw more.value (omega arith);
    }

groups_read : (k n : ℕ) → n < 128 ^ suc k → AreRead (suc k) n (groups (suc k) n)
groups_read zero n fits = let low : nat_lt n 128 ≡ true = grind (arith, nat_tests) in rw low (one_read zero n low)
groups_read (suc k) n fits =
    elim (nat_lt n 128) as (λ low. nat_lt n 128 ≡ low → AreRead (suc (suc k)) n (cond low (n ∷ []) ((128 + n % 128) ∷ groups (suc k) (n / 128)))) [
      | true ↦ one_read (suc k) n
      | false ↦ λ high. let all : n < 128 * 128 ^ suc k = rw (pow-succ') at fits in more_read (suc k) n _ high (groups_read k (n / 128) (omega arith))
    ]
    refl

-- a number that is written in front of some bytes is read there
pub written_read : (place n : ℕ) (rest : List ℕ) → n ≤ 65535
    → number_in place (front 3 (number_bytes n ++ rest)) ≡ Ok (record { value = n; place = place; next = place + length (number_bytes n) })
unfolding number_bytes
written_read place n rest small =
    let read = groups_read 2 n (omega arith) in
    let fits : nat_lt 65535 n ≡ false = grind (arith, nat_tests) in
    rw (read.first rest, read.whole, read.full, read.value, fits) refl
