-- Numbers one after another, read.
use Rattle.std.proofs.Common.{◌≡◌, ℕ, zero, suc, ◌-◌, ◌<◌, ◌≤◌, List, ◌∷◌, Ok, Err, Result, refl, sym, ap, ◌∙◌, arith}
use Rattle.codec.specs.declared.number.ByteFault.{ByteFault}
use Rattle.codec.specs.declared.number.Number.{Number}
use Rattle.codec.specs.Reads.{then}
use Rattle.codec.specs.Numbers.{number_at}
use Rattle.codec.specs.Sequences.{Sequence, sequence, numbers_at, behind, values_in}

-- what is read after a value, where something is
pub then_ok : {A B E : Type 0} (r : Result A E) (f : A → Result B E) (y : B) → then r f ≡ Ok y → (x : A) × (r ≡ Ok x) × (f x ≡ Ok y)
then_ok (Ok x) f y is = (x, refl, is)
then_ok (Err e) f y is = cc

pub behind_none : (plan : List ℕ) (place n : ℕ) → n ≤ 0 → behind plan place n ≡ Ok place
unfolding numbers_at
behind_none plan place zero none = refl
behind_none plan place (suc n) none = absurd (omega arith)

next_behind : (n : ℕ) (r : Result Sequence ByteFault)
    → then (then r (λ more. Ok (sequence (n ∷ more.values) more.next))) (λ s. Ok s.next) ≡ then r (λ s. Ok s.next)
next_behind n (Ok p) = refl
next_behind n (Err e) = refl

-- the first number, and those behind it
pub behind_step : (plan : List ℕ) (place n : ℕ) → 0 < n → behind plan place n ≡ then (number_at plan place) (λ x. behind plan x.next (n - 1))
unfolding numbers_at
behind_step plan place zero some = absurd (omega arith)
behind_step plan place (suc n) some =
    let less : suc n - 1 ≡ n = omega arith in
    rw less
    (elim (number_at plan place) as (λ r. then (then r (λ x. then (numbers_at plan x.next n) (λ more. Ok (sequence (x.value ∷ more.values) more.next)))) (λ s. Ok s.next) ≡ then r (λ x. behind plan x.next n))
    [ Ok x ↦ next_behind x.value (numbers_at plan x.next n) | Err e ↦ refl ])

of_behind : (r : Result Sequence ByteFault) (next : ℕ) → then r (λ s. Ok s.next) ≡ Ok next → (ns : List ℕ) × (r ≡ Ok (sequence ns next))
of_behind (Ok s) next is = (s.values, let same : s.next ≡ next = cc in rw (← same) refl)
of_behind (Err e) next is = cc

-- where there is a place behind some numbers, they have been read
pub numbers_behind : (plan : List ℕ) (place n next : ℕ) → behind plan place n ≡ Ok next → (ns : List ℕ) × (numbers_at plan place n ≡ Ok (sequence ns next))
numbers_behind plan place n next is = of_behind (numbers_at plan place n) next is

-- The first of some numbers that are read up to a place, and those behind it.
pub record FirstOf (plan : List ℕ) (place n next : ℕ) : Type 0 where
  pub first : Number
  pub is : number_at plan place ≡ Ok first
  pub behind : behind plan first.next (n - 1) ≡ Ok next
  pub values : values_in (numbers_at plan place n) ≡ first.value ∷ values_in (numbers_at plan first.next (n - 1))

of_first : (n : ℕ) (r : Result Sequence ByteFault) (next : ℕ) → then r (λ s. Ok s.next) ≡ Ok next
    → values_in (then r (λ more. Ok (sequence (n ∷ more.values) more.next))) ≡ n ∷ values_in r
of_first n (Ok s) next is = refl
of_first n (Err e) next is = cc

values_step : (plan : List ℕ) (place n next : ℕ) (x : Number) → number_at plan place ≡ Ok x → behind plan x.next n ≡ Ok next
    → values_in (numbers_at plan place (suc n)) ≡ x.value ∷ values_in (numbers_at plan x.next n)
unfolding numbers_at
values_step plan place n next x is more = rw is (of_first x.value (numbers_at plan x.next n) next more)

pub first_of : (plan : List ℕ) (place n next : ℕ) → 0 < n → behind plan place n ≡ Ok next → FirstOf plan place n next
first_of plan place zero next some is = absurd (omega arith)
first_of plan place (suc n) next some is =
    let first = then_ok (number_at plan place) (λ x. behind plan x.next (suc n - 1)) next (sym (behind_step plan place (suc n) some) ∙ is) in
    let less : suc n - 1 ≡ n = omega arith in
    let more : behind plan first.0.next n ≡ Ok next = ap (behind plan first.0.next) (sym less) ∙ first.2 in
    record { first = first.0; is = first.1; behind = first.2; values = values_step plan place n next first.0 first.1 more ∙ ap (λ k. first.0.value ∷ values_in (numbers_at plan first.0.next k)) (sym less) }
