-- What is read of a plan's first bytes is what is read of the plan, where these are enough.
use Rattle.std.proofs.Common.{◌≡◌, ℕ, zero, suc, ◌+◌, ◌*◌, ◌-◌, ◌≤◌, true, false, cond, List, [], ◌∷◌, length, take, drop, Ok, Err, Result, refl, ap, ◌∙◌, arith}
use Rattle.std.proofs.lemmas.Bool.Decides.{nat_tests}
use Rattle.std.proofs.lemmas.List.{drop-take}
use Rattle.codec.specs.declared.number.ByteFault.{ByteFault}
use Rattle.codec.specs.declared.number.Number.{Number}
use Rattle.codec.specs.Reads.{then}
use Rattle.codec.specs.Numbers.{goes_on, front, number_in, number_at}
use Rattle.codec.specs.Heads.{head_at}
use Rattle.codec.specs.Sequences.{sequence, numbers_at}
use Rattle.codec.specs.Records.{hops_read, record_at}

front_cut : (k size : ℕ) (bs : List ℕ) → k ≤ size → front k (take size bs) ≡ front k bs
front_cut zero size bs room = refl
front_cut (suc k) zero bs room = absurd (omega arith)
front_cut (suc k) (suc size) [] room = refl
front_cut (suc k) (suc size) (b ∷ bs) room = ap (λ more. b ∷ cond (goes_on b) more []) (front_cut k size bs (omega arith))

front_short : (k : ℕ) (bs : List ℕ) → length (front k bs) ≤ k
front_short zero bs = omega arith
front_short (suc k) [] = omega arith
front_short (suc k) (b ∷ bs) =
    elim (goes_on b) as (λ on. length (b ∷ cond on (front k bs) []) ≤ suc k)
    [ true ↦ omega (arith, front_short k bs) | false ↦ omega arith ]

next_is : (place : ℕ) (bs : List ℕ) (x : Number) → number_in place bs ≡ Ok x → x.next ≡ place + length bs
next_is place bs x is = grind (arith, nat_tests)

then_same : {A B E : Type 0} (r : Result A E) (f g : A → Result B E) → ((x : A) → r ≡ Ok x → f x ≡ g x) → then r f ≡ then r g
then_same (Ok x) f g same = same x refl
then_same (Err e) f g same = refl

few_hops : (count : ℕ) → hops_read count ≤ 24
few_hops count = grind (arith, nat_tests)

-- from a plan cut to a size
module _ (plan : List ℕ) (size : ℕ) where
  number_cut : (place : ℕ) → place + 3 ≤ size → number_at (take size plan) place ≡ number_at plan place
  number_cut place room =
      let split : size ≡ place + (size - place) = omega arith in
      let bytes : drop place (take size plan) ≡ take (size - place) (drop place plan) = ap (λ n. drop place (take n plan)) split ∙ drop-take place (size - place) plan in
      ap (λ bs. number_in place (front 3 bs)) bytes ∙ ap (number_in place) (front_cut 3 (size - place) (drop place plan) (omega arith))

  -- a number, and what is read behind it: it has at most three bytes
  number_then : {B : Type 0} (place : ℕ) (f g : Number → Result B ByteFault) → place + 3 ≤ size → ((x : Number) → x.next ≤ place + 3 → f x ≡ g x)
      → then (number_at (take size plan) place) f ≡ then (number_at plan place) g
  number_then place f g room same =
      ap (λ r. then r f) (number_cut place room)
      ∙ then_same (number_at plan place) f g (λ x is. same x (omega (arith, next_is place (front 3 (drop place plan)) x is, front_short 3 (drop place plan))))

  numbers_cut : (n place : ℕ) → place + 3 * n ≤ size → numbers_at (take size plan) place n ≡ numbers_at plan place n
  unfolding numbers_at
  numbers_cut zero place room = refl
  numbers_cut (suc n) place room =
      number_then place _ _ (omega arith)
      (λ x near. ap (λ r. then r (λ more. Ok (sequence (x.value ∷ more.values) more.next))) (numbers_cut n x.next (omega arith)))

  -- eight numbers
  pub head_cut : 24 ≤ size → head_at (take size plan) ≡ head_at plan
  head_cut room =
      number_then 0 _ _ (omega arith) (λ version a.
      number_then version.next _ _ (omega arith) (λ rule b.
      number_then rule.next _ _ (omega arith) (λ width c.
      number_then width.next _ _ (omega arith) (λ height d.
      number_then height.next _ _ (omega arith) (λ lanes e.
      number_then lanes.next _ _ (omega arith) (λ depth f.
      number_then depth.next _ _ (omega arith) (λ capacity g.
      number_then capacity.next _ _ (omega arith) (λ count h. refl))))))))

  -- five numbers, and those of at most 24 hops
  pub record_cut : (place : ℕ) → place + 87 ≤ size → record_at (take size plan) place ≡ record_at plan place
  record_cut place room =
      number_then place _ _ (omega arith) (λ stream a.
      number_then stream.next _ _ (omega arith) (λ source b.
      number_then source.next _ _ (omega arith) (λ target c.
      number_then target.next _ _ (omega arith) (λ demand d.
      number_then demand.next _ _ (omega arith) (λ count e.
      rw (numbers_cut (hops_read count.value) count.next (omega (arith, few_hops count.value))) refl)))))
