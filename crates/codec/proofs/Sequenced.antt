-- Numbers one after another that are read stand as they are written, and those that are written are read.
use Rattle.std.proofs.Common.{◌≡◌, ℕ, zero, suc, ◌+◌, ◌≤◌, List, [], ◌∷◌, ◌++◌, length, drop, Ok, refl, sym, ap, ◌∙◌, arith, append_assoc, subst, length-append}
use Rattle.std.proofs.Math.Seq.{drop-append_seam}
use Rattle.std.proofs.lemmas.List.{drop-drop, get_or-drop}
use Rattle.codec.specs.declared.number.Number.{Number}
use Rattle.codec.specs.Numbers.{number_at, number_bytes}
use Rattle.codec.specs.Sequences.{Sequence, sequence, numbers_at, numbers_bytes}
use Rattle.codec.proofs.Sequences.{then_ok}
use Rattle.codec.proofs.Standing.{Bytes, in_front, written_read}

-- each of these is a number of 16 bits
abbrev pub Small : List ℕ → Type 0
Small [] = Unit {0}
Small (n ∷ ns) = (n ≤ 65535) × Small ns

-- numbers stand at a place as they are written
pub record StandAt (plan : List ℕ) (place : ℕ) (s : Sequence) : Type 0 where
  pub bytes : drop place plan ≡ numbers_bytes s.values ++ drop s.next plan
  pub next : s.next ≡ place + length (numbers_bytes s.values)
  pub small : Small s.values

-- what is behind bytes that stand at a place
pub behind_bytes : (plan : List ℕ) (place : ℕ) (bs rest : List ℕ) → drop place plan ≡ bs ++ rest → drop (place + length bs) plan ≡ rest
behind_bytes plan place bs rest is = sym (drop-drop (length bs) place plan) ∙ (ap (drop (length bs)) is ∙ drop-append_seam bs rest)

bytes_behind : (plan : List ℕ) (place : ℕ) → Bytes plan → Bytes (drop place plan)
bytes_behind plan place all k = rw (get_or-drop) (all (place + k))

-- a number stands at a place as it is written
pub record NumberAt (plan : List ℕ) (place : ℕ) (x : Number) : Type 0 where
  pub bytes : drop place plan ≡ number_bytes x.value ++ drop x.next plan
  pub next : x.next ≡ place + length (number_bytes x.value)
  pub small : x.value ≤ 65535

stand_after : (plan : List ℕ) (place : ℕ) (x : Number) (s : Sequence) → NumberAt plan place x → StandAt plan x.next s
    → StandAt plan place (sequence (x.value ∷ s.values) s.next)
stand_after plan place x s at behind = record {
  bytes = at.bytes ∙ (ap (λ rest. number_bytes x.value ++ rest) behind.bytes ∙ sym (append_assoc (number_bytes x.value) _ _));
  next = omega (arith, length-append (number_bytes x.value) (numbers_bytes s.values));
  small = (at.small, behind.small);
}

module _ (plan : List ℕ) (all : Bytes plan) where
  pub number_stands : (place : ℕ) (x : Number) → number_at plan place ≡ Ok x → NumberAt plan place x
  number_stands place x is =
      let front = in_front place (drop place plan) x (bytes_behind plan place all) is in
      record {
        bytes = front.bytes ∙ ap (λ rest. number_bytes x.value ++ rest) (sym (ap (λ next. drop next plan) front.next ∙ behind_bytes plan place (number_bytes x.value) front.rest front.bytes));
        next = front.next;
        small = front.small;
      }

  pub numbers_stand : (n place : ℕ) (s : Sequence) → numbers_at plan place n ≡ Ok s → StandAt plan place s
  unfolding numbers_at
  numbers_stand zero place s is = let none : sequence [] place ≡ s = cc in subst (StandAt plan place) none (record { bytes = refl; next = omega arith; small = tt })
  numbers_stand (suc n) place s is =
      let first = then_ok (number_at plan place) _ s is in
      let more = then_ok (numbers_at plan first.0.next n) _ s first.2 in
      let whole : sequence (first.0.value ∷ more.0.values) more.0.next ≡ s = cc in
      subst (StandAt plan place) whole (stand_after plan place first.0 more.0 (number_stands place first.0 first.1) (numbers_stand n first.0.next more.0 more.1))

pub numbers_count : (plan : List ℕ) (n place : ℕ) (s : Sequence) → numbers_at plan place n ≡ Ok s → length s.values ≡ n
unfolding numbers_at
numbers_count plan zero place s is = let none : sequence [] place ≡ s = cc in ap (λ t. length t.values) (sym none)
numbers_count plan (suc n) place s is =
    let first = then_ok (number_at plan place) _ s is in
    let more = then_ok (numbers_at plan first.0.next n) _ s first.2 in
    let whole : sequence (first.0.value ∷ more.0.values) more.0.next ≡ s = cc in
    ap (λ t. length t.values) (sym whole) ∙ ap suc (numbers_count plan n first.0.next more.0 more.1)

pub numbers_read : (plan : List ℕ) (place : ℕ) (ns rest : List ℕ) → Small ns → drop place plan ≡ numbers_bytes ns ++ rest
    → numbers_at plan place (length ns) ≡ Ok (sequence ns (place + length (numbers_bytes ns)))
unfolding numbers_at
numbers_read plan place [] rest small is = ap (λ p. Ok (sequence [] p)) (omega arith)
numbers_read plan place (n ∷ ns) rest small is =
    let split : drop place plan ≡ number_bytes n ++ (numbers_bytes ns ++ rest) = is ∙ append_assoc (number_bytes n) _ _ in
    let first : number_at plan place ≡ Ok (record { value = n; place = place; next = place + length (number_bytes n) }) = rw split (written_read place n _ small.0) in
    let more = numbers_read plan (place + length (number_bytes n)) ns rest small.1 (behind_bytes plan place (number_bytes n) _ split) in
    let next : place + length (number_bytes n) + length (numbers_bytes ns) ≡ place + length (number_bytes n ++ numbers_bytes ns) = omega (arith, length-append (number_bytes n) (numbers_bytes ns)) in
    rw (first, more, next) refl
