-- A record that is read stands in its plan as it is written.
use Rattle.std.proofs.Common.{◌≡◌, ℕ, ◌≤◌, suc, ◌*◌, ◌+◌, ◌/◌, ◌%◌, List, [], ◌∷◌, ◌++◌, length, map, Ok, refl, ap, ◌∙◌, subst, arith}
use Rattle.std.specs.Prelude.{slice_range}
use Rattle.std.proofs.lemmas.Bool.Decides.{nat_tests}
use Rattle.std.proofs.lemmas.List.{length-map}
use Rattle.codec.specs.declared.number.Number.{Number}
use Rattle.codec.specs.Numbers.{number_at}
use Rattle.codec.specs.Sequences.{Sequence, sequence, numbers_at, numbers_bytes}
use Rattle.codec.specs.Records.{Entry, hops_read, hop_number, hop_of, record_numbers, record_at}
use Rattle.codec.proofs.Standing.{Bytes}
use Rattle.codec.proofs.Sequenced.{StandAt, numbers_stand, numbers_count}
use Rattle.codec.proofs.Entries.{entry}
use Rattle.codec.proofs.Hops.{part_bytes}
use Rattle.codec.proofs.Heading.{same_ok, from_then}

-- the numbers of a record ahead of its hops
abbrev five : Entry → List ℕ
five e = e.stream ∷ (e.request.source ∷ (e.request.target ∷ (e.request.demand ∷ (e.count ∷ []))))

-- the numbers of a record, read one after another, its hops last
record RecordRead (plan : List ℕ) (start : ℕ) (e : Entry) : Type 0 where
  hops : Sequence
  numbers : numbers_at plan start (suc (suc (suc (suc (suc (hops_read e.count)))))) ≡ Ok (sequence (five e ++ hops.values) e.next)
  are : e.hops ≡ map hop_of hops.values

in_turn : (plan : List ℕ) (start : ℕ) (stream source target demand count : Number) (n : ℕ) (hops : Sequence) → number_at plan start ≡ Ok stream
    → number_at plan stream.next ≡ Ok source → number_at plan source.next ≡ Ok target → number_at plan target.next ≡ Ok demand
    → number_at plan demand.next ≡ Ok count → numbers_at plan count.next n ≡ Ok hops
    → numbers_at plan start (suc (suc (suc (suc (suc n))))) ≡ Ok (sequence (stream.value ∷ (source.value ∷ (target.value ∷ (demand.value ∷ (count.value ∷ hops.values))))) hops.next)
unfolding numbers_at
in_turn plan start stream source target demand count n hops a b c d e f = rw (a, b, c, d, e, f) refl

record_read : (plan : List ℕ) (start : ℕ) (e : Entry) → record_at plan start ≡ Ok e → RecordRead plan start e
record_read plan start e is =
    from_then (number_at plan start) _ e is (λ stream a from_stream.
    from_then (number_at plan stream.next) _ e from_stream (λ source b from_source.
    from_then (number_at plan source.next) _ e from_source (λ target c from_target.
    from_then (number_at plan target.next) _ e from_target (λ demand d from_demand.
    from_then (number_at plan demand.next) _ e from_demand (λ count k from_count.
    from_then (numbers_at plan count.next (hops_read count.value)) _ e from_count (λ hops f from_hops.
    subst (RecordRead plan start) (same_ok (entry stream source target demand count (map hop_of hops.values) hops.next) e from_hops)
    (record { hops = hops; numbers = in_turn plan start stream source target demand count _ hops a b c d k f; are = refl })))))))

hops_numbered : (ns : List ℕ) → map hop_number (map hop_of ns) ≡ ns
hops_numbered [] = refl
hops_numbered (n ∷ ns) =
    let same : n / 4 * 4 + n % 4 ≡ n = omega arith in
    rw (same, hops_numbered ns) refl

-- as many hops are read as are meant to be
pub hops_counted : (plan : List ℕ) (start : ℕ) (e : Entry) → record_at plan start ≡ Ok e → length e.hops ≡ hops_read e.count
hops_counted plan start e is =
    let read = record_read plan start e is in
    let all = numbers_count plan _ start _ read.numbers in
    omega (arith, all, ap length read.are, length-map read.hops.values hop_of)

pub record_stands : (plan : List ℕ) (start : ℕ) (e : Entry) → Bytes plan → record_at plan start ≡ Ok e → length e.hops ≡ e.count
    → StandAt plan start (sequence (record_numbers e.stream e.request e.hops) e.next)
unfolding record_numbers
record_stands plan start e all is whole =
    let read = record_read plan start e is in
    let hops : map hop_number e.hops ≡ read.hops.values = ap (map hop_number) read.are ∙ hops_numbered read.hops.values in
    rw (whole, hops) (numbers_stand plan all _ start _ read.numbers)

-- so does one whose hops are counted right, told by the part of the plan that it takes
pub record_part : (plan : List ℕ) (start : ℕ) (e : Entry) → Bytes plan → record_at plan start ≡ Ok e → e.count ≤ 24
    → slice_range plan start e.next ≡ numbers_bytes (record_numbers e.stream e.request e.hops)
record_part plan start e all is few =
    let counted = hops_counted plan start e is in
    let whole : length e.hops ≡ e.count = grind (arith, nat_tests, counted) in
    part_bytes plan start _ (record_stands plan start e all is whole)
