-- The hop bytes of a record, read by themselves.
use Rattle.std.proofs.Common.{◌≡◌, ℕ, ◌-◌, List, length, map, Ok, ap, ◌∙◌, sym, arith, append-nil, zero-add, []}
use Rattle.std.specs.Prelude.{slice_range}
use Rattle.std.proofs.Math.Seq.{take-append_seam}
use Rattle.codec.specs.Reads.{then}
use Rattle.codec.specs.Sequences.{Sequence, sequence, numbers_at, behind, numbers_bytes, values_in}
use Rattle.codec.specs.Records.{hop_of, hops_in}
use Rattle.codec.proofs.Standing.{Bytes}
use Rattle.codec.proofs.Sequenced.{StandAt, numbers_stand, numbers_count, numbers_read}

-- the bytes of numbers that stand in a plan
pub part_bytes : (plan : List ℕ) (place : ℕ) (s : Sequence) → StandAt plan place s → slice_range plan place s.next ≡ numbers_bytes s.values
part_bytes plan place s at =
    let size : s.next - place ≡ length (numbers_bytes s.values) = omega (arith, at.next) in
    rw (size, at.bytes) (take-append_seam (numbers_bytes s.values) _)

-- so many numbers that are read in a plan are read in their own bytes, and are all that there is
pub record ReadAlone (bytes : List ℕ) (n : ℕ) (ns : List ℕ) : Type 0 where
  pub hops : hops_in bytes n ≡ map hop_of ns
  pub all : behind bytes 0 n ≡ Ok (length bytes)

pub read_alone : (plan : List ℕ) → Bytes plan → (n place : ℕ) (s : Sequence) → numbers_at plan place n ≡ Ok s → ReadAlone (slice_range plan place s.next) n s.values
read_alone plan all n place s is =
    let at = numbers_stand plan all n place s is in
    let bytes = part_bytes plan place s at in
    let read = numbers_read (slice_range plan place s.next) 0 s.values [] at.small (bytes ∙ sym (append-nil _)) in
    let alone : numbers_at (slice_range plan place s.next) 0 n ≡ Ok (sequence s.values (length (slice_range plan place s.next))) =
    ap (numbers_at _ 0) (sym (numbers_count plan n place s is)) ∙ (read ∙ ap (λ size. Ok (sequence s.values size)) (zero-add _ ∙ ap length (sym bytes))) in
    record { hops = ap (λ r. map hop_of (values_in r)) alone; all = ap (λ r. then r (λ t. Ok t.next)) alone }
