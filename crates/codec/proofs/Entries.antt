-- A record, read number by number.
use Rattle.std.specs.Prelude.{slice_range}
use Rattle.std.proofs.Common.{◌≡◌, ℕ, List, length, map, Ok, refl, sym, ap, ◌∙◌}
use Rattle.routes.specs.declared.hop.Hop.{Hop}
use Rattle.codec.specs.declared.number.Number.{Number}
use Rattle.codec.specs.Numbers.{number_at}
use Rattle.codec.specs.Sequences.{Sequence, sequence, numbers_at, behind}
use Rattle.codec.specs.Records.{Entry, hops_read, hop_of, hops_in, record_at}
use Rattle.codec.proofs.Standing.{Bytes}
use Rattle.codec.proofs.Hops.{read_alone}
use Rattle.codec.proofs.Sequences.{numbers_behind}

-- the record of five numbers, whose hops are these
abbrev pub entry : Number → Number → Number → Number → Number → List Hop → ℕ → Entry
entry stream source target demand count hops next = record {
  stream = stream.value;
  request = record { source = source.value; target = target.value; demand = demand.value };
  count = count.value;
  hops = hops;
  place = count.next;
  next = next;
}

module _ (plan : List ℕ) (start : ℕ) (stream source target demand count : Number) (a : Ok stream ≡ number_at plan start)
    (b : Ok source ≡ number_at plan stream.next) (c : Ok target ≡ number_at plan source.next) (d : Ok demand ≡ number_at plan target.next)
    (e : Ok count ≡ number_at plan demand.next) where
  pub with_hops : (s : Sequence) → numbers_at plan count.next (hops_read count.value) ≡ Ok s
      → record_at plan start ≡ Ok (entry stream source target demand count (map hop_of s.values) s.next)
  with_hops s is = rw (sym a, sym b, sym c, sym d, sym e, is) refl

  pub record_read : Bytes plan → (next : ℕ) → Ok next ≡ behind plan count.next (hops_read count.value)
      → (record_at plan start ≡ Ok (entry stream source target demand count (hops_in (slice_range plan count.next next) (hops_read count.value)) next))
      × (behind (slice_range plan count.next next) 0 (hops_read count.value) ≡ Ok (length (slice_range plan count.next next)))
  record_read all next is =
      let hops = numbers_behind plan count.next (hops_read count.value) next (sym is) in
      let alone = read_alone plan all (hops_read count.value) count.next (sequence hops.0 next) hops.1 in
      (with_hops (sequence hops.0 next) hops.1 ∙ ap (λ hs. Ok (entry stream source target demand count hs next)) (sym alone.hops), alone.all)
