use Rattle.std.proofs.Common.{refl, ◌∙◌, ap, arith}
use Rattle.codec.specs.Sequences.{behind}
use Rattle.codec.proofs.Entries.{record_read}
use Rattle.codec.proofs.RecordBytes.{record_part}
use Rattle.codec.proofs.record.read_record.Goals as goal

pub returns : goal.returns
returns c =
    let read = record_read _ _ c.in_ok-stream.stream c.in_ok-source.source c.in_ok-target.target c.in_ok-demand.demand c.in_ok-count.count
    c.in_ok-stream.ensures.value c.in_ok-source.ensures.value c.in_ok-target.ensures.value c.in_ok-demand.ensures.value c.in_ok-count.ensures.value
    (λ k. omega (arith, c.type_inv.plan k)) _ (c.in_ok-next.ensures.value ∙ ap (behind _ _) c.hops_read.ensures) in
    record { value = (read.0, read.1, refl); stands = record_part _ _ _ (λ k. omega (arith, c.type_inv.plan k)) read.0 }
