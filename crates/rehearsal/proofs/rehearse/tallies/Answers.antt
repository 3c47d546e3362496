use Rattle.std.proofs.Common.{◌<◌, length, is_some, None, sym, ap, ◌∙◌, arith}
use Rattle.std.proofs.lemmas.List.{get_or_default}
use Rattle.rehearsal.proofs.Starting.{begun_none, begun_open, begun_closed}
use Rattle.rehearsal.proofs.rehearse.tallies.Goals as goal
use Rattle.rehearsal.proofs.rehearse.tallies.Goals.{then-is_some, else-is_some}

pub loop-stream-init : goal.loop-stream-init
loop-stream-init c = begun_none c.args.streams.now

pub loop-stream-preserved : goal.loop-stream-preserved
loop-stream-preserved c =
    let there : c.loop-stream.stream < length c.args.streams.now = omega arith in
    let entry = get_or_default c.args.streams.now c.loop-stream.stream None c.index-streams-stream.result there in
    elim c.if-is_some.branch [
      | then-is_some w ↦ rw w.tallies-is (begun_open _ c.loop-stream.stream _ (omega arith) c.loop-stream.invariant (ap is_some entry ∙ sym w.if-is_some.ensures))
      | else-is_some w ↦ rw w.tallies-is (begun_closed _ c.loop-stream.stream _ (omega arith) c.loop-stream.invariant (ap is_some entry ∙ sym w.if-is_some.ensures))
    ]
