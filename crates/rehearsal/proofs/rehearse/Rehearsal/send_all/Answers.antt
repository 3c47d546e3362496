use Rattle.std.proofs.Common.{◌∙◌}
use Rattle.std.proofs.lemmas.Bool.{or_parts}
use Rattle.rehearsal.proofs.Going.{goes_on_then, sends_none_still}
use Rattle.rehearsal.proofs.rehearse.Rehearsal.send_all.Goals as goal

pub loop-preserved : goal.loop-preserved
loop-preserved g c =
    let so_far = c.loop.invariant in
    let send = c.send-went.ensures in
    let none_of = or_parts c.loop.went c.send-went.result in
    record {
      ways = send.ways ∙ so_far.ways;
      on = goes_on_then so_far.on send.on;
      declined = λ none n below. sends_none_still (send.idle (none_of none).1) c.args.strips n (so_far.declined (none_of none).0 n below);
      here = λ none _. send.declined (none_of none).1;
    }
