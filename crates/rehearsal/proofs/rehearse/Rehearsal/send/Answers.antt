use Rattle.std.proofs.Common.{refl, ap, arith}
use Rattle.rehearsal.specs.Rehearsals.{moment}
use Rattle.rehearsal.proofs.Acting.{send_declined, send_done}
use Rattle.rehearsal.proofs.rehearse.Rehearsal.send.Goals as goal

pub returns-in_default-send-clause-on : goal.returns-in_default-send-clause-on
returns-in_default-send-clause-on g c =
    let before = moment c.args.self.now c.args.grid.now c.args.slots.now in
    send_declined c.args.strips before _ c.from-number.result c.in-Some.tally (omega arith) c.in-Some.is (ap (g.P.Policy.kind) c.in_default-send.ensures.layout) _ refl
    (rw (c.from.ensures, c.strip_of.ensures, ← c.from-number.ensures) at c.in_default-send.ensures.made)

pub returns-clause-on : goal.returns-clause-on
returns-clause-on g c =
    let before = moment c.args.self.now c.args.grid.now c.args.slots.now in
    send_done c.args.strips before _ c.from-number.result c.in-Some.tally (omega arith) c.in-Some.is (ap (g.P.Policy.kind) c.in-Ok.ensures.layout)
    c.if-tally-strips.false refl (rw (c.from.ensures, c.strip_of.ensures, ← c.from-number.ensures) at c.in-Ok.ensures.made)
