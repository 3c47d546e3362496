use Rattle.std.proofs.lemmas.Result.{err_from_is_err_and}
use Rattle.lanes.proofs.Handled.{refused, no_target, held, room_stays, shifted}
use Rattle.lanes.proofs.tables.Lanes.shift.Goals as goal

pub returns-in_err-target : goal.returns-in_err-target
returns-in_err-target g c =
    let e = err_from_is_err_and c.from_residual-in_err-target.result c.from_residual-in_err-target.ensures.1 in
    rw (e.1, e.2) (refused c.args.self.now c.args.slots.now _ _ _ (no_target _ _ c.args.from c.args.to _ c.in_ok-k.ensures.free c.in_err-target.ensures))

pub returns-then-index-self : goal.returns-then-index-self
returns-then-index-self g c =
    refused c.args.self.now c.args.slots.now _ _ _
    (held c.args.self.now c.args.slots.now c.args.from c.args.to c.in_ok-k.k c.in_ok-target.target c.in_ok-k.ensures c.in_ok-target.ensures
    c.index-2.result.now c.index-2.ensures c.index.result.now c.index.ensures c.if-index-eq0.false c.if-index-self.true)

pub enter-requires-clause-room : goal.enter-requires-clause-room
enter-requires-clause-room g c =
    room_stays c.args.self.now c.args.slots.now c.args.from c.args.to c.in_ok-k.k c.in_ok-target.target c.in_ok-k.ensures c.in_ok-target.ensures
    c.index-2.result.now c.index-2.ensures c.leave-stream.result c.leave-stream.new.self c.leave-stream.ensures c.if-index-self.false

pub returns : goal.returns
returns g c =
    shifted c.args.self.now c.args.slots.now c.args.from c.args.to c.in_ok-k.k c.in_ok-target.target c.in_ok-k.ensures c.in_ok-target.ensures
    c.index-2.result.now c.index-2.ensures c.leave-stream.result c.leave-stream.new.self c.leave-stream.ensures c.if-index-self.false
    c.enter.new.self c.enter.new.slots c.enter.ensures
