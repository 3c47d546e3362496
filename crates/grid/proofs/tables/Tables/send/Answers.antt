use Rattle.std.proofs.Common.{refl, ap, arith}
use Rattle.std.proofs.lemmas.Result.{err_from_is_err_and}
use Rattle.lanes.specs.Sizes.{slot_count}
use Rattle.grid.proofs.Lifted.{refused, lifted}
use Rattle.grid.proofs.ItemCalls.{too_few, not_open, sending_pushes, sending_arrival}
use Rattle.grid.proofs.tables.Tables.send.Goals as goal

pub returns-then-slots-clause-made : goal.returns-then-slots-clause-made
returns-then-slots-clause-made g c m links =
    let t = c.args.self.now in
    let size = ap slot_count c.size.ensures in
    refused m t c.args.slots.now _ _ (too_few m t links c.args.slots.now c.args.stream c.args.item (omega (arith, c.slots.ensures, c.if-slots.true)))

pub returns-in_err-first-clause-made : goal.returns-in_err-first-clause-made
returns-in_err-first-clause-made g c m links =
    let t = c.args.self.now in
    let size = ap slot_count c.size.ensures in
    let e = err_from_is_err_and c.from_residual.result c.from_residual.ensures.1 in
    rw (e.1, e.2)
    (refused m t c.args.slots.now _ _
    (not_open m t links c.args.slots.now c.args.stream c.args.item _ (omega (arith, c.slots.ensures, c.if-slots.false)) c.in_err-first.ensures))

pub returns-clause-made : goal.returns-clause-made
returns-clause-made g c m links =
    let t = c.args.self.now in
    let size = ap slot_count c.size.ensures in
    let pushes = sending_pushes m t links c.args.slots.now c.args.stream c.args.item c.in_ok-first.first (omega (arith, c.slots.ensures, c.if-slots.false)) c.in_ok-first.ensures in
    lifted m t _ c.args.slots.now c.push.new.slots _ _ _ _ refl refl pushes
    (sending_arrival m t links c.args.slots.now c.args.stream c.args.item c.in_ok-first.first c.in_ok-first.ensures) c.push.ensures
