use Rattle.std.proofs.Common.{refl}
use Rattle.std.proofs.lemmas.Result.{err_from_is_err_and}
use Rattle.grid.proofs.Starting.{next_on_grid}
use Rattle.grid.proofs.Lifted.{refused}
use Rattle.grid.proofs.ItemCalls.{no_step, step_pops, step_moves}
use Rattle.grid.proofs.tables.Tables.step.Goals as goal

pub returns-in_err-stream-clause-made : goal.returns-in_err-stream-clause-made
returns-in_err-stream-clause-made g c m links =
    let t = c.args.self.now in
    let xs = c.args.slots.now in
    let e = err_from_is_err_and c.from_residual.result c.from_residual.ensures.1 in
    rw (e.1, e.2) (refused m t xs _ _ (no_step m t links xs c.args.hop _ (rw c.in_err-stream.was at c.front.ensures)))

pub returns-in_err-shift-in-Some-clause-made : goal.returns-in_err-shift-in-Some-clause-made
returns-in_err-shift-in-Some-clause-made g c m links =
    let t = c.args.self.now in
    let e = err_from_is_err_and c.from_residual-in_err-shift-in-Some.result c.from_residual-in_err-shift-in-Some.ensures.1 in
    rw (e.1, e.2)
    (step_moves m t links c.args.slots.now c.args.hop c.in_ok-stream.stream _ (rw c.in_ok-stream.was at c.front.ensures) _ (refl, refl) _
    c.in-Some.next c.shift.new.slots c.in-Some.ensures (next_on_grid t c.in_ok-stream.stream c.args.hop.link c.in-Some.next c.in-Some.ensures) c.in_err-shift-in-Some.ensures)

pub returns-in_ok-shift-in-Some-clause-made : goal.returns-in_ok-shift-in-Some-clause-made
returns-in_ok-shift-in-Some-clause-made g c m links =
    let t = c.args.self.now in
    step_moves m t links c.args.slots.now c.args.hop c.in_ok-stream.stream _ (rw c.in_ok-stream.was at c.front.ensures) _ (refl, refl) _
    c.in-Some.next c.shift.new.slots c.in-Some.ensures (next_on_grid t c.in_ok-stream.stream c.args.hop.link c.in-Some.next c.in-Some.ensures) c.in_ok-shift-in-Some.ensures

pub returns-in_ok-stream-in-None-clause-made : goal.returns-in_ok-stream-in-None-clause-made
returns-in_ok-stream-in-None-clause-made g c m links =
    step_pops m c.args.self.now links c.args.slots.now c.args.hop c.in_ok-stream.stream _ (rw c.in_ok-stream.was at c.front.ensures) _ (refl, refl) _
    c.in-None.ensures c.in_ok-stream-in-None.ensures
