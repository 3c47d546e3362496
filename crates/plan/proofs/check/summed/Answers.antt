use Rattle.std.proofs.Common.{Ok, Err}
use Rattle.std.proofs.lemmas.Result.{err_from_is_err_and}
use Rattle.plan.proofs.Checking.{head_refused, verdict_is}
use Rattle.plan.proofs.check.summed.Goals as goal

pub returns-in_err-head : goal.returns-in_err-head
returns-in_err-head c =
    let exit = err_from_is_err_and c.from_residual.result c.from_residual.ensures.1 in
    rw (exit.1, exit.2) (head_refused _ _ c.in_err-head.ensures.value)

pub returns-in_err-load : goal.returns-in_err-load
returns-in_err-load c =
    let exit = err_from_is_err_and c.from_residual-in_err-load.result c.from_residual-in_err-load.ensures.1 in
    let grid = c.in_ok-grid.ensures in
    rw (exit.1, exit.2) (verdict_is _ c.in_ok-head.head _ grid.blank _ c.load.new.grid.tables (Err _) c.in_ok-head.ensures.value grid.layout c.in_err-load.ensures.made)

pub returns : goal.returns
returns c =
    let grid = c.in_ok-grid.ensures in
    rw (c.summary.ensures, c.load.ensures.layout)
    (verdict_is _ c.in_ok-head.head _ grid.blank _ c.load.new.grid.tables (Ok _) c.in_ok-head.ensures.value grid.layout c.in_ok-load.ensures.made)
