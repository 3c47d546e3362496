use Rattle.std.proofs.Common.{◌≡◌, Err, rules}
use Rattle.session.specs.Sessions.{Searches, whole}
use Rattle.session.proofs.OnGrids.{on_grid}
use Rattle.session.proofs.session.Session.seek.Goals as goal

pub returns-in_err-self-in-Some-clause-value : goal.returns-in_err-self-in-Some-clause-value
returns-in_err-self-in-Some-clause-value c =
    let fails : whole c.args.self.now.long c.from_residual.result ≡ Err c.in_err-self-in-Some.field-0.0 = search rules in
    rw fails (on_grid (Searches c.args.stream c.args.request c.args.measure) c.args.self.now c.in-Some.grid c.seek.new.self _ c.args.self.now.long c.in-Some.is c.in_err-self-in-Some.ensures.value)

pub returns-in_ok-self-in-Some-clause-value : goal.returns-in_ok-self-in-Some-clause-value
returns-in_ok-self-in-Some-clause-value c =
    on_grid (Searches c.args.stream c.args.request c.args.measure) c.args.self.now c.in-Some.grid c.seek.new.self _ c.in_ok-self-in-Some.field-0 c.in-Some.is c.in_ok-self-in-Some.ensures.value
