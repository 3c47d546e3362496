use Rattle.std.proofs.Common.{ap, ◌∙◌, arith}
use Rattle.plan.specs.Verdicts.{verdict_of}
use Rattle.plan.proofs.Cutting.{verdict_cut}
use Rattle.plan.proofs.check.check.Goals as goal

pub returns-in-Ok-clause-whole : goal.returns-in-Ok-clause-whole
returns-in-Ok-clause-whole c = c.in-Ok.ensures ∙ (ap verdict_of c.first_bytes.ensures ∙ verdict_cut c.args.plan.now (λ k. omega (arith, c.type_inv.plan k)))

pub returns-in-Err-Fault-clause-whole : goal.returns-in-Err-Fault-clause-whole
returns-in-Err-Fault-clause-whole c =
    let told = rw c.in-Err-Fault.field-0-is at c.in-Err-Fault.ensures in
    told ∙ (ap verdict_of c.first_bytes.ensures ∙ verdict_cut c.args.plan.now (λ k. omega (arith, c.type_inv.plan k)))
