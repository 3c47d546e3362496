-- The law, at the kind of item that the function names.
use Rattle.model.proofs.Theorem.{every_run, every_run_by_rules}
use Rattle.model.proofs.law.law_of_every_run.Goals as goal

pub returns : goal.returns
returns g c = record { every_kind = every_run _; by_rules = every_run_by_rules _ }
