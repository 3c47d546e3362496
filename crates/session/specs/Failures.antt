-- What a failure says of a grid that is not made.
use Rattle.routes.specs.Checks.{no_hop}
use Rattle.grid.specs.declared.make.MakeError.{MakeError}
use Rattle.grid.specs.declared.make.MakeError.TheVariants.{Refused, OutOfMemory}
use Rattle.script.specs.declared.mistake.Mistake.TheVariants as mistake
use Rattle.session.specs.declared.failure.Failure.{Failure}
use Rattle.session.specs.declared.failure.Failure.TheVariants as failure

abbrev pub making_failure : MakeError → Failure
making_failure (Refused refusal) = failure.Declined (no_hop refusal)
making_failure OutOfMemory = failure.Mistake mistake.OutOfMemory
