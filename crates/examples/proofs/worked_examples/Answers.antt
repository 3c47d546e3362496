use Rattle.std.proofs.Common.{refl}
use Rattle.routes.specs.Loads.{load}
use Rattle.routes.specs.Checks.{judgement}
use Rattle.model.specs.Grid.{assign, put}
use Rattle.model.specs.Sums.{grid_sum}
use Rattle.model.specs.Calls.{open_refusal, close_refusal, send_refusal, lane_refusal, stepping}
use Rattle.codec.specs.Heads.{parts}
use Rattle.codec.specs.Numbers.{number_bytes}
use Rattle.codec.specs.Sequences.{numbers_at}
use Rattle.plan.specs.Loads.{records_from}
use Rattle.plan.specs.Plans.{open_streams}
use Rattle.plan.specs.Verdicts.{verdict_of}
use Rattle.examples.proofs.Seeks.{loaded_seeks, shared_seeks}
use Rattle.examples.proofs.worked_examples.Goals as goal

-- every part computes, but that of best routes
pub returns : goal.returns
unfolding load judgement assign put grid_sum open_refusal close_refusal send_refusal lane_refusal stepping number_bytes numbers_at records_from open_streams verdict_of parts
returns c = ((refl, refl, refl, refl), (refl, refl), (refl, refl, refl), (refl, refl, refl, refl, refl, refl, refl, refl, refl, refl), loaded_seeks, shared_seeks, (refl, refl, refl, refl, refl, refl), (refl, refl))
