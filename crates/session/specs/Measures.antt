-- The measures of routes, by their names.
use Rattle.std.specs.Prelude.{ℕ, true, false}
use Rattle.search.specs.Scales.{Scale, choice, total, peak}
use Rattle.search.specs.declared.choice.Either.{Either}
use Rattle.script.specs.declared.command.MeasureName.{MeasureName}
use Rattle.script.specs.declared.command.MeasureName.TheVariants.{Total, Peak}

-- what a named measure counts in: the sum of the loads, or the largest load with the number of hops that bear it
abbrev pub scale_of : MeasureName → Scale (Either ℕ (ℕ × ℕ))
scale_of Total = choice false total peak
scale_of Peak = choice true total peak
