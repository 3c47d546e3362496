-- The law of every run, on every kind of grid that never locks and on every lawful layout.
use Rattle.model.specs.Kinds.{on_layout}
use Rattle.model.specs.Law.{EveryRun, EveryRunByRules}
use Rattle.model.specs.Safe.{never_locks}
use Rattle.model.proofs.Runs.{keeps}
use Rattle.model.proofs.Ranks.{lawful_safe}

pub every_run : (T : Type 0) → EveryRun T
every_run T S deep kind = keeps S deep kind

pub every_run_by_rules : (T : Type 0) → EveryRunByRules T
every_run_by_rules T m law lanes depth capacity slots deep =
    every_run T (on_layout m lanes depth capacity slots) deep (never_locks (lawful_safe m law lanes depth capacity slots))
