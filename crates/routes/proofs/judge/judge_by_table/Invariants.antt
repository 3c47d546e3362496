use Rattle.layouts.specs.Layout.{meaning_by}
use Rattle.routes.specs.Checks.{table_terms}
use Rattle.routes.proofs.Verdicts.{Left}
use Rattle.routes.proofs.judge.judge_by_table.Given as goal

-- the checks that are left tell the judgement
abbrev pub invariant-loop-check : goal.invariant-loop-check
invariant-loop-check g l = Left (table_terms (meaning_by g.L.Ways.topology g.L.Rules.turns l.layout) l.limits) l.request l.hops l.check-items l.check-index
