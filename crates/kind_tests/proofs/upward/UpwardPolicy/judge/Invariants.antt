use Rattle.kind_tests.specs.Upward.{terms_of}
use Rattle.kind_tests.proofs.Judging.{Left}
use Rattle.kind_tests.proofs.upward.UpwardPolicy.judge.Given as goal

-- the checks that are left tell the judgement
abbrev pub invariant-loop-check : goal.invariant-loop-check
invariant-loop-check g l = Left (terms_of (g.W.Ways.topology l.ways) l.limits) l.request l.hops l.check-items l.check-index
