use Rattle.std.proofs.Common.{◌++◌}
use Rattle.codec.specs.Sequences.{numbers_bytes}
use Rattle.plan.proofs.Putting.{ToWrite}
use Rattle.plan.proofs.put.put_numbers.Given as goal

abbrev pub invariant-loop-n : goal.invariant-loop-n
invariant-loop-n l = ToWrite (λ n. n) l.numbers l.n-index l.plan.items (l.initial.plan.items ++ numbers_bytes l.numbers)
