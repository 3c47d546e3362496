use Rattle.std.proofs.Common.{◌++◌, map}
use Rattle.codec.specs.Sequences.{numbers_bytes}
use Rattle.codec.specs.Records.{hop_number}
use Rattle.plan.proofs.Putting.{ToWrite}
use Rattle.plan.proofs.put.put_hops.Given as goal

abbrev pub invariant-loop-hop : goal.invariant-loop-hop
invariant-loop-hop l = ToWrite hop_number l.hops l.hop-index l.plan.items (l.initial.plan.items ++ numbers_bytes (map hop_number l.hops))
