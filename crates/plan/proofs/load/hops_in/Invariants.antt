use Rattle.plan.proofs.HopTables.{HopsInTable}
use Rattle.plan.proofs.load.hops_in.Given as goal

-- the hops that are left are those behind the hops read so far
abbrev pub invariant-loop-k : goal.invariant-loop-k
invariant-loop-k l = HopsInTable l.bytes l.count l.k l.place l.hops
