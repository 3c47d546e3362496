use Rattle.std.proofs.Common.{◌≡◌, ◌++◌, Ok, vec_items}
use Rattle.script.specs.Reads.{and_then}
use Rattle.script.specs.Hops.{hops_in}
use Rattle.script.proofs.words.Words.hops.Given as goal

-- the hops so far, and behind them those of the words left, are all hops
abbrev pub invariant-loop-word : goal.invariant-loop-word
invariant-loop-word l = and_then (hops_in l.word-iterator) (λ hops. Ok (vec_items l.hops ++ hops)) ≡ hops_in l.fn.self
