use Rattle.std.proofs.Common.{◌≡◌, ◌≤◌, drop}
use Rattle.script.specs.Numbers.{written}
use Rattle.script.proofs.Decimals.{on}
use Rattle.script.proofs.number.decimal.Given as goal

-- the number so far is small, and what is left makes it the whole number
abbrev pub invariant-loop-byte : goal.invariant-loop-byte
invariant-loop-byte l = (l.value ≤ l.most) × (on l.value (drop l.byte-index l.word) ≡ written l.word)
