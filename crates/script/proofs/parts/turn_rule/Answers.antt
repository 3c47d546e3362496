use Rattle.std.proofs.Common.{◌≡◌, ℕ, List, length, codes, sym, ap, arith}
use Rattle.std.proofs.lemmas.Slice.Eq.{HasBytesAt, text_from_reads}
use Rattle.script.specs.Parts.{rule_of}
use Rattle.script.proofs.parts.turn_rule.Goals as goal

-- a word of these bytes names what they name
reads : (word text : List ℕ) → (length word ≡ length text) × HasBytesAt word 0 text → rule_of text ≡ rule_of word
reads word text same = ap rule_of (sym (text_from_reads word text same.0 same.1))

pub returns-in-119 : goal.returns-in-119
returns-in-119 c = reads c.args.word.now (codes "west-first") (omega arith)

pub returns-in-110 : goal.returns-in-110
returns-in-110 c = reads c.args.word.now (codes "north-last") (omega arith)

pub returns-in-110-2 : goal.returns-in-110-2
returns-in-110-2 c = reads c.args.word.now (codes "negative-first") (omega arith)
