use Rattle.std.proofs.Common.{◌≡◌, vec_items}
use Rattle.script.specs.Hex.{bytes_in}
use Rattle.script.proofs.Pushes.{put_behind}
use Rattle.script.proofs.words.Words.bytes.Given as goal

-- the bytes so far, and behind them those of the words left, are all bytes
abbrev pub invariant-loop-word : goal.invariant-loop-word
invariant-loop-word l = put_behind (vec_items l.bytes) (bytes_in l.word-iterator) ≡ bytes_in l.fn.self
