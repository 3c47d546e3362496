use Rattle.std.proofs.Common.{◌≡◌, vec_items, length}
use Rattle.script.specs.Hex.{bytes_of}
use Rattle.script.proofs.Pushes.{put_behind}
use Rattle.script.proofs.hex.push_bytes.Given as goal

-- the bytes so far, and behind them those of the digits left, are those before the word and behind them those of the word
abbrev pub invariant-loop-digits : goal.invariant-loop-digits
invariant-loop-digits l = put_behind (vec_items l.bytes) (bytes_of l.digits) ≡ put_behind (vec_items l.fn.bytes) (bytes_of l.word)

-- each round takes two digits off
abbrev pub decreases-loop-digits : goal.decreases-loop-digits
decreases-loop-digits l = length l.digits
