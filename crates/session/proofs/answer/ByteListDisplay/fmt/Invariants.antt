use Rattle.std.proofs.Common.{take}
use Rattle.std.specs.Prelude.{flat_map}
use Rattle.std.specs.Fmt.{HasWritten, IsPlainFormatter}
use Rattle.session.specs.Texts.{byte_text}
use Rattle.session.proofs.answer.ByteListDisplay.fmt.Given as goal

-- the bytes so far have been written
abbrev pub invariant-loop-byte : goal.invariant-loop-byte
invariant-loop-byte g l = IsPlainFormatter l.fn.f → HasWritten g.W.Write.write_str_gives l.fn.f (flat_map byte_text (take l.byte-index l.self.0.now)) l.f
