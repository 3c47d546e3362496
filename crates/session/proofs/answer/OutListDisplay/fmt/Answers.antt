use Rattle.std.proofs.Common.{ℕ, [], ◌∷◌, subst, arith}
use Rattle.std.specs.Prelude.{List, flat_map}
use Rattle.std.specs.Fmt.{HasWritten}
use Rattle.std.proofs.lemmas.Grind.{common_steps}
use Rattle.std.proofs.lemmas.Iterator.{YieldsList-from_slice, YieldsList-from_zip}
use Rattle.std.proofs.lemmas.Iterator.Consumers.{YieldsList-end}
use Rattle.std.proofs.lemmas.List.{map-append}
use Rattle.lanes.specs.declared.strip.Strip.{Strip}
use Rattle.session.specs.Texts.{out_line}
use Rattle.session.proofs.answer.OutListDisplay.fmt.Goals as goal

pub loop-stream-preserved : goal.loop-stream-preserved
loop-stream-preserved g c =
    rw (map-append {B = ℕ × Strip} (λ i. (i.0.now, i.1.now)) c.loop-stream.yielded ((c.in-Some.stream, c.in-Some.item) ∷ []))
    (grind (arith, common_steps))

pub returns-clause-writes : goal.returns-clause-writes
returns-clause-writes g c plain done =
    let list = c.args.self.now in
    let all = YieldsList-end
    (YieldsList-from_zip {s = c.into_iter-stream-iterator.result} (YieldsList-from_slice list.streams.now cc) (YieldsList-from_slice list.items.now cc))
    c.loop-stream.yielded c.loop-stream.stream-iterator c.loop-stream.yielded_by c.next.result c.next.new.self c.in-None.is c.next.ensures.steps in
    subst (λ (out : List (ℕ × Strip)). HasWritten g.W.Write.write_str_gives c.args.f.now (flat_map out_line out) c.loop-stream.f) all.0
    (c.loop-stream.invariant plain)
