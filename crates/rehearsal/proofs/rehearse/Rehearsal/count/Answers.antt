use Rattle.std.proofs.Common.{◌≡◌, ℕ, [], ◌∷◌, length, refl, subst, ◌∙◌, arith}
use Rattle.std.specs.List.{zip}
use Rattle.std.proofs.lemmas.Iterator.{YieldsList-from_slice, YieldsList-from_zip}
use Rattle.std.proofs.lemmas.Iterator.Consumers.{YieldsList-end}
use Rattle.std.proofs.lemmas.List.{map-append}
use Rattle.std.proofs.lemmas.Slice.Zip.{length-zip}
use Rattle.lanes.specs.declared.strip.Strip.{Strip}
use Rattle.model.specs.Grid.{Queue}
use Rattle.rehearsal.specs.Rehearsals.{Takes}
use Rattle.rehearsal.proofs.Tallies.{takes_none, takes_then}
use Rattle.rehearsal.proofs.rehearse.Rehearsal.count.Goals as goal

pub loop-stream-init : goal.loop-stream-init
loop-stream-init c = record { takes = takes_none _; steps = refl; items = refl; ahead = refl }

pub loop-stream-preserved : goal.loop-stream-preserved
loop-stream-preserved c =
    let so_far = c.loop-stream.invariant in
    record {
      takes =
          rw (map-append {B = ℕ × Strip} (λ i. (i.0.now, i.1.now)) c.loop-stream.yielded ((c.in-Some.stream, c.in-Some.strip) ∷ []))
          (takes_then so_far.takes c.take.ensures);
      steps = so_far.steps;
      items = so_far.items;
      ahead = so_far.ahead;
    }

pub returns : goal.returns
returns c =
    let so_far = c.loop-stream.invariant in
    let pairs = zip c.args.streams.now c.args.strips.now in
    let all = YieldsList-end
    (YieldsList-from_zip {s = c.into_iter-stream-iterator.result} (YieldsList-from_slice c.args.streams.now cc) (YieldsList-from_slice c.args.strips.now cc))
    c.loop-stream.yielded c.loop-stream.stream-iterator c.loop-stream.yielded_by c.next.result c.next.new.self c.in-None.is c.next.ensures.steps in
    let count : length pairs ≡ length c.args.strips.now = omega (arith, length-zip c.args.streams.now c.args.strips.now) in
    record {
      steps = so_far.steps ∙ omega arith;
      items = so_far.items ∙ omega arith;
      ahead = so_far.ahead;
      takes = subst (λ (out : Queue Strip). Takes out c.args.self.now.tallies c.loop-stream.self.tallies) all.0 so_far.takes;
    }
