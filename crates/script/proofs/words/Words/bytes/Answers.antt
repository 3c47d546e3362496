use Rattle.std.proofs.Common.{◌∙◌, vec_items}
use Rattle.script.specs.Hex.{bytes_of, bytes_in}
use Rattle.script.proofs.Pushes.{pushed}
use Rattle.script.proofs.words.Words.bytes.Goals as goal

pub loop-word-preserved : goal.loop-word-preserved
loop-word-preserved c =
    pushed (bytes_of c.in-Some.word.now) (bytes_in c.next.new.self.now) (vec_items c.loop-word.bytes)
    (vec_items c.push_bytes.new.bytes) c.in_ok-push_bytes.ensures
    ∙ rw c.in-Some.ensures.steps at c.loop-word.invariant
