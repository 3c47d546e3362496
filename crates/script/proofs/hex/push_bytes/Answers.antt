use Rattle.std.proofs.Common.{◌∙◌, vec_items}
use Rattle.script.proofs.Pushes.{pair_pushed}
use Rattle.script.proofs.hex.push_bytes.Goals as goal

pub loop-digits-preserved : goal.loop-digits-preserved
loop-digits-preserved c =
    pair_pushed c.loop-digits.digits.now (vec_items c.loop-digits.bytes) (vec_items c.push.new.self) c.in_ok-pair.field-0
    c.in-len2-up.len_at_least c.in_ok-pair.ensures c.in_ok-push.ensures.items
    ∙ c.loop-digits.invariant
