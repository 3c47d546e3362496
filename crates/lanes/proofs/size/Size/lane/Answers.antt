use Rattle.std.proofs.Common.{refl, arith}
use Rattle.std.proofs.lemmas.Nat.{mul-add-lt}
use Rattle.std.proofs.lemmas.Bool.{and_parts, ltb-true}
use Rattle.lanes.proofs.size.Size.lane.Goals as goal

pub returns : goal.returns
returns c =
    let s = c.args.self in
    let h = c.args.hop in
    let on = and_parts _ _ c.requires in
    record {
      value = refl;
      within = let m = mul-add-lt h.link s.lanes h.lane s.links (ltb-true _ _ on.0) (ltb-true _ _ on.1) in omega arith;
    }
