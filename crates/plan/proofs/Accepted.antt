-- A head that is accepted asks for a grid that can be made.
use Rattle.std.proofs.Common.{◌≡◌, None, refl, IsSome}
use Rattle.layouts.specs.Links.{InRange}
use Rattle.codec.specs.declared.head.Head.{Head}
use Rattle.codec.specs.declared.head.HeadNumbers.{HeadNumbers}
use Rattle.codec.specs.declared.head.HeadPart.TheVariants.{Rule, Width, Height, Lanes, Depth, Capacity}
use Rattle.codec.specs.Heads.{values_of, rule_numbered}
use Rattle.codec.proofs.JudgedHeads.{each_allowed}
use Rattle.grid.specs.Blank.{making_refusal}
use Rattle.plan.specs.Verdicts.{sizes_in, IsAccepted}

-- What an accepted head says is what a mesh and a grid can be made of.
pub record Makeable (h : Head) : Type 0 where
  pub rule : IsSome (rule_numbered h.rule)
  pub range : InRange h.width h.height
  pub makes : making_refusal h.lanes h.depth h.capacity ≡ None

pub makeable : (h : HeadNumbers) → IsAccepted h → Makeable (values_of h)
makeable h is =
    let all = each_allowed (values_of h) h.count.value (sizes_in (values_of h)) is in
    record {
      rule = all Rule;
      range = (all Width, all Height);
      makes = rw (all Lanes, all Depth, all Capacity) refl;
    }
