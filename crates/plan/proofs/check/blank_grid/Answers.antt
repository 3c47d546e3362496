use Rattle.std.proofs.Common.{◌≡◌, Some, Ok, Err, Result, IsOk, MatchResult, refl, sym, subst}
use Rattle.refusals.specs.declared.refusal.Refusal.{Refusal}
use Rattle.refusals.specs.declared.refusal.Refusal.TheVariants.{MeshSize}
use Rattle.layouts.specs.declared.mesh.Mesh.{Mesh}
use Rattle.codec.specs.declared.head.Head.{Head}
use Rattle.grid.specs.declared.make.MakeError.{MakeError}
use Rattle.grid.specs.declared.make.MakeError.TheVariants.{Refused}
use Rattle.grid.specs.Blank.{making_refusal, NotMade}
use Rattle.plan.proofs.Accepted.{Makeable, makeable}
use Rattle.plan.proofs.check.blank_grid.Goals as goal

pub unwrap-rule-requires : goal.unwrap-rule-requires
unwrap-rule-requires c =
    let made = makeable c.args.numbers.now c.requires in
    rw (c.rule_numbered.ensures, c.head-head.ensures) made.rule

-- a mesh in range is not refused
not_refused : (P : Mesh → Type 0) (range : Type 0) (r : Result Mesh Refusal) → range → MatchResult r P (λ e. (range → ⊥) × (e ≡ MeshSize)) → IsOk r
not_refused P range (Ok m) inside told = refl
not_refused P range (Err e) inside told = absurd (told.0 inside)

pub unwrap-mesh-requires : goal.unwrap-mesh-requires
unwrap-mesh-requires c =
    let made = makeable c.args.numbers.now c.requires in
    not_refused _ _ _ (rw c.head-head.ensures made.range) c.new.ensures.value

-- nothing declines the making of a grid that an accepted head asks for
not_declined : (h : Head) (e : MakeError) (r : Refusal) → Makeable h → e ≡ Refused r → NotMade h.lanes h.depth h.capacity e → ⊥
not_declined h e r made is told = let declined : making_refusal h.lanes h.depth h.capacity ≡ Some r = rw is at told in let none = made.makes in cc

pub unreachable-requires : goal.unreachable-requires
unreachable-requires c =
    let made = makeable c.args.numbers.now c.requires in
    not_declined c.head-head.result _ _ (subst Makeable (sym c.head-head.ensures) made) c.in-Err-Refused.field-0-is c.in-Err-Refused.ensures.refused
