-- Calls on the grid at hand.
use Rattle.std.proofs.Common.{◌≡◌, ℕ, inl, Option, Some, Result, Ok, Err, MatchResult, refl, ap, ◌∙◌, subst}
use Rattle.std.specs.Result.{IsOkAnd}
use Rattle.layouts.specs.Links.{InRange}
use Rattle.layouts.specs.Layout.{Meaning}
use Rattle.layouts.specs.Mesh.{mesh_meaning}
use Rattle.layouts.specs.declared.turn_rule.TurnRule.{TurnRule}
use Rattle.session.specs.declared.brief.Brief.{Brief}
use Rattle.session.specs.declared.brief.Brief.TheVariants.{Accepted}
use Rattle.session.specs.declared.failure.Failure.{Failure}
use Rattle.session.specs.declared.answer.Answer.{Answer}
use Rattle.session.specs.declared.answer.Answer.TheVariants as answer
use Rattle.session.specs.declared.at_hand.GridAtHand.{GridAtHand}
use Rattle.session.specs.declared.session.Session.{Session}
use Rattle.session.specs.Heads.{head_of}
use Rattle.session.specs.Hands.{GridHand, Hand, grid_of, hand_of}
use Rattle.session.specs.Sessions.{Response, NewGrid, MakesGrid, OnGrid, told, short, whole, IsLong, latest}
use Rattle.session.proofs.Lending.{complete}

-- a call on the grid at hand leaves another in its place
pub on_grid : (Calls : GridHand → Response → GridHand → Type 0) (s : Session) (g g' : GridAtHand) (r : Response) (kept : Answer) → s.grid ≡ Some g
    → Calls (grid_of g) r (grid_of g') → OnGrid Calls (hand_of s).mesh (hand_of s).grid r (hand_of (record { mesh = s.mesh; grid = Some g'; long = kept }))
on_grid Calls s g g' r kept is call = rw is (complete g, (grid_of g', call, refl))

-- a grid that is made is at hand, and so is its mesh
pub grid_made : (before after : Hand) (rule : TurnRule) (w h lanes depth capacity : ℕ) (m : Meaning) → InRange w h → m ≡ mesh_meaning rule w h
    → (g : GridHand) × NewGrid m (head_of rule w h lanes depth capacity) g × (after ≡ record { mesh = Some m; grid = Some g })
    → MakesGrid before rule w h lanes depth capacity (told Accepted) after
grid_made before after rule w h lanes depth capacity m range is made =
    let g = made.0 in
    inl (range, (g, subst (λ m. NewGrid m (head_of rule w h lanes depth capacity) g) is made.1, refl, made.2 ∙ ap (λ m. record { mesh = Some m; grid = Some g }) is))

-- A short answer stands for itself, whatever is kept.
pub told_short : (kept : Answer) (r : Result Brief Failure) (briefly : Result (Option Brief) Failure)
    → MatchResult r (λ b. IsOkAnd briefly (λ o. o ≡ Some b)) (λ f. briefly ≡ Err f) → whole kept briefly ≡ short r
told_short kept (Ok b) (Ok o) is = ap (λ o. whole {E = Failure} kept (Ok o)) is
told_short kept (Ok b) (Err f) is = absurd is
told_short kept (Err f) briefly is = ap (whole kept) is

-- a long answer is the latest one, whatever was kept
pub latest_long : (kept a : Answer) → IsLong a → latest kept a ≡ a
latest_long kept (answer.Brief brief) long = absurd long
latest_long kept (answer.Route table count) long = refl
latest_long kept (answer.Written table count) long = refl
latest_long kept (answer.Rehearsed rehearsal) long = refl
