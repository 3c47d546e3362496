-- Open streams stay reached.
use Rattle.std.proofs.Math.Logic.{∥∥₁_map}
use Rattle.model.specs.Grid.{Setting, Grid}
use Rattle.model.specs.Calls.{Call, Outcome}
use Rattle.model.specs.Safe.{Reached, after_opening, after_closing}
use Rattle.model.proofs.Does.{Does, refused, opened, closed, sent, passed, left}

module _ {T : Type 0} (S : Setting) (g : Grid T) (reached : ∥ Reached S.judge g.streams ∥₁) where
  pub reached_next : {c : Call T} {o : Outcome T} → Does S g c o → ∥ Reached S.judge o.grid.streams ∥₁
  reached_next refused = reached
  reached_next (opened low not_open judged) = ∥∥₁_map reached (λ r. after_opening _ _ _ r low not_open judged)
  reached_next (closed low count) = ∥∥₁_map reached (λ r. after_closing _ low r)
  reached_next (sent first rest slots route) = reached
  reached_next (passed front) = reached
  reached_next (left front) = reached
