-- The open streams of every grid by rules are sound.
use Rattle.std.proofs.Common.{ℕ}
use Rattle.std.proofs.Math.Logic.{∥∥₁_elim}
use Rattle.std.proofs.Props.{props}
use Rattle.layouts.specs.Layout.{Meaning}
use Rattle.model.specs.Grid.{Streams}
use Rattle.model.specs.Kinds.{judge_by}
use Rattle.model.specs.Safe.{Reached}
use Rattle.model.specs.Sound.{Sound}
use Rattle.model.proofs.Reopening.{open_holds, reached_fits, Unloaded, rules_ask}

module _ (m : Meaning) (lanes capacity : ℕ) where
  sound_prop : (streams : Streams) → IsProp (Sound m lanes capacity streams)
  sound_prop streams = hlevel props

  pub sound_of : (streams : Streams) → ∥ Reached (judge_by m lanes capacity) streams ∥₁ → Sound m lanes capacity streams
  sound_of streams reached =
      ∥∥₁_elim reached (sound_prop streams)
      (λ r. record {
        routes = open_holds (judge_by m lanes capacity) (Unloaded m lanes capacity) (λ streams q hops judged. (rules_ask m lanes capacity streams q hops judged).0) streams r;
        loads = reached_fits (judge_by m lanes capacity) capacity (λ streams q hops judged. (rules_ask m lanes capacity streams q hops judged).1) streams r;
      })
