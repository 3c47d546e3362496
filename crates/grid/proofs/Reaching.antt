-- Openings and closings lead on from reached streams.
use Rattle.std.proofs.Common.{◌≡◌, ℕ, ◌<◌, false, List, is_some, Some, None, Ok, Option, arith}
use Rattle.std.proofs.lemmas.Bool.Decides.{nat_tests}
use Rattle.std.proofs.Math.Logic.{∥∥₁_map}
use mathlib.Core.Path.{fun_ext}
use Rattle.routes.specs.declared.declined.Declined.{Declined}
use Rattle.routes.specs.declared.hop.Hop.{Hop}
use Rattle.routes.specs.declared.stream.Request.{Request}
use Rattle.routes.specs.Loads.{stream_count}
use Rattle.routes.specs.Routes.{OpenStream}
use Rattle.model.specs.Grid.{assign}
use Rattle.model.specs.Calls.{vacancy}
use Rattle.model.specs.Safe.{Reached, none_open, after_opening, after_closing}

module _ (judge : (ℕ → Option OpenStream) → Request → List Hop → Option Declined) (streams : ℕ → Option OpenStream) where
  low_of : (n : ℕ) → Ok tt ≡ vacancy streams n → n < stream_count
  low_of n vacant = grind (arith, nat_tests)

  free_of : (n : ℕ) → Ok tt ≡ vacancy streams n → is_some (streams n) ≡ false
  free_of n vacant = grind (arith, nat_tests)

  pub reached_blank : ((n : ℕ) → streams n ≡ None) → ∥ Reached judge streams ∥₁
  reached_blank none = rw (fun_ext {f = streams} {g = λ _. None} none) (∣ none_open ∣₁)

  pub reached_open : ∥ Reached judge streams ∥₁ → (n : ℕ) (q : Request) (hops : List Hop) → Ok tt ≡ vacancy streams n → judge streams q hops ≡ None
      → ∥ Reached judge (assign streams n (Some (record { request = q; hops = hops }))) ∥₁
  reached_open reached n q hops vacant judged = ∥∥₁_map reached (λ r. after_opening n q hops r (low_of n vacant) (free_of n vacant) judged)

  pub reached_close : ∥ Reached judge streams ∥₁ → (n : ℕ) → n < stream_count → ∥ Reached judge (assign streams n None) ∥₁
  reached_close reached n low = ∥∥₁_map reached (λ r. after_closing n low r)
