-- None of a stream's items waits exactly when none is on the grid, and exactly when a close would go.
use Rattle.std.proofs.Common.{◌≡◌, ℕ, true, false, ◌↔◌, [], length, is_some, ap, ◌∙◌, arith}
use mathlib.Core.List.{append-eq-nil_iff}
use Rattle.std.proofs.lemmas.Bool.{true≢false}
use Rattle.std.proofs.lemmas.Bool.Decides.{nat_tests}
use Rattle.model.specs.Grid.{Setting, Grid, route_of}
use Rattle.model.specs.Sums.{one_of, item_count_of}
use Rattle.model.specs.Calls.{closes, Outcome, close_refusal}
use Rattle.model.specs.Runs.{is_declined}
use Rattle.model.specs.Waiting.{along, own, waiting}
use Rattle.model.specs.Law.{Goes, NoneOnGrid}
use Rattle.model.proofs.Routes.{hops_from_inherits}
use Rattle.model.proofs.GridSums.{grid_sum_zero}
use Rattle.model.proofs.StreamItems.{of_stream_count}
use Rattle.model.proofs.Kept.{Kept, none_on_grid, counted_none}
use Rattle.model.proofs.Does.{Does, refused, closed, does}
use Rattle.model.proofs.Along.{along_none}

module _ {T : Type 0} (S : Setting) (g : Grid T) (kept : Kept S g) (n : ℕ) where
  waiting_none : waiting n g ≡ [] → NoneOnGrid g n
  waiting_none none = none_on_grid S g kept n (λ link lane rest on.
      let ahead = hops_from_inherits (λ hops. along (own n g.contents) hops ≡ []) (λ h hops none. (append-eq-nil_iff.0 none).0)
      link (route_of (g.streams n)) none in
      (append-eq-nil_iff.0 (rw on at ahead)).1)

  pub none_waits : (waiting n g ≡ []) ↔ NoneOnGrid g n
  none_waits = (waiting_none, along_none (own n g.contents) (route_of (g.streams n)))

  closes_none : {o : Outcome T} → Does S g (closes n) o → is_declined o.answer ≡ false → NoneOnGrid g n
  closes_none refused goes = absurd (true≢false goes)
  closes_none (closed low count) goes = counted_none S g kept n count

  none_closes : is_some (g.streams n) ≡ true → NoneOnGrid g n → Goes S g (closes n)
  unfolding close_refusal
  none_closes is_open none =
      let low = kept.low n is_open in
      let count : item_count_of S g n ≡ 0 =
      grid_sum_zero S (one_of n) g.contents (λ link lane _. of_stream_count n link (g.contents link lane) ∙ ap length (none link lane)) in
      grind (arith, nat_tests)

  pub none_when_closes : is_some (g.streams n) ≡ true → NoneOnGrid g n ↔ Goes S g (closes n)
  none_when_closes is_open = (none_closes is_open, closes_none (does S g kept (closes n)))
