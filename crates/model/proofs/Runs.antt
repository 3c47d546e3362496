-- The law of every run, on a grid of any kind that never locks.
use Rattle.std.proofs.Common.{◌≡◌, ℕ, ◌+◌, ◌≤◌, ◌↔◌, List, [], ◌++◌, length, is_some, Some, None, sym, refl, ap, ◌∙◌, arith}
use mathlib.Core.Logic.Iff
use Rattle.std.proofs.lemmas.List.{append-nil, append_cancel_left}
use Rattle.routes.specs.Routes.{OpenStream}
use Rattle.model.specs.Grid.{Setting, blank}
use Rattle.model.specs.Sums.{grid_sum, one, item_count, ahead, hops_ahead}
use Rattle.model.specs.Calls.{Call, outcome}
use Rattle.model.specs.Runs.{History, start, ◌▸◌, after, let_in, handed_out, steps_gone, hops_let_in, let_in_since, handed_out_since, then_steps}
use Rattle.model.specs.Waiting.{waiting}
use Rattle.model.specs.Law.{KeepsOrder, KeepsPace, Keeps}
use Rattle.model.proofs.GridSums.{grid_sum_zero}
use Rattle.model.proofs.Kept.{Kept}
use Rattle.model.proofs.Does.{Does, does}
use Rattle.model.proofs.Keeping.{kept_blank}
use Rattle.model.proofs.Order.{order_next}
use Rattle.model.specs.Safe.{Reached, none_open, NeverLocks}
use Rattle.model.proofs.Onward.{reached_and_kept, hops_from_on, items_from_on, hops_then}
use Rattle.model.proofs.Rests.{rests_without_items, rests_without_hops}
use Rattle.model.proofs.Closes.{none_waits, none_when_closes}

-- A list is the whole of one that begins with it exactly when nothing follows.
whole_when_no_rest : {A : Type 0} (whole first rest : List A) → whole ≡ first ++ rest → (whole ≡ first) ↔ (rest ≡ [])
whole_when_no_rest whole first rest split = (
  (λ same. append_cancel_left first rest [] (sym split ∙ (same ∙ sym (append-nil first)))),
  (λ none. split ∙ rw none (append-nil first)),
)

-- From the blank grid on.
module _ {T : Type 0} (S : Setting) (deep : 1 ≤ S.depth) (never_locks : NeverLocks S) where
  reached_after : (past : History T) → ∥ Reached S.judge (after S past).streams ∥₁ × Kept S (after S past)
  reached_after = reached_and_kept S never_locks blank (∣ none_open ∣₁) (kept_blank S)

  kept_after : (past : History T) → Kept S (after S past)
  kept_after past = (reached_after past).1

  did : (past : History T) (c : Call T) → Does S (after S past) c (outcome S (after S past) c)
  did past c = does S (after S past) (kept_after past) c

  blank_sum : (cost : ℕ → (ℕ × T) → ℕ) → grid_sum S cost (λ _ _. []) ≡ 0
  blank_sum cost = grid_sum_zero S cost (λ _ _. []) (λ _ _ _. refl)

  hops_after : (past : History T) → hops_ahead S (after S past) + steps_gone S past ≡ hops_let_in S past
  hops_after past = omega (arith, hops_from_on S never_locks blank (∣ none_open ∣₁) (kept_blank S) past, blank_sum (ahead (λ _. None)))

  items_after : (past : History T) → item_count S (after S past) + length (handed_out S past) ≡ length (let_in S past)
  items_after past = omega (arith, items_from_on S never_locks blank (∣ none_open ∣₁) (kept_blank S) past, blank_sum one)

  order_after : (n : ℕ) (past : History T) → let_in_since S n past ≡ handed_out_since S n past ++ waiting n (after S past)
  order_after n start = refl
  order_after n (past ▸ c) =
      order_next S (after S past) (kept_after past) n (let_in_since S n past) (handed_out_since S n past) (order_after n past) (did past c)

  keeps_order : (past : History T) (n : ℕ) (s : OpenStream) → (after S past).streams n ≡ Some s → KeepsOrder S past n
  keeps_order past n s is_open =
      let order = order_after n past in
      let none = none_waits S (after S past) (kept_after past) n in
      let when_none = Iff.trans (whole_when_no_rest (let_in_since S n past) (handed_out_since S n past) (waiting n (after S past)) order) none in
      record {
        first_of = (waiting n (after S past), order);
        all_when_none = when_none;
        all_when_closes = Iff.trans when_none (none_when_closes S (after S past) (kept_after past) n (ap is_some is_open));
      }

  keeps_pace : (past : History T) (more : List (ℕ × ℕ)) → KeepsPace S past more
  keeps_pace past more =
      let end = then_steps past more in
      let hops : hops_ahead S (after S end) + steps_gone S end ≡ hops_ahead S (after S past) + steps_gone S past =
      hops_after end ∙ (hops_then S never_locks blank (∣ none_open ∣₁) (kept_blank S) past more ∙ sym (hops_after past)) in
      let now = reached_after end in
      record {
        at_most = omega arith;
        exactly = Iff.trans (omega arith) (rests_without_hops S deep never_locks (after S end) now.0 now.1);
      }

  pub keeps : (past : History T) → Keeps S past
  keeps past =
      let now = reached_after past in
      record {
        items = items_after past;
        all_out = Iff.trans (omega (arith, items_after past)) (rests_without_items S deep never_locks (after S past) now.0 now.1);
        in_order = keeps_order past;
        hops = hops_after past;
        pace = keeps_pace past;
      }
