-- What calls leave of a grid, and what they count, whatever it is begun with.
use Rattle.std.proofs.Common.{◌≡◌, ℕ, ◌+◌, List, [], ◌∷◌, ◌++◌, length, refl, sym, ap, ◌∙◌, ◌≤◌, append-nil, append_assoc, arith}
use mathlib.Core.Logic.Iff
use Rattle.std.proofs.lemmas.List.{length-append}
use Rattle.model.specs.Grid.{Setting, Grid}
use Rattle.model.specs.Sums.{of_stream, item_count, hops_ahead}
use Rattle.model.specs.Calls.{Call, steps, outcome}
use Rattle.model.specs.Runs.{History, start, ◌▸◌, after_from, let_in_from, handed_out_from, steps_gone_from, hops_let_in_from, then_steps}
use Rattle.model.proofs.Routes.{proper_of}
use Rattle.model.proofs.Kept.{Kept}
use Rattle.model.proofs.Does.{Does, does}
use Rattle.model.proofs.Keeping.{kept_next}
use Rattle.model.proofs.Counts.{hops_next, items_next}
use Rattle.model.specs.Safe.{Reached, NeverLocks}
use Rattle.model.specs.Waiting.{waiting}
use Rattle.model.specs.Law.{NoLaneWillStep, KeepsFrom}
use Rattle.model.proofs.StreamItems.{of_stream-append}
use Rattle.model.proofs.Order.{order_on}
use Rattle.model.proofs.Rests.{rests_without_items, none_counted, some_lane}
use Rattle.model.proofs.Closes.{none_waits, none_when_closes}
use Rattle.model.proofs.Safe.{reached_next}

-- From a grid on whose streams are reached and whose items are placed.
module _ {T : Type 0} (S : Setting) (never_locks : NeverLocks S) (g : Grid T) (reached : ∥ Reached S.judge g.streams ∥₁) (kept : Kept S g) where
  pub reached_and_kept : (past : History T) → ∥ Reached S.judge (after_from S g past).streams ∥₁ × Kept S (after_from S g past)
  reached_and_kept start = (reached, kept)
  reached_and_kept (past ▸ c) =
      let before = reached_and_kept past in
      let did = does S (after_from S g past) before.1 c in
      let reached = reached_next S (after_from S g past) before.0 did in
      (reached, kept_next S (after_from S g past) before.1 did (proper_of S never_locks _ reached))

  kept_after : (past : History T) → Kept S (after_from S g past)
  kept_after past = (reached_and_kept past).1

  did : (past : History T) (c : Call T) → Does S (after_from S g past) c (outcome S (after_from S g past) c)
  did past c = does S (after_from S g past) (kept_after past) c

  pub hops_from_on : (past : History T) → hops_ahead S (after_from S g past) + steps_gone_from S g past ≡ hops_ahead S g + hops_let_in_from S g past
  hops_from_on start = refl
  hops_from_on (past ▸ c) = omega (arith, hops_from_on past, hops_next S (after_from S g past) (kept_after past) (did past c))

  pub items_from_on : (past : History T) → item_count S (after_from S g past) + length (handed_out_from S g past) ≡ item_count S g + length (let_in_from S g past)
  items_from_on start = refl
  items_from_on (past ▸ c) =
      simp length-append (omega (arith, items_from_on past, items_next S (after_from S g past) (kept_after past) (did past c)))

  -- Steps let nothing in.
  pub hops_then : (past : History T) (more : List (ℕ × ℕ)) → hops_let_in_from S g (then_steps past more) ≡ hops_let_in_from S g past
  hops_then past [] = refl
  hops_then past (step ∷ more) = omega (arith, hops_then (past ▸ steps step.0 step.1) more)

  order_from_on : (n : ℕ) (past : History T) → waiting n g ++ of_stream n (let_in_from S g past) ≡ of_stream n (handed_out_from S g past) ++ waiting n (after_from S g past)
  order_from_on n start = append-nil (waiting n g)
  order_from_on n (past ▸ c) =
      let more = order_on S (after_from S g past) (kept_after past) n (waiting n g ++ of_stream n (let_in_from S g past)) (of_stream n (handed_out_from S g past)) (order_from_on n past) (did past c) in
      ap (λ l. waiting n g ++ l) (of_stream-append n (let_in_from S g past) _) ∙ sym (append_assoc (waiting n g) (of_stream n (let_in_from S g past)) _)
      ∙ more
      ∙ ap (λ l. l ++ waiting n (after_from S g (past ▸ c))) (sym (of_stream-append n (handed_out_from S g past) _))

  pub keeps_from : 1 ≤ S.depth → (past : History T) → KeepsFrom S g past
  keeps_from deep past =
      let now = reached_and_kept past in
      record {
        items = items_from_on past;
        hops = hops_from_on past;
        in_order = λ n. order_from_on n past;
        rests = rests_without_items S deep never_locks (after_from S g past) now.0 now.1;
        some_steps = some_lane S deep never_locks (after_from S g past) now.0 now.1;
        empty = none_counted S deep never_locks (after_from S g past) now.0 now.1;
        none_left = λ n is_open. Iff.trans (none_waits S (after_from S g past) now.1 n) (none_when_closes S (after_from S g past) now.1 n is_open);
      }

-- Calls made on an empty grid until no lane will step: of each stream all that was let in came out, in order, and as many steps
-- went as hops were let in.
module _ {T : Type 0} (S : Setting) (g : Grid T) (keeps : (next : History T) → KeepsFrom S g next) (none : item_count S g ≡ 0)
    (past : History T) (rests : NoLaneWillStep S (after_from S g past)) where
  none_at_end : item_count S (after_from S g past) ≡ 0
  none_at_end = (keeps past).rests.1 rests

  pub all_came_out : (n : ℕ) → of_stream n (let_in_from S g past) ≡ of_stream n (handed_out_from S g past)
  all_came_out n =
      let begins : waiting n g ++ of_stream n (let_in_from S g past) ≡ of_stream n (let_in_from S g past) = rw (((keeps start).empty none).1 n) refl in
      sym begins ∙ (keeps past).in_order n ∙ rw (((keeps past).empty none_at_end).1 n) (append-nil (of_stream n (handed_out_from S g past)))

  pub all_hops_went : steps_gone_from S g past ≡ hops_let_in_from S g past
  all_hops_went = omega (arith, (keeps past).hops, ((keeps past).empty none_at_end).0, ((keeps start).empty none).0)
