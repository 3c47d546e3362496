-- Slots that show a grid's items go on to show them.
use Rattle.std.proofs.Common.{◌≡◌, ℕ, ◌≤◌, true, false, List, length, sym, refl, ap, ◌∙◌, subst, ⊎_elim}
use Rattle.std.proofs.lemmas.Bool.{cases_Bool, leb-true}
use Rattle.model.specs.Kinds.{Kind}
use Rattle.model.specs.Grid.{Streams, Setting, Grid, enough_slots}
use Rattle.model.specs.Calls.{Call, sends, steps, Answer, done, moved, out, send_refusal, sending, lane_refusal, stepping, outcome}
use Rattle.model.specs.Runs.{History, is_declined}
use Rattle.model.specs.Outlines.{without_items}
use Rattle.lanes.specs.Sizes.{slot_count}
use Rattle.lanes.specs.declared.tables.Lanes.{Lanes}
use Rattle.lanes.specs.Queues.{alike_slots, queues_of}
use Rattle.grid.specs.declared.tables.Tables.{Tables}
use Rattle.grid.specs.Views.{streams_in, with_streams, setting, view}
use Rattle.grid.specs.declared.step.Step.{Step}
use Rattle.grid.specs.declared.step.Step.TheVariants.{Moved, Out}
use Rattle.grid.specs.Makes.{step_answer, Makes}
use Rattle.grid.specs.InTurn.{InTurn, no_call, one_more}
use Rattle.grid.proofs.InTurn.{turn_size, turn_slots}
use Rattle.grid.proofs.Stands.{view_outline}
use Rattle.runs.specs.Making.{Shown}

-- slots show the items of these lanes, whatever streams are open
abbrev ShownBy : {T : Type 0} → Streams → Lanes → List T → Type 0
ShownBy streams l xs = without_items (with_streams streams (queues_of l xs)) ≡ with_streams streams (queues_of l (alike_slots l.size))

-- the lanes alone tell whether slots show the items
pub shown_same : {T : Type 0} (t t' : Tables) (xs : List T) → t'.lanes ≡ t.lanes → Shown t xs → Shown t' xs
shown_same t t' xs lanes shown =
    subst (λ l. ShownBy (streams_in t') l xs) (sym lanes) (ap (with_streams (streams_in t')) shown)

-- calls that move items are declined where the slots are too few
module _ {T : Type 0} (S : Setting) (g : Grid T) where
  send_enough : (n : ℕ) (x : T) → is_declined (sending S g n x).answer ≡ false → enough_slots S ≡ true
  unfolding send_refusal
  send_enough n x goes =
      ⊎_elim (λ (yes : enough_slots S ≡ true). yes) (λ (no : enough_slots S ≡ false). let declined = rw no at goes in cc)
      (cases_Bool (enough_slots S))

  step_enough : (link lane : ℕ) → is_declined (stepping S g link lane).answer ≡ false → enough_slots S ≡ true
  unfolding stepping lane_refusal
  step_enough link lane goes =
      ⊎_elim (λ (yes : enough_slots S ≡ true). yes) (λ (no : enough_slots S ≡ false). let declined = rw no at goes in cc)
      (cases_Bool (enough_slots S))

module _ {T : Type 0} (k : Kind) (t t' : Tables) (links : k.links ≡ t.lanes.size.links) (xs xs' : List T) where
  -- After calls in turn that are lent slots enough, the slots show the items.
  pub shown_turn : {past : History T} → enough_slots (setting k t (length xs)) ≡ true → InTurn k t xs past t' xs' → Shown t' xs'
  shown_turn enough turn =
      let lends : slot_count t.lanes.size ≤ length xs = leb-true _ _ (rw links at enough) in
      view_outline t' xs' (rw (turn_size k t xs turn, turn_slots k t xs turn) lends)

  -- So they do after a call that is done and asks for slots enough.
  shown_by : (c : Call T) (a : Answer T) → Makes k t xs c a t' xs' → is_declined a ≡ false
      → (is_declined (outcome (setting k t (length xs)) (view t xs) c).answer ≡ false → enough_slots (setting k t (length xs)) ≡ true)
      → Shown t' xs'
  shown_by c a made goes asks = shown_turn (asks (ap is_declined (sym made.answer) ∙ goes)) (one_more a no_call made)

  pub shown_sent : (n : ℕ) (x : T) → Makes k t xs (sends n x) done t' xs' → Shown t' xs'
  shown_sent n x made = shown_by (sends n x) done made refl (send_enough (setting k t (length xs)) (view t xs) n x)

  pub shown_stepped : (link lane : ℕ) (s : Step T) → Makes k t xs (steps link lane) (step_answer s) t' xs' → Shown t' xs'
  shown_stepped link lane (Moved n) made = shown_by (steps link lane) (moved n) made refl (step_enough (setting k t (length xs)) (view t xs) link lane)
  shown_stepped link lane (Out n x) made = shown_by (steps link lane) (out n x) made refl (step_enough (setting k t (length xs)) (view t xs) link lane)
