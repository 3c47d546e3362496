-- The law of every run.
use Rattle.std.specs.Prelude.{◌≡◌, ℕ, ◌+◌, ◌<◌, ◌≤◌, true, false, ◌↔◌, List, [], ◌++◌, length, is_some, Some}
use Rattle.layouts.specs.Layout.{Meaning, Lawful}
use Rattle.routes.specs.Routes.{OpenStream}
use Rattle.model.specs.Grid.{Setting, Grid}
use Rattle.model.specs.Sums.{of_stream, item_count, hops_ahead}
use Rattle.model.specs.Calls.{Call, closes, steps, outcome}
use Rattle.model.specs.Kinds.{on_layout}
use Rattle.model.specs.Safe.{NeverLocks}
use Rattle.model.specs.Waiting.{waiting}
use Rattle.model.specs.Runs.{History, after_from, let_in_from, handed_out_from, steps_gone_from, hops_let_in_from, after, is_declined, let_in, handed_out, steps_gone, hops_let_in, let_in_since, handed_out_since, then_steps}

-- a call made next would not be declined
abbrev pub Goes : {T : Type 0} → Setting → Grid T → Call T → Type 0
Goes S g c = is_declined (outcome S g c).answer ≡ false

-- a lane will step if a step that named it would go next
abbrev pub WillStep : {T : Type 0} → Setting → Grid T → ℕ → ℕ → Type 0
WillStep S g link lane = Goes S g (steps link lane)

abbrev pub NoLaneWillStep : {T : Type 0} → Setting → Grid T → Type 0
NoLaneWillStep S g = (link lane : ℕ) → WillStep S g link lane → ⊥

-- no lane contains an item of the stream
abbrev pub NoneOnGrid : {T : Type 0} → Grid T → ℕ → Type 0
NoneOnGrid g n = (link lane : ℕ) → of_stream n (g.contents link lane) ≡ []

-- What calls made on a grid come to, whatever it is begun with: items, and hops ahead, are neither
-- lost nor gained; of each stream, what waited and what was let in is, in order, what was handed out
-- and what waits; while an item is on the grid, some lane will step, and else none will, no hop is
-- ahead and nothing waits; of an open stream nothing waits exactly when a close of it would go.
pub record KeepsFrom {T : Type 0} (S : Setting) (g : Grid T) (past : History T) : Type 0 where
  pub items : item_count S (after_from S g past) + length (handed_out_from S g past)
      ≡ item_count S g + length (let_in_from S g past)
  pub hops : hops_ahead S (after_from S g past) + steps_gone_from S g past
      ≡ hops_ahead S g + hops_let_in_from S g past
  pub in_order : (n : ℕ) → waiting n g ++ of_stream n (let_in_from S g past)
      ≡ of_stream n (handed_out_from S g past) ++ waiting n (after_from S g past)
  pub rests : (item_count S (after_from S g past) ≡ 0) ↔ NoLaneWillStep S (after_from S g past)
  pub some_steps : 0 < item_count S (after_from S g past)
      → (link : ℕ) × (lane : ℕ) × WillStep S (after_from S g past) link lane
  pub empty : item_count S (after_from S g past) ≡ 0
      → (hops_ahead S (after_from S g past) ≡ 0) × ((n : ℕ) → waiting n (after_from S g past) ≡ [])
  pub none_left : (n : ℕ) → is_some ((after_from S g past).streams n) ≡ true
      → (waiting n (after_from S g past) ≡ []) ↔ Goes S (after_from S g past) (closes n)

-- What a stream's items handed out since its opening are to those let in since then: in order, the first of them; and
-- all of them exactly when none is on the grid, and exactly when a close, called next, would not be declined.
pub record KeepsOrder {T : Type 0} (S : Setting) (past : History T) (n : ℕ) : Type 0 where
  pub first_of : (rest : List T) × (let_in_since S n past ≡ handed_out_since S n past ++ rest)
  pub all_when_none : (let_in_since S n past ≡ handed_out_since S n past) ↔ NoneOnGrid (after S past) n
  pub all_when_closes : (let_in_since S n past ≡ handed_out_since S n past) ↔ Goes S (after S past) (closes n)

-- Of a list of steps called next at most as many go as there are hops ahead, and exactly that many if and only if no lane
-- will step at its end.
pub record KeepsPace {T : Type 0} (S : Setting) (past : History T) (more : List (ℕ × ℕ)) : Type 0 where
  pub at_most : steps_gone S (then_steps past more) ≤ steps_gone S past + hops_ahead S (after S past)
  pub exactly : (steps_gone S (then_steps past more) ≡ steps_gone S past + hops_ahead S (after S past)) ↔ NoLaneWillStep S (after S (then_steps past more))

-- After a run: the items on the grid are, in number, those let in less those handed out; as many were handed out as were
-- let in exactly when no lane will step; each open stream keeps its order; the hops ahead are the hops of all items let in
-- less the steps that went; and they tell how many steps will go.
pub record Keeps {T : Type 0} (S : Setting) (past : History T) : Type 0 where
  pub items : item_count S (after S past) + length (handed_out S past) ≡ length (let_in S past)
  pub all_out : (length (let_in S past) ≡ length (handed_out S past)) ↔ NoLaneWillStep S (after S past)
  pub in_order : (n : ℕ) (s : OpenStream) → (after S past).streams n ≡ Some s → KeepsOrder S past n
  pub hops : hops_ahead S (after S past) + steps_gone S past ≡ hops_let_in S past
  pub pace : (more : List (ℕ × ℕ)) → KeepsPace S past more

-- The law: on every kind of grid that never locks, with any count of slots and any depth but 0, after every list of calls.
abbrev pub EveryRun : Type 0 → Type 0
EveryRun T = (S : Setting) → 1 ≤ S.depth → NeverLocks S → (past : History T) → Keeps S past

-- The law by rules: on every lawful layout, with any counts of lanes and slots, any capacity and any depth but 0, after every list
-- of calls.
abbrev pub EveryRunByRules : Type 0 → Type 0
EveryRunByRules T =
    (m : Meaning) → Lawful m → (lanes depth capacity slots : ℕ) → 1 ≤ depth
    → (past : History T) → Keeps (on_layout m lanes depth capacity slots) past
