-- What a list of calls on a grid that starts blank answers and leaves.
use Rattle.std.specs.Prelude.{◌≡◌, List, [], ◌∷◌, None, Result}
use Rattle.model.specs.Grid.{Setting}
use Rattle.model.specs.Runs.{History, start, after, then_calls}
use Rattle.model.specs.Outlines.{without_items}
use Rattle.model.specs.Slots.{slots_left}
use Rattle.model.specs.Law.{Keeps}
use Rattle.grid.specs.declared.tables.Tables.{Tables}
use Rattle.grid.specs.Blank.{making_refusal}
use Rattle.grid.specs.Views.{view, outline}
use Rattle.plan.specs.Loads.{sizes_of}
use Rattle.runs.specs.declared.call.Call.{Call}
use Rattle.runs.specs.declared.call.Failure.{Failure}
use Rattle.runs.specs.declared.call.Reply.{Reply}
use Rattle.runs.specs.declared.lent.Lent.{Lent}
use Rattle.runs.specs.Lending.{OutTables, out_tables}
use Rattle.runs.specs.Meanings.{Conditions, setting_in, Means, out_after}

-- How far a run has come: the history of the calls made so far, and what stands in the two tables for what comes out by sweeps.
pub record Stage (T : Type 0) : Type 0 where
  pub history : History T
  pub tables : OutTables T

-- the stage after one call more, which is these calls of the grid in words
abbrev pub next_stage : {R T : Type 0} → Conditions R → Stage T → Call T R → History T → Stage T
next_stage C stage c made = record {
  history = then_calls stage.history made;
  tables = out_after C (after (setting_in C) stage.history) c stage.tables;
}

-- Calls made one after another are answered so, and lead from one stage to another; and the whole law of every run holds before
-- and after each of them, and so at every close. A load or a sweep is one of them, also where it is several calls of the history.
abbrev pub LeadsTo : {R T : Type 0} → Conditions R → Stage T → List (Call T R) → List (Result (Reply T) Failure)
    → Stage T → Type 0
LeadsTo C stage [] [] end = Keeps (setting_in C) stage.history × (end ≡ stage)
LeadsTo C stage [] (r ∷ answers) end = ⊥
LeadsTo C stage (c ∷ calls) [] end = ⊥
LeadsTo {T = T} C stage (c ∷ calls) (r ∷ answers) end =
    Keeps (setting_in C) stage.history
    × ((made : History T) × Means C (after (setting_in C) stage.history) c r made
    × LeadsTo C (next_stage C stage c made) calls answers end)

-- What the calls of a past leave of a blank grid and of the slots: the grid in words; its outline, which the tables tell also
-- where the slots are too few to show it; and each slot.
pub record LeftBy {T : Type 0} (S : Setting) (past : History T) (xs : List T) (t : Tables) (xs' : List T) : Type 0 where
  pub grid : view t xs' ≡ after S past
  pub outline : outline t ≡ without_items (after S past)
  pub slots : xs' ≡ slots_left S past xs

-- Calls made one after another, on a grid that starts blank, are answered by their history and leave what it leaves; nothing
-- declines the making of that grid, and it has the sizes that were asked for. In the history an opening that opened is the
-- opening on the route that it found, one that was declined is nothing, a load is an opening for each record that it opened, and
-- a sweep is a step on every lane once, or nothing if it was declined.
pub record Replays {R T V : Type 0} (C : Conditions R) (lent : Lent T V) (calls : List (Call T R))
    (answers : List (Result (Reply T) Failure)) (t : Tables) (lent' : Lent T V) : Type 0 where
  pub makes : making_refusal C.sizes.lanes C.sizes.depth C.sizes.capacity ≡ None
  pub has_sizes : sizes_of t ≡ C.sizes
  pub history : History T
  pub run : LeadsTo C (record { history = start; tables = out_tables lent }) calls answers
      (record { history = history; tables = out_tables lent' })
  pub leaves : LeftBy (setting_in C) history lent.slots.now t lent'.slots.now
