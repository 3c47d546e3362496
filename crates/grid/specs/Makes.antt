-- What a call answers and leaves.
use Rattle.std.specs.Prelude.{◌≡◌, ℕ, true, List, ◌∷◌, length, Some, None, Ok, Err, Result}
use Rattle.std.specs.List.{list_all}
use Rattle.model.specs.Kinds.{Kind}
use Rattle.routes.specs.declared.declined.Declined.{Declined}
use Rattle.routes.specs.declared.hop.Hop.{Hop}
use Rattle.routes.specs.declared.route.Route.{Route}
use Rattle.routes.specs.declared.stream.Request.{Request}
use Rattle.routes.specs.Routes.{hops_of}
use Rattle.model.specs.Calls.{Call, Answer, declined, done, moved, out, open_stream, outcome}
use Rattle.model.specs.Runs.{is_declined}
use Rattle.model.specs.Slots.{slots_after}
use Rattle.lanes.specs.Sizes.{holds}
use Rattle.grid.specs.declared.step.Step.{Step}
use Rattle.grid.specs.declared.step.Step.TheVariants.{Moved, Out}
use Rattle.grid.specs.declared.tables.Tables.{Tables}
use Rattle.grid.specs.Views.{streams_in, setting, view, slots_alike}

-- what a step that goes answers
abbrev pub step_answer : {T : Type 0} → Step T → Answer T
step_answer (Moved n) = moved n
step_answer (Out n x) = out n x

-- the answer of a call that may tell a hop
abbrev pub hop_answer : {T : Type 0} → Result (Unit {0}) Declined → Answer T
hop_answer (Ok a) = done
hop_answer (Err d) = declined d

-- all tables are as before
pub record Same (t t' : Tables) : Type 0 where
  pub lanes : t'.lanes ≡ t.lanes
  pub streams : t'.streams ≡ t.streams
  pub capacity : t'.capacity ≡ t.capacity

-- A call has its outcome, on a grid of this kind: it answers so, and leaves the grid so; the slots are as before but
-- for the one that is written, if one is; sizes and capacity stay; and if it is declined, all tables stay as they are.
pub record Makes {T : Type 0} (k : Kind) (t : Tables) (xs : List T) (c : Call T) (a : Answer T) (t' : Tables) (xs' : List T) : Type 0 where
  pub answer : a ≡ (outcome (setting k t (length xs)) (view t xs) c).answer
  pub grid : view t' xs' ≡ (outcome (setting k t (length xs)) (view t xs) c).grid
  pub slots : xs' ≡ slots_after (setting k t (length xs)) (view t xs) c xs
  pub size : t'.lanes.size ≡ t.lanes.size
  pub capacity : t'.capacity ≡ t.capacity
  pub declined : is_declined a ≡ true → Same t t'

-- The first hop of an open stream's route, which is there.
pub record Starts (t : Tables) (n : ℕ) (h : Hop) : Type 0 where
  pub rest : List Hop
  pub request : Request
  pub stream : open_stream (streams_in t) n ≡ Ok (record { request = request; hops = h ∷ rest })
  pub on_grid : holds t.lanes.size h ≡ true

-- A route is one of these hops, which are all there, and nothing declines a stream of these fields that takes it; or it is
-- told what does.
abbrev pub Accepts : Kind → Tables → Request → List Hop → Result Route Declined → Type 0
Accepts k t q hops (Ok route) = ((setting k t 0).judge (streams_in t) q hops ≡ None) × (hops_of route ≡ hops) × (list_all (holds t.lanes.size) hops ≡ true)
Accepts k t q hops (Err d) = (setting k t 0).judge (streams_in t) q hops ≡ Some d

-- A call that is lent no slots has its outcome on the outline, and leaves the lanes and the place of every item.
pub record Edits (k : Kind) (t : Tables) (c : Call (Unit {0})) (a : Answer (Unit {0})) (t' : Tables) : Type 0 where
  pub made : Makes k t (slots_alike t) c a t' (slots_alike t)
  pub lanes : t'.lanes ≡ t.lanes
