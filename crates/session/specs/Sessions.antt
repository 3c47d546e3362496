-- What a session answers, and what it has at hand afterwards.
use Rattle.std.specs.Prelude.{◌≡◌, ℕ, ◌⊎◌, List, ◌++◌, length, take, drop, replicate, Some, None, Ok, Err, IsOk, Option, Result}
use Rattle.refusals.specs.declared.refusal.Refusal.{Refusal}
use Rattle.refusals.specs.declared.refusal.Refusal.TheVariants.{MeshSize}
use Rattle.layouts.specs.Layout.{Meaning}
use Rattle.layouts.specs.Links.{InRange}
use Rattle.layouts.specs.Mesh.{meaning_of, mesh_meaning}
use Rattle.layouts.specs.declared.mesh.Mesh.{Mesh}
use Rattle.layouts.specs.declared.turn_rule.TurnRule.{TurnRule}
use Rattle.routes.specs.Checks.{Terms, no_hop, judgement, verdict}
use Rattle.routes.specs.Routes.{hop_on}
use Rattle.routes.specs.declared.declined.Declined.{Declined}
use Rattle.routes.specs.declared.hop.Hop.{Hop}
use Rattle.routes.specs.declared.stream.Request.{Request}
use Rattle.model.specs.Sums.{item_count, hops_ahead}
use Rattle.model.specs.Calls.{opens, closes, sends, steps, answer_of, done}
use Rattle.model.specs.Questions.{fields_of, hops_of_stream, load_on, count_in}
use Rattle.lanes.specs.declared.strip.Strip.{Strip}
use Rattle.lanes.specs.Sizes.{slot_count}
use Rattle.search.specs.Scales.{total, peak}
use Rattle.search.specs.Finds.{values_needed, marks_needed}
use Rattle.grid.specs.declared.drain.Drain.{Drain}
use Rattle.grid.specs.declared.step.Step.{Step}
use Rattle.grid.specs.declared.step.Step.TheVariants as step
use Rattle.grid.specs.Views.{streams_in, outline, setting}
use Rattle.grid.specs.Drains.{Drained}
use Rattle.grid.specs.Makes.{step_answer, hop_answer, Makes, Edits}
use Rattle.grid.specs.declared.make.MakeError.{MakeError}
use Rattle.grid.specs.Seeks.{Seeks}
use Rattle.grid.specs.Sweeps.{Swept}
use Rattle.grid.specs.declared.sweep.Sweep.{Sweep}
use Rattle.grid.specs.Blank.{making_refusal, BlankTables, NotMade}
use Rattle.codec.specs.declared.head.Head.{Head}
use Rattle.plan.specs.declared.fault.LoadFault.{LoadFault}
use Rattle.plan.specs.declared.line.Summary.{Summary}
use Rattle.plan.specs.Loads.{Loads}
use Rattle.plan.specs.Plans.{plan_bytes}
use Rattle.plan.specs.Verdicts.{own_head, verdict_of}
use Rattle.rehearsal.specs.declared.rehearse.Rehearsal.{Rehearsal}
use Rattle.rehearsal.specs.Rehearsals.{MayRehearse}
use Rattle.script.specs.declared.command.MeasureName.{MeasureName}
use Rattle.script.specs.declared.command.MeasureName.TheVariants.{Total, Peak}
use Rattle.grid.specs.declared.tables.Tables.{Tables}
use Rattle.script.specs.declared.mistake.Mistake.TheVariants.{NoMesh, NoGrid, OutOfMemory}
use Rattle.script.specs.Words.{words_of}
use Rattle.script.specs.Reads.{Read}
use Rattle.script.specs.Commands as command
use Rattle.script.specs.Commands.{Instruction, command_of, NeedsMemory}
use Rattle.session.specs.declared.answer.Answer.{Answer}
use Rattle.session.specs.declared.answer.Answer.TheVariants as answer
use Rattle.session.specs.declared.brief.Brief.{Brief}
use Rattle.session.specs.declared.brief.Brief.TheVariants.{Made, Ends, Turn, Accepted, Moved, Out, Fields, Load, Count, Ahead, CameOut, Loaded, Checked, Report, Streams, Picture, Say}
use Rattle.session.specs.declared.failure.Failure.{Failure}
use Rattle.session.specs.declared.failure.Failure.TheVariants as failure
use Rattle.session.specs.declared.failure.LineFailure.{LineFailure}
use Rattle.session.specs.Failures.{making_failure}
use Rattle.session.specs.Entries.{entry_count}
use Rattle.session.specs.Heads.{head_of}
use Rattle.session.specs.Hands.{GridHand, Hand, kind_of, workspace_of}

-- the response to a command: its answer, or why it has none
abbrev pub Response : Type 0
Response = Result Answer Failure

-- a short answer
abbrev pub told : Brief → Response
told brief = Ok (answer.Brief brief)

abbrev pub refused : Refusal → Response
refused refusal = Err (failure.Declined (no_hop refusal))

-- ---- meshes

-- a mesh is made where its size is in range; else the refusal leaves what is at hand
abbrev pub MakesMesh : Hand → TurnRule → ℕ → ℕ → Response → Hand → Type 0
MakesMesh before rule w h r after =
    (InRange w h × (r ≡ told (Made (mesh_meaning rule w h).tiles (mesh_meaning rule w h).links))
    × (after ≡ record { mesh = Some (mesh_meaning rule w h); grid = before.grid }))
    ⊎ ((InRange w h → ⊥) × (r ≡ refused MeshSize) × (after ≡ before))

-- What a route is judged by on the mesh at hand: 4 lanes and a capacity of 65535, the most that a grid has, and no link
-- bears a load.
abbrev pub unloaded : Meaning → Terms
unloaded m = record { layout = m; lanes = 4; capacity = 65535; load = λ _. 0 }

-- what a call that has no value answers, where the refusal may tell a hop
abbrev pub ended : Result (Unit {0}) Declined → Response
ended (Ok a) = told Accepted
ended (Err d) = Err (failure.Declined d)

-- a question about the mesh at hand
abbrev pub by_mesh : (Meaning → Response) → Option Meaning → Response
by_mesh f None = Err (failure.Mistake NoMesh)
by_mesh f (Some m) = f m

-- ---- grids

-- A grid has the links of its layout, as many slots as its lanes can contain items, and tables that are long enough for all that a drain
-- brings out.
pub record IsComplete (g : GridHand) : Type 0 where
  pub links : g.layout.links ≡ g.tables.lanes.size.links
  pub slots : length g.slots ≡ slot_count g.tables.lanes.size
  pub streams : length g.streams ≡ entry_count g.tables.lanes.size
  pub items : length g.items ≡ entry_count g.tables.lanes.size

-- A blank grid on a mesh, of the sizes in its head, with all that it is to be lent. What the slots and both tables for what comes out hold is
-- left open.
pub record NewGrid (m : Meaning) (head : Head) (g : GridHand) : Type 0 where
  pub allowed : making_refusal head.lanes head.depth head.capacity ≡ None
  pub head_is : g.head ≡ head
  pub layout_is : g.layout ≡ m
  pub blank : BlankTables m.links head.lanes head.depth head.capacity g.tables
  pub enough : IsComplete g

-- A grid is made on a mesh, and both are at hand; or its mesh is refused, or the grid, or there is no memory, and all is
-- as before. Memory has to hold the tables, all that is lent and the scratch of seeks, so also a grid that nothing declines may find none.
abbrev pub MakesGrid : Hand → TurnRule → ℕ → ℕ → ℕ → ℕ → ℕ → Response → Hand → Type 0
MakesGrid before rule w h lanes depth capacity r after =
    (InRange w h × ((g : GridHand) × NewGrid (mesh_meaning rule w h) (head_of rule w h lanes depth capacity) g
    × (r ≡ told Accepted) × (after ≡ record { mesh = Some (mesh_meaning rule w h); grid = Some g })))
    ⊎ ((InRange w h × ((e : MakeError) × NotMade lanes depth capacity e × (r ≡ Err (making_failure e)) × (after ≡ before)))
    ⊎ ((InRange w h → ⊥) × (r ≡ refused MeshSize) × (after ≡ before)))

-- a question about the grid at hand
abbrev pub by_grid : (GridHand → Response) → Option GridHand → Response
by_grid f None = Err (failure.Mistake NoGrid)
by_grid f (Some g) = f g

-- a call on the grid at hand, which is lent enough, by what it answers and leaves of the grid
abbrev pub OnGrid : (GridHand → Response → GridHand → Type 0) → Option Meaning → Option GridHand → Response → Hand → Type 0
OnGrid Calls mesh None r after = (r ≡ Err (failure.Mistake NoGrid)) × (after ≡ record { mesh = mesh; grid = None })
OnGrid Calls mesh (Some g) r after = IsComplete g × ((g' : GridHand) × Calls g r g' × (after ≡ record { mesh = mesh; grid = Some g' }))

-- what a value answers, or the refusal
abbrev pub response_by : {A : Type 0} → (A → Answer) → Result A Refusal → Response
response_by f (Ok a) = Ok (f a)
response_by f (Err refusal) = refused refusal

abbrev pub brief_by : {A : Type 0} → (A → Brief) → Result A Refusal → Response
brief_by f = response_by (λ a. answer.Brief (f a))

-- what a step that goes answers
abbrev pub stepped : Step Strip → Brief
stepped (step.Moved n) = Moved n
stepped (step.Out n x) = Out n x

-- what no call changes of a grid: its head and its layout
pub record IsAsMade (g g' : GridHand) : Type 0 where
  pub head : g'.head ≡ g.head
  pub layout : g'.layout ≡ g.layout

-- what one that is lent the slots alone keeps: also both tables for what comes out
pub record KeepsOut (g g' : GridHand) : Type 0 where
  pub made : IsAsMade g g'
  pub streams : g'.streams ≡ g.streams
  pub items : g'.items ≡ g.items

-- what one that is lent nothing keeps: also the slots
pub record KeepsLent (g g' : GridHand) : Type 0 where
  pub out : KeepsOut g g'
  pub slots : g'.slots ≡ g.slots

-- The calls, each by what it answers and leaves of the grid.
abbrev pub Opens : ℕ → Request → List Hop → GridHand → Response → GridHand → Type 0
Opens n q hops g r g' =
    (a : Result (Unit {0}) Declined) × Edits (kind_of g) g.tables (opens n q hops) (hop_answer a) g'.tables × KeepsLent g g' × (r ≡ ended a)

abbrev pub Closes : ℕ → GridHand → Response → GridHand → Type 0
Closes n g r g' =
    (a : Result (Unit {0}) Refusal) × Edits (kind_of g) g.tables (closes n) (answer_of (λ _. done) a) g'.tables
    × KeepsLent g g' × (r ≡ brief_by (λ _. Accepted) a)

abbrev pub Sends : ℕ → Strip → GridHand → Response → GridHand → Type 0
Sends n x g r g' =
    (a : Result (Unit {0}) Refusal) × Makes (kind_of g) g.tables g.slots (sends n x) (answer_of (λ _. done) a) g'.tables g'.slots
    × KeepsOut g g' × (r ≡ brief_by (λ _. Accepted) a)

abbrev pub Steps : Hop → GridHand → Response → GridHand → Type 0
Steps h g r g' =
    (a : Result (Step Strip) Refusal) × Makes (kind_of g) g.tables g.slots (steps h.link h.lane) (answer_of step_answer a) g'.tables g'.slots
    × KeepsOut g g' × (r ≡ brief_by stepped a)

-- A sweep of the grid, which is not refused. It tells how many steps went and how many items came out; these stand at the front of both tables.
abbrev pub Sweeps : GridHand → Response → GridHand → Type 0
Sweeps g r g' =
    (swept : Sweep) × Swept (workspace_of g) swept (workspace_of g') × IsAsMade g g' × (r ≡ told (CameOut swept.steps swept.items))

-- and a drain of it
abbrev pub Drains : GridHand → Response → GridHand → Type 0
Drains g r g' =
    (drained : Drain) × Drained (workspace_of g) drained (workspace_of g')
    × IsAsMade g g' × (r ≡ told (CameOut drained.steps drained.items))

-- a route in a table of 24 hops, which are 0.0 behind its own
abbrev pub routed : List Hop → Answer
routed hops = answer.Route (hops ++ drop (length hops) (replicate 24 (hop_on 0 0))) (length hops)

-- the questions, each by its answer
abbrev pub fields : ℕ → GridHand → Response
fields n g = brief_by Fields (fields_of (streams_in g.tables) n)

abbrev pub route : ℕ → GridHand → Response
route n g = response_by routed (hops_of_stream (streams_in g.tables) n)

abbrev pub link_load : ℕ → GridHand → Response
link_load k g = brief_by Load (load_on g.layout.links (streams_in g.tables) k)

abbrev pub count : Hop → GridHand → Response
count h g = brief_by Count (count_in (setting (kind_of g) g.tables 0) (outline g.tables) h)

abbrev pub items : GridHand → Response
items g = told (Count (item_count (setting (kind_of g) g.tables 0) (outline g.tables)))

abbrev pub ahead : GridHand → Response
ahead g = told (Ahead (hops_ahead (setting (kind_of g) g.tables 0) (outline g.tables)))

-- a seek answers the route that its stream has then, or what declines it
abbrev pub sought : ℕ → GridHand → Result ℕ Declined → Response
sought n g (Ok count) = route n g
sought n g (Err d) = Err (failure.Declined d)

-- a seek by a named measure, with all the scratch that it needs
abbrev pub SeeksByName : MeasureName → Meaning → Tables → ℕ → Request → Result ℕ Declined → Tables → Type 0
SeeksByName Total m t n q a t' = Seeks total m t n q (values_needed m.links t.lanes.size.lanes) (marks_needed m.links t.lanes.size.lanes) a t'
SeeksByName Peak m t n q a t' = Seeks peak m t n q (values_needed m.links t.lanes.size.lanes) (marks_needed m.links t.lanes.size.lanes) a t'

-- A seek is lent its scratch alone. Which of equally good routes it takes is left open.
abbrev pub Searches : ℕ → Request → MeasureName → GridHand → Response → GridHand → Type 0
Searches n q measure g r g' =
    (a : Result ℕ Declined) × SeeksByName measure g.layout g.tables n q a g'.tables × KeepsLent g g' × (r ≡ sought n g' a)

-- what a load answers: how many records its plan has, or the fault
abbrev pub loaded : Result ℕ LoadFault → Response
loaded (Ok count) = told (Loaded count)
loaded (Err f) = Err (failure.NotLoaded f)

-- A load is lent nothing. The records ahead of a fault stay open.
abbrev pub LoadsPlan : List ℕ → GridHand → Response → GridHand → Type 0
LoadsPlan plan g r g' =
    (a : Result ℕ LoadFault) × Loads (kind_of g) g.tables plan a g'.tables × KeepsLent g g' × (r ≡ loaded a)

-- a plan in a table of 3530 bytes, which are 0 behind its own
abbrev pub written : List ℕ → Answer
written plan = answer.Written (plan ++ drop (length plan) (replicate 3530 0)) (length plan)

-- the plan of the open streams, under the grid's head
abbrev pub plan_of : GridHand → Response
plan_of g = Ok (written (plan_bytes g.head (streams_in g.tables)))

-- what a check answers: what the grid bears, or the fault
abbrev pub checked : Result Summary LoadFault → Response
checked (Ok summary) = told (Checked summary)
checked (Err f) = Err (failure.NotLoaded f)

-- The verdict on a plan; or there is no memory for the grid that its accepted head asks for.
abbrev pub ChecksPlan : List ℕ → Response → Type 0
ChecksPlan plan r = (r ≡ checked (verdict_of plan)) ⊎ (IsOk (own_head (take 4096 plan)) × (r ≡ Err (failure.Mistake OutOfMemory)))

-- A rehearsal of so many strips of each open stream. Its beat, which stream sends when, is left open, and so is what then stands at the front of
-- both tables for what comes out.
abbrev pub RehearsesStreams : ℕ → GridHand → Response → GridHand → Type 0
RehearsesStreams strips g r g' =
    (a : Result Rehearsal Refusal) × MayRehearse strips (workspace_of g) a (workspace_of g') × IsAsMade g g' × (r ≡ response_by answer.Rehearsed a)

-- the grid at hand, with the width and the height in its head
abbrev pub Shows : Mesh → Tables → ℕ → ℕ → Hand → Type 0
Shows mesh tables w h hand =
    (g : GridHand) × (hand.grid ≡ Some g) × (g.layout ≡ meaning_of mesh) × (g.tables ≡ tables) × (g.head.width ≡ w) × (g.head.height ≡ h)

-- the first entries of the tables for what comes out by the grid at hand: so many, or all where there are fewer
abbrev pub ShowsOut : ℕ → List ℕ → List Strip → Hand → Type 0
ShowsOut count streams items hand =
    (g : GridHand) × (hand.grid ≡ Some g) × (streams ≡ take count g.streams) × (items ≡ take count g.items)

-- ---- commands and lines

-- the response to each command, and what is at hand after it
abbrev pub Answers : Hand → Instruction → Response → Hand → Type 0
Answers before (command.mesh rule w h) r after = MakesMesh before rule w h r after
Answers before (command.link k) r after = (r ≡ by_mesh (λ m. told (Ends (m.start k) (m.end k))) before.mesh) × (after ≡ before)
Answers before (command.turn a b) r after = (r ≡ by_mesh (λ m. told (Turn (m.turn a b))) before.mesh) × (after ≡ before)
Answers before (command.judge q hops) r after = (r ≡ by_mesh (λ m. ended (verdict (judgement (unloaded m) q hops))) before.mesh) × (after ≡ before)
Answers before (command.grid rule w h lanes depth capacity) r after = MakesGrid before rule w h lanes depth capacity r after
Answers before (command.opens n q hops) r after = OnGrid (Opens n q hops) before.mesh before.grid r after
Answers before (command.seeks n q measure) r after = OnGrid (Searches n q measure) before.mesh before.grid r after
Answers before (command.closes n) r after = OnGrid (Closes n) before.mesh before.grid r after
Answers before (command.sends n x) r after = OnGrid (Sends n x) before.mesh before.grid r after
Answers before (command.steps h) r after = OnGrid (Steps h) before.mesh before.grid r after
Answers before (command.stream n) r after = (r ≡ by_grid (fields n) before.grid) × (after ≡ before)
Answers before (command.route n) r after = (r ≡ by_grid (route n) before.grid) × (after ≡ before)
Answers before (command.link_load k) r after = (r ≡ by_grid (link_load k) before.grid) × (after ≡ before)
Answers before (command.count h) r after = (r ≡ by_grid (count h) before.grid) × (after ≡ before)
Answers before command.items r after = (r ≡ by_grid items before.grid) × (after ≡ before)
Answers before command.ahead r after = (r ≡ by_grid ahead before.grid) × (after ≡ before)
Answers before command.sweeps r after = OnGrid Sweeps before.mesh before.grid r after
Answers before command.drains r after = OnGrid Drains before.mesh before.grid r after
Answers before (command.loads plan) r after = OnGrid (LoadsPlan plan) before.mesh before.grid r after
Answers before command.writes r after = (r ≡ by_grid plan_of before.grid) × (after ≡ before)
Answers before (command.checks plan) r after = ChecksPlan plan r × (after ≡ before)
Answers before (command.rehearses strips beat) r after = OnGrid (RehearsesStreams strips) before.mesh before.grid r after
Answers before command.reports r after = (r ≡ told Report) × (after ≡ before)
Answers before command.streams r after = (r ≡ by_grid (λ _. told Streams) before.grid) × (after ≡ before)
Answers before command.picture r after = (r ≡ by_grid (λ _. told Picture) before.grid) × (after ≡ before)
Answers before command.says r after = (r ≡ told Say) × (after ≡ before)

-- the reply to a line: the answer to its command, or the failure with the line's number
abbrev pub Reply : Type 0
Reply = Result Answer LineFailure

abbrev pub reply_of : ℕ → Response → Reply
reply_of n (Ok a) = Ok a
reply_of n (Err f) = Err (record { line = n; failure = f })

-- the reply to a line that says something, nothing, or is mistaken
abbrev pub RepliesTo : Hand → ℕ → Read (Option Instruction) → Option Reply → Hand → Type 0
RepliesTo before n (Ok None) r after = (r ≡ None) × (after ≡ before)
RepliesTo before n (Ok (Some i)) r after = (a : Response) × (r ≡ Some (reply_of n a)) × Answers before i a after
RepliesTo before n (Err m) r after = (r ≡ Some (reply_of n (Err (failure.Mistake m)))) × (after ≡ before)

-- the reply to a line; or, where memory is needed, that it ran out, with all at hand as before
abbrev pub Replies : Hand → ℕ → List ℕ → Option Reply → Hand → Type 0
Replies before n line r after =
    RepliesTo before n (command_of (words_of line)) r after ⊎ (NeedsMemory (words_of line) × RepliesTo before n (Err OutOfMemory) r after)

-- ---- answers told briefly

-- the response of a call all whose answers are short
abbrev pub short : Result Brief Failure → Response
short (Ok brief) = told brief
short (Err f) = Err f

-- The response, or the reply, that is told briefly while a long answer is kept: none stands for the answer that is kept.
abbrev pub whole : {E : Type 0} → Answer → Result (Option Brief) E → Result Answer E
whole kept (Ok (Some brief)) = Ok (answer.Brief brief)
whole kept (Ok None) = Ok kept
whole kept (Err e) = Err e

-- a route, a plan or what a rehearsal came to
abbrev pub IsLong : Answer → Type 0
IsLong (answer.Brief brief) = ⊥
IsLong (answer.Route table count) = Unit {0}
IsLong (answer.Written table count) = Unit {0}
IsLong (answer.Rehearsed rehearsal) = Unit {0}

-- what is kept stays, unless another long answer takes its place, for which none is told
abbrev pub KeepsUnlessLong : {E : Type 0} → Result (Option Brief) E → Answer → Answer → Type 0
KeepsUnlessLong (Ok None) before after = IsLong after
KeepsUnlessLong (Ok (Some brief)) before after = after ≡ before
KeepsUnlessLong (Err e) before after = after ≡ before

-- the same of a line, where there is a reply
abbrev pub LineKeeps : Option (Result (Option Brief) LineFailure) → Answer → Answer → Type 0
LineKeeps None before after = after ≡ before
LineKeeps (Some r) before after = KeepsUnlessLong r before after

-- the latest long answer: the one that is kept, or the next if it is long
abbrev pub latest : Answer → Answer → Answer
latest kept (answer.Brief brief) = kept
latest kept (answer.Route table count) = answer.Route table count
latest kept (answer.Written table count) = answer.Written table count
latest kept (answer.Rehearsed rehearsal) = answer.Rehearsed rehearsal

-- what is kept after a response, or a reply
abbrev pub kept_after : {E : Type 0} → Answer → Result Answer E → Answer
kept_after kept (Ok a) = latest kept a
kept_after kept (Err e) = kept

abbrev pub kept_after_line : Answer → Option Reply → Answer
kept_after_line kept None = kept
kept_after_line kept (Some r) = kept_after kept r
