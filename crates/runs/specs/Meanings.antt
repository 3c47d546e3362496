-- What a call of a run means, in calls of the grid in words.
use Rattle.std.specs.Prelude.{◌≡◌, ℕ, ◌*◌, Bool, if◌then◌else◌, List, [], ◌∷◌, length, Ok, Err, Result, vec_items}
use Rattle.refusals.specs.declared.refusal.Refusal.TheVariants.{TooFewSlots}
use Rattle.routes.specs.Checks.{no_hop}
use Rattle.routes.specs.declared.declined.Declined.{Declined}
use Rattle.routes.specs.declared.hop.Hop.{Hop}
use Rattle.routes.specs.declared.stream.Request.{Request}
use Rattle.model.specs.Grid.{Setting, Queue, Grid}
use Rattle.model.specs.Calls.{Call as GridCall, opens, closes, sends, steps, done, outcome}
use Rattle.model.specs.Kinds.{Kind, on_kind}
use Rattle.model.specs.Runs.{History, start, ◌▸◌, handed_out_from, steps_gone_from}
use Rattle.model.specs.Outlines.{without_items}
use Rattle.model.specs.Sweeps.{sweep_of}
use Rattle.grid.specs.declared.sweep.Sweep.{Sweep as Told}
use Rattle.grid.specs.Sweeps.{enough_for}
use Rattle.codec.specs.Records.{Entry}
use Rattle.codec.specs.declared.head.GridSizes.{GridSizes}
use Rattle.plan.specs.Loads.{Loading, loading}
use Rattle.runs.specs.declared.call.Call.{Call}
use Rattle.runs.specs.declared.call.Call.TheVariants.{Open, Close, Send, Step, Sweep, Load}
use Rattle.runs.specs.declared.call.Failure.{Failure}
use Rattle.runs.specs.declared.call.Failure.TheVariants as failure
use Rattle.runs.specs.declared.call.Reply.{Reply}
use Rattle.runs.specs.declared.call.Reply.TheVariants.{Swept}
use Rattle.runs.specs.declared.lent.Lent.{Lent}
use Rattle.runs.specs.Lending.{OutTables, with_out}
use Rattle.runs.specs.Calls.{StandsFor, open_reply, load_reply}
use Rattle.runs.specs.Routings.{Asked, Finding, opening_answer}

-- The conditions of a run: the kind and the sizes of its grid, how its openings come by their routes, and how many slots, values
-- and marks are lent, and entries in each of the two tables for what comes out by sweeps.
pub record Conditions (R : Type 0) : Type 1 where
  pub kind : Kind
  pub sizes : GridSizes
  pub routes : Finding R
  pub slots : ℕ
  pub values : ℕ
  pub marks : ℕ
  pub streams : ℕ
  pub items : ℕ

-- the conditions where this is lent
abbrev pub conditions : {R T V : Type 0} → Kind → GridSizes → Finding R → Lent T V → Conditions R
conditions k sizes routes lent = record {
  kind = k;
  sizes = sizes;
  routes = routes;
  slots = length lent.slots.now;
  values = length lent.values.now;
  marks = length lent.marks.now;
  streams = length lent.streams.now;
  items = length lent.items.now;
}

-- the setting of the grid of a run
abbrev pub setting_in : {R : Type 0} → Conditions R → Setting
setting_in C = on_kind C.kind C.sizes.lanes C.sizes.depth C.sizes.capacity C.slots

-- ---- an opening

-- what an opening is asked for on a grid
abbrev pub asked_on : {R T : Type 0} → Conditions R → Grid T → ℕ → Request → Asked
asked_on C g n q =
    record { sizes = C.sizes; streams = g.streams; stream = n; request = q; values = C.values; marks = C.marks }

-- an opening is that of its stream on the hops that were found, which is done; and where it is declined, it is nothing
abbrev pub IsOpening : {T : Type 0} → Setting → Grid T → Asked → Result (List Hop) Declined → History T → Type 0
IsOpening S g a (Ok hops) made =
    ((outcome S g (opens a.stream a.request hops)).answer ≡ done) × (made ≡ start ▸ opens a.stream a.request hops)
IsOpening S g a (Err d) made = made ≡ start

-- an opening that comes by its route so
abbrev pub MeansOpening : {T : Type 0} → Bool → (Result (List Hop) Declined → Type 0) → Setting → Grid T → Asked
    → Result (Reply T) Failure → History T → Type 0
MeansOpening searches Finds S g a r made =
    (found : Result (List Hop) Declined) × Finds found
    × (r ≡ open_reply (opening_answer searches found)) × IsOpening S g a found made

-- ---- the load of a plan

-- a past with an opening for each of these records, one after another
abbrev pub then_opened : {T : Type 0} → History T → List Entry → History T
then_opened past [] = past
then_opened past (e ∷ more) = then_opened (past ▸ opens e.stream e.request e.hops) more

-- a load is the openings of the records that it opened, also where a fault is behind them
abbrev pub MeansLoad : {T : Type 0} → Loading → Result (Reply T) Failure → History T → Type 0
MeansLoad l r made = (r ≡ load_reply l.answer) × (made ≡ then_opened start l.opened)

-- ---- a sweep

-- there are slots for all lanes, and as many entries in each of the two tables as there are lanes
abbrev pub may_sweep : {R : Type 0} → Conditions R → Bool
may_sweep C =
    let S : Setting = setting_in C in
    enough_for S (S.links * S.lanes) C.streams C.items

-- the calls that a sweep is: a step on every lane once; where too little is lent, none
abbrev pub sweep_calls : {R T : Type 0} → Conditions R → History T
sweep_calls C = if may_sweep C then sweep_of (setting_in C) else start

-- what comes out by a sweep; and what it tells: how many of its steps go, and how many items come out
abbrev pub sweep_out : {R T : Type 0} → Conditions R → Grid T → Queue T
sweep_out C g = handed_out_from (setting_in C) g (sweep_calls C)

abbrev pub sweep_told : {R T : Type 0} → Conditions R → Grid T → Told
sweep_told C g =
    record { steps = steps_gone_from (setting_in C) g (sweep_calls C); items = length (sweep_out C g) }

-- the reply to a sweep, which is declined where too little is lent
abbrev pub sweep_reply : {R T : Type 0} → Conditions R → Grid T → Result (Reply T) Failure
sweep_reply C g = if may_sweep C then Ok (Swept (sweep_told C g)) else Err (failure.Declined (no_hop TooFewSlots))

-- ---- any call

-- a call that is one call of the grid in words
abbrev pub MeansOne : {T : Type 0} → Setting → Grid T → GridCall T → Result (Reply T) Failure → History T → Type 0
MeansOne S g c r made = StandsFor r (outcome S g c).answer × (made ≡ start ▸ c)

-- A call made on a grid is answered so, and is these calls of the grid in words.
abbrev pub Means : {R T : Type 0} → Conditions R → Grid T → Call T R → Result (Reply T) Failure → History T → Type 0
Means C g (Open n q route) r made =
    let a : Asked = asked_on C g n q in
    MeansOpening (C.routes.searches route) (C.routes.finds route a) (setting_in C) g a r made
Means C g (Close n) r made = MeansOne (setting_in C) g (closes n) r made
Means C g (Send n x) r made = MeansOne (setting_in C) g (sends n x) r made
Means C g (Step h) r made = MeansOne (setting_in C) g (steps h.link h.lane) r made
Means C g Sweep r made = (r ≡ sweep_reply C g) × (made ≡ sweep_calls C)
Means C g (Load plan) r made = MeansLoad (loading C.kind C.sizes (without_items g) (vec_items plan)) r made

-- What a call leaves in the two tables: a sweep writes what comes out by it at their front, and no other call touches them.
abbrev pub out_after : {R T : Type 0} → Conditions R → Grid T → Call T R → OutTables T → OutTables T
out_after C g (Open n q route) tables = tables
out_after C g (Close n) tables = tables
out_after C g (Send n x) tables = tables
out_after C g (Step h) tables = tables
out_after C g Sweep tables = with_out (sweep_out C g) tables
out_after C g (Load plan) tables = tables
