-- What loading a plan comes to.
use Rattle.std.specs.Prelude.{◌≡◌, ℕ, zero, suc, ◌+◌, cond, List, [], ◌∷◌, length, Some, None, Ok, Err, Option, Result, nat_lt}
use Rattle.refusals.specs.declared.refusal.Refusal.TheVariants.{TrailingBytes}
use Rattle.routes.specs.declared.declined.Declined.{Declined}
use Rattle.routes.specs.Routes.{OpenStream}
use Rattle.model.specs.Grid.{Setting, Grid, assign}
use Rattle.model.specs.Kinds.{Kind, on_kind}
use Rattle.model.specs.Calls.{Call, opens, declined, done, open_refusal, opening}
use Rattle.grid.specs.declared.tables.Tables.{Tables}
use Rattle.grid.specs.Views.{outline}
use Rattle.grid.specs.Makes.{Same, Edits}
use Rattle.codec.specs.declared.head.GridSizes.{GridSizes}
use Rattle.codec.specs.declared.head.HeadFault.{HeadFault}
use Rattle.codec.specs.declared.head.HeadNumbers.{HeadNumbers}
use Rattle.codec.specs.declared.number.ByteFault.{ByteFault}
use Rattle.codec.specs.Heads.{head_at, values_of, place_of, judged}
use Rattle.codec.specs.Records.{Entry, record_at}
use Rattle.plan.specs.declared.fault.InRecord.{InRecord}
use Rattle.plan.specs.declared.fault.LoadFault.{LoadFault}
use Rattle.plan.specs.declared.fault.LoadFault.TheVariants as fault

-- The records that are opened, in their order; and the count of records, or the fault at which loading ends.
pub record Loading : Type 0 where
  pub opened : List Entry
  pub answer : Result ℕ LoadFault

-- loading ends here
abbrev pub ends : Result ℕ LoadFault → Loading
ends answer = record { opened = []; answer = answer }

-- a record is opened, and loading goes on
abbrev pub and_on : Entry → Loading → Loading
and_on e more = record { opened = e ∷ more.opened; answer = more.answer }

-- record number k is opened where the grid does not decline its stream
abbrev pub once_accepted : ℕ → Entry → Option Declined → Loading → Loading
once_accepted k e None more = and_on e more
once_accepted k e (Some d) more = ends (Err (fault.Grid (record { number = k; fault = d })))

-- record number k is opened where its numbers can be read
abbrev pub once_read : ℕ → Result Entry ByteFault → (Entry → Loading) → Loading
once_read k (Ok e) more = more e
once_read k (Err f) more = ends (Err (fault.RecordBytes (record { number = k; fault = f })))

-- after the last of so many records a plan ends
abbrev pub at_end : List ℕ → ℕ → ℕ → Loading
at_end plan count place = ends (cond (nat_lt place (length plan)) (Err (fault.Plan (record { refusal = TrailingBytes; place = place }))) (Ok count))

-- n records more from a byte on, the first of which has number k: each is read and opened before the next is read
unfoldable pub records_from : {T : Type 0} → Setting → List ℕ → Grid T → ℕ → ℕ → ℕ → Loading
records_from S plan g k place zero = at_end plan k place
records_from S plan g k place (suc n) =
    once_read k (record_at plan place) (λ e. once_accepted k e (open_refusal S g e.stream e.request e.hops)
    (records_from S plan (opening S g e.stream e.request e.hops).grid (k + 1) e.next n))

-- a head that was judged, or its fault with the byte at which the number to blame starts
abbrev pub if_judged : HeadNumbers → Result (Unit {0}) HeadFault → Result HeadNumbers LoadFault
if_judged h (Ok a) = Ok h
if_judged h (Err f) = Err (fault.Plan (record { refusal = f.refusal; place = place_of h f.part }))

-- a head that was read, once it is judged
abbrev pub if_read : GridSizes → Result HeadNumbers ByteFault → Result HeadNumbers LoadFault
if_read sizes (Ok h) = if_judged h (judged (values_of h) h.count.value sizes)
if_read sizes (Err f) = Err (fault.HeadBytes f)

-- the head of a plan, if it is allowed and fits a grid of these sizes
abbrev pub accepted_head : GridSizes → List ℕ → Result HeadNumbers LoadFault
accepted_head sizes plan = if_read sizes (head_at plan)

-- records are opened behind an accepted head
abbrev pub behind_head : {T : Type 0} → Setting → List ℕ → Grid T → Result HeadNumbers LoadFault → Loading
behind_head S plan g (Ok h) = records_from S plan g 0 h.count.next h.count.value
behind_head S plan g (Err f) = ends (Err f)

-- a plan is loaded on a grid of a kind and of these sizes; no slots are lent for it
abbrev pub loading : {T : Type 0} → Kind → GridSizes → Grid T → List ℕ → Loading
loading kind sizes g plan = behind_head (on_kind kind sizes.lanes sizes.depth sizes.capacity 0) plan g (accepted_head sizes plan)

-- the stream of a record
abbrev pub stream_in : Entry → OpenStream
stream_in e = record { request = e.request; hops = e.hops }

-- the open streams once those of these records are opened, one after another
abbrev pub streams_after : (ℕ → Option OpenStream) → List Entry → ℕ → Option OpenStream
streams_after streams [] = streams
streams_after streams (e ∷ more) = streams_after (assign streams e.stream (Some (stream_in e))) more

-- ---- on tables

-- what a head has to fit
abbrev pub sizes_of : Tables → GridSizes
sizes_of t = record { lanes = t.lanes.size.lanes; depth = t.lanes.size.depth; capacity = t.capacity }

abbrev pub loading_on : Kind → Tables → List ℕ → Loading
loading_on kind t plan = loading kind (sizes_of t) (outline t) plan

-- the opening of a record's stream
abbrev pub opening_of : Entry → Call (Unit {0})
opening_of e = opens e.stream e.request e.hops

-- a record's stream is opened, or declined, which is told with the record's number
abbrev pub OpensRecord : Kind → Tables → ℕ → Entry → Result (Unit {0}) (InRecord Declined) → Tables → Type 0
OpensRecord kind t k e (Ok a) t' = Edits kind t (opening_of e) done t'
OpensRecord kind t k e (Err f) t' = (f.number ≡ k) × Edits kind t (opening_of e) (declined f.fault) t'

-- records are opened one after another
abbrev pub Opens : Kind → Tables → List Entry → Tables → Type 0
Opens kind t [] t' = Same t t'
Opens kind t (e ∷ more) t' = (between : Tables) × Edits kind t (opening_of e) done between × Opens kind between more t'

-- loading has come to its answer, and all of the grid is as the openings of its records leave it, also where a fault is behind them
abbrev pub ComesTo : Kind → Tables → Loading → Result ℕ LoadFault → Tables → Type 0
ComesTo kind t l r t' = (r ≡ l.answer) × Opens kind t l.opened t'

abbrev pub Loads : Kind → Tables → List ℕ → Result ℕ LoadFault → Tables → Type 0
Loads kind t plan r t' = ComesTo kind t (loading_on kind t plan) r t'
