-- What the bytes of a plan come to.
use Rattle.std.specs.Prelude.{◌≡◌, ℕ, List, Some, None, Ok, Err, Option, Result, IsOk}
use Rattle.std.specs.Option.{option_map}
use Rattle.refusals.specs.declared.refusal.Refusal.TheVariants.{BadHead}
use Rattle.layouts.specs.Layout.{Meaning}
use Rattle.layouts.specs.Mesh.{mesh_meaning}
use Rattle.model.specs.Grid.{blank}
use Rattle.model.specs.Kinds.{Kind, by_rules}
use Rattle.codec.specs.declared.head.GridSizes.{GridSizes}
use Rattle.codec.specs.declared.head.Head.{Head}
use Rattle.codec.specs.declared.head.HeadNumbers.{HeadNumbers}
use Rattle.codec.specs.declared.number.ByteFault.{ByteFault}
use Rattle.codec.specs.Heads.{rule_numbered, head_at, values_of, judged}
use Rattle.codec.specs.Records.{Entry}
use Rattle.plan.specs.declared.check.NoSummary.{NoSummary}
use Rattle.plan.specs.declared.check.NoSummary.TheVariants.{Fault, OutOfMemory}
use Rattle.plan.specs.declared.fault.LoadFault.{LoadFault}
use Rattle.plan.specs.declared.fault.LoadFault.TheVariants as fault
use Rattle.plan.specs.declared.line.Summary.{Summary}
use Rattle.plan.specs.Loads.{Loading, accepted_head, loading, streams_after}
use Rattle.plan.specs.Summaries.{summary_of}

-- the mesh that a head asks for, if there is such a rule
abbrev pub mesh_in : Head → Option Meaning
mesh_in h = option_map (λ rule. mesh_meaning rule h.width h.height) (rule_numbered h.rule)

-- the grid that a head asks for
abbrev pub sizes_in : Head → GridSizes
sizes_in h = record { lanes = h.lanes; depth = h.depth; capacity = h.capacity }

-- the numbers of a head are allowed; it fits the grid that it asks for
abbrev pub IsAccepted : HeadNumbers → Type 0
IsAccepted h = judged (values_of h) h.count.value (sizes_in (values_of h)) ≡ Ok tt

-- the head of a plan, judged for the grid that it asks for
abbrev pub by_itself : List ℕ → Result HeadNumbers ByteFault → Result HeadNumbers LoadFault
by_itself plan (Ok h) = accepted_head (sizes_in (values_of h)) plan
by_itself plan (Err f) = Err (fault.HeadBytes f)

-- the head of a plan, if it is allowed
abbrev pub own_head : List ℕ → Result HeadNumbers LoadFault
own_head plan = by_itself plan (head_at plan)

-- what the grid bears once these records are opened on a blank one of so many links, or the fault at which loading ended
abbrev pub summed : ℕ → List Entry → Result ℕ LoadFault → Result Summary LoadFault
summed links opened (Ok count) = Ok (summary_of links (streams_after (λ _. None) opened))
summed links opened (Err f) = Err f

-- loading a plan on a blank grid of a kind and these sizes
abbrev pub loading_blank : Kind → GridSizes → List ℕ → Loading
loading_blank k sizes plan = loading {T = Unit {0}} k sizes blank plan

abbrev pub verdict_on : Kind → GridSizes → List ℕ → Result Summary LoadFault
verdict_on k sizes plan = summed k.links (loading_blank k sizes plan).opened (loading_blank k sizes plan).answer

-- the verdict on a plan whose head is accepted; such a head has a rule, so the first case never arises
abbrev pub on_mesh : List ℕ → HeadNumbers → Option Meaning → Result Summary LoadFault
on_mesh plan h None = Err (fault.Plan (record { refusal = BadHead; place = h.rule.place }))
on_mesh plan h (Some m) = verdict_on (by_rules m) (sizes_in (values_of h)) plan

abbrev pub on_own_grid : List ℕ → Result HeadNumbers LoadFault → Result Summary LoadFault
on_own_grid plan (Ok h) = on_mesh plan h (mesh_in (values_of h))
on_own_grid plan (Err f) = Err f

-- The verdict on a plan: the fault of its head; else the fault at which loading ends on a blank grid of the mesh and the sizes that the head asks for;
-- else what that grid bears then.
unfoldable pub verdict_of : List ℕ → Result Summary LoadFault
verdict_of plan = on_own_grid plan (own_head plan)

-- The summary of a plan, or the fault; or else there is no memory for the grid of an accepted head.
abbrev pub Sums : List ℕ → Result Summary NoSummary → Type 0
Sums plan (Ok s) = Ok s ≡ verdict_of plan
Sums plan (Err (Fault f)) = Err f ≡ verdict_of plan
Sums plan (Err OutOfMemory) = IsOk (own_head plan)
