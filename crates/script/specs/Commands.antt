-- What the words of a line say.
use Rattle.std.specs.Prelude.{◌≡◌, ℕ, true, if◌then◌else◌, ◌⊎◌, List, [], ◌∷◌, Some, None, Ok, Err, vec_items, codes, Option}
use Rattle.std.specs.Str.{bytes_eq}
use Rattle.layouts.specs.declared.turn_rule.TurnRule.{TurnRule}
use Rattle.routes.specs.declared.hop.Hop.{Hop}
use Rattle.routes.specs.declared.stream.Request.{Request}
use Rattle.lanes.specs.declared.strip.Strip.{Strip}
use Rattle.script.specs.declared.command.Command.{Command}
use Rattle.script.specs.declared.command.Command.TheVariants.{Mesh, Link, Turn, Judge, Grid, Open, Seek, Close, Send, Step, Stream, Route, LinkLoad, Count, Items, Ahead, Sweep, Drain, Load, Write, Check, Rehearse, Report, Streams, Picture, Say}
use Rattle.script.specs.declared.command.MeasureName.{MeasureName}
use Rattle.script.specs.declared.command.BeatName.{BeatName}
use Rattle.script.specs.declared.mistake.Mistake.TheVariants.{UnknownCommand}
use Rattle.script.specs.Reads.{Read, and_then}
use Rattle.script.specs.Parts.{first_measure, first_number, first_shape, first_request, last_beat, behind, past, nothing_more, only_number, only_hop, only_strip, request_and_hops}
use Rattle.script.specs.Hex.{bytes_in}

-- What a command says, with plain lists.
pub data Instruction : Type 0 where
  mesh : TurnRule → ℕ → ℕ → Instruction
  link : ℕ → Instruction
  turn : ℕ → ℕ → Instruction
  judge : Request → List Hop → Instruction
  grid : TurnRule → ℕ → ℕ → ℕ → ℕ → ℕ → Instruction
  opens : ℕ → Request → List Hop → Instruction
  seeks : ℕ → Request → MeasureName → Instruction
  closes : ℕ → Instruction
  sends : ℕ → Strip → Instruction
  steps : Hop → Instruction
  stream : ℕ → Instruction
  route : ℕ → Instruction
  link_load : ℕ → Instruction
  count : Hop → Instruction
  items : Instruction
  ahead : Instruction
  sweeps : Instruction
  drains : Instruction
  loads : List ℕ → Instruction
  writes : Instruction
  checks : List ℕ → Instruction
  rehearses : ℕ → BeatName → Instruction
  reports : Instruction
  streams : Instruction
  picture : Instruction
  says : Instruction

abbrev pub instruction_of : Command → Instruction
instruction_of (Mesh rule w h) = mesh rule w h
instruction_of (Link k) = link k
instruction_of (Turn a b) = turn a b
instruction_of (Judge request hops) = judge request (vec_items hops)
instruction_of (Grid rule w h lanes depth capacity) = grid rule w h lanes depth capacity
instruction_of (Open s request hops) = opens s request (vec_items hops)
instruction_of (Seek s request measure) = seeks s request measure
instruction_of (Close s) = closes s
instruction_of (Send s strip) = sends s strip
instruction_of (Step hop) = steps hop
instruction_of (Stream s) = stream s
instruction_of (Route s) = route s
instruction_of (LinkLoad k) = link_load k
instruction_of (Count hop) = count hop
instruction_of Items = items
instruction_of Ahead = ahead
instruction_of Sweep = sweeps
instruction_of Drain = drains
instruction_of (Load bytes) = loads (vec_items bytes)
instruction_of Write = writes
instruction_of (Check bytes) = checks (vec_items bytes)
instruction_of (Rehearse strips beat) = rehearses strips beat
instruction_of Report = reports
instruction_of Streams = streams
instruction_of Picture = picture
instruction_of Say = says

-- mesh RULE WIDTH HEIGHT, without its name
abbrev pub mesh_instruction : List (List ℕ) → Read Instruction
mesh_instruction ws =
    and_then (first_shape ws) (λ m. and_then (nothing_more (past 3 ws)) (λ _. Ok (mesh m.0 m.1 m.2)))

-- turn A B
abbrev pub turn_instruction : List (List ℕ) → Read Instruction
turn_instruction ws =
    and_then (first_number ws) (λ a. and_then (first_number (behind ws)) (λ b.
    and_then (nothing_more (past 2 ws)) (λ _. Ok (turn a b))))

-- judge FROM TO DEMAND HOP..
abbrev pub judge_instruction : List (List ℕ) → Read Instruction
judge_instruction ws = and_then (request_and_hops ws) (λ a. Ok (judge a.0 a.1))

-- grid RULE WIDTH HEIGHT LANES DEPTH CAPACITY
abbrev pub grid_instruction : List (List ℕ) → Read Instruction
grid_instruction ws =
    and_then (first_shape ws) (λ m. and_then (first_number (past 3 ws)) (λ lanes. and_then (first_number (past 4 ws)) (λ depth.
    and_then (first_number (past 5 ws)) (λ capacity. and_then (nothing_more (past 6 ws)) (λ _.
    Ok (grid m.0 m.1 m.2 lanes depth capacity))))))

-- open S FROM TO DEMAND HOP..
abbrev pub open_instruction : List (List ℕ) → Read Instruction
open_instruction ws = and_then (first_number ws) (λ s. and_then (request_and_hops (behind ws)) (λ a. Ok (opens s a.0 a.1)))

-- seek S FROM TO DEMAND MEASURE
abbrev pub seek_instruction : List (List ℕ) → Read Instruction
seek_instruction ws =
    and_then (first_number ws) (λ s. and_then (first_request (behind ws)) (λ request. and_then (first_measure (past 4 ws)) (λ measure.
    and_then (nothing_more (past 5 ws)) (λ _. Ok (seeks s request measure)))))

-- send S FRAGMENT BAND ROW
abbrev pub send_instruction : List (List ℕ) → Read Instruction
send_instruction ws = and_then (first_number ws) (λ s. and_then (only_strip (behind ws)) (λ strip. Ok (sends s strip)))

-- rehearse STRIPS, or rehearse STRIPS BEAT
abbrev pub rehearse_instruction : List (List ℕ) → Read Instruction
rehearse_instruction ws = and_then (first_number ws) (λ strips. and_then (last_beat (behind ws)) (λ beat. Ok (rehearses strips beat)))

-- the commands that name bytes, as load HEX..
abbrev pub bytes_instruction : (List ℕ → Instruction) → List (List ℕ) → Read Instruction
bytes_instruction f ws = and_then (bytes_in ws) (λ bytes. Ok (f bytes))

-- the commands that name a number, as link K
abbrev pub number_instruction : (ℕ → Instruction) → List (List ℕ) → Read Instruction
number_instruction f ws = and_then (only_number ws) (λ n. Ok (f n))

-- those that name a link and a lane, as step LINK LANE
abbrev pub hop_instruction : (Hop → Instruction) → List (List ℕ) → Read Instruction
hop_instruction f ws = and_then (only_hop ws) (λ hop. Ok (f hop))

-- and those that name nothing
abbrev pub bare_instruction : Instruction → List (List ℕ) → Read Instruction
bare_instruction i ws = and_then (nothing_more ws) (λ _. Ok i)

-- the commands that ask about a grid
abbrev pub question_named : List ℕ → List (List ℕ) → Read Instruction
question_named name ws =
    if bytes_eq name (codes "stream") then number_instruction stream ws
    else if bytes_eq name (codes "route") then number_instruction route ws
    else if bytes_eq name (codes "linkload") then number_instruction link_load ws
    else if bytes_eq name (codes "count") then hop_instruction count ws
    else if bytes_eq name (codes "items") then bare_instruction items ws
    else if bytes_eq name (codes "ahead") then bare_instruction ahead ws
    else if bytes_eq name (codes "write") then bare_instruction writes ws
    else Err UnknownCommand

-- those that rehearse a plan and show it, and those that ask; the words behind say are any
abbrev pub show_named : List ℕ → List (List ℕ) → Read Instruction
show_named name ws =
    if bytes_eq name (codes "check") then bytes_instruction checks ws
    else if bytes_eq name (codes "rehearse") then rehearse_instruction ws
    else if bytes_eq name (codes "report") then bare_instruction reports ws
    else if bytes_eq name (codes "streams") then bare_instruction streams ws
    else if bytes_eq name (codes "picture") then bare_instruction picture ws
    else if bytes_eq name (codes "say") then Ok says
    else question_named name ws

-- those that change a grid, and all of these
abbrev pub call_named : List ℕ → List (List ℕ) → Read Instruction
call_named name ws =
    if bytes_eq name (codes "open") then open_instruction ws
    else if bytes_eq name (codes "seek") then seek_instruction ws
    else if bytes_eq name (codes "close") then number_instruction closes ws
    else if bytes_eq name (codes "send") then send_instruction ws
    else if bytes_eq name (codes "step") then hop_instruction steps ws
    else if bytes_eq name (codes "sweep") then bare_instruction sweeps ws
    else if bytes_eq name (codes "drain") then bare_instruction drains ws
    else if bytes_eq name (codes "load") then bytes_instruction loads ws
    else show_named name ws

-- all commands: these, and those that make a mesh or a grid or ask about a mesh
abbrev pub named_instruction : List ℕ → List (List ℕ) → Read Instruction
named_instruction name ws =
    if bytes_eq name (codes "mesh") then mesh_instruction ws
    else if bytes_eq name (codes "link") then number_instruction link ws
    else if bytes_eq name (codes "turn") then turn_instruction ws
    else if bytes_eq name (codes "judge") then judge_instruction ws
    else if bytes_eq name (codes "grid") then grid_instruction ws
    else call_named name ws

-- what the words of a line say, nothing where there is none
abbrev pub command_of : List (List ℕ) → Read (Option Instruction)
command_of [] = Ok None
command_of (name ∷ ws) = and_then (named_instruction name ws) (λ i. Ok (Some i))

-- memory is needed by the commands that keep a list
abbrev pub NeedsMemory : List (List ℕ) → Type 0
NeedsMemory [] = ⊥
NeedsMemory (name ∷ ws) =
    (bytes_eq name (codes "judge") ≡ true)
    ⊎ ((bytes_eq name (codes "open") ≡ true) ⊎ ((bytes_eq name (codes "load") ≡ true) ⊎ (bytes_eq name (codes "check") ≡ true)))
