-- The parts of a command, read from the words behind its name.
use Rattle.std.specs.Prelude.{ℕ, zero, suc, cond, List, [], ◌∷◌, Ok, Err, codes}
use Rattle.std.specs.Str.{bytes_eq}
use Rattle.layouts.specs.declared.turn_rule.TurnRule.{TurnRule}
use Rattle.layouts.specs.declared.turn_rule.TurnRule.TheVariants.{Xy, WestFirst, NorthLast, NegativeFirst}
use Rattle.routes.specs.declared.hop.Hop.{Hop}
use Rattle.routes.specs.declared.stream.Request.{Request}
use Rattle.routes.specs.Routes.{hop_on}
use Rattle.lanes.specs.declared.strip.Strip.{Strip}
use Rattle.script.specs.declared.command.MeasureName.{MeasureName}
use Rattle.script.specs.declared.command.MeasureName.TheVariants.{Total, Peak}
use Rattle.script.specs.declared.command.BeatName.{BeatName}
use Rattle.script.specs.declared.command.BeatName.TheVariants.{Even, Uneven}
use Rattle.script.specs.declared.mistake.Mistake.TheVariants.{MissingWord, ExtraWord, UnknownRule, UnknownMeasure, UnknownBeat}
use Rattle.script.specs.Numbers.{decimal_of}
use Rattle.script.specs.Reads.{Read, and_then}
use Rattle.script.specs.Hops.{hops_in}

-- the turn rule that a word names
abbrev pub rule_of : List ℕ → Read TurnRule
rule_of w =
    cond (bytes_eq w (codes "xy")) (Ok Xy)
    (cond (bytes_eq w (codes "west-first")) (Ok WestFirst)
    (cond (bytes_eq w (codes "north-last")) (Ok NorthLast)
    (cond (bytes_eq w (codes "negative-first")) (Ok NegativeFirst)
    (Err UnknownRule))))

-- the measure that a word names
abbrev pub measure_of : List ℕ → Read MeasureName
measure_of w = cond (bytes_eq w (codes "total")) (Ok Total) (cond (bytes_eq w (codes "peak")) (Ok Peak) (Err UnknownMeasure))

-- the beat that a word names
abbrev pub beat_of : List ℕ → Read BeatName
beat_of w = cond (bytes_eq w (codes "even")) (Ok Even) (cond (bytes_eq w (codes "uneven")) (Ok Uneven) (Err UnknownBeat))

-- the first word as f reads it, and the words behind it
abbrev pub first : {A : Type 0} → (List ℕ → Read A) → List (List ℕ) → Read A
first f [] = Err MissingWord
first f (w ∷ ws) = f w

abbrev pub behind : List (List ℕ) → List (List ℕ)
behind [] = []
behind (w ∷ ws) = ws

-- the words behind the first n
abbrev pub past : ℕ → List (List ℕ) → List (List ℕ)
past zero ws = ws
past (suc n) ws = past n (behind ws)

abbrev pub first_rule : List (List ℕ) → Read TurnRule
first_rule ws = first rule_of ws

abbrev pub first_measure : List (List ℕ) → Read MeasureName
first_measure ws = first measure_of ws

-- a number of 16 bits, of 8 and of 32
abbrev pub first_number : List (List ℕ) → Read ℕ
first_number ws = first (decimal_of 65535) ws

abbrev pub first_small_number : List (List ℕ) → Read ℕ
first_small_number ws = first (decimal_of 255) ws

abbrev pub first_large_number : List (List ℕ) → Read ℕ
first_large_number ws = first (decimal_of 4294967295) ws

-- RULE WIDTH HEIGHT
abbrev pub first_shape : List (List ℕ) → Read (TurnRule × ℕ × ℕ)
first_shape ws =
    and_then (first_rule ws) (λ rule. and_then (first_number (behind ws)) (λ w. and_then (first_number (past 2 ws)) (λ h. Ok (rule, w, h))))

-- FROM TO DEMAND
abbrev pub first_request : List (List ℕ) → Read Request
first_request ws =
    and_then (first_number ws) (λ from. and_then (first_number (behind ws)) (λ to. and_then (first_number (past 2 ws)) (λ demand.
    Ok (record { source = from; target = to; demand = demand }))))

abbrev pub nothing_more : List (List ℕ) → Read (Unit {0})
nothing_more [] = Ok tt
nothing_more (w ∷ ws) = Err ExtraWord

-- BEAT, or nothing for the even one, and nothing more
abbrev pub last_beat : List (List ℕ) → Read BeatName
last_beat [] = Ok Even
last_beat (w ∷ ws) = and_then (beat_of w) (λ beat. and_then (nothing_more ws) (λ _. Ok beat))

-- a number of 16 bits, and nothing more
abbrev pub only_number : List (List ℕ) → Read ℕ
only_number ws = and_then (first_number ws) (λ n. and_then (nothing_more (behind ws)) (λ _. Ok n))

-- LINK LANE, and nothing more
abbrev pub only_hop : List (List ℕ) → Read Hop
only_hop ws =
    and_then (first_number ws) (λ link. and_then (first_small_number (behind ws)) (λ lane.
    and_then (nothing_more (past 2 ws)) (λ _. Ok (hop_on link lane))))

-- FRAGMENT BAND ROW, and nothing more
abbrev pub only_strip : List (List ℕ) → Read Strip
only_strip ws =
    and_then (first_large_number ws) (λ fragment. and_then (first_small_number (behind ws)) (λ band. and_then (first_number (past 2 ws)) (λ row.
    and_then (nothing_more (past 3 ws)) (λ _. Ok (record { fragment = fragment; band = band; row = row })))))

-- FROM TO DEMAND HOP..
abbrev pub request_and_hops : List (List ℕ) → Read (Request × List Hop)
request_and_hops ws = and_then (first_request ws) (λ request. and_then (hops_in (past 3 ws)) (λ hops. Ok (request, hops)))
