-- Acts one after another.
use Rattle.std.proofs.Common.{◌≡◌, ℕ, ◌+◌, ◌≤◌, Bool, true, false, cond, ◌||◌, nat_lt, ◌∙◌, arith}
use Rattle.std.proofs.lemmas.Bool.Decides.{nat_tests}
use Rattle.rehearsal.specs.Rehearsals.{Moment, SendsNone, Idle, GoesOn}

-- one of two went
either_went : (a b : Bool) (count : ℕ) → let then = cond a (count + 1) count in cond (a || b) (count + 1) count ≤ cond b (then + 1) then
either_went true true count = omega arith
either_went true false count = omega arith
either_went false b count = omega arith

-- acts, and then more
pub goes_on_then : {strips : ℕ} {a b : Bool} {before between after : Moment}
    → GoesOn strips a before between → GoesOn strips b between after → GoesOn strips (a || b) before after
goes_on_then {a = a} {b = b} one two = record {
  stands = λ begun count so_far.
      (let then = two.stands begun (cond a (count + 1) count) (one.stands begun count so_far) in
      record { stands = then.stands; many = omega (arith, then.many, either_went a b count) });
  ahead = two.ahead ∙ one.ahead;
}

-- an act of a turn went, a send or a step
pub turn_went : (sent : Bool) (steps count : ℕ) → (sent || nat_lt 0 steps) ≡ true → count + 1 ≤ cond sent (count + 1) count + steps
turn_went true steps count went = omega arith
turn_went false steps count went = grind (arith, nat_tests)

-- where all is as it was, a stream that sends no strip still sends none
pub sends_none_still : {before after : Moment} → Idle before after → (strips n : ℕ) → SendsNone strips before n → SendsNone strips after n
sends_none_still idle strips n none tally entry left x goes =
    none tally (rw idle.report at entry) left x (rw (idle.kind, idle.slots, idle.tables.lanes, idle.tables.streams, idle.tables.capacity) at goes)
