-- What several rehearsals come to together, and how it is written.
use Rattle.std.specs.Prelude.{ℕ, ◌+◌, Bool, true, false, List, ◌++◌, Some, None, codes, decimal, Option, ◌==◌}
use Rattle.std.specs.List.{sum_by}
use Rattle.rehearsal.specs.declared.rehearse.Rehearsal.{Rehearsal}
use Rattle.rehearsal.specs.declared.tally.Tally.{Tally}
use Rattle.rehearsal.specs.declared.total.Total.{Total}
use Rattle.rehearsal.specs.Strips.{counted}

-- how many strips a stream sent, and all of them together
abbrev pub strips_sent : Option Tally → ℕ
strips_sent None = 0
strips_sent (Some tally) = tally.sent

abbrev pub sent_together : List (Option Tally) → ℕ
sent_together tallies = sum_by strips_sent tallies

-- a total with one rehearsal more
abbrev pub total_with : Total → Rehearsal → Total
total_with total r = record {
  sent = counted (total.sent + sent_together r.tallies);
  out = counted (total.out + r.items);
  steps = counted (total.steps + r.steps);
  ahead = counted (total.ahead + r.ahead);
}

-- N strips went in and N came out, in N steps, the number known ahead; or not the number
abbrev pub known_text : Bool → List ℕ
known_text true = codes "the number"
known_text false = codes "not the number"

abbrev pub strips_text : ℕ → ℕ → List ℕ
strips_text sent out = decimal sent ++ (codes " strips went in and " ++ (decimal out ++ codes " came out"))

abbrev pub steps_text : ℕ → ℕ → List ℕ
steps_text steps ahead = codes "in " ++ (decimal steps ++ (codes " steps, " ++ (known_text (steps == ahead) ++ codes " known ahead")))

abbrev pub total_text : Total → List ℕ
total_text t = strips_text t.sent t.out ++ (codes ", " ++ steps_text t.steps t.ahead)
