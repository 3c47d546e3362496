-- What a grid bears.
use Rattle.std.specs.Prelude.{ℕ, zero, suc, List, length, max, Option}
use Rattle.std.specs.List.{sum_by}
use Rattle.routes.specs.Routes.{OpenStream}
use Rattle.routes.specs.Loads.{load}
use Rattle.plan.specs.declared.line.Summary.{Summary}
use Rattle.plan.specs.Plans.{open_streams}

-- how many hops their routes have together
abbrev pub hop_count : List (ℕ × OpenStream) → ℕ
hop_count records = sum_by (λ r. length r.1.hops) records

-- the largest of f over the numbers below n, or 0 where there is none
abbrev pub largest_below : ℕ → (ℕ → ℕ) → ℕ
largest_below zero f = 0
largest_below (suc n) f = max (largest_below n f) (f n)

-- the count of open streams, of the hops of their routes, and the largest load of a link, of so many
abbrev pub summary_of : ℕ → (ℕ → Option OpenStream) → Summary
summary_of links streams = record {
  streams = length (open_streams streams);
  hops = hop_count (open_streams streams);
  load = largest_below links (load streams);
}
