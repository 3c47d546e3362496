-- The table of costs, link by link.
use Rattle.std.proofs.Common.{◌≡◌, ℕ, ◌<◌, ◌≤◌, cond, nat_lt, List, get_or, replicate, None, Option, arith, ⊎_elim}
use Rattle.std.proofs.lemmas.Bool.{le-ltb, cases_lt}
use Rattle.std.proofs.lemmas.List.{get_or-replicate, get_or_past}

-- a table whose first n entries are those of a function, and all others none
abbrev pub FilledTo : (ℕ → Option ℕ) → ℕ → List (Option ℕ) → Type 0
FilledTo f n table = (k : ℕ) → get_or table k None ≡ cond (nat_lt k n) (f k) None

pub filled_none : (f : ℕ → Option ℕ) → FilledTo f 0 (replicate 256 None)
filled_none f k =
    rw (le-ltb k 0 (omega arith))
    (⊎_elim (λ (less : k < 256). get_or-replicate 256 k None None less) (λ (past : 256 ≤ k). get_or_past (replicate 256 None) k None past) (cases_lt k 256))
