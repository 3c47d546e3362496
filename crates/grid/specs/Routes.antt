-- How a list, as the hops of a route, is put into a table that a caller lends.
use Rattle.std.specs.Prelude.{◌≡◌, ℕ, List, ◌++◌, length, drop, Ok, Err, Result}
use Rattle.refusals.specs.declared.refusal.Refusal.{Refusal}

-- the list stands at the front of the table, the rest is as before, and the answer is its length; a refusal leaves the table
abbrev pub Puts : {A : Type 0} → Result (List A) Refusal → List A → Result ℕ Refusal → List A → Type 0
Puts (Ok list) before r after = (r ≡ Ok (length list)) × (after ≡ list ++ drop (length list) before)
Puts (Err e) before r after = (r ≡ Err e) × (after ≡ before)
