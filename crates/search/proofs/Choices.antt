-- A scale that holds another one finds what that one finds.
use Rattle.std.proofs.Common.{◌≡◌, ℕ, true, false, List, [], ◌∷◌, Ok, Err, Option, Result, sym, refl, ap, ◌∙◌}
use Rattle.routes.specs.declared.declined.Declined.{Declined}
use Rattle.routes.specs.declared.hop.Hop.{Hop}
use Rattle.routes.specs.declared.stream.Request.{Request}
use Rattle.routes.specs.Checks.{Terms}
use Rattle.search.specs.declared.choice.Either.TheVariants.{First, Second}
use Rattle.search.specs.Scales.{Scale, choice}
use Rattle.search.specs.Best.{extended, load_with, measured, Best}
use Rattle.search.specs.Finds.{Finds}

-- The values of a scale stand in another one, which starts, extends and orders them alike.
pub record Holds {V W : Type 0} (large : Scale W) (small : Scale V) (value : V → W) : Type 0 where
  pub start : large.start ≡ value small.start
  pub extend : (v : V) (load : ℕ) → large.extend (value v) load ≡ value (small.extend v load)
  pub not_above : (v w : V) → large.not_above (value v) (value w) ≡ small.not_above v w

module _ {V W : Type 0} (large : Scale W) (small : Scale V) (value : V → W) (holds : Holds large small value) where
  extended_so : (load : ℕ → ℕ) (v : V) (hops : List Hop) → extended large load (value v) hops ≡ value (extended small load v hops)
  extended_so load v [] = refl
  extended_so load v (h ∷ hops) = ap (λ w. extended large load w hops) (holds.extend v (load h.link)) ∙ extended_so load (small.extend v (load h.link)) hops

  measured_so : (t : Terms) (q : Request) (hops : List Hop) → measured large t q hops ≡ value (measured small t q hops)
  measured_so t q hops = ap (λ w. extended large (load_with t q) w hops) holds.start ∙ extended_so (load_with t q) small.start hops

  best_so : (t : Terms) (q : Request) (hops : List Hop) → Best large t q hops → Best small t q hops
  best_so t q hops best = record {
    acceptable = best.acceptable;
    fewest = best.fewest;
    least = λ other a same.
        sym (holds.not_above (measured small t q hops) (measured small t q other))
        ∙ (rw (measured_so t q hops, measured_so t q other) at (best.least other a same));
  }

  pub finds_so : (refusal : Option Declined) (t : Terms) (q : Request) (r : Result (List Hop) Declined) → Finds refusal large t q r → Finds refusal small t q r
  finds_so refusal t q (Ok hops) found = (found.0, best_so t q hops found.1)
  finds_so refusal t q (Err d) found = found

-- a choice holds both of its scales
pub holds_first : {V W : Type 0} (s : Scale V) (t : Scale W) → Holds (choice false s t) s First
holds_first s t = record { start = refl; extend = λ v load. refl; not_above = λ v w. refl }

pub holds_second : {V W : Type 0} (s : Scale V) (t : Scale W) → Holds (choice true s t) t Second
holds_second s t = record { start = refl; extend = λ v load. refl; not_above = λ v w. refl }
