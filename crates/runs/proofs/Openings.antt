-- Openings on routes that are given, or searched for by a measure.
use Rattle.std.proofs.Common.{ℕ, true, false, List, length, Some, None, Ok, Err, Result, refl, ap}
use Rattle.layouts.specs.Layout.{Meaning}
use Rattle.routes.specs.declared.declined.Declined.{Declined}
use Rattle.routes.specs.declared.hop.Hop.{Hop}
use Rattle.routes.specs.declared.stream.Request.{Request}
use Rattle.model.specs.Kinds.{Kind, by_rules}
use Rattle.model.specs.Calls.{opens, done, declined}
use Rattle.search.specs.Scales.{Scale}
use Rattle.grid.specs.declared.tables.Tables.{Tables}
use Rattle.grid.specs.Makes.{Edits}
use Rattle.grid.specs.Seeks.{SeekFindsIn, Seeks}
use Rattle.runs.specs.Routings.{Asked, asked_of, OpensBy, hops_unless, FindsGiven}
use Rattle.runs.proofs.Edited.{refusal_told}

module _ {V : Type 0} (k : Kind) (t t' : Tables) (n : ℕ) (q : Request) (values : List V) (marks : List ℕ) where
  abbrev a : Asked
  a = asked_of t n q values marks

  pub given_opens : (hops : List Hop) → Edits k t (opens n q hops) done t' → OpensBy false (FindsGiven k hops a) k t a (Ok None) t'
  given_opens hops edits = record {
    found = Ok hops;
    finds = ap (λ o. hops_unless o hops) (refusal_told k t t' n None q hops values marks edits);
    answer = refl;
    leaves = edits;
  }

  pub given_declined : (hops : List Hop) (d : Declined) → Edits k t (opens n q hops) (declined d) t'
      → OpensBy false (FindsGiven k hops a) k t a (Err d) t'
  given_declined hops d edits = record {
    found = Err d;
    finds = ap (λ o. hops_unless o hops) (refusal_told k t t' n (Some d) q hops values marks edits);
    answer = refl;
    leaves = edits.made.declined refl;
  }

module _ {V : Type 0} (s : Scale V) (m : Meaning) (t t' : Tables) (n : ℕ) (q : Request) (values : List V) (marks : List ℕ) where
  abbrev Finds : Result (List Hop) Declined → Type 0
  Finds = SeekFindsIn s m t n q (length values) (length marks)

  pub best_opens : (count : ℕ) → Seeks s m t n q (length values) (length marks) (Ok count) t'
      → OpensBy true Finds (by_rules m) t (asked_of t n q values marks) (Ok (Some count)) t'
  best_opens count seeks = record {
    found = Ok seeks.0;
    finds = seeks.2;
    answer = ap (λ count. Ok (Some count)) seeks.1;
    leaves = seeks.3;
  }

  pub best_declined : (d : Declined) → Seeks s m t n q (length values) (length marks) (Err d) t'
      → OpensBy true Finds (by_rules m) t (asked_of t n q values marks) (Err d) t'
  best_declined d seeks = record { found = Err d; finds = seeks.0; answer = refl; leaves = seeks.1 }
