-- Reading a route back, hop by hop.
use Rattle.std.proofs.Common.{◌≡◌, ℕ, suc, ◌-◌, ◌<◌, ◌≤◌, List, ◌∷◌, length, length-set, set, ap, ◌∙◌, arith, get_or-set_same, get_or-set_other}
use Rattle.routes.specs.declared.hop.Hop.{Hop}
use Rattle.routes.specs.Routes.{hop_on, hop_at}
use Rattle.search.specs.Walks.{Problem, places, hop_of, back}
use Rattle.search.specs.Rows.{path, Leads}

-- The hops from row i on stand in the table, the marks lead on from the place that was read last, and a route that goes on from there as the
-- marks lead is the walk to the place of row k.
pub record Traced (P : Problem) (marks : ℕ → ℕ → ℕ) (k place i at : ℕ) (table : List Hop) : Type 0 where
  pub low : i ≤ k
  pub there : at < places P
  pub leads : Leads P marks i (marks i at)
  pub whole : length table ≡ 24
  pub last : hop_at table i ≡ hop_of P at
  pub completes : (route : ℕ → Hop) → ((j : ℕ) → i ≤ j → j ≤ k → route j ≡ hop_at table j) → back route (suc i) ≡ path P marks i (marks i at) at → back route (suc k) ≡ path P marks k (marks k place) place

module _ (P : Problem) (marks : ℕ → ℕ → ℕ) (k place : ℕ) where
  pub traced_more : (i at : ℕ) (table : List Hop) → k < 24 → Traced P marks k place (suc i) at table
      → Traced P marks k place i (marks (suc i) at - 1) (set table i (hop_of P (marks (suc i) at - 1)))
  traced_more i at table row so_far =
      let low = so_far.low in
      let hop : Hop = hop_of P (marks (suc i) at - 1) in
      record {
        low = omega arith;
        there = so_far.leads.1;
        leads = so_far.leads.2;
        whole = length-set table i hop ∙ so_far.whole;
        last = get_or-set_same table i hop (hop_on 0 0) (omega (arith, so_far.whole));
        completes = λ route same done.
            let later : (j : ℕ) → suc i ≤ j → j ≤ k → route j ≡ hop_at table j =
            λ j high low. same j (omega arith) low ∙ get_or-set_other table i j hop (hop_on 0 0) (λ e. omega arith) in
            so_far.completes route later
            (ap (λ h. h ∷ back route (suc i)) (later (suc i) (omega arith) low ∙ so_far.last) ∙ ap (λ walk. hop_of P at ∷ walk) done);
      }
