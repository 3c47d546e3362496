-- The first round at which a walk arrives ends the search.
use Rattle.std.proofs.Common.{◌≡◌, ℕ, zero, suc, ◌+◌, ◌-◌, ◌/◌, ◌<◌, ◌≤◌, true, false, List, [], ◌∷◌, length, length-take, take, Some, None, Ok, Err, Result, sym, refl, ap, ◌∙◌, ⊎_elim, arith}
use Rattle.std.proofs.lemmas.Bool.{cases_lt, and_parts, and_from, lt-ltb, le-leb, ltb-true, eqb-true, eq-eqb, false≢true}
use Rattle.std.proofs.lemmas.List.{get_or-take}
use Rattle.std.specs.Result.{MatchResult, result_ok}
use Rattle.refusals.specs.declared.refusal.Refusal.{Refusal}
use Rattle.refusals.specs.declared.refusal.Refusal.TheVariants.{HopCount}
use Rattle.routes.specs.declared.hop.Hop.{Hop}
use Rattle.routes.specs.declared.route.Route.{Route}
use Rattle.routes.specs.Routes.{hops_of, hop_on, hop_at, count_fits}
use Rattle.search.specs.Scales.{Scale, Ordered}
use Rattle.search.specs.Walks.{Problem, places, Walk, Arrives, value_of, NoneWithin, back, BestWalk, FindsWalk}
use Rattle.search.specs.Rows.{earlier, path, Reached, Row, Least, Arrival}
use Rattle.search.proofs.Walking.{place_of}
use Rattle.search.proofs.NextRow.{ends}

-- a walk to a place of row k has k + 1 hops
length-earlier : (P : Problem) (marks : ℕ → ℕ → ℕ) (k mark : ℕ) → length (earlier P marks k mark) ≡ k
length-earlier P marks zero mark = refl
length-earlier P marks (suc k) mark = ap suc (length-earlier P marks k (marks k (mark - 1)))

module _ {V : Type 0} (s : Scale V) (P : Problem) (marks : ℕ → ℕ → ℕ) (values : ℕ → V) (k : ℕ) (row : Row s P marks values k (places P)) (early : NoneWithin P k) where
  -- a walk of k + 1 hops that arrives does so at a place of row k whose value is not above what it measures
  record At (walk : List Hop) : Type 0 where
    place : ℕ
    arrival : Arrival P marks k (places P) place
    below : s.not_above (values place) (value_of s P walk) ≡ true

  at : (walk : List Hop) → Walk P walk → length walk ≡ suc k → Arrives P walk → At walk
  at [] is long arrives = absurd is
  at (h ∷ rest) is long arrives =
      let last = ends s P marks values k row h rest (omega (arith, long)) is in
      record {
        place = place_of P h;
        arrival = record {
          seen = last.there;
          is = and_from _ _ (lt-ltb 0 (marks k (place_of P h)) last.marked) (eq-eqb _ _ (ap (λ top. P.layout.end top.link) last.is_hop ∙ arrives));
        };
        below = last.below;
      }

  pub none_arrives : Least s values (Arrival P marks k (places P)) None → NoneWithin P (k + 1)
  none_arrives none walk is few arrives =
      ⊎_elim (λ (short : length walk < suc k). early walk is (omega arith) arrives)
      (λ long. let there = at walk is (omega arith) arrives in none there.place there.arrival)
      (cases_lt (length walk) (suc k))

  -- the place at which a walk arrives with the least value
  module _ (ordered : Ordered s) (place : ℕ) (least : Least s values (Arrival P marks k (places P)) (Some place)) (few : k < 24) where
    arrival : (1 ≤ marks k place) × (P.layout.end (place / P.lanes) ≡ P.target)
    arrival = let parts = and_parts _ _ least.0.is in (ltb-true _ _ parts.0, eqb-true _ _ parts.1)

    pub reached : Reached s P marks k place (marks k place) (values place)
    reached = (row place least.0.seen).reached arrival.0

    long : length (path P marks k (marks k place) place) ≡ suc k
    long = ap suc (length-earlier P marks k (marks k place))

    pub best_arrives : BestWalk s P (path P marks k (marks k place) place)
    best_arrives = record {
      is = reached.walk;
      arrives = arrival.1;
      few = omega (arith, long);
      fewest = λ other is arrives.
          ⊎_elim (λ (short : length other < suc k). absurd (early other is (omega arith) arrives)) (λ high. omega (arith, long, high)) (cases_lt (length other) (suc k));
      least = λ other is arrives same.
          let there = at other is (same ∙ long) arrives in
          rw reached.measures
          (ordered.transitive (values place) (values there.place) (value_of s P other) (least.1 there.place there.arrival) there.below);
    }

-- ---- the route that is read back

back_same : (f g : ℕ → Hop) (n : ℕ) → ((j : ℕ) → j < n → f j ≡ g j) → back f n ≡ back g n
back_same f g zero same = refl
back_same f g (suc n) same = ap (λ h. h ∷ back f n) (same n (omega arith)) ∙ ap (λ walk. g n ∷ walk) (back_same f g n (λ j less. same j (omega arith)))

module _ (table : List Hop) (k : ℕ) (whole : length table ≡ 24) (few : k < 24) where
  length_front : length (take (k + 1) table) ≡ k + 1
  length_front = length-take (k + 1) table ∙ omega arith

  pub front_fits : count_fits (take (k + 1) table) ≡ true
  front_fits = and_from _ _ (lt-ltb 0 (length (take (k + 1) table)) (omega (arith, length_front))) (le-leb (length (take (k + 1) table)) 24 (omega (arith, length_front)))

  pub back_front : back (hop_at (take (k + 1) table)) (length (take (k + 1) table)) ≡ back (hop_at table) (suc k)
  back_front =
      let one : k + 1 ≡ suc k = omega arith in
      ap (back (hop_at (take (k + 1) table))) (length_front ∙ one)
      ∙ back_same (hop_at (take (k + 1) table)) (hop_at table) (suc k) (λ j less. get_or-take (k + 1) table j (hop_on 0 0) (omega arith))

  -- the hops at the front of the table make a route
  pub finds_front : {V : Type 0} (s : Scale V) (P : Problem) (r : Result Route Refusal)
      → MatchResult r (λ route. (count_fits (take (k + 1) table) ≡ true) × (hops_of route ≡ take (k + 1) table)) (λ e. (count_fits (take (k + 1) table) ≡ false) × (e ≡ HopCount))
      → BestWalk s P (back (hop_at table) (suc k)) → FindsWalk s P (result_ok r)
  finds_front s P (Ok route) made best = rw (made.1, back_front) best
  finds_front s P (Err e) made best = absurd (false≢true (sym made.0 ∙ front_fits))
