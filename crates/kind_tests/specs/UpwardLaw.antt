-- The kind owes what a policy owes: it is safe, and its open streams can be opened again.
use Rattle.std.specs.Prelude.{◌≡◌, ℕ, zero, suc, ◌<◌, false, List, ◌++◌, length, None}
use Rattle.std.specs.List.{AllByRecursion}
use Rattle.std.proofs.Common.{ap, ⊎_elim, arith}
use Rattle.std.proofs.ByRecursion.{All-from_get_or}
use Rattle.std.proofs.lemmas.Bool.{cases_eq, and_parts, not-false, ltb-true, ltb-false, le-ltb}
use Rattle.std.proofs.lemmas.Bool.Decides.{nat_tests}
use Rattle.refusals.specs.declared.refusal.Refusal.TheVariants.{BadEndpoints, HopCount}
use Rattle.layouts.specs.Layout.{Topology}
use Rattle.routes.specs.declared.hop.Hop.{Hop}
use Rattle.routes.specs.declared.stream.Request.{Request}
use Rattle.routes.specs.Routes.{count_fits, hop_at}
use Rattle.routes.specs.Checks.{unless, at_hop, field_checks}
use Rattle.routes.proofs.Judging.{passed, nowhere}
use Rattle.routes.proofs.Firsts.{first_none, first_all, first_below_none, none_below}
use Rattle.model.specs.Grid.{Setting, Streams, route_of}
use Rattle.model.specs.Kinds.{on_kind}
use Rattle.model.specs.Safe.{OnGrid as HopOnGrid, Proper, Rises, Reached, Safe}
use Rattle.model.specs.Reopening.{Reopens}
use Rattle.model.proofs.Loads.{Bears}
use Rattle.model.proofs.Ranks.{apart_by_place, rises_by_place, all_there}
use Rattle.model.proofs.Reopening.{routes_hold, reopens_by}
use Rattle.model.proofs.Routes.{proper_none}
use Rattle.kind_tests.specs.declared.check.Check.{Check}
use Rattle.kind_tests.specs.declared.check.Check.TheVariants.{OnGrid, Start, Joint, Number, End, Capacity}
use Rattle.kind_tests.specs.Upward.{Terms, terms_on, fails, refusal_of, hop_check, route_checks, judgement, upward}

module _ (w : Topology) (lanes : ℕ) where
  module _ (q : Request) (hops : List Hop) where
    -- What is asked of a stream whatever the loads and the capacity are: every check but the last, by its own terms.
    abbrev unloaded : Terms
    unloaded = terms_on w lanes 0 (λ _. None)

    record Asked : Type 0 where
      fields : AllByRecursion (λ o. o ≡ None) (field_checks w.tiles q)
      count : unless (count_fits hops) HopCount ≡ None
      on_grid : hop_check unloaded q hops OnGrid ≡ None
      start : hop_check unloaded q hops Start ≡ None
      joint : hop_check unloaded q hops Joint ≡ None
      number : hop_check unloaded q hops Number ≡ None
      end : hop_check unloaded q hops End ≡ None

    none_fails : (t : Terms) (c : Check) → hop_check t q hops c ≡ None → (k : ℕ) → k < length hops → fails t q hops c k ≡ false
    none_fails t c e = none_below (fails t q hops c) (length hops) (nowhere (refusal_of c) _ e)

    module _ (capacity : ℕ) (streams : Streams) where
      abbrev t : Terms
      t = terms_on w lanes capacity streams

      asks : judgement t q hops ≡ None → Asked × Bears capacity streams q hops
      unfolding judgement
      asks judged =
          let all = first_none (field_checks w.tiles q ++ route_checks t q hops) judged in
          let route = all.1.1 in (
            record {
              fields = (all.0, (all.1.0, tt));
              count = route.0;
              on_grid = route.1.0;
              start = route.1.1.0;
              joint = route.1.1.1.0;
              number = route.1.1.1.1.0;
              end = route.1.1.1.1.1.0;
            },
            λ k low. ltb-false _ _ (none_fails t Capacity route.1.1.1.1.1.1.0 k low),
          )

      lets_in : Asked → Bears capacity streams q hops → judgement t q hops ≡ None
      unfolding judgement
      lets_in a bears =
          let borne : hop_check t q hops Capacity ≡ None =
          ap (at_hop (refusal_of Capacity)) (first_below_none (fails t q hops Capacity) (length hops) (λ k low. le-ltb _ _ (bears k low))) in
          first_all (field_checks w.tiles q ++ route_checks t q hops)
          (a.fields.0, (a.fields.1.0, (a.count, (a.on_grid, (a.start, (a.joint, (a.number, (a.end, (borne, tt)))))))))

    module _ (a : Asked) where
      tiles : (q.source < w.tiles) × (q.target < w.tiles)
      tiles =
          let source = and_parts _ _ (passed _ BadEndpoints a.fields.0) in
          let target = and_parts _ _ source.1 in
          (ltb-true _ _ source.0, ltb-true _ _ target.0)

      there : (k : ℕ) → k < length hops → ((hop_at hops k).link < w.links) × ((hop_at hops k).lane < lanes)
      there k low =
          let on_grid = and_parts _ _ (not-false _ (none_fails unloaded OnGrid a.on_grid k low)) in
          (ltb-true _ _ on_grid.0, ltb-true _ _ on_grid.1)

      -- the numbers of the links rise, to the next hop and so to all later ones
      rises : (k : ℕ) → suc k < length hops → (hop_at hops k).link < (hop_at hops (suc k)).link
      rises k low =
          let falls = none_fails unloaded Number a.number (suc k) low in
          grind (arith, nat_tests)

      rises_on : (j k : ℕ) → j < k → k < length hops → (hop_at hops j).link < (hop_at hops k).link
      rises_on j zero before low = absurd (omega arith)
      rises_on j (suc k) before low =
          ⊎_elim
          (λ (next : j ≡ k). rw next (rises k low))
          (λ (other : j ≡ k → ⊥). omega (arith, rises_on j k (omega arith) (omega arith), rises k low))
          (cases_eq j k)

  module _ (depth capacity slots : ℕ) where
    abbrev S : Setting
    S = on_kind (upward w) lanes depth capacity slots

    -- an upward route is proper, and the numbers of its links rise
    abbrev number : Hop → ℕ
    number h = h.link

    abbrev Upward : List Hop → Type 0
    Upward hops = Proper S hops × Rises number hops

    asked_upward : (q : Request) (hops : List Hop) → Asked q hops → Upward hops
    asked_upward q hops a = (
      record {
        on_grid = All-from_get_or (HopOnGrid S) hops _ (there q hops a);
        apart = apart_by_place hops (λ j k before low same. omega (arith, rises_on q hops a j k before low));
      },
      rises_by_place number hops (rises q hops a),
    )

    all_upward : (streams : Streams) → Reached S.judge streams → (n : ℕ) → Upward (route_of (streams n))
    all_upward = routes_hold S.judge Upward (proper_none S, tt) (λ streams q hops judged. asked_upward q hops (asks q hops capacity streams judged).0)

    pub upward_safe : Safe S
    upward_safe = record {
      takes = λ streams q hops judged.
          let a = (asks q hops capacity streams judged).0 in
          record { count = passed _ HopCount a.count; there = all_there hops (there q hops a) };
      proper = λ streams reached n. (all_upward streams reached n).0;
      ranked = λ streams reached. (number, λ n. (all_upward streams reached n).1);
    }

  pub upward_reopens : (capacity : ℕ) → Reopens (upward w) lanes capacity
  upward_reopens capacity =
      reopens_by (upward w) lanes capacity Asked tiles (λ streams q hops. asks q hops capacity streams) (λ streams q hops. lets_in q hops capacity streams)
