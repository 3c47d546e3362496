-- A route is judged acceptable exactly if it is.
use Rattle.std.proofs.Common.{◌≡◌, ℕ, zero, suc, ◌+◌, ◌-◌, ◌<◌, ◌≤◌, Bool, true, false, not, ◌&&◌, eqb, ltb, List, [], ◌∷◌, ◌++◌, map, length, take, Some, None, Option, sym, refl, ap, ◌∙◌, subst, add-one, arith}
use Rattle.std.specs.List.{AllByRecursion as All}
use Rattle.std.proofs.lemmas.List.{length-take-le, get_or-take}
use Rattle.std.proofs.lemmas.Bool.{both_ways, not-true, not-false, not_from_true, not_from_false, and_from, and_parts, and_right, eqb-true, eqb-false, eq-eqb, ne_eqb, leb-true, le-leb, ltb-true, ltb-false, lt-ltb, le-ltb}
use Rattle.refusals.specs.declared.refusal.Refusal.{Refusal}
use Rattle.layouts.specs.declared.turn.Turn.{Turn}
use Rattle.layouts.specs.declared.turn.Turn.TheVariants.{Never, Free, Climb}
use Rattle.routes.specs.declared.check.Check.{Check}
use Rattle.routes.specs.declared.check.Check.TheVariants.{OnGrid, Start, Turn as TurnCheck, Lane, End, Once, Capacity}
use Rattle.routes.specs.declared.declined.Declined.{Declined}
use Rattle.routes.specs.declared.hop.Hop.{Hop}
use Rattle.routes.specs.declared.stream.Request.{Request}
use Rattle.routes.specs.Routes.{hop_at, uses}
use Rattle.routes.specs.Checks.{Terms, unless, at_hop, field_checks, never, lanes_fit, fails, refusal_of, hop_checks, hop_check, route_checks, judgement}
use Rattle.routes.specs.Acceptable.{Acceptable}
use Rattle.routes.proofs.HopLists.{not_used, used_nowhere}
use Rattle.routes.proofs.Firsts.{first_none, first_all, first_below_none, none_below}

-- A check that declines nothing is passed.
pub passed : (test : Bool) (r : Refusal) → unless test r ≡ None → test ≡ true
passed true r e = refl
passed false r e = cc

passes : (test : Bool) (r : Refusal) → test ≡ true → unless test r ≡ None
passes test r e = ap (λ t. unless t r) e

pub nowhere : (r : Refusal) (hop : Option ℕ) → at_hop r hop ≡ None → hop ≡ None
nowhere r None e = refl
nowhere r (Some k) e = cc

-- What a turn and two lanes say.
never_false : (w : Turn) → never w ≡ false → w ≡ Never → ⊥
never_false w e n = both_ways (never w) e (ap never n)

false_if_not_never : (w : Turn) → (w ≡ Never → ⊥) → never w ≡ false
false_if_not_never Never n = absurd (n refl)
false_if_not_never Free n = refl
false_if_not_never Climb n = refl

keeps_lane : (w : Turn) (a b : ℕ) → lanes_fit w a b ≡ true → a ≤ b
keeps_lane Never a b e = leb-true a b e
keeps_lane Free a b e = leb-true a b e
keeps_lane Climb a b e = omega (arith, ltb-true a b e)

lane_rises : (w : Turn) (a b : ℕ) → lanes_fit w a b ≡ true → w ≡ Climb → a < b
lane_rises w a b e c = ltb-true a b (subst (λ v. lanes_fit v a b ≡ true) c e)

lanes_fit_lem : (w : Turn) (a b : ℕ) → a ≤ b → (w ≡ Climb → a < b) → lanes_fit w a b ≡ true
lanes_fit_lem Never a b l c = le-leb a b l
lanes_fit_lem Free a b l c = le-leb a b l
lanes_fit_lem Climb a b l c = lt-ltb a b (c refl)

-- A link stands ahead of hop k exactly if a hop ahead has it.
module _ (link : ℕ) (hops : List Hop) (k : ℕ) (l : k < length hops) where
  same_link : (j : ℕ) → j < k → (hop_at (take k hops) j).link ≡ (hop_at hops j).link
  same_link j b = ap (λ (h : Hop). h.link) (get_or-take k hops j _ b)

  length_ahead : length (take k hops) ≡ k
  length_ahead = length-take-le k hops (omega arith)

  not_used_before : uses link (take k hops) ≡ false → (j : ℕ) → j < k → (hop_at hops j).link ≡ link → ⊥
  not_used_before e j b same = not_used link (take k hops) e j (omega (arith, length_ahead)) (same_link j b ∙ same)

  used_nowhere_before : ((j : ℕ) → j < k → (hop_at hops j).link ≡ link → ⊥) → uses link (take k hops) ≡ false
  used_nowhere_before none =
      used_nowhere link (take k hops) (λ j (b : j < length (take k hops)) same. let b' : j < k = omega (arith, length_ahead) in none j b' (sym (same_link j b') ∙ same))

-- Two tiles that have to be the same under a condition.
same_where : (x : Bool) (a b : ℕ) → (x ≡ true → a ≡ b) → (x && not (eqb a b)) ≡ false
same_where true a b same = not_from_true _ (eq-eqb a b (same refl))
same_where false a b same = refl

-- A test of two hops in turn, made at the second.
second_fails : (x y : Bool) → x ≡ true → (x && y) ≡ false → y ≡ false
second_fails x y t e = ap (λ b. b && y) (sym t) ∙ e

module _ (hops : List Hop) (bad : Hop → Hop → Bool) where
  abbrev BadAt : ℕ → Bool
  BadAt k = ltb 0 k && bad (hop_at hops (k - 1)) (hop_at hops k)

  pair_passed : (k : ℕ) → BadAt (k + 1) ≡ false → bad (hop_at hops k) (hop_at hops (k + 1)) ≡ false
  pair_passed k e =
      let back : k + 1 - 1 ≡ k = omega arith in
      subst (λ j. bad (hop_at hops j) (hop_at hops (k + 1)) ≡ false) back (second_fails _ _ (lt-ltb 0 (k + 1) (omega arith)) e)

  pair_passes : ((k : ℕ) → k + 1 < length hops → bad (hop_at hops k) (hop_at hops (k + 1)) ≡ false) → (k : ℕ) → k < length hops → BadAt k ≡ false
  pair_passes all zero l = refl
  pair_passes all (suc k) l =
      let back : suc k - 1 ≡ k = omega arith in
      and_right _ _ (subst (λ j. bad (hop_at hops j) (hop_at hops (suc k)) ≡ false) (sym back)
      (subst (λ j. bad (hop_at hops k) (hop_at hops j) ≡ false) (add-one k) (all k (omega arith))))

module _ (t : Terms) (q : Request) (hops : List Hop) where
  abbrev turn_at : Hop → Hop → Turn
  turn_at g h = t.layout.turn g.link h.link

  abbrev lane_falls : Hop → Hop → Bool
  lane_falls g h = not (lanes_fit (turn_at g h) g.lane h.lane)

  abbrev all_checks : List (Option Declined)
  all_checks = field_checks t.layout.tiles q ++ route_checks t q hops

  abbrev NoneDeclines : List Check → Type 0
  NoneDeclines checks = All (λ o. o ≡ None) (map (hop_check t q hops) checks)

  -- A check of the route that declines nothing is failed by no hop.
  none_fails : (c : Check) → hop_check t q hops c ≡ None → (k : ℕ) → k < length hops → fails t q hops c k ≡ false
  none_fails c e = none_below (fails t q hops c) (length hops) (nowhere (refusal_of c) _ e)

  each_passed : NoneDeclines hop_checks → (c : Check) (k : ℕ) → k < length hops → fails t q hops c k ≡ false
  each_passed all OnGrid = none_fails OnGrid all.0
  each_passed all Start = none_fails Start all.1.0
  each_passed all TurnCheck = none_fails TurnCheck all.1.1.0
  each_passed all Lane = none_fails Lane all.1.1.1.0
  each_passed all End = none_fails End all.1.1.1.1.0
  each_passed all Once = none_fails Once all.1.1.1.1.1.0
  each_passed all Capacity = none_fails Capacity all.1.1.1.1.1.1.0

  pub acceptable : judgement t q hops ≡ None → Acceptable t q hops
  unfolding judgement
  acceptable e =
      let all = first_none all_checks e in
      let tiles = and_parts _ _ (passed _ _ all.0) in
      let target = and_parts _ _ tiles.1 in
      let count = and_parts _ _ (passed _ _ all.1.1.0) in
      let none = each_passed all.1.1.1 in
      let on_grid = λ (k : ℕ) (l : k < length hops). and_parts _ _ (not-false _ (none OnGrid k l)) in
      let fit = λ (k : ℕ) (l : k + 1 < length hops). not-false _ (pair_passed hops lane_falls k (none Lane (k + 1) l)) in
      record {
        source = ltb-true _ _ tiles.0;
        target = ltb-true _ _ target.0;
        two_tiles = eqb-false _ _ (not-true _ target.1);
        demand = ltb-true _ _ (passed _ _ all.1.0);
        count = (ltb-true _ _ count.0, leb-true _ _ count.1);
        on_grid = λ k l. (ltb-true _ _ (on_grid k l).0, ltb-true _ _ (on_grid k l).1);
        starts = eqb-true _ _ (not-false _ (none Start 0 (ltb-true _ _ count.0)));
        turns = λ k l. never_false _ (pair_passed hops (λ g h. never (turn_at g h)) k (none TurnCheck (k + 1) l));
        keeps_lane = λ k l. keeps_lane _ _ _ (fit k l);
        climbs = λ k l. lane_rises _ _ _ (fit k l);
        ends = λ k e. eqb-true _ _ (not-false _ (second_fails _ _ (eq-eqb _ _ e) (none End k (omega arith))));
        once = λ j k b l. not_used_before _ hops k l (none Once k l) j b;
        bears = λ k l. ltb-false _ _ (none Capacity k l);
      }

  -- No hop of an acceptable route fails a check.
  no_hop_fails : Acceptable t q hops → (c : Check) (k : ℕ) → k < length hops → fails t q hops c k ≡ false
  no_hop_fails a OnGrid k l = not_from_true _ (and_from _ _ (lt-ltb _ _ (a.on_grid k l).0) (lt-ltb _ _ (a.on_grid k l).1))
  no_hop_fails a Start k l = same_where _ _ _ (λ first. ap (λ n. t.layout.start (hop_at hops n).link) (eqb-true k 0 first) ∙ a.starts)
  no_hop_fails a TurnCheck k l = pair_passes hops (λ g h. never (turn_at g h)) (λ j m. false_if_not_never _ (a.turns j m)) k l
  no_hop_fails a Lane k l = pair_passes hops lane_falls (λ j m. not_from_true _ (lanes_fit_lem _ _ _ (a.keeps_lane j m) (a.climbs j m))) k l
  no_hop_fails a End k l = same_where _ _ _ (λ last. a.ends k (eqb-true _ _ last))
  no_hop_fails a Once k l = used_nowhere_before _ hops k l (λ j b. a.once j k b l)
  no_hop_fails a Capacity k l = le-ltb _ _ (a.bears k l)

  each_passes : Acceptable t q hops → (checks : List Check) → NoneDeclines checks
  each_passes a [] = tt
  each_passes a (c ∷ checks) = (ap (at_hop (refusal_of c)) (first_below_none (fails t q hops c) (length hops) (no_hop_fails a c)), each_passes a checks)

  pub accepted : Acceptable t q hops → judgement t q hops ≡ None
  unfolding judgement
  accepted a =
      let tiles = and_from _ _ (lt-ltb _ _ a.source) (and_from _ _ (lt-ltb _ _ a.target) (not_from_false _ (ne_eqb _ _ a.two_tiles))) in
      let demand = lt-ltb _ _ a.demand in
      let count = and_from _ _ (lt-ltb _ _ a.count.0) (le-leb _ _ a.count.1) in
      first_all all_checks (passes _ _ tiles, (passes _ _ demand, (passes _ _ count, each_passes a hop_checks)))
