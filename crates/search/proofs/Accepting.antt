-- Best walks are best routes.
use Rattle.std.proofs.Common.{◌≡◌, ℕ, zero, suc, ◌+◌, ◌-◌, ◌<◌, ◌≤◌, Bool, true, false, nat_lt, is_some, List, [], ◌∷◌, ◌++◌, length, take, Some, None, Option, ◌==◌, not, ◌&&◌, sym, refl, ap, ◌∙◌, subst, ⊎_elim, inr, arith}
use Rattle.std.proofs.lemmas.Bool.{cases_eq, lt-ltb, le-leb, ltb-true, and_parts, eq-eqb, false≢true, not-true}
use Rattle.std.proofs.lemmas.Bool.Decides.{nat_tests}
use Rattle.std.proofs.lemmas.List.{take_all, take_more}
use Rattle.std.specs.Option.{unwrap_or, option_or, ok_or}
use Rattle.std.specs.Result.{result_map_both}
use Rattle.refusals.specs.declared.refusal.Refusal.{Refusal}
use Rattle.refusals.specs.declared.refusal.Refusal.TheVariants.{BadEndpoints, ZeroAmount, NoRoute}
use Rattle.routes.specs.declared.declined.Declined.{Declined}
use Rattle.routes.specs.declared.route.Route.{Route}
use Rattle.routes.specs.declared.hop.Hop.{Hop}
use Rattle.routes.specs.declared.stream.Request.{Request}
use Rattle.routes.specs.Firsts.{first_of}
use Rattle.routes.specs.Routes.{hops_of, hop_on, hop_at}
use Rattle.routes.specs.Checks.{Terms, no_hop, unless, field_checks}
use Rattle.routes.specs.Acceptable.{Acceptable}
use Rattle.search.specs.Scales.{Scale}
use Rattle.search.specs.Best.{extended, load_with, measured, Best, NoneAcceptable}
use Rattle.search.specs.Walks.{Problem, cost_of, problem_of, Usable, Follows, Walk, Arrives, value_of, NoneWithin, back, BestWalk, FindsWalk}
use Rattle.search.specs.Finds.{Finds}
use Rattle.search.proofs.Walking.{raise}

pub length-back : (f : ℕ → Hop) (n : ℕ) → length (back f n) ≡ n
length-back f zero = refl
length-back f (suc n) = ap suc (length-back f n)

-- ---- the hops of a walk one by one

module _ (P : Problem) (f : ℕ → Hop) where
  usable_each : (n : ℕ) → Walk P (back f (suc n)) → (k : ℕ) → k < suc n → Usable P (f k)
  usable_each zero is k less = let first : k ≡ 0 = omega arith in rw first is.0
  usable_each (suc n) is k less =
      ⊎_elim (λ (last : k ≡ suc n). rw last is.0) (λ (other : k ≡ suc n → ⊥). usable_each n is.2 k (omega arith)) (cases_eq k (suc n))

  follows_each : (n : ℕ) → Walk P (back f (suc n)) → (k : ℕ) → k < n → Follows P.layout (f k) (f (suc k))
  follows_each zero is k less = absurd (omega arith)
  follows_each (suc n) is k less =
      ⊎_elim (λ (last : k ≡ n). rw last is.1) (λ (other : k ≡ n → ⊥). follows_each n is.2 k (omega arith)) (cases_eq k n)

  starts : (n : ℕ) → Walk P (back f (suc n)) → P.layout.start (f 0).link ≡ P.source
  starts zero is = is.1
  starts (suc n) is = starts n is.2

  front : (n : ℕ) → Walk P (back f (suc n)) → (k : ℕ) → k ≤ n → Walk P (back f (suc k))
  front zero is k low = let first : 0 ≡ k = omega arith in subst (λ j. Walk P (back f (suc j))) first is
  front (suc n) is k low = ⊎_elim (λ (last : k ≡ suc n). subst (λ j. Walk P (back f (suc j))) (sym last) is) (λ (other : k ≡ suc n → ⊥). front n is.2 k (omega arith)) (cases_eq k (suc n))

  lanes_rise : (n : ℕ) → Walk P (back f (suc n)) → (j d : ℕ) → j + d ≤ n → (f j).lane ≤ (f (j + d)).lane
  lanes_rise n is j zero low = let same : j + 0 ≡ j = omega arith in rw same (omega arith)
  lanes_rise n is j (suc d) low =
      let same : j + suc d ≡ suc (j + d) = omega arith in
      let so_far = lanes_rise n is j d (omega arith) in
      let keeps = (follows_each n is (j + d) (omega arith)).keeps_lane in
      rw same (omega arith)

  -- ---- a walk that arrives with the fewest hops goes over no link twice

  -- a walk that goes on from another one as this one does
  record Onward (k d : ℕ) (rest : List Hop) : Type 0 where
    earlier : List Hop
    walk : Walk P (f (k + d) ∷ earlier)
    long : length earlier ≡ d + length rest

  onward : (n : ℕ) → Walk P (back f (suc n)) → (k d : ℕ) (rest : List Hop) → k + d ≤ n → Walk P (f k ∷ rest) → Onward k d rest
  onward n is k zero rest low walk = let same : k ≡ k + 0 = omega arith in record { earlier = rest; walk = subst (λ j. Walk P (f j ∷ rest)) same walk; long = omega arith }
  onward n is k (suc d) rest low walk =
      let same : k + suc d ≡ suc (k + d) = omega arith in
      let so_far = onward n is k d rest (omega arith) walk in
      record {
        earlier = f (k + d) ∷ so_far.earlier;
        walk = rw same (usable_each n is (suc (k + d)) (omega arith), follows_each n is (k + d) (omega arith), so_far.walk);
        long = omega (arith, so_far.long);
      }

  once : (n : ℕ) → Walk P (back f (suc n)) → Arrives P (back f (suc n)) → ((other : List Hop) → Walk P other → Arrives P other → length (back f (suc n)) ≤ length other)
      → (j k : ℕ) → j < k → k < suc n → (f j).link ≡ (f k).link → ⊥
  once n is arrives fewest j k less low same =
      let between : j + (k - j) ≡ k = omega arith in
      let up : (f j).lane ≤ (f k).lane = rw between at (lanes_rise n is j (k - j) (omega arith)) in
      let raised = raise P (f j) (f k) (back f j) (front n is j (omega arith)) (usable_each n is k low) same up in
      let short = onward n is k (n - k) (back f j) (omega arith) raised in
      let whole : k + (n - k) ≡ n = omega arith in
      let bound = fewest (f (k + (n - k)) ∷ short.earlier) short.walk (rw whole arrives) in
      omega (arith, bound, short.long, length-back f (suc n), length-back f j)

-- ---- routes and walks

module _ (t : Terms) (q : Request) where
  abbrev P : Problem
  P = problem_of t q

  bears : (link : ℕ) → link < t.layout.links → load_with t q link ≤ t.capacity → is_some (cost_of t q link) ≡ true
  bears link there fits = rw (lt-ltb link t.layout.links there, le-leb (load_with t q link) t.capacity fits) refl

  -- what a link that bears the demand costs
  record Costs (link : ℕ) : Type 0 where
    fits : load_with t q link ≤ t.capacity
    is : unwrap_or (cost_of t q link) 0 ≡ load_with t q link

  costs : (link : ℕ) → is_some (cost_of t q link) ≡ true → Costs link
  costs link some = record { fits = grind (arith, nat_tests); is = grind (arith, nat_tests) }

  module _ (hops : List Hop) (a : Acceptable t q hops) where
    usable : (k : ℕ) → k < length hops → Usable P (hop_at hops k)
    usable k less =
        let on = a.on_grid k less in
        record { link = on.0; lane = on.1; bears = bears (hop_at hops k).link on.0 (a.bears k less) }

    follows : (k : ℕ) → suc k < length hops → Follows t.layout (hop_at hops k) (hop_at hops (suc k))
    follows k less =
        let one : k + 1 ≡ suc k = omega arith in
        let low : k + 1 < length hops = omega arith in
        subst (λ j. Follows t.layout (hop_at hops k) (hop_at hops j)) one (record { turns = a.turns k low; keeps_lane = a.keeps_lane k low; climbs = a.climbs k low })

    walks : (n : ℕ) → suc n ≤ length hops → Walk P (back (hop_at hops) (suc n))
    walks zero few = (usable 0 (omega arith), a.starts)
    walks (suc n) few = (usable (suc n) (omega arith), follows n (omega arith), walks n (omega arith))

    last : length hops ≡ suc (length hops - 1)
    last = let some = a.count.0 in omega arith

    pub walk_of : Walk P (back (hop_at hops) (length hops))
    walk_of = rw last (walks (length hops - 1) (omega (arith, last)))

    pub arrives : Arrives P (back (hop_at hops) (length hops))
    arrives = rw last (a.ends (length hops - 1) (omega (arith, last)))

  -- what a walk measures is what its route measures
  extended-snoc : {V : Type 0} (s : Scale V) (load : ℕ → ℕ) (v : V) (hops : List Hop) (h : Hop)
      → extended s load v (hops ++ (h ∷ [])) ≡ s.extend (extended s load v hops) (load h.link)
  extended-snoc s load v [] h = refl
  extended-snoc s load v (g ∷ hops) h = extended-snoc s load (s.extend v (load g.link)) hops h

  module _ {V : Type 0} (s : Scale V) (hops : List Hop) where
    value_front : (n : ℕ) → n ≤ length hops → ((k : ℕ) → k < n → Usable P (hop_at hops k)) → value_of s P (back (hop_at hops) n) ≡ extended s (load_with t q) s.start (take n hops)
    value_front zero few usable = refl
    value_front (suc n) few usable =
        let one : n + 1 ≡ suc n = omega arith in
        let more : take (suc n) hops ≡ take n hops ++ (hop_at hops n ∷ []) = subst (λ k. take k hops ≡ take n hops ++ (hop_at hops n ∷ [])) one (take_more hops n (hop_on 0 0) (omega arith)) in
        rw (value_front n (omega arith) (λ k less. usable k (omega arith)), (costs (hop_at hops n).link (usable n (omega arith)).bears).is, more)
        (sym (extended-snoc s (load_with t q) s.start (take n hops) (hop_at hops n)))

    measures : Walk P (back (hop_at hops) (length hops)) → value_of s P (back (hop_at hops) (length hops)) ≡ measured s t q hops
    measures is = value_front (length hops) (omega arith) (each is) ∙ ap (extended s (load_with t q) s.start) (take_all (length hops) hops (omega arith))
      where
        each : Walk P (back (hop_at hops) (length hops)) → (k : ℕ) → k < length hops → Usable P (hop_at hops k)
        each is k less = let last : length hops ≡ suc (length hops - 1) = omega arith in usable_each P (hop_at hops) (length hops - 1) (rw last at is) k (omega arith)

  -- ---- best walks are best routes, where the fields pass

  pub record FieldsPass : Type 0 where
    pub source : q.source < t.layout.tiles
    pub target : q.target < t.layout.tiles
    pub two_tiles : q.source ≡ q.target → ⊥
    pub demand : 1 ≤ q.demand

  pub fields_pass : first_of (field_checks t.layout.tiles q) ≡ None → FieldsPass
  fields_pass none =
      let ends = passes (nat_lt q.source t.layout.tiles && (nat_lt q.target t.layout.tiles && not (q.source == q.target))) BadEndpoints _ none in
      let parts = and_parts _ _ ends.0 in
      let tiles = and_parts _ _ parts.1 in
      record {
        source = ltb-true _ _ parts.0;
        target = ltb-true _ _ tiles.0;
        two_tiles = λ same. false≢true (sym (not-true _ tiles.1) ∙ eq-eqb _ _ same);
        demand = ltb-true _ _ (passes (nat_lt 0 q.demand) ZeroAmount None ends.1).0;
      }
    where
      passes : (b : Bool) (r : Refusal) (rest : Option Declined) → option_or (unless b r) rest ≡ None → (b ≡ true) × (rest ≡ None)
      passes true r rest none = (refl, none)
      passes false r rest none = cc

  module _ {V : Type 0} (s : Scale V) (hops : List Hop) (pass : FieldsPass) (best : BestWalk s P (back (hop_at hops) (length hops))) where
    some : (n : ℕ) → Walk P (back (hop_at hops) n) → 1 ≤ n
    some zero is = absurd is
    some (suc n) is = omega arith

    ends_last : length hops ≡ suc (length hops - 1)
    ends_last = let one = some (length hops) best.is in omega arith

    is : Walk P (back (hop_at hops) (suc (length hops - 1)))
    is = rw ends_last at best.is

    follows_at : (k : ℕ) → k + 1 < length hops → Follows t.layout (hop_at hops k) (hop_at hops (k + 1))
    follows_at k less =
        let one : suc k ≡ k + 1 = omega arith in
        subst (λ j. Follows t.layout (hop_at hops k) (hop_at hops j)) one (follows_each P (hop_at hops) (length hops - 1) is k (omega arith))

    is_usable : (k : ℕ) → k < length hops → Usable P (hop_at hops k)
    is_usable k less = usable_each P (hop_at hops) (length hops - 1) is k (omega arith)

    acceptable : Acceptable t q hops
    acceptable = record {
      source = pass.source;
      target = pass.target;
      two_tiles = pass.two_tiles;
      demand = pass.demand;
      count = (some (length hops) best.is, omega (arith, best.few, length-back (hop_at hops) (length hops)));
      on_grid = λ k less. let u = is_usable k less in (u.link, u.lane);
      starts = starts P (hop_at hops) (length hops - 1) is;
      turns = λ k less. (follows_at k less).turns;
      keeps_lane = λ k less. (follows_at k less).keeps_lane;
      climbs = λ k less. (follows_at k less).climbs;
      ends = λ k e. let same : length hops ≡ suc k = omega arith in rw same at best.arrives;
      once = λ j k less low. once P (hop_at hops) (length hops - 1) is (rw ends_last at best.arrives) (rw ends_last at best.fewest) j k less (omega arith);
      bears = λ k less. (costs (hop_at hops k).link (is_usable k less).bears).fits;
    }

    best_of : Best s t q hops
    best_of = record {
      acceptable = acceptable;
      fewest = λ other a.
          let bound = best.fewest _ (walk_of other a) (arrives other a) in
          omega (arith, bound, length-back (hop_at hops) (length hops), length-back (hop_at other) (length other));
      least = λ other a same.
          rw (sym (measures s hops best.is), sym (measures s other (walk_of other a)))
          (best.least _ (walk_of other a) (arrives other a) (length-back (hop_at other) (length other) ∙ same ∙ sym (length-back (hop_at hops) (length hops))));
    }

  none_acceptable : NoneWithin P 24 → NoneAcceptable t q
  none_acceptable none hops a =
      none (back (hop_at hops) (length hops)) (walk_of hops a) (let few = a.count.1 in omega (arith, length-back (hop_at hops) (length hops))) (arrives hops a)

  -- ---- what is found, where nothing declines the search

  pub finds : {V : Type 0} (s : Scale V) (refusal : Option Declined) (o : Option Route) → refusal ≡ None → first_of (field_checks t.layout.tiles q) ≡ None → FindsWalk s P o
      → Finds refusal s t q (result_map_both hops_of (λ d. d) (ok_or o (no_hop NoRoute)))
  finds s refusal None free fields none = inr (free, refl, none_acceptable none)
  finds s refusal (Some route) free fields best = (free, best_of s (hops_of route) (fields_pass fields) best)
