-- The links that an acceptable route may take, listed by tests that compute.
use Rattle.std.specs.Prelude.{◌==◌, nat_le}
use Rattle.std.proofs.Common.{◌≡◌, ℕ, zero, suc, ◌+◌, ◌-◌, ◌<◌, Bool, true, false, not, ◌&&◌, List, [], ◌∷◌, length, sym, refl, subst, ⊎_elim, arith}
use Rattle.std.specs.List.{AllByRecursion as All}
use Rattle.std.proofs.lemmas.Bool.{cases_eq, and_from, eq-eqb, lt-ltb, le-leb}
use Rattle.layouts.specs.declared.turn.Turn.{Turn}
use Rattle.layouts.specs.declared.turn.Turn.TheVariants.{Never, Free, Climb}
use Rattle.routes.specs.declared.hop.Hop.{Hop}
use Rattle.routes.specs.declared.stream.Request.{Request}
use Rattle.routes.specs.Routes.{hop_at}
use Rattle.routes.specs.Checks.{Terms, never, lanes_fit}
use Rattle.routes.specs.Acceptable.{Acceptable}
use Rattle.search.specs.Best.{load_with, NoneAcceptable}

abbrev keep : Bool → ℕ → List ℕ → List ℕ
keep true n numbers = n ∷ numbers
keep false n numbers = numbers

-- the numbers below n that pass a test
abbrev pub those : (ℕ → Bool) → ℕ → List ℕ
those test zero = []
those test (suc n) = keep (test n) n (those test n)

-- what holds of each number that is listed holds of each number below n that passes the test
module _ (P : ℕ → Type 0) where
  kept : (b : Bool) (n : ℕ) (numbers : List ℕ) → All P (keep b n numbers) → (b ≡ true → P n) × All P numbers
  kept true n numbers all = (λ e. all.0, all.1)
  kept false n numbers all = (λ e. cc, all)

  pub each : (test : ℕ → Bool) (n : ℕ) → All P (those test n) → (k : ℕ) → k < n → test k ≡ true → P k
  each test zero all k less e = absurd (omega arith)
  each test (suc n) all k less e =
      let parts = kept (test n) n (those test n) all in
      ⊎_elim (λ (last : k ≡ n). subst (λ j. test j ≡ true → P j) (sym last) parts.0 e) (λ (other : k ≡ n → ⊥). each test n parts.1 k (omega arith) e) (cases_eq k n)

-- the turn is one of the layout's, and some two lanes fit it
abbrev pub can_turn : Turn → ℕ → Bool
can_turn w lanes = not (never w) && lanes_fit w 0 (lanes - 1)

can_turn_from : (w : Turn) (lanes u v : ℕ) → (w ≡ Never → ⊥) → (w ≡ Climb → u < v) → v < lanes → can_turn w lanes ≡ true
can_turn_from Never lanes u v is rises there = absurd (is refl)
can_turn_from Free lanes u v is rises there = le-leb 0 (lanes - 1) (omega arith)
can_turn_from Climb lanes u v is rises there = let up = rises refl in lt-ltb 0 (lanes - 1) (omega arith)

module _ (t : Terms) (q : Request) where
  abbrev pub bears : ℕ → Bool
  bears b = nat_le (load_with t q b) t.capacity

  -- the links that may come first, those that may follow a link, and those of them that end at the target
  abbrev pub firsts : List ℕ
  firsts = those (λ b. t.layout.start b == q.source && bears b) t.layout.links

  abbrev pub may_follow : ℕ → ℕ → Bool
  may_follow a b = can_turn (t.layout.turn a b) t.lanes && bears b

  abbrev pub nexts : ℕ → List ℕ
  nexts a = those (may_follow a) t.layout.links

  abbrev pub lasts : ℕ → List ℕ
  lasts a = those (λ b. may_follow a b && t.layout.end b == q.target) t.layout.links

  -- No way leads on from a link to the target: it does not end there, none that may follow does, and no way has more than n
  -- links.
  abbrev pub LeadsNowhere : ℕ → ℕ → Type 0
  LeadsNowhere zero a = ⊥
  LeadsNowhere (suc n) a = (t.layout.end a ≡ q.target → ⊥) × All (LeadsNowhere n) (nexts a)

  module _ (hops : List Hop) (a : Acceptable t q hops) where
    abbrev pub link : ℕ → ℕ
    link k = (hop_at hops k).link

    borne : (k : ℕ) → k < length hops → bears (link k) ≡ true
    borne k less = le-leb _ _ (a.bears k less)

    follows : (k : ℕ) → k + 1 < length hops → may_follow (link k) (link (k + 1)) ≡ true
    follows k less =
        and_from _ _ (can_turn_from _ t.lanes (hop_at hops k).lane (hop_at hops (k + 1)).lane (a.turns k less) (a.climbs k less) (a.on_grid (k + 1) less).1)
        (borne (k + 1) less)

    -- what holds of each link that is listed holds of the link of the route
    module _ (P : ℕ → Type 0) where
      pub first : All P firsts → P (link 0)
      first all =
          let some = a.count.0 in
          each P _ t.layout.links all (link 0) (a.on_grid 0 (omega arith)).0 (and_from _ _ (eq-eqb _ _ a.starts) (borne 0 (omega arith)))

      pub next : (k : ℕ) → k + 1 < length hops → All P (nexts (link k)) → P (link (k + 1))
      next k less all = each P _ t.layout.links all (link (k + 1)) (a.on_grid (k + 1) less).0 (follows k less)

      pub last : (k : ℕ) → k + 2 ≡ length hops → All P (lasts (link k)) → P (link (k + 1))
      last k e all =
          each P _ t.layout.links all (link (k + 1)) (a.on_grid (k + 1) (omega arith)).0
          (and_from _ _ (follows k (omega arith)) (eq-eqb _ _ (a.ends (k + 1) (omega arith))))

    -- the route goes on from a link that does not end at the target
    pub goes_on : (k : ℕ) → k < length hops → (t.layout.end (link k) ≡ q.target → ⊥) → k + 1 < length hops
    goes_on k less misses = ⊎_elim (λ (at_end : k + 1 ≡ length hops). absurd (misses (a.ends k at_end))) (λ (other : k + 1 ≡ length hops → ⊥). omega arith) (cases_eq (k + 1) (length hops))

    -- a route goes over no link that leads nowhere
    pub leads_on : (n k : ℕ) → k < length hops → LeadsNowhere n (link k) → ⊥
    leads_on zero k less nowhere = nowhere
    leads_on (suc n) k less nowhere =
        let more = goes_on k less nowhere.0 in
        leads_on n (k + 1) more (next (LeadsNowhere n) k more nowhere.1)

  pub none_acceptable : (n : ℕ) → All (LeadsNowhere n) firsts → NoneAcceptable t q
  none_acceptable n nowhere hops a = let some = a.count.0 in leads_on hops a n 0 (omega arith) (first hops a (LeadsNowhere n) nowhere)
