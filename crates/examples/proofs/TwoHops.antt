-- Routes of two hops, by the links that may follow each other.
use Rattle.std.proofs.Common.{◌≡◌, ℕ, ◌<◌, ◌≤◌, List, [], ◌∷◌, length, sym, refl, arith}
use Rattle.std.specs.List.{AllByRecursion as All}
use Rattle.layouts.specs.declared.turn.Turn.TheVariants.{Climb}
use Rattle.routes.specs.declared.hop.Hop.{Hop}
use Rattle.routes.specs.declared.stream.Request.{Request}
use Rattle.routes.specs.Routes.{hop_on, hop_at}
use Rattle.routes.specs.Checks.{Terms}
use Rattle.routes.specs.Acceptable.{Acceptable}
use Rattle.examples.proofs.Candidates.{firsts, lasts, first, last, goes_on}

two_hops : (hops : List Hop) (x u y v : ℕ) → length hops ≡ 2
    → (hop_at hops 0).link ≡ x → (hop_at hops 0).lane ≡ u → (hop_at hops 1).link ≡ y → (hop_at hops 1).lane ≡ v → hops ≡ hop_on x u ∷ (hop_on y v ∷ [])
two_hops [] x u y v e a b c d = absurd (omega arith)
two_hops (g ∷ []) x u y v e a b c d = absurd (omega arith)
two_hops (g ∷ (h ∷ [])) x u y v e a b c d = rw (sym a, sym b, sym c, sym d) refl
two_hops (g ∷ (h ∷ (k ∷ hops))) x u y v e a b c d = absurd (omega arith)

module _ (t : Terms) (q : Request) (hops : List Hop) (a : Acceptable t q hops) where
  abbrev link : ℕ → ℕ
  link k = (hop_at hops k).link

  abbrev lane : ℕ → ℕ
  lane k = (hop_at hops k).lane

  -- a route has two hops at least if no first link ends at the target
  pub two_at_least : All (λ x. t.layout.end x ≡ q.target → ⊥) (firsts t q) → 2 ≤ length hops
  two_at_least all = let on = goes_on t q hops a 0 a.count.0 (first t q hops a (λ x. t.layout.end x ≡ q.target → ⊥) all) in omega arith

  -- what follows from each pair of links that a route of two hops may take
  pub each_pair : (G : Type 0) → length hops ≡ 2 → All (λ x. All (λ y. link 0 ≡ x → link 1 ≡ y → G) (lasts t q x)) (firsts t q) → G
  each_pair G e all =
      last t q hops a (λ y. link 0 ≡ link 0 → link 1 ≡ y → G) 0 (sym e) (first t q hops a (λ x. All (λ y. link 0 ≡ x → link 1 ≡ y → G) (lasts t q x)) all) refl refl

  module _ (x y : ℕ) (e : length hops ≡ 2) (is_first : link 0 ≡ x) (is_second : link 1 ≡ y) where
    there : (k : ℕ) → k < 2 → lane k < t.lanes
    there k less = (a.on_grid k (omega arith)).1

    -- one lane leaves no choice, and neither do two lanes at a climb
    pub on_one_lane : t.lanes ≡ 1 → hops ≡ hop_on x 0 ∷ (hop_on y 0 ∷ [])
    on_one_lane one =
        let low = there 0 (omega arith) in
        let high = there 1 (omega arith) in
        two_hops hops x 0 y 0 e is_first (omega arith) is_second (omega arith)

    pub on_two_lanes : t.lanes ≡ 2 → t.layout.turn x y ≡ Climb → hops ≡ hop_on x 0 ∷ (hop_on y 1 ∷ [])
    on_two_lanes two climb =
        let high = there 1 (omega arith) in
        let up = a.climbs 0 (omega arith) (rw (is_first, is_second) climb) in
        two_hops hops x 0 y 1 e is_first (omega arith) is_second (omega arith)
