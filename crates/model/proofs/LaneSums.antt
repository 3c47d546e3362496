-- Sums over the numbers below a bound, and over the lanes of a grid.
use Rattle.std.proofs.Common.{◌≡◌, ℕ, zero, suc, ◌+◌, ◌<◌, ◌≤◌, sym, refl, ⊎_elim, arith}
use Rattle.std.proofs.lemmas.Bool.{cases_eq}
use Rattle.routes.specs.declared.hop.Hop.{Hop}
use Rattle.routes.specs.Loads.{sum_below}
use Rattle.routes.specs.Routes.{hop_on}
use Rattle.model.specs.Grid.{Setting}
use Rattle.model.specs.Safe.{OnGrid}

pub sum_below_same : (n : ℕ) (f g : ℕ → ℕ) → ((k : ℕ) → k < n → f k ≡ g k) → sum_below n f ≡ sum_below n g
sum_below_same zero f g same = refl
sum_below_same (suc n) f g same = omega (arith, same n (omega arith), sum_below_same n f g (λ k low. same k (omega arith)))

pub sum_below_zero : (n : ℕ) (f : ℕ → ℕ) → ((k : ℕ) → k < n → f k ≡ 0) → sum_below n f ≡ 0
sum_below_zero zero f none = refl
sum_below_zero (suc n) f none = omega (arith, none n (omega arith), sum_below_zero n f (λ k low. none k (omega arith)))

pub sum_below_at : (n : ℕ) (f : ℕ → ℕ) (k : ℕ) → k < n → f k ≤ sum_below n f
sum_below_at zero f k low = omega arith
sum_below_at (suc n) f k low =
    ⊎_elim
    (λ (last : k ≡ n). rw last (omega arith))
    (λ (other : k ≡ n → ⊥). omega (arith, sum_below_at n f k (omega arith)))
    (cases_eq k n)

-- Where two functions differ at one number only, their sums differ as they do there.
pub sum_below_change : (n : ℕ) (f g : ℕ → ℕ) (k : ℕ) → k < n → ((j : ℕ) → (j ≡ k → ⊥) → f j ≡ g j) → sum_below n f + g k ≡ sum_below n g + f k
sum_below_change zero f g k low same = omega arith
sum_below_change (suc n) f g k low same =
    ⊎_elim
    (λ (last : k ≡ n). let below = sum_below_same n f g (λ j low. same j (λ is_k. omega arith)) in rw last (omega arith))
    (λ (other : k ≡ n → ⊥). omega (arith, same n (λ last. other (sym last)), sum_below_change n f g k (omega arith) same))
    (cases_eq k n)

-- the sum over all lanes of all links
abbrev pub sum_of_lanes : Setting → (ℕ → ℕ → ℕ) → ℕ
sum_of_lanes S f = sum_below S.links (λ link. sum_below S.lanes (f link))

module _ (S : Setting) (f : ℕ → ℕ → ℕ) where
  abbrev sum_of_link : ℕ → ℕ
  sum_of_link link = sum_below S.lanes (f link)

  pub sum_of_lanes_zero : ((link lane : ℕ) → OnGrid S (hop_on link lane) → f link lane ≡ 0) → sum_of_lanes S f ≡ 0
  sum_of_lanes_zero none =
      sum_below_zero S.links sum_of_link (λ link link_low. sum_below_zero S.lanes (f link) (λ lane lane_low. none link lane (link_low, lane_low)))

  pub sum_of_lanes_at : (h : Hop) → OnGrid S h → f h.link h.lane ≤ sum_of_lanes S f
  sum_of_lanes_at h on_grid =
      omega (arith, sum_below_at S.lanes (f h.link) h.lane on_grid.1, sum_below_at S.links sum_of_link h.link on_grid.0)

module _ (S : Setting) (f g : ℕ → ℕ → ℕ) where
  pub sum_of_lanes_same : ((link lane : ℕ) → f link lane ≡ g link lane) → sum_of_lanes S f ≡ sum_of_lanes S g
  sum_of_lanes_same same =
      sum_below_same S.links (sum_of_link S f) (sum_of_link S g) (λ link _. sum_below_same S.lanes (f link) (g link) (λ lane _. same link lane))

  pub sum_of_lanes_change : (h : Hop) → OnGrid S h → ((link lane : ℕ) → ((link ≡ h.link) × (lane ≡ h.lane) → ⊥) → f link lane ≡ g link lane)
      → sum_of_lanes S f + g h.link h.lane ≡ sum_of_lanes S g + f h.link h.lane
  sum_of_lanes_change h on_grid same =
      omega (
        arith,
        sum_below_change S.links (sum_of_link S f) (sum_of_link S g) h.link on_grid.0
            (λ link other. sum_below_same S.lanes (f link) (g link) (λ lane _. same link lane (λ here. other here.0))),
        sum_below_change S.lanes (f h.link) (g h.link) h.lane on_grid.1 (λ lane other. same h.link lane (λ here. other here.1)),
      )
