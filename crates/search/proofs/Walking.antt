-- Walks and their last hops.
use Rattle.std.proofs.Common.{◌≡◌, ℕ, ◌+◌, ◌-◌, ◌*◌, ◌<◌, ◌≤◌, nat_lt, List, [], ◌∷◌, Some, sym, refl, ap, ◌∙◌, arith}
use Rattle.std.proofs.lemmas.Bool.{lt-ltb, ltb-true}
use Rattle.std.proofs.lemmas.Option.{cond_some}
use Rattle.std.proofs.lemmas.Nat.{div-mul-add, mod-mul-add, mul-add-lt}
use Rattle.std.proofs.Math.Nat.{mul_comm, mul-le-mul}
use Rattle.layouts.specs.Layout.{Meaning}
use Rattle.layouts.specs.declared.turn.Turn.{Turn}
use Rattle.layouts.specs.declared.turn.Turn.TheVariants.{Never, Free, Climb}
use Rattle.routes.specs.declared.hop.Hop.{Hop}
use Rattle.routes.specs.Routes.{hop_on}
use Rattle.search.specs.Walks.{Problem, places, hop_of, Usable, Follows, Walk}
use Rattle.search.specs.Rows.{lane_before}

-- ---- turns and lanes

-- the highest lane from which a turn may lead to lane w is not below any other
pub record Highest (t : Turn) (v w : ℕ) : Type 0 where
  pub lane : ℕ
  pub is : lane_before t w ≡ Some lane
  pub above : v ≤ lane

pub highest : (t : Turn) (v w : ℕ) → (t ≡ Never → ⊥) → v ≤ w → (t ≡ Climb → v < w) → Highest t v w
highest Never v w turns keeps climbs = absurd (turns refl)
highest Free v w turns keeps climbs = record { lane = w; is = refl; above = keeps }
highest Climb v w turns keeps climbs =
    let up = climbs refl in
    let some : 0 < w = omega arith in
    record { lane = w - 1; is = rw (lt-ltb 0 w some) refl; above = omega arith }

pub lane_low : (t : Turn) (w v : ℕ) → lane_before t w ≡ Some v → v ≤ w
lane_low Never w v is = cc
lane_low Free w v is = let same : w ≡ v = cc in omega arith
lane_low Climb w v is = let e = cond_some (nat_lt 0 w) (w - 1) v is in omega (arith, e.1)

pub may_turn : (t : Turn) (w v : ℕ) → lane_before t w ≡ Some v → t ≡ Never → ⊥
may_turn Never w v is e = cc
may_turn Free w v is e = cc
may_turn Climb w v is e = cc

may_climb : (t : Turn) (w v : ℕ) → lane_before t w ≡ Some v → t ≡ Climb → v < w
may_climb Never w v is e = cc
may_climb Free w v is e = cc
may_climb Climb w v is e = let f = cond_some (nat_lt 0 w) (w - 1) v is in omega (arith, ltb-true _ _ f.0, f.1)

pub may_follow : (m : Meaning) (link lane : ℕ) (h : Hop) → lane_before (m.turn link h.link) h.lane ≡ Some lane → Follows m (hop_on link lane) h
may_follow m link lane h is = record { turns = may_turn _ h.lane lane is; keeps_lane = lane_low _ h.lane lane is; climbs = may_climb _ h.lane lane is }

-- ---- places and hops

module _ (P : Problem) where
  -- the place of a hop
  abbrev pub place_of : Hop → ℕ
  place_of h = h.link * P.lanes + h.lane

  pub place_there : (link lane : ℕ) → link < P.layout.links → lane < P.lanes → link * P.lanes + lane < places P
  place_there link lane is_link is_lane = omega (arith, mul-add-lt link P.lanes lane P.layout.links is_link is_lane, mul_comm P.lanes P.layout.links)

  pub few_places : P.layout.links ≤ 256 → P.lanes ≤ 4 → places P ≤ 1024
  few_places links lanes = mul-le-mul links lanes

  pub hop_of_place : (link lane : ℕ) → lane < P.lanes → hop_of P (link * P.lanes + lane) ≡ hop_on link lane
  hop_of_place link lane is_lane = rw (div-mul-add link P.lanes lane is_lane, mod-mul-add link P.lanes lane is_lane) refl

-- ---- the last hop of a walk may be on a higher lane, and the walk measures the same

follows_up : (m : Meaning) (f g h : Hop) → Follows m f g → g.link ≡ h.link → g.lane ≤ h.lane → Follows m f h
follows_up m f g h is same up =
    let keeps = is.keeps_lane in
    record {
      turns = λ e. is.turns (ap (m.turn f.link) same ∙ e);
      keeps_lane = omega arith;
      climbs = λ e. let higher = is.climbs (ap (m.turn f.link) same ∙ e) in omega arith;
    }

pub raise : (P : Problem) (g h : Hop) (walk : List Hop) → Walk P (g ∷ walk) → Usable P h → g.link ≡ h.link → g.lane ≤ h.lane → Walk P (h ∷ walk)
raise P g h [] is usable same up = (usable, ap P.layout.start (sym same) ∙ is.1)
raise P g h (f ∷ walk) is usable same up = (usable, follows_up P.layout f g h is.1 same up, is.2)

-- the hops of a walk are usable
pub usable_last : (P : Problem) (h : Hop) (walk : List Hop) → Walk P (h ∷ walk) → Usable P h
usable_last P h [] is = is.0
usable_last P h (g ∷ walk) is = is.0
