-- The rows of the search: each comes from the one before.
use Rattle.std.proofs.Common.{◌≡◌, ℕ, suc, ◌+◌, ◌-◌, ◌<◌, ◌≤◌, true, is_some, List, [], ◌∷◌, length, Some, None, sym, refl, ap, ◌∙◌, subst, ⊎_elim, arith}
use Rattle.std.proofs.lemmas.Bool.{cases_lt, lt-ltb}
use Rattle.std.proofs.lemmas.Nat.{div_below, mod_below}
use Rattle.std.specs.Option.{unwrap_or}
use Rattle.routes.specs.declared.hop.Hop.{Hop}
use Rattle.routes.specs.Routes.{hop_on}
use Rattle.search.specs.Scales.{Scale, Ordered}
use Rattle.search.specs.Walks.{Problem, places, hop_of, Usable, Follows, Walk, value_of}
use Rattle.search.specs.Rows.{path, Reached, Tells, Row, Least, Before}
use Rattle.search.proofs.Walking.{place_of, highest, lane_low, may_follow, place_there, hop_of_place, raise, usable_last}
use Rattle.search.proofs.Picking.{Marked, marked}

module _ {V : Type 0} (s : Scale V) (P : Problem) (marks : ℕ → ℕ → ℕ) where
  module _ (values : ℕ → V) (k : ℕ) (row : Row s P marks values k (places P)) where
    -- A walk of k + 1 hops ends at a place of row k that is marked, and whose value is not above what the walk measures.
    pub record Ends (h : Hop) (rest : List Hop) : Type 0 where
      pub there : place_of P h < places P
      pub is_hop : hop_of P (place_of P h) ≡ h
      pub marked : 0 < marks k (place_of P h)
      pub below : s.not_above (values (place_of P h)) (value_of s P (h ∷ rest)) ≡ true

    pub ends : (h : Hop) (rest : List Hop) → length rest ≡ k → Walk P (h ∷ rest) → Ends h rest
    ends h rest long walk =
        let usable = usable_last P h rest walk in
        let there = place_there P h.link h.lane usable.link usable.lane in
        let is_hop = hop_of_place P h.link h.lane usable.lane in
        let to_place : Walk P (hop_of P (place_of P h) ∷ rest) = subst (λ top. Walk P (top ∷ rest)) (sym is_hop) walk in
        let tells = row (place_of P h) there in
        ⊎_elim
        (λ (some : 0 < marks k (place_of P h)).
        record {
          there = there;
          is_hop = is_hop;
          marked = some;
          below = subst (λ top. s.not_above (values (place_of P h)) (value_of s P (top ∷ rest)) ≡ true) is_hop ((tells.reached (omega arith)).least rest long to_place);
        })
        (λ none. absurd (tells.unreached (omega arith) rest long to_place))
        (cases_lt 0 (marks k (place_of P h)))

    -- ---- row k + 1 from row k

    -- A walk of one hop more comes from a place of row k that may come before its last hop, and whose value is not above what the
    -- walk measured there.
    pub record Comes (h : Hop) (rest : List Hop) : Type 0 where
      pub place : ℕ
      pub before : Before P marks k h 0 place
      pub below : s.not_above (values place) (value_of s P rest) ≡ true

    came : (h : Hop) (rest : List Hop) → length rest ≡ suc k → Walk P (h ∷ rest) → Comes h rest
    came h [] long walk = absurd (omega (arith, long))
    came h (g ∷ rest) long walk =
        let follows = walk.1 in
        let up = highest (P.layout.turn g.link h.link) g.lane h.lane follows.turns follows.keeps_lane follows.climbs in
        let from = usable_last P g rest walk.2 in
        let usable = walk.0 in
        let low = lane_low _ h.lane up.lane up.is in
        let is_lane : up.lane < P.lanes = omega (arith, usable.lane) in
        let raised = raise P g (hop_on g.link up.lane) rest walk.2 (record { link = from.link; lane = is_lane; bears = from.bears }) refl up.above in
        let last = ends (hop_on g.link up.lane) rest (omega (arith, long)) raised in
        record {
          place = place_of P (hop_on g.link up.lane);
          before = record { link = g.link; seen = omega arith; there = from.link; is = rw (up.is, lt-ltb 0 (marks k (place_of P (hop_on g.link up.lane))) last.marked) refl };
          below = last.below;
        }

    pub tells_not_next : (place : ℕ) (value : V) → Least s values (Before P marks k (hop_of P place) 0) None → Tells s P marks (suc k) place 0 value
    tells_not_next place value none = record {
      unreached = λ _ rest long walk. let from = came (hop_of P place) rest long walk in none from.place from.before;
      reached = λ some. absurd (omega arith);
    }

    module _ (ordered : Ordered s) (place best mark : ℕ) (value : V) (usable : Usable P (hop_of P place)) (least : Least s values (Before P marks k (hop_of P place) 0) (Some best))
        (one : mark ≡ best + 1) (is : value ≡ s.extend (values best) (unwrap_or (P.costs (hop_of P place).link) 0)) where
      abbrev h : Hop
      h = hop_of P place

      abbrev from : Before P marks k h 0 best
      from = least.0

      back : mark - 1 ≡ best
      back = omega arith

      before : Marked P marks k h from.link best
      before = marked P marks k h from.link best from.is

      is_lane : before.lane < P.lanes
      is_lane = let low = lane_low _ h.lane before.lane before.turns in omega (arith, usable.lane)

      there : best < places P
      there = rw before.is (place_there P from.link before.lane from.there is_lane)

      so_far : Reached s P marks k best (marks k best) (values best)
      so_far = (row best there).reached before.mark

      follows : Follows P.layout (hop_of P best) h
      follows = rw (before.is, hop_of_place P from.link before.lane is_lane) (may_follow P.layout from.link before.lane h before.turns)

      path_is : path P marks (suc k) mark place ≡ h ∷ path P marks k (marks k best) best
      path_is = ap (λ b. h ∷ path P marks k (marks k b) b) back

      reached : Reached s P marks (suc k) place mark value
      reached = record {
        leads = (omega arith, rw back there, rw back so_far.leads);
        walk = subst (Walk P) (sym path_is) (usable, follows, so_far.walk);
        measures = ap (value_of s P) path_is ∙ ap (λ v. s.extend v (unwrap_or (P.costs h.link) 0)) so_far.measures ∙ sym is;
        least = λ rest long walk.
            let other = came h rest long walk in
            rw is
            (ordered.extends (values best) (value_of s P rest) _
            (ordered.transitive (values best) (values other.place) (value_of s P rest) (least.1 other.place other.before) other.below));
      }

      pub tells_next : Tells s P marks (suc k) place mark value
      tells_next = record { unreached = λ e. absurd (omega (arith, e, one)); reached = λ _. reached }

-- a hop at a place, on a link that bears the demand, is usable
pub usable_at : (P : Problem) (place cost : ℕ) → 1 ≤ P.lanes → place < places P → P.costs (hop_of P place).link ≡ Some cost → Usable P (hop_of P place)
usable_at P place cost some there bears = record {
  link = div_below place P.lanes P.layout.links some there;
  lane = mod_below place P.lanes some;
  bears = ap is_some bears;
}
