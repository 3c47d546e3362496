-- The best of some places, one by one.
use Rattle.std.proofs.Common.{◌≡◌, ℕ, zero, suc, ◌+◌, ◌*◌, ◌<◌, ◌≤◌, Bool, true, false, ◌⊎◌, inl, inr, ⊎_elim, Some, None, Option, sym, refl, ◌∙◌, arith}
use Rattle.std.proofs.lemmas.Bool.{cases_Bool, cases_eq, cases_lt, cond_both, false≢true, eq-eqb, ltb-true}
use Rattle.std.proofs.lemmas.Option.{cond_some, same_Some}
use Rattle.std.specs.Option.{option_and_then, option_map_or}
use Rattle.layouts.specs.Layout.{Lawful}
use Rattle.routes.specs.declared.hop.Hop.{Hop}
use Rattle.search.specs.Scales.{Scale, Ordered}
use Rattle.search.specs.Walks.{Problem, places}
use Rattle.search.specs.Incoming.{last_below, ends_at}
use Rattle.search.proofs.Walking.{lane_low, may_turn, place_there}
use Rattle.search.specs.Rows.{marked_at, lane_before, place_before, Before, lesser, Least}

-- no value is above itself
pub level : {V : Type 0} (s : Scale V) → Ordered s → (v : V) → s.not_above v v ≡ true
level s ordered v = ⊎_elim (λ h. h) (λ h. h) (ordered.total v v)

module _ {V : Type 0} (s : Scale V) (values : ℕ → V) where
  -- the same places
  pub least_same : (A B : ℕ → Type 0) → ((p : ℕ) → A p → B p) → ((p : ℕ) → B p → A p) → (o : Option ℕ) → Least s values A o → Least s values B o
  least_same A B forth back None none = λ p b. none p (back p b)
  least_same A B forth back (Some best) is = (forth best is.0, λ p b. is.1 p (back p b))

  -- one place more
  module _ (ordered : Ordered s) (A B : ℕ → Type 0) (forth : (p : ℕ) → A p → B p) (n : ℕ) (new : B n) (back : (p : ℕ) → B p → A p ⊎ (p ≡ n)) where
    pub least_more : (o : Option ℕ) → Least s values A o → Least s values B (Some (lesser s values o n))
    least_more None none = (
      new,
      λ p b. ⊎_elim (λ a. absurd (none p a)) (λ (same : p ≡ n). rw same (level s ordered (values n))) (back p b),
    )
    least_more (Some best) is =
        cond_both (s.not_above (values best) (values n)) best n (λ r. Least s values B (Some r))
        (λ stays. (forth best is.0, λ p b. ⊎_elim (λ a. is.1 p a) (λ (same : p ≡ n). rw same stays) (back p b)))
        (λ goes.
        let down : s.not_above (values n) (values best) ≡ true = ⊎_elim (λ up. absurd (false≢true (sym goes ∙ up))) (λ h. h) (ordered.total (values best) (values n)) in (
          new,
          λ p b.
              ⊎_elim (λ a. ordered.transitive (values n) (values best) (values p) down (is.1 p a)) (λ (same : p ≡ n). rw same (level s ordered (values n)))
              (back p b),
        ))

-- ---- the last number that passes a test

pub none_last : (n : ℕ) (test : ℕ → Bool) → last_below n test ≡ None → (l : ℕ) → l < n → test l ≡ false
none_last zero test is l less = absurd (omega arith)
none_last (suc n) test is l less =
    ⊎_elim (λ (yes : test n ≡ true). let no = rw yes at is in cc)
    (λ (no : test n ≡ false).
    ⊎_elim (λ (same : l ≡ n). rw same no)
    (λ (differs : l ≡ n → ⊥). none_last n test (rw no at is) l (omega arith))
    (cases_eq l n))
    (cases_Bool (test n))

pub record Last (n : ℕ) (test : ℕ → Bool) (a : ℕ) : Type 0 where
  pub below : a < n
  pub passes : test a ≡ true
  pub none_after : (l : ℕ) → a < l → l < n → test l ≡ false

pub is_last : (n : ℕ) (test : ℕ → Bool) (a : ℕ) → last_below n test ≡ Some a → Last n test a
is_last zero test a is = cc
is_last (suc n) test a is =
    ⊎_elim
    (λ (yes : test n ≡ true).
    let same : n ≡ a = (let e = rw yes at is in cc) in
    record { below = omega arith; passes = rw (sym same) yes; none_after = λ l high low. absurd (omega arith) })
    (λ (no : test n ≡ false).
    let earlier = is_last n test a (rw no at is) in
    let low = earlier.below in
    record {
      below = omega arith;
      passes = earlier.passes;
      none_after = λ l high less.
          ⊎_elim (λ (same : l ≡ n). rw same no)
          (λ (differs : l ≡ n → ⊥). earlier.none_after l high (omega arith))
          (cases_eq l n);
    })
    (cases_Bool (test n))

pub last_low : (n : ℕ) (test : ℕ → Bool) → option_map_or {T = ℕ} {U = ℕ} suc (last_below n test) 0 ≤ n
last_low zero test = omega arith
last_low (suc n) test =
    cond_both (test n) _ _ (λ o. option_map_or {T = ℕ} {U = ℕ} suc o 0 ≤ suc n) (λ _. omega arith) (λ _. let low = last_low n test in omega arith)

-- ---- the places from which a walk may go on to a hop

-- such a place is a marked lane of a link
pub record Marked (P : Problem) (marks : ℕ → ℕ → ℕ) (k : ℕ) (h : Hop) (link place : ℕ) : Type 0 where
  pub lane : ℕ
  pub turns : lane_before (P.layout.turn link h.link) h.lane ≡ Some lane
  pub is : place ≡ link * P.lanes + lane
  pub mark : 1 ≤ marks k place

pub marked : (P : Problem) (marks : ℕ → ℕ → ℕ) (k : ℕ) (h : Hop) (link place : ℕ) → place_before P marks k h link ≡ Some place → Marked P marks k h link place
marked P marks k h link place is = by_lane (lane_before (P.layout.turn link h.link) h.lane) refl is
  where
    by_lane : (o : Option ℕ) → lane_before (P.layout.turn link h.link) h.lane ≡ o → option_and_then {T = ℕ} {U = ℕ} (marked_at P marks k link) o ≡ Some place
        → Marked P marks k h link place
    by_lane None e found = cc
    by_lane (Some lane) e found =
        let f = cond_some _ _ _ found in
        record { lane = lane; turns = e; is = sym f.1; mark = rw (sym f.1) (ltb-true _ _ f.0) }

module _ (P : Problem) (marks : ℕ → ℕ → ℕ) (k : ℕ) (h : Hop) where
  pub before_there : (low place : ℕ) → h.lane < P.lanes → Before P marks k h low place → place < places P
  before_there low place is_lane b =
      let is = marked P marks k h b.link place b.is in
      let lane = lane_low _ h.lane is.lane is.turns in
      rw is.is (place_there P b.link is.lane b.there (omega arith))

  -- the link of such a place leads to the start of the hop
  leads_here : Lawful P.layout → {low : ℕ} (p : ℕ) (b : Before P marks k h low p) → ends_at P.layout (P.layout.start h.link) b.link ≡ true
  leads_here lawful p b =
      let turns = marked P marks k h b.link p b.is in
      eq-eqb _ _ (lawful.meets b.link h.link (may_turn _ h.lane turns.lane turns.turns))

  module _ (lawful : Lawful P.layout) (n a : ℕ) (all : n ≤ P.layout.links) (is : last_below n (ends_at P.layout (P.layout.start h.link)) ≡ Some a) where
    found : Last n (ends_at P.layout (P.layout.start h.link)) a
    found = is_last n (ends_at P.layout (P.layout.start h.link)) a is

    at_or_above : (p : ℕ) → Before P marks k h a p → Before P marks k h n p ⊎ (place_before P marks k h a ≡ Some p)
    at_or_above p b =
        ⊎_elim
        (λ (low : b.link < n).
        ⊎_elim (λ (same : b.link ≡ a). inr (rw same at b.is))
        (λ (differs : b.link ≡ a → ⊥).
        let seen = b.seen in absurd (false≢true (sym (found.none_after b.link (omega arith) low) ∙ leads_here lawful p b)))
        (cases_eq b.link a))
        (λ (high : n ≤ b.link). inl (record { link = b.link; seen = high; there = b.there; is = b.is }))
        (cases_lt b.link n)

    above : (p : ℕ) → Before P marks k h n p → Before P marks k h a p
    above p b = let low = found.below in let seen = b.seen in record { link = b.link; seen = omega arith; there = b.there; is = b.is }

    module _ {V : Type 0} (s : Scale V) (values : ℕ → V) where
      pub before_more : Ordered s → (place : ℕ) → place_before P marks k h a ≡ Some place → (o : Option ℕ) → Least s values (Before P marks k h n) o
          → Least s values (Before P marks k h a) (Some (lesser s values o place))
      before_more ordered place new o least =
          let low = found.below in
          least_more s values ordered (Before P marks k h n) (Before P marks k h a) above place (record { link = a; seen = omega arith; there = omega arith; is = new })
          (λ p b. ⊎_elim inl (λ same. inr (same_Some _ _ (sym same ∙ new))) (at_or_above p b)) o least

      pub before_not : place_before P marks k h a ≡ None → (o : Option ℕ) → Least s values (Before P marks k h n) o → Least s values (Before P marks k h a) o
      before_not none o least =
          least_same s values (Before P marks k h n) (Before P marks k h a) above
          (λ p b. ⊎_elim (λ h. h) (λ same. let e = sym none ∙ same in cc) (at_or_above p b)) o least

  -- where no link is left, all have been seen
  module _ (lawful : Lawful P.layout) (n : ℕ) (is : last_below n (ends_at P.layout (P.layout.start h.link)) ≡ None) {V : Type 0} (s : Scale V) (values : ℕ → V) where
    pub before_all : (o : Option ℕ) → Least s values (Before P marks k h n) o → Least s values (Before P marks k h 0) o
    before_all o least =
        least_same s values (Before P marks k h n) (Before P marks k h 0)
        (λ p b. record { link = b.link; seen = omega arith; there = b.there; is = b.is })
        (λ p b.
        ⊎_elim
        (λ (low : b.link < n). absurd (false≢true (sym (none_last n (ends_at P.layout (P.layout.start h.link)) is b.link low) ∙ leads_here lawful p b)))
        (λ (high : n ≤ b.link). record { link = b.link; seen = high; there = b.there; is = b.is })
        (cases_lt b.link n)) o least
