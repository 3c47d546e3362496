-- Filling a row, place by place: what is written does not touch what was told before.
use Rattle.std.proofs.Common.{◌≡◌, ℕ, zero, suc, ◌+◌, ◌-◌, ◌*◌, ◌<◌, ◌≤◌, List, ◌∷◌, ◌++◌, length, length-take, length-drop, take, drop, get_or, set, sym, refl, ap, ◌∙◌, subst, ⊎_elim, arith, get_or-set_same, get_or-set_other}
use Rattle.std.proofs.lemmas.Bool.{cases_eq}
use Rattle.std.proofs.lemmas.Nat.{same_from_place, mul-add-lt}
use Rattle.std.proofs.lemmas.List.{get_or-take, get_or_append_left, get_or-drop}
use Rattle.std.proofs.Math.Nat.{mul_comm}
use Rattle.search.specs.Scales.{Scale}
use Rattle.search.specs.Walks.{Problem, places, hop_of, Walk, value_of}
use Rattle.search.specs.Rows.{marks_in, values_in, earlier, Leads, Tells, Row, RowBefore}

-- marks agree on the rows before row k
abbrev pub AgreeBefore : Problem → (ℕ → ℕ → ℕ) → (ℕ → ℕ → ℕ) → ℕ → Type 0
AgreeBefore P marks marks' k = (i p : ℕ) → i < k → p < places P → marks i p ≡ marks' i p

module _ (P : Problem) (marks marks' : ℕ → ℕ → ℕ) where
  earlier_same : (k mark : ℕ) → AgreeBefore P marks marks' k → Leads P marks k mark → earlier P marks k mark ≡ earlier P marks' k mark
  earlier_same zero mark agree leads = refl
  earlier_same (suc k) mark agree leads =
      ap (λ walk. hop_of P (mark - 1) ∷ walk)
      (earlier_same k (marks k (mark - 1)) (λ i p low there. agree i p (omega arith) there) leads.2 ∙ ap (earlier P marks' k) (agree k (mark - 1) (omega arith) leads.1))

  leads_same : (k mark : ℕ) → AgreeBefore P marks marks' k → Leads P marks k mark → Leads P marks' k mark
  leads_same zero mark agree leads = tt
  leads_same (suc k) mark agree leads = (
    leads.0,
    leads.1,
    subst (Leads P marks' k) (agree k (mark - 1) (omega arith) leads.1) (leads_same k (marks k (mark - 1)) (λ i p low there. agree i p (omega arith) there) leads.2),
  )

  module _ {V : Type 0} (s : Scale V) (k place mark : ℕ) (value : V) (agree : AgreeBefore P marks marks' k) where
    pub tells_same : Tells s P marks k place mark value → Tells s P marks' k place mark value
    tells_same tells = record {
      unreached = tells.unreached;
      reached = λ some.
          let so_far = tells.reached some in
          let same = ap (λ walk. hop_of P place ∷ walk) (earlier_same k mark agree so_far.leads) in
          record {
            leads = leads_same k mark agree so_far.leads;
            walk = subst (Walk P) same so_far.walk;
            measures = ap (value_of s P) (sym same) ∙ so_far.measures;
            least = so_far.least;
          };
    }

-- a row whose own marks and values stay
pub row_same : {V : Type 0} (s : Scale V) (P : Problem) (marks marks' : ℕ → ℕ → ℕ) (values values' : ℕ → V) (k n : ℕ) → AgreeBefore P marks marks' k
    → ((p : ℕ) → p < n → marks k p ≡ marks' k p) → ((p : ℕ) → p < n → values p ≡ values' p) → Row s P marks values k n → Row s P marks' values' k n
row_same s P marks marks' values values' k n agree same_marks same_values row place less =
    subst (λ mark. Tells s P marks' k place mark (values' place)) (same_marks place less)
    (subst (λ value. Tells s P marks' k place (marks k place) value) (same_values place less)
    (tells_same P marks marks' s k place (marks k place) (values place) agree (row place less)))

-- the values of the row that is being filled
abbrev pub upper : {V : Type 0} → Scale V → Problem → List V → ℕ → V
upper s P values place = get_or values (places P + place) s.start

-- there is room for 24 rows
pub row_room : (k n size length : ℕ) → k < 24 → n < size → 24 * size ≤ length → k * size + n < length
row_room k n size length row place room = omega (arith, mul-add-lt k size n 24 row place, mul_comm size 24)

-- what is filled so far of row k, and the row before
pub record Filled {V : Type 0} (s : Scale V) (P : Problem) (marks : List ℕ) (values : List V) (k n : ℕ) : Type 0 where
  pub before : RowBefore s P (marks_in P marks) (values_in s values) k
  pub row : Row s P (marks_in P marks) (upper s P values) k n

module _ {V : Type 0} (s : Scale V) (P : Problem) (marks : List ℕ) (values : List V) (k n mark : ℕ) (value : V) (there : n < places P)
    (room : k * places P + n < length marks) (room_too : places P + n < length values) where
  abbrev marks' : List ℕ
  marks' = set marks (k * places P + n) mark

  abbrev values' : List V
  values' = set values (places P + n) value

  other_mark : (i p : ℕ) → p < places P → (i ≡ k → p ≡ n → ⊥) → marks_in P marks i p ≡ marks_in P marks' i p
  other_mark i p less apart =
      sym (get_or-set_other marks (k * places P + n) (i * places P + p) mark 0 (λ e. let same = same_from_place i p k n (places P) less there e in apart same.0 same.1))

  rows_before : (j : ℕ) → j ≤ k → AgreeBefore P (marks_in P marks) (marks_in P marks') j
  rows_before j low i p less is_place = other_mark i p is_place (λ same _. omega arith)

  lower_value : (p : ℕ) → p < places P → values_in s values p ≡ values_in s values' p
  lower_value p less = sym (get_or-set_other values (places P + n) p value s.start (λ e. omega arith))

  upper_value : (p : ℕ) → p < n → upper s P values p ≡ upper s P values' p
  upper_value p less = sym (get_or-set_other values (places P + n) (places P + p) value s.start (λ e. omega arith))

  before_stays : (j : ℕ) → j ≤ k → RowBefore s P (marks_in P marks) (values_in s values) j → RowBefore s P (marks_in P marks') (values_in s values') j
  before_stays zero low before = tt
  before_stays (suc j) low before =
      row_same s P (marks_in P marks) (marks_in P marks') (values_in s values) (values_in s values') j (places P) (rows_before j (omega arith))
      (λ p less. other_mark j p less (λ same _. omega arith)) lower_value before

  pub filled_more : Tells s P (marks_in P marks) k n mark value → Filled s P marks values k n → Filled s P marks' values' k (n + 1)
  filled_more tells so_far = record {
    before = before_stays k (omega arith) so_far.before;
    row = λ place less.
        ⊎_elim
        (λ (same : place ≡ n).
        subst (λ p. Tells s P (marks_in P marks') k p (marks_in P marks' k p) (upper s P values' p)) (sym same)
        (rw (get_or-set_same marks (k * places P + n) mark 0 room, get_or-set_same values (places P + n) value s.start room_too)
        (tells_same P (marks_in P marks) (marks_in P marks') s k n mark value (rows_before k (omega arith)) tells)))
        (λ (differs : place ≡ n → ⊥).
        row_same s P (marks_in P marks) (marks_in P marks') (upper s P values) (upper s P values') k n (rows_before k (omega arith))
        (λ p low. other_mark k p (omega arith) (λ _ same. omega arith)) upper_value so_far.row place (omega arith))
        (cases_eq place n);
  }

-- Where the row is full and its values, the first entries of the upper half, are moved down, the row is told.
pub moved_down : {V : Type 0} (s : Scale V) (P : Problem) (marks : List ℕ) (values lower above : List V) (k n : ℕ) → places P ≤ n → 2 * places P ≤ length values
    → lower ≡ take (places P) above → above ≡ drop (places P) values → Filled s P marks values k n → Row s P (marks_in P marks) (values_in s (lower ++ above)) k (places P)
moved_down s P marks values lower above k n all room moved is filled =
    row_same s P (marks_in P marks) (marks_in P marks) (upper s P values) (values_in s (lower ++ above)) k (places P) (λ i p low there. refl) (λ p less. refl)
    (λ p less.
    let long : length above ≡ length values - places P = (rw is (length-drop (places P) values)) in
    let long_too : length lower ≡ places P = (rw moved (length-take (places P) above ∙ omega arith)) in
    sym
    (get_or_append_left lower above s.start p (omega arith)
    ∙ ap (λ l. get_or l p s.start) moved
    ∙ get_or-take (places P) above p s.start less
    ∙ ap (λ l. get_or l p s.start) is
    ∙ get_or-drop (places P) values p s.start))
    (λ place less. filled.row place (omega arith))
