-- The tables of the search. Row k tells of each place the walks of k + 1 hops that end there: a mark, which is 0 where there is no
-- such walk and else one more than the place before, or 1 in row 0, and the value of one of least measure.
use Rattle.std.specs.Prelude.{◌≡◌, ℕ, zero, suc, ◌+◌, ◌-◌, ◌*◌, ◌/◌, ◌<◌, ◌≤◌, Bool, ◌&&◌, ◌==◌, true, cond, List, [], ◌∷◌, length, Some, None, Option, nat_lt, slice_index_or}
use Rattle.std.specs.Option.{option_and_then}
use Rattle.layouts.specs.declared.turn.Turn.{Turn}
use Rattle.layouts.specs.declared.turn.Turn.TheVariants.{Never, Free, Climb}
use Rattle.routes.specs.declared.hop.Hop.{Hop}
use Rattle.search.specs.Scales.{Scale}
use Rattle.search.specs.Walks.{Problem, places, hop_of, Walk, value_of}

-- the values by place
abbrev pub values_in : {V : Type 0} → Scale V → List V → ℕ → V
values_in s values place = slice_index_or values place s.start

-- the marks by row and place
abbrev pub marks_in : Problem → List ℕ → ℕ → ℕ → ℕ
marks_in P marks k place = slice_index_or marks (k * places P + place) 0

-- the hops before a place of row k that has this mark
abbrev pub earlier : Problem → (ℕ → ℕ → ℕ) → ℕ → ℕ → List Hop
earlier P marks zero mark = []
earlier P marks (suc k) mark = hop_of P (mark - 1) ∷ earlier P marks k (marks k (mark - 1))

-- the walk to a place of row k that has this mark
abbrev pub path : Problem → (ℕ → ℕ → ℕ) → ℕ → ℕ → ℕ → List Hop
path P marks k mark place = hop_of P place ∷ earlier P marks k mark

-- marks lead back from a mark of row k to row 0
abbrev pub Leads : Problem → (ℕ → ℕ → ℕ) → ℕ → ℕ → Type 0
Leads P marks zero mark = Unit {0}
Leads P marks (suc k) mark = (1 ≤ mark) × (mark - 1 < places P) × Leads P marks k (marks k (mark - 1))

-- A place of row k is reached by a walk of least measure.
pub record Reached {V : Type 0} (s : Scale V) (P : Problem) (marks : ℕ → ℕ → ℕ) (k place mark : ℕ) (value : V) : Type 0 where
  pub leads : Leads P marks k mark
  pub walk : Walk P (path P marks k mark place)
  pub measures : value_of s P (path P marks k mark place) ≡ value
  pub least : (rest : List Hop) → length rest ≡ k → Walk P (hop_of P place ∷ rest) → s.not_above value (value_of s P (hop_of P place ∷ rest)) ≡ true

-- A mark with a value tells of a place of row k; the marks are those of the rows before.
pub record Tells {V : Type 0} (s : Scale V) (P : Problem) (marks : ℕ → ℕ → ℕ) (k place mark : ℕ) (value : V) : Type 0 where
  pub unreached : mark ≡ 0 → (rest : List Hop) → length rest ≡ k → Walk P (hop_of P place ∷ rest) → ⊥
  pub reached : 1 ≤ mark → Reached s P marks k place mark value

-- the first n places of row k, each with its mark and a value
abbrev pub Row : {V : Type 0} → Scale V → Problem → (ℕ → ℕ → ℕ) → (ℕ → V) → ℕ → ℕ → Type 0
Row s P marks values k n = (place : ℕ) → place < n → Tells s P marks k place (marks k place) (values place)

-- row k is told if there is a row before row k + 1
abbrev pub RowBefore : {V : Type 0} → Scale V → Problem → (ℕ → ℕ → ℕ) → (ℕ → V) → ℕ → Type 0
RowBefore s P marks values zero = Unit {0}
RowBefore s P marks values (suc k) = Row s P marks values k (places P)

-- the place of lesser value, of the best so far, if any, and another
abbrev pub lesser : {V : Type 0} → Scale V → (ℕ → V) → Option ℕ → ℕ → ℕ
lesser s values None place = place
lesser s values (Some best) place = cond (s.not_above (values best) (values place)) best place

-- of some places one of least value
abbrev pub Least : {V : Type 0} → Scale V → (ℕ → V) → (ℕ → Type 0) → Option ℕ → Type 0
Least s values Among None = (place : ℕ) → Among place → ⊥
Least s values Among (Some best) = Among best × ((place : ℕ) → Among place → s.not_above (values best) (values place) ≡ true)

-- the highest lane from which a turn may lead to a lane
abbrev pub lane_before : Turn → ℕ → Option ℕ
lane_before Never lane = None
lane_before Free lane = Some lane
lane_before Climb lane = cond (nat_lt 0 lane) (Some (lane - 1)) None

-- the place of a lane of a link, if it is marked
abbrev pub marked_at : Problem → (ℕ → ℕ → ℕ) → ℕ → ℕ → ℕ → Option ℕ
marked_at P marks k link lane = let place : ℕ = link * P.lanes + lane in cond (nat_lt 0 (marks k place)) (Some place) None

-- the place of row k on a link from which a walk may go on to a hop, if one is marked
abbrev pub place_before : Problem → (ℕ → ℕ → ℕ) → ℕ → Hop → ℕ → Option ℕ
place_before P marks k h link = option_and_then {T = ℕ} {U = ℕ} (marked_at P marks k link) (lane_before (P.layout.turn link h.link) h.lane)

-- Such a place, on a link that is not below a number.
pub record Before (P : Problem) (marks : ℕ → ℕ → ℕ) (k : ℕ) (h : Hop) (low place : ℕ) : Type 0 where
  pub link : ℕ
  pub seen : low ≤ link
  pub there : link < P.layout.links
  pub is : place_before P marks k h link ≡ Some place

-- a walk arrives at a place of row k
abbrev pub is_arrival : Problem → (ℕ → ℕ → ℕ) → ℕ → ℕ → Bool
is_arrival P marks k place = nat_lt 0 (marks k place) && P.layout.end (place / P.lanes) == P.target

-- Such a place, below a number.
pub record Arrival (P : Problem) (marks : ℕ → ℕ → ℕ) (k high place : ℕ) : Type 0 where
  pub seen : place < high
  pub is : is_arrival P marks k place ≡ true
