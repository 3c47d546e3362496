-- All lanes of a grid, in the order of a sweep.
use Rattle.std.proofs.Common.{◌≡◌, ℕ, zero, suc, ◌+◌, ◌<◌, ◌≤◌, true, false, List, [], ◌∷◌, ◌++◌, map, ◌⊎◌, inl, inr, refl, zero-add, append-nil, sym, ap, ◌∙◌, ⊎_elim, arith}
use Rattle.std.specs.List.{AllByRecursion as All, flat_map, range_with_len}
use Rattle.std.proofs.lemmas.Bool.{cases_eq, cases_Bool, true≢false, and_parts, ltb-true}
use Rattle.std.proofs.lemmas.Grind.{flat_map-append}
use Rattle.std.proofs.lemmas.List.FromFn.{map-range_with_len_more}
use Rattle.routes.specs.Routes.{hop_on, is_on_grid}
use Rattle.model.specs.Grid.{Setting, Grid, enough_slots}
use Rattle.model.specs.Calls.{steps, outcome, lane_refusal, stepping}
use Rattle.model.specs.Runs.{History, ◌▸◌, then_steps, is_declined}
use Rattle.model.specs.Law.{WillStep, NoLaneWillStep}
use Rattle.model.specs.Sweeps.{lanes_of, all_lanes}

-- ---- one more

range_more : (a n : ℕ) → range_with_len a (n + 1) ≡ range_with_len a n ++ ((a + n) ∷ [])
range_more a n =
    sym (map_same (range_with_len a (n + 1)))
    ∙ map-range_with_len_more (λ k. k) a n (a + n) refl
    ∙ ap (λ l. l ++ ((a + n) ∷ [])) (map_same (range_with_len a n))
  where
    map_same : (l : List ℕ) → map (λ k. k) l ≡ l
    map_same [] = refl
    map_same (k ∷ l) = ap (λ l. k ∷ l) (map_same l)

-- one lane more of a link, and one link more
lanes_of_more : (lane link : ℕ) → lanes_of (lane + 1) link ≡ lanes_of lane link ++ ((link, lane) ∷ [])
lanes_of_more lane link = map-range_with_len_more (λ lane. (link, lane)) 0 lane lane (omega arith)

all_lanes_more : (link lanes : ℕ) → all_lanes (link + 1) lanes ≡ all_lanes link lanes ++ lanes_of lanes link
all_lanes_more link lanes =
    ap (flat_map (lanes_of lanes)) (range_more 0 link)
    ∙ flat_map-append (lanes_of lanes) (range_with_len 0 link) ((0 + link) ∷ [])
    ∙ ap (λ l. all_lanes link lanes ++ l) (ap (λ l. lanes_of lanes l ++ []) (zero-add link) ∙ append-nil (lanes_of lanes link))

-- the steps of some lanes, and then those of more
then_append : {T : Type 0} (past : History T) (first more : List (ℕ × ℕ)) → then_steps past (first ++ more) ≡ then_steps (then_steps past first) more
then_append past [] more = refl
then_append past (p ∷ first) more = then_append (past ▸ steps p.0 p.1) first more

pub lane_past : {T : Type 0} (past : History T) (lane link : ℕ) → then_steps past (lanes_of lane link) ▸ steps link lane ≡ then_steps past (lanes_of (lane + 1) link)
lane_past past lane link = sym (ap (then_steps past) (lanes_of_more lane link) ∙ then_append past (lanes_of lane link) ((link, lane) ∷ []))

pub link_past : {T : Type 0} (past : History T) (lanes link : ℕ)
    → then_steps (then_steps past (all_lanes link lanes)) (lanes_of lanes link) ≡ then_steps past (all_lanes (link + 1) lanes)
link_past past lanes link = sym (ap (then_steps past) (all_lanes_more link lanes) ∙ then_append past (all_lanes link lanes) (lanes_of lanes link))

-- ---- all of them

-- What holds of all lanes holds of each.
module _ (P : ℕ × ℕ → Type 0) where
  both_parts : (first more : List (ℕ × ℕ)) → All P (first ++ more) → All P first × All P more
  both_parts [] more all = (tt, all)
  both_parts (p ∷ first) more all = let rest = both_parts first more all.1 in ((all.0, rest.0), rest.1)

  lane_at : (link lane a n : ℕ) → a ≤ lane → lane < a + n → All P (map (λ lane. (link, lane)) (range_with_len a n)) → P (link, lane)
  lane_at link lane a zero above below all = absurd (omega arith)
  lane_at link lane a (suc n) above below all =
      ⊎_elim
      (λ (here : lane ≡ a). rw here all.0)
      (λ (later : lane ≡ a → ⊥). lane_at link lane (a + 1) n (omega arith) (omega arith) all.1)
      (cases_eq lane a)

  link_at : (lanes link a n : ℕ) → a ≤ link → link < a + n → All P (flat_map (lanes_of lanes) (range_with_len a n)) → All P (lanes_of lanes link)
  link_at lanes link a zero above below all = absurd (omega arith)
  link_at lanes link a (suc n) above below all =
      let parts = both_parts (lanes_of lanes a) (flat_map (lanes_of lanes) (range_with_len (a + 1) n)) all in
      ⊎_elim
      (λ (here : link ≡ a). rw here parts.0)
      (λ (later : link ≡ a → ⊥). link_at lanes link (a + 1) n (omega arith) (omega arith) parts.1)
      (cases_eq link a)

  each_lane : (links lanes link lane : ℕ) → link < links → lane < lanes → All P (all_lanes links lanes) → P (link, lane)
  each_lane links lanes link lane link_low lane_low all = lane_at link lane 0 lanes (omega arith) (omega arith) (link_at lanes link 0 links (omega arith) (omega arith) all)

-- a lane that is not there does not step
pub off_grid : {T : Type 0} (S : Setting) (g : Grid T) (link lane : ℕ) → is_on_grid S.links S.lanes (hop_on link lane) ≡ false → WillStep S g link lane → ⊥
unfolding stepping lane_refusal
off_grid S g link lane off goes =
    ⊎_elim (λ (yes : enough_slots S ≡ true). let declined = rw (yes, off) at goes in cc) (λ (no : enough_slots S ≡ false). let declined = rw no at goes in cc)
    (cases_Bool (enough_slots S))

module _ {T : Type 0} (S : Setting) (g : Grid T) where
  abbrev pub Stuck : ℕ × ℕ → Type 0
  Stuck p = WillStep S g p.0 p.1 → ⊥

  -- no lane will step if none of these does
  pub no_lane : All Stuck (all_lanes S.links S.lanes) → NoLaneWillStep S g
  no_lane stuck link lane goes =
      ⊎_elim
      (λ (there : is_on_grid S.links S.lanes (hop_on link lane) ≡ true).
      let parts = and_parts _ _ there in
      each_lane Stuck S.links S.lanes link lane (ltb-true _ _ parts.0) (ltb-true _ _ parts.1) stuck goes)
      (λ (off : is_on_grid S.links S.lanes (hop_on link lane) ≡ false). off_grid S g link lane off goes)
      (cases_Bool (is_on_grid S.links S.lanes (hop_on link lane)))

  -- one of some lanes will step, or none of them does
  pub some_or_stuck : (lanes : List (ℕ × ℕ)) → ((link : ℕ) × (lane : ℕ) × WillStep S g link lane) ⊎ All Stuck lanes
  some_or_stuck [] = inr tt
  some_or_stuck (p ∷ lanes) =
      ⊎_elim
      (λ (declined : is_declined (outcome S g (steps p.0 p.1)).answer ≡ true).
      ⊎_elim inl (λ (stuck : All Stuck lanes). inr ((λ goes. true≢false (sym declined ∙ goes)), stuck)) (some_or_stuck lanes))
      (λ (goes : is_declined (outcome S g (steps p.0 p.1)).answer ≡ false). inl (p.0, p.1, goes))
      (cases_Bool (is_declined (outcome S g (steps p.0 p.1)).answer))
