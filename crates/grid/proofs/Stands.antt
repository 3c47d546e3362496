-- Every call keeps the items standing, told on the outline, and while there is one, some lane will step.
use Rattle.std.proofs.Common.{◌≡◌, ℕ, ◌≤◌, ◌<◌, true, false, List, length, subst, refl, sym, ap, ◌∙◌, ⊎_elim, arith}
use Rattle.std.specs.List.{list_all}
use Rattle.std.proofs.lemmas.Bool.{cases_lt}
use Rattle.std.proofs.lemmas.Bool.Decides.{nat_tests}
use Rattle.std.proofs.lemmas.List.{length-replicate}
use Rattle.model.specs.Kinds.{Kind}
use Rattle.model.specs.Grid.{Setting, Grid, enough_slots, route_of}
use Rattle.model.specs.Calls.{Call, sends, steps, Answer, outcome, send_refusal, lane_refusal, stepping}
use Rattle.model.specs.Runs.{is_declined}
use Rattle.model.specs.Outlines.{without_items}
use Rattle.model.specs.Safe.{Reached, Safe, never_locks}
use Rattle.model.specs.Standing.{takes, AllStand}
use Rattle.model.proofs.Kept.{Kept}
use Rattle.model.proofs.Onward.{keeps_from}
use Rattle.model.proofs.SlotCounts.{length-slots_after}
use Rattle.model.proofs.Standing.{stands_kept, stand_next, outline_stands, stands_if_outline}
use Rattle.lanes.specs.Sizes.{slot_count}
use Rattle.lanes.specs.Queues.{IsBlank}
use Rattle.lanes.proofs.Blanks.{blank_queues}
use Rattle.lanes.proofs.Outlines.{outline_view}
use Rattle.grid.specs.declared.tables.Tables.{Tables}
use Rattle.grid.specs.Views.{streams_in, with_streams, view, slots_alike, outline, setting}
use Rattle.grid.specs.Laws.{LawFrom}
use Rattle.grid.specs.Makes.{Same, Makes, Edits}

-- there are slots for all lanes
abbrev pub Lends : {T : Type 0} → Tables → List T → Type 0
Lends t xs = slot_count t.lanes.size ≤ length xs

-- the slots show the outline
pub view_outline : {T : Type 0} (t : Tables) (xs : List T) → Lends t xs → without_items (view t xs) ≡ outline t
view_outline t xs lends = ap (with_streams (streams_in t)) (outline_view t.lanes xs lends)

pub view_stands : {T : Type 0} (t : Tables) (xs : List T) → Lends t xs → AllStand (outline t) → AllStand (view t xs)
view_stands t xs lends stand = stands_if_outline (view t xs) (subst (λ (g : Grid (Unit {0})). AllStand g) (sym (view_outline t xs lends)) stand)

-- tables that are as before are kept
pub same_stands : (t t' : Tables) → Same t t' → AllStand (outline t) → AllStand (outline t')
same_stands t t' same stand = rw (same.lanes, same.streams) stand

module _ {T : Type 0} (k : Kind) (t : Tables) (links : k.links ≡ t.lanes.size.links) (xs : List T) where
  abbrev S : Setting
  S = setting k t (length xs)

  pub enough : Lends t xs → enough_slots S ≡ true
  enough lends = rw links (grind (arith, nat_tests))

  -- a call leaves as many slots
  pub lends_next : (c : Call T) (a : Answer T) (t' : Tables) (xs' : List T) → Makes k t xs c a t' xs' → Lends t xs → Lends t' xs'
  lends_next c a t' xs' makes lends =
      let long : length xs' ≡ length xs = ap length makes.slots ∙ length-slots_after S (view t xs) c xs in
      rw (makes.size, long) lends

  module _ (safe : Safe S) (reached : ∥ Reached S.judge (streams_in t) ∥₁) (stand : AllStand (outline t)) where
    -- after a call that is lent slots enough
    pub stands_next : Lends t xs → (c : Call T) (a : Answer T) (t' : Tables) (xs' : List T) → Makes k t xs c a t' xs' → AllStand (outline t')
    stands_next lends c a t' xs' makes =
        let next = subst (λ (g : Grid T). AllStand g) (sym makes.grid) (stand_next S (view t xs) (never_locks safe) (enough lends) (view_stands t xs lends stand) reached c) in
        subst (λ (g : Grid (Unit {0})). AllStand g) (view_outline t' xs' (lends_next c a t' xs' makes lends)) (outline_stands (view t' xs') next)

    -- after any send or step, since too few slots decline it
    moved_stands : (c : Call T) → (enough_slots S ≡ false → is_declined (outcome S (view t xs) c).answer ≡ true)
        → (a : Answer T) (t' : Tables) (xs' : List T) → Makes k t xs c a t' xs' → AllStand (outline t')
    moved_stands c declines a t' xs' makes =
        ⊎_elim
        (λ (few : length xs < slot_count t.lanes.size).
        let no : enough_slots S ≡ false = rw links (grind (arith, nat_tests)) in
        same_stands t t' (makes.declined (ap is_declined makes.answer ∙ declines no)) stand)
        (λ (lends : Lends t xs). stands_next lends c a t' xs' makes)
        (cases_lt (length xs) (slot_count t.lanes.size))

    pub sent_stands : (n : ℕ) (x : T) (a : Answer T) (t' : Tables) (xs' : List T) → Makes k t xs (sends n x) a t' xs' → AllStand (outline t')
    unfolding send_refusal
    sent_stands n x = moved_stands (sends n x) (λ few. rw few refl)

    pub stepped_stands : (link lane : ℕ) (a : Answer T) (t' : Tables) (xs' : List T) → Makes k t xs (steps link lane) a t' xs' → AllStand (outline t')
    unfolding stepping lane_refusal
    stepped_stands link lane = moved_stands (steps link lane) (λ few. rw few refl)

    pub kept : Lends t xs → Kept S (view t xs)
    kept lends = stands_kept S (view t xs) (never_locks safe) (enough lends) (view_stands t xs lends stand) reached

    -- the law of every grid
    pub law_from : LawFrom k t xs
    law_from lends = keeps_from S (never_locks safe) (view t xs) reached (kept lends) t.lanes.size.deep.0

-- after an opening or a closing
pub edited_stands : (k : Kind) (t : Tables) → k.links ≡ t.lanes.size.links → Safe (setting k t (length (slots_alike t))) → ∥ Reached (k.judge t.lanes.size.lanes t.capacity) (streams_in t) ∥₁
    → AllStand (outline t) → (c : Call (Unit {0})) (a : Answer (Unit {0})) (t' : Tables) → Edits k t c a t' → AllStand (outline t')
edited_stands k t links safe reached stand c a t' edits =
    let all = length-replicate {A = Unit {0}} (slot_count t.lanes.size) tt in
    stands_next k t links (slots_alike t) safe reached stand (omega arith) c a t' (slots_alike t) edits.made

-- no lane of a blank grid contains an item
pub blank_stands : (t : Tables) → IsBlank t.lanes → AllStand (outline t)
blank_stands t blank link lane =
    let none = ap (λ (g : Grid (Unit {0})). g.contents link lane) (blank_queues t.lanes blank (slots_alike t)) in
    ap (list_all (λ i. takes (route_of (streams_in t i.0)) link lane)) none
