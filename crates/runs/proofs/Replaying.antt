-- A replay, call by call.
use Rattle.std.proofs.Common.{◌≡◌, ℕ, ◌+◌, ◌<◌, ◌≤◌, List, [], ◌∷◌, ◌++◌, length, length-set, get_or, take, set, Result, sym, refl, ap, ◌∙◌, subst, arith}
use Rattle.std.proofs.Math.Path.{fun_ext}
use Rattle.std.proofs.lemmas.List.{take_all, take_more, take_more_set}
use Rattle.model.specs.Grid.{blank}
use Rattle.model.specs.Kinds.{on_kind}
use Rattle.model.specs.Runs.{History, start, after, then_calls}
use Rattle.model.specs.Slots.{slots_left}
use Rattle.model.specs.Outlines.{without_items}
use Rattle.model.specs.Law.{Keeps}
use Rattle.lanes.proofs.Blanks.{blank_queues}
use Rattle.grid.specs.declared.tables.Tables.{Tables}
use Rattle.grid.specs.Views.{view, slots_alike, outline, setting}
use Rattle.grid.specs.Blank.{BlankTables}
use Rattle.grid.specs.InTurn.{InTurn, no_call}
use Rattle.grid.proofs.InTurn.{turn_then}
use Rattle.plan.specs.Loads.{sizes_of}
use Rattle.runs.specs.declared.call.Call.{Call}
use Rattle.runs.specs.declared.call.Failure.{Failure}
use Rattle.runs.specs.declared.call.Reply.{Reply}
use Rattle.runs.specs.declared.lent.Lent.{Lent}
use Rattle.runs.specs.Lending.{SameSlices, out_tables}
use Rattle.runs.specs.Meanings.{Conditions, setting_in, Means, out_after}
use Rattle.runs.specs.Making.{Shown, MakesCall}
use Rattle.runs.specs.Runs.{Stage, next_stage, LeadsTo, LeftBy}
use Rattle.runs.proofs.Turns.{turn_sizes, turn_after, turn_left}

-- ---- what is lent

pub slices_refl : {T V : Type 0} (lent : Lent T V) → SameSlices lent lent
slices_refl lent = record {
  slots = refl;
  values = refl;
  marks = refl;
  streams = refl;
  items = refl;
  slot_count = refl;
  value_count = refl;
  mark_count = refl;
  stream_count = refl;
  item_count = refl;
}

pub slices_then : {T V : Type 0} {before between after : Lent T V} → SameSlices before between → SameSlices between after → SameSlices before after
slices_then first next = record {
  slots = next.slots ∙ first.slots;
  values = next.values ∙ first.values;
  marks = next.marks ∙ first.marks;
  streams = next.streams ∙ first.streams;
  items = next.items ∙ first.items;
  slot_count = next.slot_count ∙ first.slot_count;
  value_count = next.value_count ∙ first.value_count;
  mark_count = next.mark_count ∙ first.mark_count;
  stream_count = next.stream_count ∙ first.stream_count;
  item_count = next.item_count ∙ first.item_count;
}

-- ---- the calls made so far

-- one call more, where the law holds of every history
leads_more : {R T : Type 0} (C : Conditions R) (law : (past : History T) → Keeps (setting_in C) past)
    (stage : Stage T) (calls : List (Call T R)) (answers : List (Result (Reply T) Failure)) (so_far : Stage T)
    (c : Call T R) (r : Result (Reply T) Failure) (made : History T)
    → LeadsTo C stage calls answers so_far → Means C (after (setting_in C) so_far.history) c r made
    → LeadsTo C stage (calls ++ (c ∷ [])) (answers ++ (r ∷ [])) (next_stage C so_far c made)
leads_more C law stage [] [] so_far c r made leads means =
    let means = subst (λ s. Means C (after (setting_in C) s.history) c r made) leads.1 means in
    (law stage.history, (made, means, (law (then_calls stage.history made), ap (λ s. next_stage C s c made) leads.1)))
leads_more C law stage [] (a ∷ answers) so_far c r made leads means = absurd leads
leads_more C law stage (d ∷ calls) [] so_far c r made leads means = absurd leads
leads_more C law stage (d ∷ calls) (a ∷ answers) so_far c r made leads means =
    (leads.0, (leads.1.0, leads.1.1, leads_more C law (next_stage C stage d leads.1.0) calls answers so_far c r made leads.1.2 means))

-- A run begins on blank tables of these sizes, with so many slots; and the law holds of all its histories.
pub record Begins {R T : Type 0} (C : Conditions R) (t : Tables) (xs : List T) : Type 0 where
  pub law : (past : History T) → Keeps (setting_in C) past
  pub sizes : sizes_of t ≡ C.sizes
  pub slot_count : length xs ≡ C.slots
  pub is_blank : view t xs ≡ blank
  pub outline_is_blank : outline t ≡ blank

-- the stage where these calls are made, and this is lent
abbrev stage_on : {T V : Type 0} → History T → Lent T V → Stage T
stage_on past lent = record { history = past; tables = out_tables lent }

-- After k calls, the calls of their history have been made in turn, and the answers to them are written.
pub record Made {R T V : Type 0} (C : Conditions R) (t : Tables) (lent : Lent T V) (calls : List (Call T R)) (k : ℕ) (answers : List (Result (Reply T) Failure))
    (t' : Tables) (lent' : Lent T V) : Type 0 where
  pub begins : Begins C t lent.slots.now
  pub history : History T
  pub room : length answers ≡ length calls
  pub shown : Shown t' lent'.slots.now
  pub run : LeadsTo C (stage_on start lent) (take k calls) (take k answers) (stage_on history lent')
  pub turn : InTurn C.kind t lent.slots.now history t' lent'.slots.now

pub made_none : {R T V : Type 0} (C : Conditions R) (t : Tables) (lent : Lent T V) (calls : List (Call T R)) (answers : List (Result (Reply T) Failure))
    → ((past : History T) → Keeps (setting_in C) past) → length lent.slots.now ≡ C.slots
    → BlankTables C.kind.links C.sizes.lanes C.sizes.depth C.sizes.capacity t → length answers ≡ length calls → Made C t lent calls 0 answers t lent
made_none C t lent calls answers law slot_count blank_tables room =
    let xs = lent.slots.now in
    let is_blank : view t xs ≡ blank = rw (fun_ext blank_tables.no_stream, blank_queues t.lanes blank_tables.no_item xs) refl in
    let outline_is_blank : outline t ≡ blank = rw (fun_ext blank_tables.no_stream, blank_queues t.lanes blank_tables.no_item (slots_alike t)) refl in
    record {
      begins = record {
        law = law;
        sizes = rw (blank_tables.has_lanes, blank_tables.has_depth, blank_tables.has_capacity) refl;
        slot_count = slot_count;
        is_blank = is_blank;
        outline_is_blank = outline_is_blank;
      };
      history = start;
      room = room;
      shown = ap without_items is_blank ∙ sym outline_is_blank;
      run = (law start, refl);
      turn = no_call;
    }

setting_is : {R T : Type 0} {C : Conditions R} {t : Tables} {xs : List T} → Begins C t xs → setting C.kind t (length xs) ≡ setting_in C
setting_is {C = C} {xs = xs} begins = ap (λ z. on_kind C.kind z.lanes z.depth z.capacity (length xs)) begins.sizes ∙ rw begins.slot_count refl

module _ {R T V : Type 0} {C : Conditions R} {t t' : Tables} {lent lent' : Lent T V} {calls : List (Call T R)} {k : ℕ} {answers : List (Result (Reply T) Failure)}
    (made : Made C t lent calls k answers t' lent') where
  abbrev xs : List T
  xs = lent.slots.now

  pub sizes_are : sizes_of t' ≡ C.sizes
  sizes_are = turn_sizes C.kind made.turn ∙ made.begins.sizes

  pub grid_is : view t' lent'.slots.now ≡ after (setting_in C) made.history
  grid_is = turn_after C.kind t xs made.begins.is_blank made.turn ∙ ap (λ s. after s made.history) (setting_is made.begins)

  pub left_by : LeftBy (setting_in C) made.history xs t' lent'.slots.now
  left_by = record {
    grid = grid_is;
    outline = sym made.shown ∙ ap without_items grid_is;
    slots = turn_left C.kind t xs made.begins.is_blank made.turn ∙ ap (λ s. slots_left s made.history xs) (setting_is made.begins);
  }

  pub all_made : length calls ≤ k → LeadsTo C (stage_on start lent) calls answers (stage_on made.history lent')
  all_made all =
      let all_calls : take k calls ≡ calls = take_all k calls all in
      let all_answers : take k answers ≡ answers = take_all k answers (omega (arith, made.room)) in
      rw (all_calls, all_answers) at made.run

  -- one call more
  pub made_more : k < length calls → {c : Call T R} → c ≡ get_or calls k c → (r : Result (Reply T) Failure) {t'' : Tables} {lent'' : Lent T V}
      → MakesCall C t' lent'.slots.now c r t'' lent''.slots.now → out_tables lent'' ≡ out_after C (view t' lent'.slots.now) c (out_tables lent')
      → Shown t'' lent''.slots.now → Made C t lent calls (k + 1) (set answers k r) t'' lent''
  made_more less {c = c} is r {lent'' = lent''} makes tables shown =
      let more : take (k + 1) calls ≡ take k calls ++ (c ∷ []) = take_more calls k c less ∙ ap (λ d. take k calls ++ (d ∷ [])) (sym is) in
      let means = subst (λ g. Means C g c r makes.0) grid_is makes.1 in
      let stage : stage_on (then_calls made.history makes.0) lent'' ≡ next_stage C (stage_on made.history lent') c makes.0 =
      ap (λ out. record { history = then_calls made.history makes.0; tables = out }) (tables ∙ ap (λ g. out_after C g c (out_tables lent')) grid_is) in
      record {
        begins = made.begins;
        history = then_calls made.history makes.0;
        room = length-set answers k r ∙ made.room;
        shown = shown;
        run =
            rw (more, take_more_set answers k r (omega (arith, made.room)), stage)
            (leads_more C made.begins.law (stage_on start lent) (take k calls) (take k answers) (stage_on made.history lent') c r makes.0 made.run means);
        turn = turn_then made.turn makes.2;
      }
