-- What making a call means.
use Rattle.std.proofs.Common.{◌≡◌, ℕ, Bool, false, List, [], ◌∷◌, length, None, Ok, Err, Option, Result, sym, refl, ap, subst, ◌∙◌}
use Rattle.refusals.specs.declared.refusal.Refusal.{Refusal}
use Rattle.routes.specs.Checks.{no_hop}
use Rattle.routes.specs.declared.declined.Declined.{Declined}
use Rattle.routes.specs.declared.hop.Hop.{Hop}
use Rattle.model.specs.Kinds.{Kind}
use Rattle.model.specs.Calls.{Call as GridCall, opens, done, Answer}
use Rattle.model.specs.Runs.{History, start, ◌▸◌}
use Rattle.model.specs.Outlines.{without_items}
use Rattle.grid.specs.declared.tables.Tables.{Tables}
use Rattle.grid.specs.Views.{view, setting}
use Rattle.grid.specs.Makes.{Makes}
use Rattle.grid.specs.InTurn.{InTurn, no_call, one_more}
use Rattle.grid.specs.Sweeps.{Workspace, suffices, TooFew}
use Rattle.codec.specs.Records.{Entry}
use Rattle.plan.specs.declared.fault.LoadFault.{LoadFault}
use Rattle.plan.specs.Loads.{sizes_of, Opens, loading, loading_on, Loads}
use Rattle.runs.specs.declared.call.Call.TheVariants.{Sweep}
use Rattle.runs.specs.declared.call.Failure.{Failure}
use Rattle.runs.specs.declared.call.Failure.TheVariants as failure
use Rattle.runs.specs.declared.call.Reply.{Reply}
use Rattle.runs.specs.Calls.{StandsFor, open_reply, load_reply}
use Rattle.runs.specs.Routings.{Asked, opening_answer, OpensOn, OpensBy}
use Rattle.runs.specs.Meanings.{Conditions, may_sweep, MeansOpening, then_opened, MeansLoad, MeansOne}
use Rattle.runs.specs.Making.{Shown, MakesCall}
use Rattle.runs.proofs.Turns.{turn_same}
use Rattle.runs.proofs.Edited.{opened}

-- a call that is one call of the grid in words
pub one_made : {T : Type 0} {k : Kind} {t t' : Tables} {xs xs' : List T} {c : GridCall T} {a : Answer T} (r : Result (Reply T) Failure)
    → Makes k t xs c a t' xs' → StandsFor r a → (made : History T) × MeansOne (setting k t (length xs)) (view t xs) c r made × InTurn k t xs made t' xs'
one_made {c = c} {a = a} r makes stands = (start ▸ c, (subst (StandsFor r) makes.answer stands, refl), one_more a no_call makes)

-- an opening
module _ {T : Type 0} (searches : Bool) (Finds : Result (List Hop) Declined → Type 0) (k : Kind) (t t' : Tables) (xs : List T) (a : Asked) where
  opening_on : (r : Result (Option ℕ) Declined) (found : Result (List Hop) Declined) → Finds found → r ≡ opening_answer searches found → OpensOn k t a found t'
      → (made : History T) × MeansOpening searches Finds (setting k t (length xs)) (view t xs) a (open_reply r) made × InTurn k t xs made t' xs
  opening_on r (Ok hops) finds answer edits =
      let makes = opened k t t' a.stream None xs a.request hops edits in
      (start ▸ opens a.stream a.request hops, (Ok hops, finds, ap open_reply answer, (sym makes.answer, refl)), one_more done no_call makes)
  opening_on r (Err d) finds answer same = (start, (Err d, finds, ap open_reply answer, refl), turn_same k t' no_call same)

pub opening_made : {T : Type 0} {searches : Bool} {Finds : Result (List Hop) Declined → Type 0} {k : Kind} {t t' : Tables} {a : Asked}
    {r : Result (Option ℕ) Declined} (xs : List T) → OpensBy searches Finds k t a r t'
    → (made : History T) × MeansOpening searches Finds (setting k t (length xs)) (view t xs) a (open_reply r) made × InTurn k t xs made t' xs
opening_made {searches = searches} {Finds = Finds} {k = k} {t = t} {t' = t'} {a = a} {r = r} xs by =
    opening_on searches Finds k t t' xs a r by.found by.finds by.answer by.leaves

-- the lanes stay
on_lanes : (k : Kind) (t t' : Tables) (a : Asked) (found : Result (List Hop) Declined) → OpensOn k t a found t' → t'.lanes ≡ t.lanes
on_lanes k t t' a (Ok hops) edits = edits.lanes
on_lanes k t t' a (Err d) same = same.lanes

pub opening_lanes : {searches : Bool} {Finds : Result (List Hop) Declined → Type 0} {k : Kind} {t t' : Tables} {a : Asked} {r : Result (Option ℕ) Declined}
    → OpensBy searches Finds k t a r t' → t'.lanes ≡ t.lanes
opening_lanes {k = k} {t = t} {t' = t'} {a = a} by = on_lanes k t t' a by.found by.leaves

-- a sweep that is declined
pub sweep_declined : {R T : Type 0} (C : Conditions R) {before after : Workspace T} {entries : ℕ} {refusal : Refusal} → TooFew entries before refusal after
    → may_sweep C ≡ suffices entries before → MakesCall C before.tables before.slots Sweep (Err (failure.Declined (no_hop refusal))) after.tables after.slots
sweep_declined C {before = before} few is =
    let cause : may_sweep C ≡ false = is ∙ few.cause in
    (start, (rw (cause, few.told) refl, rw cause refl), subst (λ w. InTurn C.kind before.tables before.slots start w.tables w.slots) (sym few.unchanged) no_call)

-- a load
module _ {T : Type 0} (k : Kind) (t : Tables) (xs : List T) where
  -- the records are opened in turn
  opened_each : (es : List Entry) (past : History T) (between t' : Tables) → InTurn k t xs past between xs → Opens k between es t'
      → InTurn k t xs (then_opened past es) t' xs
  opened_each [] past between t' turn same = turn_same k t' turn same
  opened_each (e ∷ more) past between t' turn opens_more =
      let makes = opened k between opens_more.0 e.stream None xs e.request e.hops opens_more.1 in
      opened_each more (past ▸ opens e.stream e.request e.hops) opens_more.0 t' (one_more done turn makes) opens_more.2

  pub load_made : (plan : List ℕ) (r : Result ℕ LoadFault) (t' : Tables) → Shown t xs → Loads k t plan r t'
      → (made : History T) × MeansLoad (loading k (sizes_of t) (without_items (view t xs)) plan) (load_reply r) made × InTurn k t xs made t' xs
  load_made plan r t' shown loads =
      let turn = opened_each (loading_on k t plan).opened start t t' no_call loads.1 in
      subst
      (λ g. (made : History T) × MeansLoad (loading k (sizes_of t) g plan) (load_reply r) made × InTurn k t xs made t' xs)
      (sym shown)
      (then_opened start (loading_on k t plan).opened, (ap load_reply loads.0, refl), turn)
