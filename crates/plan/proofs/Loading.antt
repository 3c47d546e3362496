-- Records opened one by one.
use Rattle.std.proofs.Common.{◌≡◌, ℕ, zero, suc, ◌+◌, ◌-◌, ◌<◌, ◌≤◌, true, false, nat_lt, List, [], ◌∷◌, length, Some, None, Ok, Err, Option, Result, refl, sym, ap, ◌∙◌, subst, arith}
use Rattle.std.proofs.lemmas.Bool.Decides.{nat_tests}
use Rattle.refusals.specs.declared.refusal.Refusal.TheVariants.{TrailingBytes}
use Rattle.model.specs.Kinds.{Kind}
use Rattle.routes.specs.declared.declined.Declined.{Declined}
use Rattle.routes.specs.declared.hop.Hop.{Hop}
use Rattle.routes.specs.declared.stream.Request.{Request}
use Rattle.model.specs.Grid.{Grid, assign, with_stream}
use Rattle.model.specs.Calls.{opens, Answer, done, declined, unless_declined, open_refusal}
use Rattle.lanes.specs.Queues.{alike_slots}
use Rattle.grid.specs.declared.tables.Tables.{Tables}
use Rattle.grid.specs.Views.{streams_in, view, slots_alike, outline, setting}
use Rattle.grid.specs.Makes.{Same, Edits}
use Rattle.codec.specs.declared.head.HeadNumbers.{HeadNumbers}
use Rattle.codec.specs.declared.number.ByteFault.{ByteFault}
use Rattle.codec.specs.Records.{Entry, record_at}
use Rattle.plan.specs.declared.fault.InRecord.{InRecord}
use Rattle.plan.specs.declared.fault.LoadFault.{LoadFault}
use Rattle.plan.specs.declared.fault.LoadFault.TheVariants as fault
use Rattle.plan.specs.Loads.{Loading, accepted_head, sizes_of, opening_of, records_from, loading_on, Opens, ComesTo}

-- what the records that are left come to on the tables so far is what the whole comes to on those at the beginning
pub record Left (kind : Kind) (start : Tables) (whole : Loading) (plan : List ℕ) (t : Tables) (k place n : ℕ) : Type 0 where
  pub gives : (r : Result ℕ LoadFault) (t' : Tables) → ComesTo kind t (records_from (setting kind t 0) plan (outline t) k place n) r t'
      → ComesTo kind start whole r t'

pub same : (t : Tables) → Same t t
same t = record { lanes = refl; streams = refl; capacity = refl }

module _ {T : Type 0} (g : Grid T) (next : Grid T) where
  not_declined : (o : Option Declined) → done ≡ (unless_declined o g (record { answer = done; grid = next })).answer → o ≡ None
  not_declined None is = refl
  not_declined (Some d) is = cc

  declined_by : (o : Option Declined) (d : Declined) → declined d ≡ (unless_declined o g (record { answer = done; grid = next })).answer → o ≡ Some d
  declined_by None d is = cc
  declined_by (Some c) d is = cc

-- what an opening says of the grid, whatever the slots
module _ (kind : Kind) (t t' : Tables) (n : ℕ) (q : Request) (hops : List Hop) where
  opened : Edits kind t (opens n q hops) done t' → open_refusal (setting kind t 0) (outline t) n q hops ≡ None
  unfolding open_refusal
  opened edits = not_declined (outline t) (with_stream (outline t) n (Some (record { request = q; hops = hops }))) _ edits.made.answer

  refused : (d : Declined) → Edits kind t (opens n q hops) (declined d) t' → open_refusal (setting kind t 0) (outline t) n q hops ≡ Some d
  unfolding open_refusal
  refused d edits = declined_by (outline t) (with_stream (outline t) n (Some (record { request = q; hops = hops }))) _ d edits.made.answer

  pub outline_is : Edits kind t (opens n q hops) done t' → outline t' ≡ with_stream (outline t) n (Some (record { request = q; hops = hops }))
  unfolding open_refusal
  outline_is edits =
      let none : open_refusal (setting kind t (length (slots_alike t))) (outline t) n q hops ≡ None = opened edits in
      ap (λ lanes. view t' (alike_slots lanes.size)) edits.lanes ∙ (edits.made.grid ∙ rw none refl)

  setting_is : (a : Answer (Unit {0})) → Edits kind t (opens n q hops) a t' → setting kind t' 0 ≡ setting kind t 0
  setting_is a edits = rw (edits.made.size, edits.made.capacity) refl

  pub streams_once_open : Edits kind t (opens n q hops) done t' → streams_in t' ≡ assign (streams_in t) n (Some (record { request = q; hops = hops }))
  streams_once_open edits = ap (λ g. g.streams) (outline_is edits)

  -- the records behind it are loaded on the grid that it leaves
  on_opened : Edits kind t (opens n q hops) done t' → (plan : List ℕ) (k place count : ℕ) → records_from (setting kind t' 0) plan (outline t') k place count
      ≡ records_from (setting kind t 0) plan (with_stream (outline t) n (Some (record { request = q; hops = hops }))) k place count
  on_opened edits plan k place count = rw (setting_is done edits, outline_is edits) refl

-- where records are opened one after another, the lanes and the capacity stay
pub rest_stays : (kind : Kind) (es : List Entry) (t t' : Tables) → Opens kind t es t' → (t'.lanes ≡ t.lanes) × (t'.capacity ≡ t.capacity)
rest_stays kind [] t t' made = (made.lanes, made.capacity)
rest_stays kind (e ∷ more) t t' made =
    let behind = rest_stays kind more made.0 t' made.2 in
    (behind.0 ∙ made.1.lanes, behind.1 ∙ made.1.made.capacity)

-- what has come of a record that is read and not declined
pub first_opened : (kind : Kind) (plan : List ℕ) (t : Tables) (k place n : ℕ) (e : Entry) (r : Result ℕ LoadFault) (t' : Tables) → record_at plan place ≡ Ok e
    → open_refusal (setting kind t 0) (outline t) e.stream e.request e.hops ≡ None
    → ComesTo kind t (records_from (setting kind t 0) plan (outline t) k place (suc n)) r t'
    → (between : Tables) × Edits kind t (opening_of e) done between
    × ComesTo kind between (records_from (setting kind between 0) plan (outline between) (k + 1) e.next n) r t'
unfolding records_from
first_opened kind plan t k place n e r t' is none comes =
    let parts = rw (is, none) at comes in
    let between = parts.1.0 in
    let on = on_opened kind t between e.stream e.request e.hops parts.1.1 plan (k + 1) e.next n in
    (between, parts.1.1, subst (λ l. ComesTo kind between l r t') (sym on) (parts.0, parts.1.2))

module _ (kind : Kind) (start : Tables) (whole : Loading) (plan : List ℕ) (t : Tables) (k place : ℕ) where
  pub cut_short : (n : ℕ) (f : InRecord ByteFault) → Left kind start whole plan t k place n → 0 < n → f.number ≡ k → record_at plan place ≡ Err f.fault
      → ComesTo kind start whole (Err (fault.RecordBytes f)) t
  unfolding records_from
  cut_short zero f left some number is = absurd (omega arith)
  cut_short (suc n) f left some number is = left.gives _ t (rw (is, sym number) (refl, same t))

  -- the kind of the grid is the same all along
  module _ (now : Kind) (stays : now ≡ kind) (e : Entry) (t' : Tables) (n : ℕ) (left : Left kind start whole plan t k place n)
      (is : record_at plan place ≡ Ok e) where
    pub turned_away : (f : InRecord Declined) → 0 < n → f.number ≡ k → Edits now t (opening_of e) (declined f.fault) t'
        → ComesTo kind start whole (Err (fault.Grid f)) t'
    unfolding records_from
    turned_away f some number edits =
        let here = subst (λ x. Edits x t (opening_of e) (declined f.fault) t') stays edits in
        let n_is : n ≡ suc (n - 1) = omega arith in
        left.gives _ t' (rw (n_is, is, refused kind t t' e.stream e.request e.hops f.fault here, sym number) (refl, here.made.declined refl))

    pub let_on : (n' : ℕ) → n ≡ suc n' → Edits now t (opening_of e) done t' → Left kind start whole plan t' (k + 1) e.next n'
    unfolding records_from
    let_on n' n_is edits = record {
      gives = λ r t'' more.
          let here = subst (λ x. Edits x t (opening_of e) done t') stays edits in
          let comes = subst (λ l. ComesTo kind t' l r t'') (on_opened kind t t' e.stream e.request e.hops here plan (k + 1) e.next n') more in
          left.gives r t'' (rw (n_is, is, opened kind t t' e.stream e.request e.hops here) (comes.0, (t', here, comes.1)));
    }

  pub trailing : (n : ℕ) → Left kind start whole plan t k place n → n ≡ 0 → place < length plan
      → ComesTo kind start whole (Err (fault.Plan (record { refusal = TrailingBytes; place = place }))) t
  unfolding records_from
  trailing n left none more = let test : nat_lt place (length plan) ≡ true = grind (arith, nat_tests) in left.gives _ t (rw (none, test) (refl, same t))

  pub finished : (n : ℕ) → Left kind start whole plan t k place n → n ≡ 0 → length plan ≤ place → ComesTo kind start whole (Ok k) t
  unfolding records_from
  finished n left none over = let test : nat_lt place (length plan) ≡ false = grind (arith, nat_tests) in left.gives _ t (rw (none, test) (refl, same t))

-- nothing is opened yet
pub begun : (kind : Kind) (start : Tables) (plan : List ℕ) (h : HeadNumbers) (count : ℕ) → Ok h ≡ accepted_head (sizes_of start) plan
    → count ≡ h.count.value → Left kind start (loading_on kind start plan) plan start 0 h.count.next (count - 0)
begun kind start plan h count is same_count =
    let all : count - 0 ≡ h.count.value = omega arith in
    record {
      gives = λ r t' comes. rw (sym is)
          (subst (λ n. ComesTo kind start (records_from (setting kind start 0) plan (outline start) 0 h.count.next n) r t') all comes);
    }
