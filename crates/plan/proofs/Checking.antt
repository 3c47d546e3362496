-- A plan loaded on a blank grid.
use Rattle.std.proofs.Common.{◌≡◌, ℕ, List, Some, None, Ok, Err, Result, refl, sym, ap, ◌∙◌, subst}
use Rattle.std.proofs.Math.Path.{fun_ext}
use Rattle.layouts.specs.Layout.{Meaning}
use Rattle.model.specs.Grid.{blank}
use Rattle.model.specs.Kinds.{Kind, by_rules}
use Rattle.lanes.proofs.Blanks.{blank_queues}
use Rattle.codec.specs.declared.head.HeadNumbers.{HeadNumbers}
use Rattle.codec.specs.Heads.{values_of}
use Rattle.grid.specs.declared.tables.Tables.{Tables}
use Rattle.grid.specs.Views.{streams_in, slots_alike, outline}
use Rattle.grid.specs.Blank.{BlankTables}
use Rattle.plan.specs.declared.fault.LoadFault.{LoadFault}
use Rattle.plan.specs.declared.line.Summary.{Summary}
use Rattle.plan.specs.Loads.{Loading, Opens, ComesTo, loading, loading_on, sizes_of, Loads, streams_after}
use Rattle.plan.specs.Summaries.{summary_of}
use Rattle.plan.specs.Verdicts.{mesh_in, sizes_in, own_head, summed, loading_blank, verdict_on, verdict_of}
use Rattle.plan.proofs.Rising.{streams_opened}

-- what is told once loading has come to its answer, of a grid of so many links: its summary, or the fault
abbrev pub tells : ℕ → Tables → Result ℕ LoadFault → Result Summary LoadFault
tells links t (Ok count) = Ok (summary_of links (streams_in t))
tells links t (Err f) = Err f

-- the tables of a blank grid of a kind, and of the sizes that a head asks for
module _ (kind : Kind) (h : HeadNumbers) (t : Tables) (is_blank : BlankTables kind.links h.lanes.value h.depth.value h.capacity.value t) (plan : List ℕ) where
  abbrev whole : Loading
  whole = loading_blank kind (sizes_in (values_of h)) plan

  outline_blank : outline t ≡ blank
  outline_blank = rw (fun_ext is_blank.no_stream, blank_queues t.lanes is_blank.no_item (slots_alike t)) refl

  loading_is : loading_on kind t plan ≡ whole
  loading_is =
      ap (λ g. loading kind (sizes_of t) g plan) outline_blank
      ∙ rw (is_blank.has_lanes, is_blank.has_depth, is_blank.has_capacity) refl

  module _ (t' : Tables) where
    streams_are : Opens kind t whole.opened t' → streams_after (λ _. None) whole.opened ≡ streams_in t'
    streams_are opens =
        sym (streams_opened kind whole.opened t t' opens ∙ ap (λ streams. streams_after streams whole.opened) (fun_ext is_blank.no_stream))

    summed_tells : (r : Result ℕ LoadFault) → ComesTo kind t whole r t' → summed kind.links whole.opened r ≡ tells kind.links t' r
    summed_tells (Ok count) comes = ap (λ streams. Ok (summary_of kind.links streams)) (streams_are comes.1)
    summed_tells (Err f) comes = refl

    verdict_on_is : (r : Result ℕ LoadFault) → Loads kind t plan r t' → verdict_on kind (sizes_in (values_of h)) plan ≡ tells kind.links t' r
    verdict_on_is r loads =
        let comes = subst (λ l. ComesTo kind t l r t') loading_is loads in
        ap (summed kind.links whole.opened) (sym comes.0) ∙ summed_tells r comes

-- the verdict on a plan that is loaded on the grid of its own head
pub verdict_is : (m : Meaning) (h : HeadNumbers) (t : Tables) → BlankTables m.links h.lanes.value h.depth.value h.capacity.value t
    → (plan : List ℕ) (t' : Tables) (r : Result ℕ LoadFault) → Ok h ≡ own_head plan → mesh_in (values_of h) ≡ Some m
    → Loads (by_rules m) t plan r t' → tells m.links t' r ≡ verdict_of plan
unfolding verdict_of
verdict_is m h t is_blank plan t' r head mesh loads = sym (rw (sym head, mesh) (verdict_on_is (by_rules m) h t is_blank plan t' r loads))

-- the fault of a head is the verdict
pub head_refused : (plan : List ℕ) (f : LoadFault) → Err f ≡ own_head plan → Err f ≡ verdict_of plan
unfolding verdict_of
head_refused plan f is = rw (sym is) refl
