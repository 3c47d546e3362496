-- The examples of best routes. Which links a route may take, and what it measures, is computed.
use Rattle.std.proofs.Common.{◌≡◌, ℕ, ◌≤◌, Ok, ◌⊎◌, inl, inr, List, length, refl, ⊎_elim}
use Rattle.layouts.specs.Mesh.{mesh_meaning}
use Rattle.layouts.specs.declared.turn_rule.TurnRule.{TurnRule}
use Rattle.layouts.specs.declared.turn_rule.TurnRule.TheVariants.{Xy, NegativeFirst}
use Rattle.routes.specs.declared.hop.Hop.{Hop}
use Rattle.routes.specs.declared.stream.Request.{Request}
use Rattle.routes.specs.Loads.{load}
use Rattle.routes.specs.Checks.{Terms, terms_on, judgement}
use Rattle.routes.specs.Acceptable.{Acceptable}
use Rattle.routes.proofs.Judging.{acceptable}
use Rattle.model.specs.Grid.{assign}
use Rattle.model.specs.Calls.{open_refusal}
use Rattle.model.specs.Runs.{History, after}
use Rattle.search.specs.Scales.{Scale, Ordered, total, peak}
use Rattle.search.specs.ScaleLaws.{total_ordered, peak_ordered}
use Rattle.examples.specs.Examples.{square, loaded, corner, to_middle, detour, OnlyFinds, LoadedSeeks, shared, SharedSeeks}
use Rattle.examples.proofs.Candidates.{none_acceptable}
use Rattle.examples.proofs.Bests.{only_best, only_finds, only_none}
use Rattle.examples.proofs.TwoHops.{two_at_least, each_pair, on_one_lane, on_two_lanes}

-- what routes are judged by beside the streams that are open after some calls
abbrev terms_after : TurnRule → ℕ → History ℕ → Terms
terms_after rule lanes past = terms_on (mesh_meaning rule 3 3) lanes 100 (after (square rule lanes) past).streams

-- With two lanes the only two hops are over links 12 and 2, and the second one takes the higher lane.
go_round : {V : Type 0} (s : Scale V) → Ordered s → OnlyFinds s Xy 2 loaded (to_middle 30) (Ok (detour 1))
unfolding load judgement assign open_refusal
go_round s ordered =
    let t = terms_after Xy 2 loaded in
    let q = to_middle 30 in
    only_finds s _ t q refl (detour 1)
    (only_best s ordered t q (detour 1) (acceptable t q (detour 1) refl) (λ other a. two_at_least t q other a (λ e. cc, tt))
    (λ other a two. inl (each_pair t q other a (other ≡ detour 1) two ((λ x y. on_two_lanes t q other a 12 2 two x y refl refl, tt), tt))))

-- With one lane the first link is 12, then comes 15, and then none.
pub loaded_seeks : LoadedSeeks
unfolding load judgement assign open_refusal
loaded_seeks = (
  refl,
  only_none total _ (terms_after Xy 1 loaded) (to_middle 30) refl (none_acceptable _ _ 3 ((λ e. cc, ((λ e. cc, tt), tt)), tt)),
  go_round total total_ordered,
  go_round peak peak_ordered,
)

-- Beside the three streams two hops are over links 0 and 13 or over links 12 and 2.
abbrev t : Terms
t = terms_after NegativeFirst 1 shared

abbrev q : Request
q = to_middle 10

no_single_hop : (other : List Hop) → Acceptable t q other → 2 ≤ length other
unfolding load judgement assign open_refusal
no_single_hop other a = two_at_least t q other a (λ e. cc, (λ e. cc, tt))

two_ways : (other : List Hop) → Acceptable t q other → length other ≡ 2 → (other ≡ corner) ⊎ (other ≡ detour 0)
unfolding load judgement assign open_refusal
two_ways other a two =
    each_pair t q other a ((other ≡ corner) ⊎ (other ≡ detour 0)) two
    ((λ x y. inr (on_one_lane t q other a 12 2 two x y refl), tt), ((λ x y. inl (on_one_lane t q other a 0 13 two x y refl), tt), tt))

pub shared_seeks : SharedSeeks
unfolding load judgement assign open_refusal
shared_seeks = (
  only_finds total _ t q refl corner
      (only_best total total_ordered t q corner (acceptable t q corner refl) no_single_hop
      (λ other a two. ⊎_elim (λ (is : other ≡ corner). inl is) (λ (is : other ≡ detour 0). inr (rw is (refl, refl))) (two_ways other a two))),
  only_finds peak _ t q refl (detour 0)
      (only_best peak peak_ordered t q (detour 0) (acceptable t q (detour 0) refl) no_single_hop
      (λ other a two. ⊎_elim (λ (is : other ≡ corner). inr (rw is (refl, refl))) (λ (is : other ≡ detour 0). inl is) (two_ways other a two))),
)
