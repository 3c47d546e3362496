-- No verdict rests on a byte past the first 4096: an accepted head has at most 10, each record that is opened at most 55, and of one that is not
-- opened at most 87 are read.
use Rattle.std.proofs.Common.{◌≡◌, ℕ, zero, suc, ◌+◌, ◌*◌, ◌<◌, ◌≤◌, cond, nat_lt, List, length, take, Some, None, Ok, Err, Option, Result, refl, ap, ◌∙◌, arith}
use Rattle.std.proofs.lemmas.Bool.Decides.{nat_tests}
use Rattle.std.proofs.lemmas.List.{length-take}
use Rattle.std.specs.Option.{option_map}
use Rattle.refusals.specs.declared.refusal.Refusal.TheVariants.{TrailingBytes}
use Rattle.layouts.specs.declared.turn_rule.TurnRule.{TurnRule}
use Rattle.layouts.specs.Law.{mesh_lawful}
use Rattle.layouts.specs.Mesh.{mesh_meaning}
use Rattle.routes.specs.declared.declined.Declined.{Declined}
use Rattle.model.specs.Grid.{Setting, Grid, blank}
use Rattle.model.specs.Kinds.{Kind, by_rules, on_kind}
use Rattle.model.specs.Calls.{open_refusal, opening}
use Rattle.model.proofs.Ranks.{lawful_safe}
use Rattle.model.proofs.Reopening.{rules_reopen}
use Rattle.codec.specs.declared.head.HeadFault.{HeadFault}
use Rattle.codec.specs.declared.head.HeadNumbers.{HeadNumbers}
use Rattle.codec.specs.declared.number.ByteFault.{ByteFault}
use Rattle.codec.specs.Heads.{head_at, values_of, judged, head_numbers, rule_numbered}
use Rattle.codec.specs.Records.{Entry, record_at, record_numbers}
use Rattle.codec.proofs.Standing.{Bytes}
use Rattle.codec.proofs.Heading.{head_stands}
use Rattle.codec.proofs.RecordBytes.{record_stands}
use Rattle.codec.proofs.Cutting.{head_cut, record_cut}
use Rattle.plan.specs.declared.fault.LoadFault.TheVariants as fault
use Rattle.plan.specs.Loads.{Loading, ends, and_on, once_read, at_end, records_from, if_judged, once_accepted, stream_in}
use Rattle.plan.specs.Verdicts.{sizes_in, IsAccepted, by_itself, summed, loading_blank, on_mesh, on_own_grid, verdict_of}
use Rattle.plan.proofs.Accepted.{makeable}
use Rattle.plan.proofs.SmallStreams.{LetsInSmall, lets_in_small}
use Rattle.plan.proofs.Lengths.{record_short, small_head, head_short}
use Rattle.plan.proofs.Rewriting.{can_open, hops_whole}

-- loading comes to the same where it goes on alike behind a record that is read, and behind one that is opened
once_same : (k : ℕ) (r : Result Entry ByteFault) (f g : Entry → Loading) → ((e : Entry) → r ≡ Ok e → f e ≡ g e) → once_read k r f ≡ once_read k r g
once_same k (Ok e) f g same = same e refl
once_same k (Err fault) f g same = refl

unless_same : (k : ℕ) (e : Entry) (o : Option Declined) (f g : Loading) → (o ≡ None → f ≡ g) → once_accepted k e o f ≡ once_accepted k e o g
unless_same k e None f g same = ap (and_on e) (same refl)
unless_same k e (Some d) f g same = refl

end_cut : (plan : List ℕ) (size count place : ℕ) → place < size → at_end (take size plan) count place ≡ at_end plan count place
end_cut plan size count place room =
    let test : nat_lt place (length (take size plan)) ≡ nat_lt place (length plan) = grind (arith, nat_tests, length-take size plan) in
    ap (λ more. ends (cond more (Err (fault.Plan (record { refusal = TrailingBytes; place = place }))) (Ok count))) test

module _ (S : Setting) (small : LetsInSmall S.judge) (plan : List ℕ) (all : Bytes plan) where
  -- a record that is opened has small numbers
  opened_short : {T : Type 0} (place : ℕ) (g : Grid T) (e : Entry) → record_at plan place ≡ Ok e → open_refusal S g e.stream e.request e.hops ≡ None → e.next ≤ place + 55
  unfolding record_numbers
  opened_short place g e is none =
      let can = can_open S small g e none in
      let whole = hops_whole plan place e is can.small.count.0 in
      let stands = record_stands plan place e all is whole in
      omega (arith, stands.next, record_short e.stream (stream_in e) can.number can.small)

  records_cut : {T : Type 0} (size n k place : ℕ) (g : Grid T) → place + 55 * n + 87 ≤ size → records_from S (take size plan) g k place n ≡ records_from S plan g k place n
  unfolding records_from
  records_cut size zero k place g room = end_cut plan size k place (omega arith)
  records_cut size (suc n) k place g room =
      rw (record_cut plan size place (omega arith))
      (once_same k (record_at plan place) _ _ (λ e is.
      unless_same k e (open_refusal S g e.stream e.request e.hops) _ _ (λ none.
      records_cut size n (k + 1) e.next (opening S g e.stream e.request e.hops).grid (omega (arith, opened_short place g e is none)))))

module _ (plan : List ℕ) (all : Bytes plan) where
  abbrev short : List ℕ
  short = take 4096 plan

  same_head : head_at short ≡ head_at plan
  same_head = head_cut plan 4096 (omega arith)

  -- the head is accepted
  module _ (h : HeadNumbers) (is : head_at plan ≡ Ok h) (accepted : IsAccepted h) where
    -- it takes few bytes, and asks for a mesh and a grid
    records_place : h.count.next ≤ 10
    unfolding head_numbers
    records_place =
        let small = small_head (values_of h) h.count.value (sizes_in (values_of h)) accepted in
        let stands = head_stands plan h all is in
        omega (arith, stands.next, head_short (values_of h) h.count.value (sizes_in (values_of h)) small)

    loading_cut : (kind : Kind) → LetsInSmall (kind.judge h.lanes.value h.capacity.value)
        → loading_blank kind (sizes_in (values_of h)) short ≡ loading_blank kind (sizes_in (values_of h)) plan
    loading_cut kind lets_in =
        let small = small_head (values_of h) h.count.value (sizes_in (values_of h)) accepted in
        let S = on_kind kind h.lanes.value h.depth.value h.capacity.value 0 in
        rw (same_head, is, accepted)
        (records_cut S lets_in plan all 4096 h.count.value 0 h.count.next blank (omega (arith, records_place, small.streams)))

    -- the mesh keeps the law, so that its grids let in small streams
    mesh_lets_in : (rule : TurnRule) → LetsInSmall ((by_rules (mesh_meaning rule h.width.value h.height.value)).judge h.lanes.value h.capacity.value)
    mesh_lets_in rule =
        let m = mesh_meaning rule h.width.value h.height.value in
        let make = makeable h accepted in
        let law = mesh_lawful rule h.width.value h.height.value make.range in
        let few : h.lanes.value ≤ 4 = grind (arith, nat_tests, make.makes) in
        lets_in_small law.sized (record { tiles = refl; links = refl }) few (lawful_safe m law h.lanes.value h.depth.value h.capacity.value 0)
        (rules_reopen m h.lanes.value h.capacity.value)

    mesh_cut : (rule : Option TurnRule) → on_mesh short h (option_map (λ rule. mesh_meaning rule h.width.value h.height.value) rule)
        ≡ on_mesh plan h (option_map (λ rule. mesh_meaning rule h.width.value h.height.value) rule)
    mesh_cut None = refl
    mesh_cut (Some rule) =
        let kind = by_rules (mesh_meaning rule h.width.value h.height.value) in
        ap (λ l. summed kind.links l.opened l.answer) (loading_cut kind (mesh_lets_in rule))

  judged_cut : (h : HeadNumbers) (j : Result (Unit {0}) HeadFault) → head_at plan ≡ Ok h → judged (values_of h) h.count.value (sizes_in (values_of h)) ≡ j
      → on_own_grid short (if_judged h j) ≡ on_own_grid plan (if_judged h j)
  judged_cut h (Ok a) is accepted = mesh_cut h is accepted (rule_numbered h.rule.value)
  judged_cut h (Err f) is refused = refl

  headed_cut : (r : Result HeadNumbers ByteFault) → head_at plan ≡ r → on_own_grid short (by_itself short r) ≡ on_own_grid plan (by_itself plan r)
  headed_cut (Ok h) is = rw (same_head, is) (judged_cut h _ is refl)
  headed_cut (Err f) is = refl

  pub verdict_cut : verdict_of (take 4096 plan) ≡ verdict_of plan
  unfolding verdict_of
  verdict_cut = ap (λ r. on_own_grid short (by_itself short r)) same_head ∙ headed_cut (head_at plan) refl
