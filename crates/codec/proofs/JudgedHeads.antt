-- What is known of a head that is accepted.
use Rattle.std.proofs.Common.{◌≡◌, ℕ, Bool, true, false, not, find, List, [], ◌∷◌, Some, None, Ok, Option, Result, refl, ⊎_elim}
use Rattle.std.proofs.lemmas.Bool.{and_parts, cases_Bool}
use Rattle.std.specs.List.{list_all}
use Rattle.codec.specs.declared.head.GridSizes.{GridSizes}
use Rattle.codec.specs.declared.head.Head.{Head}
use Rattle.codec.specs.declared.head.HeadFault.{HeadFault}
use Rattle.codec.specs.declared.head.HeadPart.{HeadPart}
use Rattle.codec.specs.declared.head.HeadPart.TheVariants.{Version, Rule, Width, Height, Lanes, Depth, Capacity, Count}
use Rattle.codec.specs.Heads.{parts, allowed, number_of, fits, misfit, refused, judged}

-- where no element fails a test, all pass it
all_pass : {X : Type 0} (p : X → Bool) (xs : List X) → find (λ x. not (p x)) xs ≡ None → list_all p xs ≡ true
all_pass p [] none = refl
all_pass p (x ∷ xs) none =
    ⊎_elim
    (λ (pass : p x ≡ true). rw pass (all_pass p xs (rw pass at none)))
    (λ (fail : p x ≡ false). let found = rw fail at none in cc)
    (cases_Bool (p x))

-- a judgement that accepts has found no part that is refused, and none that does not fit
none_refused : (o : Option HeadPart) (fitting : Result (Unit {0}) HeadFault) → refused o fitting ≡ Ok tt → (o ≡ None) × (fitting ≡ Ok tt)
none_refused None fitting is = (refl, is)
none_refused (Some part) fitting is = cc

no_misfit : (o : Option HeadPart) → misfit o ≡ Ok tt → o ≡ None
no_misfit None is = refl
no_misfit (Some part) is = cc

-- each part passes a test that all pass
each_passes : (p : HeadPart → Bool) → list_all p parts ≡ true → (part : HeadPart) → p part ≡ true
unfolding parts
each_passes p all part =
    let version = and_parts (p Version) (list_all p (Rule ∷ (Width ∷ (Height ∷ (Lanes ∷ (Depth ∷ (Capacity ∷ (Count ∷ [])))))))) all in
    let rule = and_parts (p Rule) (list_all p (Width ∷ (Height ∷ (Lanes ∷ (Depth ∷ (Capacity ∷ (Count ∷ []))))))) version.1 in
    let width = and_parts (p Width) (list_all p (Height ∷ (Lanes ∷ (Depth ∷ (Capacity ∷ (Count ∷ [])))))) rule.1 in
    let height = and_parts (p Height) (list_all p (Lanes ∷ (Depth ∷ (Capacity ∷ (Count ∷ []))))) width.1 in
    let lanes = and_parts (p Lanes) (list_all p (Depth ∷ (Capacity ∷ (Count ∷ [])))) height.1 in
    let depth = and_parts (p Depth) (list_all p (Capacity ∷ (Count ∷ []))) lanes.1 in
    let capacity = and_parts (p Capacity) (list_all p (Count ∷ [])) depth.1 in
    let count = and_parts (p Count) true capacity.1 in
    elim part as (λ part. p part ≡ true) [
      | Version ↦ version.0
      | Rule ↦ rule.0
      | Width ↦ width.0
      | Height ↦ height.0
      | Lanes ↦ lanes.0
      | Depth ↦ depth.0
      | Capacity ↦ capacity.0
      | Count ↦ count.0
    ]

module _ (h : Head) (count : ℕ) (grid : GridSizes) (accepted : judged h count grid ≡ Ok tt) where
  pub each_allowed : (part : HeadPart) → allowed part (number_of h count part) ≡ true
  each_allowed = each_passes (λ part. allowed part (number_of h count part)) (all_pass _ parts (none_refused _ _ accepted).0)

  pub each_fits : (part : HeadPart) → fits h grid part ≡ true
  each_fits = each_passes (fits h grid) (all_pass _ parts (no_misfit _ (none_refused (find (λ part. not (allowed part (number_of h count part))) parts) _ accepted).1))
