-- A route that is best where no other one is.
use Rattle.std.proofs.Common.{◌≡◌, ◌≤◌, true, false, ◌⊎◌, inr, List, length, Some, None, Ok, Err, Option, Result, sym, refl, ap, ◌∙◌, ⊎_elim, arith}
use Rattle.refusals.specs.declared.refusal.Refusal.TheVariants.{NoRoute}
use Rattle.routes.specs.declared.declined.Declined.{Declined}
use Rattle.routes.specs.declared.hop.Hop.{Hop}
use Rattle.routes.specs.declared.stream.Request.{Request}
use Rattle.routes.specs.Checks.{Terms, no_hop}
use Rattle.routes.specs.Acceptable.{Acceptable}
use Rattle.search.specs.Scales.{Scale, Ordered}
use Rattle.search.specs.Best.{measured, Best, NoneAcceptable}
use Rattle.search.specs.Finds.{Finds}
use Rattle.search.proofs.Picking.{level}
use Rattle.examples.specs.Examples.{Only}

-- a best route, where no other route is best
abbrev pub OnlyBest : {V : Type 0} → Scale V → Terms → Request → List Hop → Type 0
OnlyBest s t q = Only (Best s t q)

module _ {V : Type 0} (s : Scale V) (ordered : Ordered s) (t : Terms) (q : Request) (hops : List Hop) where
  abbrev measure : List Hop → V
  measure = measured s t q

  -- a route that measures more
  abbrev pub Worse : List Hop → Type 0
  Worse other = (s.not_above (measure hops) (measure other) ≡ true) × (s.not_above (measure other) (measure hops) ≡ false)

  -- a route is the only best one if no acceptable route is shorter and all others as short are worse
  module _ (a : Acceptable t q hops) (fewest : (other : List Hop) → Acceptable t q other → length hops ≤ length other)
      (alone : (other : List Hop) → Acceptable t q other → length other ≡ length hops → (other ≡ hops) ⊎ Worse other) where
    least : (other : List Hop) → Acceptable t q other → length other ≡ length hops → s.not_above (measure hops) (measure other) ≡ true
    least other b e =
        ⊎_elim (λ (is : other ≡ hops). rw is (level s ordered (measure hops)))
        (λ (worse : Worse other). worse.0) (alone other b e)

    no_other : (other : List Hop) → Best s t q other → other ≡ hops
    no_other other best =
        let short = best.fewest hops a in
        let long = fewest other best.acceptable in
        let e : length other ≡ length hops = omega arith in
        ⊎_elim (λ (is : other ≡ hops). is) (λ (worse : Worse other). let low = best.least hops a (sym e) in cc) (alone other best.acceptable e)

    pub only_best : OnlyBest s t q hops
    only_best = (record { acceptable = a; fewest = fewest; least = least }, no_other)

-- ---- what a search finds, where nothing declines it

module _ {V : Type 0} (s : Scale V) (refusal : Option Declined) (t : Terms) (q : Request) (free : refusal ≡ None) where
  abbrev OnlyAnswer : Result (List Hop) Declined → Type 0
  OnlyAnswer = Only (Finds refusal s t q)

  -- the only best route is found
  pub only_finds : (hops : List Hop) → OnlyBest s t q hops → OnlyAnswer (Ok hops)
  only_finds hops only = ((free, only.0), each) where
    each : (r : Result (List Hop) Declined) → Finds refusal s t q r → r ≡ Ok hops
    each (Ok other) found = ap Ok (only.1 other found.1)
    each (Err d) found = ⊎_elim (λ (is : refusal ≡ Some d). let no : None ≡ Some d = sym free ∙ is in cc) (λ none. absurd (none.2 hops only.0.acceptable)) found

  -- that there is no route is told
  pub only_none : NoneAcceptable t q → OnlyAnswer (Err (no_hop NoRoute))
  only_none none = (inr (free, refl, none), each) where
    each : (r : Result (List Hop) Declined) → Finds refusal s t q r → r ≡ Err (no_hop NoRoute)
    each (Ok hops) found = absurd (none hops found.1.acceptable)
    each (Err d) found = ⊎_elim (λ (is : refusal ≡ Some d). let no : None ≡ Some d = sym free ∙ is in cc) (λ none. ap Err none.1) found
