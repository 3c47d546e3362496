-- The judgement of a route, step by step: the fields, the count of hops, then the checks hop by hop.
use Rattle.std.proofs.Common.{◌≡◌, ℕ, ◌+◌, ◌<◌, ◌≤◌, Bool, true, false, List, map, length, get_or, drop, Some, None, Ok, Err, Option, Result, refl, sym, ap, ◌∙◌, arith, MatchResult}
use Rattle.std.proofs.lemmas.List.{at_drop_more, at_drop_all}
use Rattle.std.proofs.lemmas.Option.{none-some}
use Rattle.std.specs.Option.{option_or}
use Rattle.refusals.specs.declared.refusal.Refusal.TheVariants.{HopCount}
use Rattle.routes.specs.declared.check.Check.{Check}
use Rattle.routes.specs.declared.declined.Declined.{Declined}
use Rattle.routes.specs.declared.hop.Hop.{Hop}
use Rattle.routes.specs.declared.stream.Request.{Request}
use Rattle.routes.specs.Routes.{count_fits}
use Rattle.routes.specs.Firsts.{first_of, first_below}
use Rattle.routes.specs.Checks.{Terms, no_hop, unless, at_hop, field_checks, fails, refusal_of, hop_checks, hop_check, route_checks, judgement, verdict}
use Rattle.routes.specs.Acceptable.{Acceptable, Judges}
use Rattle.routes.proofs.Firsts.{first_append}
use Rattle.routes.proofs.Judging.{acceptable, accepted}

-- an answer leads back to the check behind it
pub declined_by : (o : Option Declined) (d : Declined) → Err d ≡ verdict o → o ≡ Some d
declined_by None d e = cc
declined_by (Some c) d e = cc

pub passed_by : (o : Option Declined) → Ok tt ≡ verdict o → o ≡ None
passed_by None e = refl
passed_by (Some c) e = cc

module _ (t : Terms) (q : Request) (hops : List Hop) where
  -- what some of the checks hop by hop tell
  abbrev pub told_by : List Check → Option Declined
  told_by checks = first_of (map (hop_check t q hops) checks)

  after_fields : (o : Option Declined) → first_of (field_checks t.layout.tiles q) ≡ o → judgement t q hops ≡ option_or o (first_of (route_checks t q hops))
  unfolding judgement
  after_fields o e = first_append (field_checks t.layout.tiles q) (route_checks t q hops) ∙ ap (λ p. option_or p (first_of (route_checks t q hops))) e

  pub fields_declined : (d : Declined) → first_of (field_checks t.layout.tiles q) ≡ Some d → judgement t q hops ≡ Some d
  fields_declined d e = after_fields (Some d) e

  module _ (fields : first_of (field_checks t.layout.tiles q) ≡ None) where
    by_count : (fits : Bool) → count_fits hops ≡ fits → judgement t q hops ≡ option_or (unless fits HopCount) (told_by hop_checks)
    by_count fits e = after_fields None fields ∙ ap (λ b. option_or (unless b HopCount) (told_by hop_checks)) e

    pub count_declined : count_fits hops ≡ false → judgement t q hops ≡ Some (no_hop HopCount)
    count_declined = by_count false

    pub hop_by_hop : count_fits hops ≡ true → judgement t q hops ≡ told_by hop_checks
    hop_by_hop = by_count true

  -- The loop over the checks: those that are left tell the judgement.
  abbrev pub Left : List Check → ℕ → Type 0
  Left checks i = judgement t q hops ≡ told_by (drop i checks)

  module _ (checks : List Check) (n i : ℕ) (long : length checks ≡ n) (left : Left checks i) where
    -- the check at hand, by the first hop that fails it, and the checks behind it
    pub next_check : (d : Check) (failing : Option ℕ) → i < n → failing ≡ first_below (length hops) (fails t q hops (get_or checks i d))
        → judgement t q hops ≡ option_or (at_hop (refusal_of (get_or checks i d)) failing) (told_by (drop (i + 1) checks))
    next_check d failing l e =
        left ∙ at_drop_more told_by checks i d (omega arith)
        ∙ ap (λ o. option_or (at_hop (refusal_of (get_or checks i d)) o) (told_by (drop (i + 1) checks))) (sym e)

    pub none_left : n ≤ i → judgement t q hops ≡ None
    none_left l = left ∙ at_drop_all told_by checks i (omega arith)

  meets : (o : Option Declined) → judgement t q hops ≡ o → MatchResult (verdict o) (λ _. Acceptable t q hops) (λ _. Acceptable t q hops → ⊥)
  meets None e = acceptable t q hops e
  meets (Some d) e = λ a. none-some d (sym (accepted t q hops a) ∙ e)

  -- The answer that tells the judgement also tells whether the route is acceptable.
  pub judges : (r : Result (Unit {0}) Declined) (o : Option Declined) → r ≡ verdict o → judgement t q hops ≡ o → Judges t q hops r
  judges r o e j = rw e (record { answer = ap verdict (sym j); meets = meets o j })
