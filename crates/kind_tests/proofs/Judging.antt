-- The judgement step by step: the fields, the count of hops, then the checks hop by hop.
use Rattle.std.proofs.Common.{◌≡◌, ℕ, ◌+◌, ◌<◌, ◌≤◌, Bool, true, false, List, map, length, get_or, drop, Some, None, Option, sym, ap, ◌∙◌, arith}
use Rattle.std.proofs.lemmas.List.{at_drop_more, at_drop_all}
use Rattle.std.specs.Option.{option_or}
use Rattle.refusals.specs.declared.refusal.Refusal.TheVariants.{HopCount}
use Rattle.routes.specs.declared.declined.Declined.{Declined}
use Rattle.routes.specs.declared.hop.Hop.{Hop}
use Rattle.routes.specs.declared.stream.Request.{Request}
use Rattle.routes.specs.Firsts.{first_of, first_below}
use Rattle.routes.specs.Routes.{count_fits}
use Rattle.routes.specs.Checks.{no_hop, unless, at_hop, field_checks}
use Rattle.routes.proofs.Firsts.{first_append}
use Rattle.kind_tests.specs.declared.check.Check.{Check}
use Rattle.kind_tests.specs.Upward.{Terms, fails, refusal_of, hop_checks, hop_check, route_checks, judgement}

module _ (t : Terms) (q : Request) (hops : List Hop) where
  -- what some of the checks hop by hop tell
  abbrev pub told_by : List Check → Option Declined
  told_by checks = first_of (map (hop_check t q hops) checks)

  after_fields : (o : Option Declined) → first_of (field_checks t.ways.tiles q) ≡ o → judgement t q hops ≡ option_or o (first_of (route_checks t q hops))
  unfolding judgement
  after_fields o e = first_append (field_checks t.ways.tiles q) (route_checks t q hops) ∙ ap (λ p. option_or p (first_of (route_checks t q hops))) e

  pub fields_declined : (d : Declined) → first_of (field_checks t.ways.tiles q) ≡ Some d → judgement t q hops ≡ Some d
  fields_declined d = after_fields (Some d)

  module _ (fields : first_of (field_checks t.ways.tiles q) ≡ None) where
    by_count : (fits : Bool) → count_fits hops ≡ fits → judgement t q hops ≡ option_or (unless fits HopCount) (told_by hop_checks)
    by_count fits e = after_fields None fields ∙ ap (λ b. option_or (unless b HopCount) (told_by hop_checks)) e

    pub count_declined : count_fits hops ≡ false → judgement t q hops ≡ Some (no_hop HopCount)
    count_declined = by_count false

    pub hop_by_hop : count_fits hops ≡ true → judgement t q hops ≡ told_by hop_checks
    hop_by_hop = by_count true

  -- The loop over the checks: those that are left tell the judgement.
  abbrev pub Left : List Check → ℕ → Type 0
  Left checks i = judgement t q hops ≡ told_by (drop i checks)

  module _ (checks : List Check) (n i : ℕ) (long : length checks ≡ n) (left : Left checks i) where
    -- the check at hand, by the first hop that fails it, and the checks behind it
    pub next_check : (d : Check) (failing : Option ℕ) → i < n → failing ≡ first_below (length hops) (fails t q hops (get_or checks i d))
        → judgement t q hops ≡ option_or (at_hop (refusal_of (get_or checks i d)) failing) (told_by (drop (i + 1) checks))
    next_check d failing low e =
        left ∙ at_drop_more told_by checks i d (omega arith)
        ∙ ap (λ o. option_or (at_hop (refusal_of (get_or checks i d)) o) (told_by (drop (i + 1) checks))) (sym e)

    pub none_left : n ≤ i → judgement t q hops ≡ None
    none_left past = left ∙ at_drop_all told_by checks i (omega arith)
