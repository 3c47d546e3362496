-- The hub keeps the laws: each is a test of all links or of all turns, which computes, and what passes the test keeps the law.
use Rattle.std.specs.Prelude.{◌≡◌, ℕ, ◌<◌, Bool, true, false, not, ◌&&◌, ◌||◌, List, [], ◌∷◌, find, Some, None, Option, ◌==◌, nat_lt, ◌≢◌, refl}
use Rattle.std.specs.List.{list_all}
use Rattle.std.proofs.Common.{ap, subst, arith}
use Rattle.std.proofs.lemmas.Bool.{and_parts, cond_both, not-false, eqb-true, ltb-true}
use Rattle.std.proofs.lemmas.Option.{slice_get_past}
use Rattle.layouts.specs.declared.turn.Turn.{Turn}
use Rattle.layouts.specs.declared.turn.Turn.TheVariants.{Never, Free, Climb}
use Rattle.layouts.specs.Layout.{WaysLaw, TurnLaw, NoTiles, NoTurns}
use Rattle.routes.proofs.Firsts.{none_below}
use Rattle.grid_tests.specs.declared.hub.TheConstants.{STRETCHES, TURNS}
use Rattle.grid_tests.specs.Hub.{start_of, end_of, topology_of_hub, word_in, goes, turns_of_hub}

-- a link leads from or to what is no tile
abbrev strays : ℕ → Bool
strays link = not (nat_lt (topology_of_hub.start link) 6 && nat_lt (topology_of_hub.end link) 6)

pub hub_ways : WaysLaw topology_of_hub
hub_ways = record {
  sized = record { some_tiles = omega arith; most_tiles = omega arith; some_links = omega arith; most_links = omega arith };
  joins = λ link low.
      let both = and_parts _ _ (not-false _ (none_below strays 10 refl link low)) in
      (ltb-true _ _ both.0, ltb-true _ _ both.1);
}

pub hub_no_tiles : NoTiles topology_of_hub
hub_no_tiles = record {
  no_start = λ link past. ap start_of (slice_get_past STRETCHES link past);
  no_end = λ link past. ap end_of (slice_get_past STRETCHES link past);
}

abbrev is_free : Turn → Bool
is_free Never = false
is_free Free = true
is_free Climb = false

-- the links of a turn are there and meet, and a free turn leads higher
abbrev lawful : (ℕ × ℕ × Turn) → Bool
lawful (a, b, word) =
    nat_lt a 10 && (nat_lt b 10 && (topology_of_hub.end a == topology_of_hub.start b
    && (not (is_free word) || nat_lt (turns_of_hub.height a) (turns_of_hub.height b))))

-- what is told of two links keeps the law of turns
record Keeps (a b : ℕ) (word : Turn) : Type 0 where
  there : (a < 10) × (b < 10)
  meets : topology_of_hub.end a ≡ topology_of_hub.start b
  rises : word ≡ Free → turns_of_hub.height a < turns_of_hub.height b

rises_if_free : (word : Turn) (rises : Bool) → (not (is_free word) || rises) ≡ true → word ≡ Free → rises ≡ true
rises_if_free Never rises passes free = grind arith
rises_if_free Free rises passes free = passes
rises_if_free Climb rises passes free = grind arith

keeps : (turn : ℕ × ℕ × Turn) → lawful turn ≡ true → Keeps turn.0 turn.1 turn.2
keeps (a, b, word) passes =
    let from = and_parts _ _ passes in
    let to = and_parts _ _ from.1 in
    let rest = and_parts _ _ to.1 in
    record {
      there = (ltb-true _ _ from.0, ltb-true _ _ to.0);
      meets = eqb-true _ _ rest.0;
      rises = λ free. ltb-true _ _ (rises_if_free word _ rest.1 free);
    }

-- so does what is found in the table
abbrev Found : ℕ → ℕ → Option (ℕ × ℕ × Turn) → Type 0
Found a b None = Unit {0}
Found a b (Some turn) = Keeps a b turn.2

found_in : (a b : ℕ) (table : List (ℕ × ℕ × Turn)) → list_all lawful table ≡ true → Found a b (find (goes a b) table)
found_in a b [] all = tt
found_in a b (turn ∷ table) all =
    let parts = and_parts _ _ all in
    cond_both (goes a b turn) (Some turn) (find (goes a b) table) (Found a b)
    (λ here.
    let same = and_parts _ _ here in
    subst (λ n. Keeps a n turn.2) (eqb-true turn.1 b same.1) (subst (λ n. Keeps n turn.1 turn.2) (eqb-true turn.0 a same.0) (keeps turn parts.0)))
    (λ _. found_in a b table parts.1)

module _ (a b : ℕ) where
  meets : (o : Option (ℕ × ℕ × Turn)) → Found a b o → word_in o ≢ Never → topology_of_hub.end a ≡ topology_of_hub.start b
  meets None f some = absurd (some refl)
  meets (Some turn) f some = f.meets

  rises : (o : Option (ℕ × ℕ × Turn)) → Found a b o → word_in o ≡ Free → turns_of_hub.height a < turns_of_hub.height b
  rises None f free = cc
  rises (Some turn) f free = f.rises free

  never : (o : Option (ℕ × ℕ × Turn)) → Found a b o → (a < 10 → b < 10 → ⊥) → word_in o ≡ Never
  never None f past = refl
  never (Some turn) f past = absurd (past f.there.0 f.there.1)

  abbrev at : Option (ℕ × ℕ × Turn)
  at = find (goes a b) TURNS

  found : Found a b at
  found = found_in a b TURNS refl

pub hub_turns : TurnLaw topology_of_hub turns_of_hub
hub_turns = record { meets = λ a b. meets a b (at a b) (found a b); rises = λ a b. rises a b (at a b) (found a b) }

pub hub_no_turns : NoTurns topology_of_hub turns_of_hub
hub_no_turns = record {
  no_turn_from = λ a b past. never a b (at a b) (found a b) (λ low _. omega arith);
  no_turn_to = λ a b past. never a b (at a b) (found a b) (λ _ low. omega arith);
}
