-- A lawful layout is safe: first the lane, then the height of the link, is a rank that rises along every acceptable route.
use Rattle.std.proofs.Common.{◌≡◌, ℕ, true, suc, ◌+◌, ◌*◌, ◌<◌, ◌≤◌, List, [], ◌∷◌, length, sym, refl, mul-le-mul_right, add-one, arith}
use Rattle.std.specs.List.{list_all}
use Rattle.std.proofs.lemmas.Bool.{and_from, lt-ltb}
use Rattle.std.proofs.lemmas.Bool.Decides.{nat_tests}
use Rattle.std.proofs.ByRecursion.{All-from_get_or}
use Rattle.layouts.specs.declared.turn.Turn.{Turn}
use Rattle.layouts.specs.declared.turn.Turn.TheVariants.{Never, Free, Climb}
use Rattle.layouts.specs.Layout.{Meaning, Lawful}
use Rattle.routes.specs.declared.hop.Hop.{Hop}
use Rattle.routes.specs.declared.stream.Request.{Request}
use Rattle.routes.specs.Routes.{hop_at, is_on_grid}
use Rattle.routes.specs.Loads.{sum_below}
use Rattle.routes.specs.Checks.{Terms, terms_on}
use Rattle.routes.specs.Acceptable.{Acceptable}
use Rattle.routes.proofs.HopLists.{used_nowhere}
use Rattle.routes.proofs.Judging.{acceptable}
use Rattle.model.specs.Grid.{Setting, Streams, route_of}
use Rattle.model.specs.Kinds.{on_layout}
use Rattle.model.specs.Safe.{OnGrid, Apart, Proper, Rises, Reached, Safe}
use Rattle.model.proofs.Routes.{proper_none}
use Rattle.model.proofs.LaneSums.{sum_below_at}
use Rattle.model.proofs.Reopening.{routes_hold}

-- What holds by the places of the hops, as a fact of the route.
pub apart_by_place : (hops : List Hop) → ((j k : ℕ) → j < k → k < length hops → (hop_at hops j).link ≡ (hop_at hops k).link → ⊥) → Apart hops
apart_by_place [] once = tt
apart_by_place (h ∷ hops) once = (
  used_nowhere h.link hops (λ k low same. once 0 (suc k) (omega arith) (omega arith) (sym same)),
  apart_by_place hops (λ j k below low. once (suc j) (suc k) (omega arith) (omega arith)),
)

pub rises_by_place : (rank : Hop → ℕ) (hops : List Hop)
    → ((k : ℕ) → suc k < length hops → rank (hop_at hops k) < rank (hop_at hops (suc k))) → Rises rank hops
rises_by_place rank [] each = tt
rises_by_place rank (h ∷ []) each = tt
rises_by_place rank (h ∷ (next ∷ hops)) each = (each 0 (omega arith), rises_by_place rank (next ∷ hops) (λ k low. each (suc k) (omega arith)))

-- hops that are there pass the test
pub all_there : {links lanes : ℕ} (hops : List Hop) → ((k : ℕ) → k < length hops → ((hop_at hops k).link < links) × ((hop_at hops k).lane < lanes)) → list_all (is_on_grid links lanes) hops ≡ true
all_there [] each = refl
all_there (h ∷ hops) each =
    let here = each 0 (omega arith) in
    and_from _ _ (and_from _ _ (lt-ltb _ _ here.0) (lt-ltb _ _ here.1)) (all_there hops (λ k low. each (suc k) (omega arith)))

-- the sum of all heights, which none of them exceeds
abbrev top : Meaning → ℕ
top m = sum_below m.links m.height

abbrev rank : Meaning → Hop → ℕ
rank m h = h.lane * suc (top m) + m.height h.link

-- A ranked route is proper, and the rank rises along it.
abbrev Ranked : Meaning → Setting → List Hop → Type 0
Ranked m S hops = Proper S hops × Rises (rank m) hops

none_ranked : (m : Meaning) (S : Setting) → Ranked m S []
none_ranked m S = (proper_none S, tt)

module _ (m : Meaning) (law : Lawful m) where
  turn_rises : (h next : Hop) → h.link < m.links → h.lane ≤ next.lane → (t : Turn) → m.turn h.link next.link ≡ t
      → (t ≡ Never → ⊥) → (t ≡ Climb → h.lane < next.lane) → rank m h < rank m next
  turn_rises h next low keeps Never is some climbs = absurd (some refl)
  turn_rises h next low keeps Free is some climbs = omega (arith, law.rises h.link next.link is, mul-le-mul_right (suc (top m)) keeps)
  turn_rises h next low keeps Climb is some climbs =
      omega (arith, sum_below_at m.links m.height h.link low, mul-le-mul_right (suc (top m)) (climbs refl))

  module _ (lanes depth capacity slots : ℕ) where
    abbrev S : Setting
    S = on_layout m lanes depth capacity slots

    abbrev terms : Streams → Terms
    terms streams = terms_on m lanes capacity streams

    acceptable_ranked : (streams : Streams) (q : Request) (hops : List Hop) → Acceptable (terms streams) q hops → Ranked m S hops
    acceptable_ranked streams q hops a = (
      record { on_grid = All-from_get_or (OnGrid S) hops _ a.on_grid; apart = apart_by_place hops a.once },
      rises_by_place (rank m) hops (λ k low.
          let here : k < length hops = omega arith in
          let next : k + 1 < length hops = omega arith in
          rw (← add-one k)
          (turn_rises (hop_at hops k) (hop_at hops (k + 1)) (a.on_grid k here).0 (a.keeps_lane k next) _ refl (a.turns k next) (a.climbs k next))),
    )

    all_ranked : (streams : Streams) → Reached S.judge streams → (n : ℕ) → Ranked m S (route_of (streams n))
    all_ranked = routes_hold S.judge (Ranked m S) (none_ranked m S) (λ streams q hops judged. acceptable_ranked streams q hops (acceptable (terms streams) q hops judged))

    pub lawful_safe : Safe S
    lawful_safe = record {
      takes = λ streams q hops judged.
          let a = acceptable (terms streams) q hops judged in
          record {
            count = grind (arith, nat_tests, a.count);
            there = all_there hops (λ k low. a.on_grid k low);
          };
      proper = λ streams reached n. (all_ranked streams reached n).0;
      ranked = λ streams reached. (rank m, λ n. (all_ranked streams reached n).1);
    }
