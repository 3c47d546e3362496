-- What a grid shows without its history: items that stand are placed, every call keeps them standing, and while there is one, some lane will step.
use Rattle.std.proofs.Common.{◌≡◌, ◌∙◌, ℕ, ◌<◌, true, false, ◌==◌, List, [], ◌∷◌, is_some, Some, None, Option, refl, sym, ⊎_elim, arith}
use Rattle.std.proofs.Math.Logic.{∥∥₁_elim}
use Rattle.std.proofs.Props.{props}
use Rattle.std.specs.List.{list_all, AllByRecursion as All}
use Rattle.std.proofs.lemmas.Bool.{cases_Bool, and_from, and_parts, true≢false, eqb-true}
use Rattle.std.proofs.lemmas.Bool.Decides.{nat_tests}
use Rattle.std.proofs.lemmas.List.Folds.{list_all-map}
use Rattle.routes.specs.declared.declined.Declined.{Declined}
use Rattle.routes.specs.declared.hop.Hop.{Hop}
use Rattle.routes.specs.declared.stream.Request.{Request}
use Rattle.routes.specs.Loads.{stream_count}
use Rattle.routes.specs.Routes.{OpenStream, hop_on, uses}
use Rattle.model.specs.Grid.{Setting, Queue, Grid, enough_slots, route_of, hops_from}
use Rattle.model.specs.Calls.{Call, outcome}
use Rattle.model.specs.Safe.{Apart, Proper, Reached, none_open, after_opening, after_closing, NeverLocks}
use Rattle.model.specs.Outlines.{alike, without_items}
use Rattle.model.specs.Standing.{takes, AllStand}
use Rattle.model.proofs.Puts.{assign_each}
use Rattle.model.proofs.Routes.{proper_of}
use Rattle.model.proofs.Kept.{Placed, Kept}
use Rattle.model.proofs.Does.{does}
use Rattle.model.proofs.Keeping.{kept_next}
use Rattle.model.proofs.Safe.{reached_next}

-- a route that takes a lane of a link uses the link
takes_uses : (hops : List Hop) (link lane : ℕ) → takes hops link lane ≡ true → uses link hops ≡ true
takes_uses [] link lane is = is
takes_uses (h ∷ hops) link lane is = let more = takes_uses hops link lane in grind (arith, nat_tests)

-- the hops from a link on begin with the lane that a route takes there
takes_from : (hops : List Hop) (link lane : ℕ) → Apart hops → takes hops link lane ≡ true → (rest : List Hop) × (hops_from link hops ≡ hop_on link lane ∷ rest)
takes_from [] link lane apart is = absurd (true≢false (sym is))
takes_from (h ∷ hops) link lane apart is =
    ⊎_elim
    (λ (here : (h.link == link) ≡ true).
    let only : takes hops link lane ≡ false = not_later (eqb-true h.link link here) in
    let lane_is : (h.lane == lane) ≡ true = this_lane here only in
    (hops, rw (here, eqb-true h.link link here, eqb-true h.lane lane lane_is) refl))
    (λ (other : (h.link == link) ≡ false).
    let later = takes_from hops link lane apart.1 (rw other at is) in (later.0, rw other later.1))
    (cases_Bool (h.link == link))
  where
    this_lane : (h.link == link) ≡ true → takes hops link lane ≡ false → (h.lane == lane) ≡ true
    this_lane here only = grind (arith, nat_tests)

    not_later : h.link ≡ link → takes hops link lane ≡ false
    not_later same =
        ⊎_elim
        (λ (later : takes hops link lane ≡ true). let twice = takes_uses hops link lane later in let once = rw same at apart.0 in cc)
        (λ (never : takes hops link lane ≡ false). never)
        (cases_Bool (takes hops link lane))

-- and with no other
from_takes : (hops : List Hop) (link lane : ℕ) (rest : List Hop) → hops_from link hops ≡ hop_on link lane ∷ rest → takes hops link lane ≡ true
from_takes [] link lane rest is = grind arith
from_takes (h ∷ hops) link lane rest is = let more = from_takes hops link lane rest in grind (arith, nat_tests)

-- open streams that are reached have numbers below the count of streams
module _ (judge : (ℕ → Option OpenStream) → Request → List Hop → Option Declined) where
  reached_low : (streams : ℕ → Option OpenStream) → Reached judge streams → (n : ℕ) → is_some (streams n) ≡ true → n < stream_count
  reached_low _ none_open n is = absurd (true≢false (sym is))
  reached_low _ (after_opening {streams} k q hops reached low free judged) n is =
      assign_each streams k (Some (record { request = q; hops = hops })) (λ k entry. is_some entry ≡ true → k < stream_count) (λ _. low) (reached_low streams reached) n is
  reached_low _ (after_closing {streams} k low reached) n is =
      assign_each streams k None (λ k entry. is_some entry ≡ true → k < stream_count) (λ _. low) (reached_low streams reached) n is

-- placed items stand
module _ {T : Type 0} (S : Setting) (g : Grid T) where
  queue_stands : (link lane : ℕ) (queue : Queue T) → All (Placed S g.streams link lane) queue → list_all (λ i. takes (route_of (g.streams i.0)) link lane) queue ≡ true
  queue_stands link lane [] placed = refl
  queue_stands link lane (item ∷ queue) placed = and_from _ _ (from_takes _ link lane placed.0.rest placed.0.on) (queue_stands link lane queue placed.1)

  pub kept_stands : Kept S g → AllStand g
  kept_stands kept link lane = queue_stands link lane (g.contents link lane) (kept.placed link lane)

module _ {T : Type 0} (S : Setting) (g : Grid T) where
  -- items that stand are placed, where there are slots for all lanes
  queue_placed : ((n : ℕ) → Proper S (route_of (g.streams n))) → enough_slots S ≡ true → (link lane : ℕ) (queue : Queue T)
      → list_all (λ i. takes (route_of (g.streams i.0)) link lane) queue ≡ true → All (Placed S g.streams link lane) queue
  queue_placed routes enough link lane [] stand = tt
  queue_placed routes enough link lane (item ∷ queue) stand =
      let parts = and_parts _ _ stand in
      let on = takes_from (route_of (g.streams item.0)) link lane (routes item.0).apart parts.0 in
      (record { slots = enough; rest = on.0; on = on.1 }, queue_placed routes enough link lane queue parts.1)

  -- A grid of reached streams whose items stand is kept.
  module _ (never_locks : NeverLocks S) (enough : enough_slots S ≡ true) (stand : AllStand g) where
    pub stands_kept : ∥ Reached S.judge g.streams ∥₁ → Kept S g
    stands_kept reached = record {
      low = ∥∥₁_elim reached (hlevel props) (reached_low S.judge g.streams);
      routes = proper_of S never_locks g.streams reached;
      placed = λ link lane. queue_placed (proper_of S never_locks g.streams reached) enough link lane (g.contents link lane) (stand link lane);
    }

    -- so its items stand after every call
    pub stand_next : ∥ Reached S.judge g.streams ∥₁ → (c : Call T) → AllStand (outcome S g c).grid
    stand_next reached c =
        let did = does S g (stands_kept reached) c in
        kept_stands S (outcome S g c).grid (kept_next S g (stands_kept reached) did (proper_of S never_locks _ (reached_next S g reached did)))

-- Items stand on a grid exactly as they do on its outline.
module _ {T : Type 0} (g : Grid T) where
  outline_each : (link lane : ℕ)
      → list_all (λ i. takes (route_of (g.streams i.0)) link lane) (alike (g.contents link lane))
      ≡ list_all (λ i. takes (route_of (g.streams i.0)) link lane) (g.contents link lane)
  outline_each link lane = list_all-map (λ i. takes (route_of (g.streams i.0)) link lane) (λ i. (i.0, tt)) (g.contents link lane)

  pub outline_stands : AllStand g → AllStand (without_items g)
  outline_stands stand link lane = outline_each link lane ∙ stand link lane

  pub stands_if_outline : AllStand (without_items g) → AllStand g
  stands_if_outline stand link lane = sym (outline_each link lane) ∙ stand link lane
