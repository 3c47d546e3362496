-- What is asked of a route, and the hops of a route from one link on.
use Rattle.std.proofs.Common.{◌≡◌, ℕ, false, eqb, List, [], ◌∷◌, Option, refl, arith}
use Rattle.std.proofs.Math.Logic.{∥∥₁_elim}
use Rattle.std.proofs.Props.{props}
use Rattle.std.specs.List.{AllByRecursion-prop}
use Rattle.std.proofs.lemmas.Bool.{cond_both, or_parts}
use Rattle.std.proofs.lemmas.Bool.Decides.{nat_tests}
use Rattle.routes.specs.declared.hop.Hop.{Hop}
use Rattle.routes.specs.Routes.{OpenStream, uses}
use Rattle.model.specs.Grid.{Setting, route_of, hops_from}
use Rattle.model.specs.Safe.{OnGrid, Apart, Proper, Reached, NeverLocks}

pub proper_none : (S : Setting) → Proper S []
proper_none S = record { on_grid = tt; apart = tt }

-- What holds of a route, and then also of the hops after its first, holds of the hops from any link on.
pub hops_from_inherits : (P : List Hop → Type 0) → ((h : Hop) (hops : List Hop) → P (h ∷ hops) → P hops)
    → (link : ℕ) (hops : List Hop) → P hops → P (hops_from link hops)
hops_from_inherits P tail link [] p = p
hops_from_inherits P tail link (h ∷ hops) p =
    cond_both (eqb h.link link) (h ∷ hops) (hops_from link hops) P (λ _. p) (λ _. hops_from_inherits P tail link hops (tail h hops p))

pub proper_from : (S : Setting) (link : ℕ) (hops : List Hop) → Proper S hops → Proper S (hops_from link hops)
proper_from S = hops_from_inherits (Proper S) (λ h hops proper. record { on_grid = proper.on_grid.1; apart = proper.apart.1 })

pub unused_from : (l link : ℕ) (hops : List Hop) → uses l hops ≡ false → uses l (hops_from link hops) ≡ false
unused_from l = hops_from_inherits (λ hops. uses l hops ≡ false) (λ h hops unused. (or_parts (eqb h.link l) (uses l hops) unused).1)

pub hops_from_here : (h : Hop) (hops : List Hop) (link : ℕ) → h.link ≡ link → hops_from link (h ∷ hops) ≡ h ∷ hops
hops_from_here h hops link here = grind (arith, nat_tests)

pub hops_from_after : (h : Hop) (hops : List Hop) (link : ℕ) → (h.link ≡ link → ⊥) → hops_from link (h ∷ hops) ≡ hops_from link hops
hops_from_after h hops link other = grind (arith, nat_tests)

hops_from_unused : (link : ℕ) (hops : List Hop) → uses link hops ≡ false → hops_from link hops ≡ []
hops_from_unused link [] unused = refl
hops_from_unused link (h ∷ hops) unused = let rest = hops_from_unused link hops in grind (arith, nat_tests)

-- The hop after that over a link begins the hops from its own link on.
pub hops_from_next : (link : ℕ) (hops : List Hop) (h next : Hop) (rest : List Hop) → Apart hops
    → hops_from link hops ≡ h ∷ (next ∷ rest) → hops_from next.link hops ≡ next ∷ rest
hops_from_next link [] h next rest apart from = grind arith
hops_from_next link (first ∷ hops) h next rest apart from =
    let later = hops_from_next link hops h next rest apart.1 in
    let unused = hops_from_unused first.link hops apart.0 in
    grind (arith, nat_tests)

-- a route is proper in one way at most
apart_prop : (hops : List Hop) → IsProp (Apart hops)
apart_prop [] = hlevel
apart_prop (h ∷ hops) = hlevel (props, apart_prop hops)

pub proper_prop : (S : Setting) (hops : List Hop) → IsProp (Proper S hops)
proper_prop S hops = hlevel (props, apart_prop hops, AllByRecursion-prop (OnGrid S) (λ h. hlevel props) hops)

-- The routes of reached streams are proper.
pub proper_of : (S : Setting) → NeverLocks S → (streams : ℕ → Option OpenStream) → ∥ Reached S.judge streams ∥₁ → (n : ℕ) → Proper S (route_of (streams n))
proper_of S never_locks streams reached n = ∥∥₁_elim reached (proper_prop S (route_of (streams n))) (λ r. never_locks.proper streams r n)
