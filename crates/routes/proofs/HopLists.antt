-- Lists of hops: where a link stands.
use Rattle.std.proofs.Common.{◌≡◌, ℕ, zero, suc, ◌<◌, false, List, [], ◌∷◌, length, refl, arith}
use Rattle.std.proofs.lemmas.Bool.{or_parts, or_from, eqb-false, ne_eqb}
use Rattle.routes.specs.declared.hop.Hop.{Hop}
use Rattle.routes.specs.Routes.{hop_at, uses}

-- A link stands in a list exactly if a hop has it.
pub not_used : (link : ℕ) (hops : List Hop) → uses link hops ≡ false → (j : ℕ) → j < length hops → (hop_at hops j).link ≡ link → ⊥
not_used link [] e j l same = omega arith
not_used link (h ∷ hops) e zero l same = eqb-false h.link link (or_parts _ _ e).0 same
not_used link (h ∷ hops) e (suc j) l same = not_used link hops (or_parts _ _ e).1 j (omega arith) same

pub used_nowhere : (link : ℕ) (hops : List Hop) → ((j : ℕ) → j < length hops → (hop_at hops j).link ≡ link → ⊥) → uses link hops ≡ false
used_nowhere link [] none = refl
used_nowhere link (h ∷ hops) none = or_from _ _ (ne_eqb h.link link (none 0 (omega arith))) (used_nowhere link hops (λ j l. none (suc j) (omega arith)))
