-- A link that is found lies on the mesh, so that its start is below 64, and a link south leaves a row above the first.
use Rattle.std.proofs.Common.{◌≡◌, ℕ, ◌+◌, ◌*◌, ◌<◌, ◌≤◌, Some, sym, subst, arith}
use Rattle.std.proofs.lemmas.Nat.{mul-le}
use Rattle.layouts.specs.declared.link.MeshLink.{MeshLink}
use Rattle.layouts.specs.declared.direction.Direction.TheVariants.{South}
use Rattle.layouts.specs.Links.{InRange, Inside, Leaves, link_at}
use Rattle.layouts.specs.Bounds.{tiles_le}
use Rattle.layouts.specs.LinkNumbers.{Found, found, start_lt}

module _ (w h : ℕ) (r : InRange w h) (k : ℕ) (l : MeshLink) (is : Some l ≡ link_at w h k) where
  inside : Inside w h l
  inside = (subst (Found w h k) (sym is) (found w h r k)).0

  pub start_small : l.y * w + l.x < 64
  start_small = omega (arith, start_lt w h r l inside, tiles_le w h r)

  pub start_south : l.direction ≡ South → w ≤ l.y * w + l.x
  start_south e =
      let leaves : 0 < l.y = subst (λ d. Leaves d l.x l.y) e inside.leaves in
      omega (arith, mul-le 1 w l.y w leaves (omega arith))
