use Rattle.std.proofs.Common.{◌≡◌, sym, ap, ◌∙◌, subst}
use Rattle.layouts.specs.Links.{InRange}
use Rattle.layouts.specs.Mesh.{IsMesh, mesh_meaning}
use Rattle.layouts.proofs.ByLinks.{is_mesh}
use Rattle.layouts.proofs.mesh.Mesh.new.Goals as goal

pub returns : goal.returns
returns c =
    let rule = c.args.rule in
    let w = c.args.width in
    let h = c.args.height in
    let size = c.in_ok-size.size in
    let same = c.in_ok-size.ensures in
    let range : InRange w h = rw (← same.0, ← same.1) size.ok in
    let meaning : mesh_meaning rule size.width size.height ≡ mesh_meaning rule w h =
    ap (λ n. mesh_meaning rule n size.height) same.0 ∙ ap (mesh_meaning rule w) same.1 in
    record {
      value = (range, meaning);
      numbered = subst (IsMesh rule w h) (sym meaning) (is_mesh rule w h range);
    }
