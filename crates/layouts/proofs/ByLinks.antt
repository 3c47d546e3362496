-- The meaning of a mesh, told by its links.
use Rattle.std.proofs.Common.{◌≡◌, ℕ, ◌<◌, Some, None, Option, refl, ap, ◌∙◌, arith}
use Rattle.std.specs.Option.{option_map}
use Rattle.layouts.specs.declared.link.MeshLink.{MeshLink}
use Rattle.layouts.specs.declared.turn_rule.TurnRule.{TurnRule}
use Rattle.layouts.specs.Links.{InRange, Inside, span_of, link_count, link_at, span_at, link_number}
use Rattle.layouts.specs.Mesh.{start_at, end_at, turn_at, mesh_meaning, IsMesh}
use Rattle.layouts.specs.LinkNumbers.{Found, found, number_lt, at_number}

module _ (rule : TurnRule) (w h : ℕ) (r : InRange w h) where
  each_number : (k : ℕ) (o : Option MeshLink) → Found w h k o → k < link_count w h → (l : MeshLink) × Inside w h l × (link_number w h l ≡ k)
  each_number k None f l = absurd (omega arith)
  each_number k (Some p) f l = (p, f.0, f.2)

  pub is_mesh : IsMesh rule w h (mesh_meaning rule w h)
  is_mesh =
      let at : (l : MeshLink) → Inside w h l → span_at w h (link_number w h l) ≡ Some (span_of w l) = λ l i. ap (option_map (span_of w)) (at_number w h r l i) in
      record {
        tiles = refl;
        links = refl;
        number = λ l i. number_lt w h r l i;
        each = λ k. each_number k (link_at w h k) (found w h r k);
        start = λ l i. ap start_at (at l i);
        end = λ l i. ap end_at (at l i);
        turn = λ p q i j. ap (λ o. turn_at rule o (span_at w h (link_number w h q))) (at p i) ∙ ap (turn_at rule (Some (span_of w p))) (at q j);
      }
