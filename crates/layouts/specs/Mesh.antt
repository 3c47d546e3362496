-- The meaning of a mesh under a turn rule.
use Rattle.std.specs.Prelude.{◌≡◌, ℕ, ◌*◌, ◌<◌, Some, None, Option}
use Rattle.layouts.specs.declared.link.MeshLink.{MeshLink}
use Rattle.layouts.specs.declared.link.Span.{Span}
use Rattle.layouts.specs.declared.mesh.Mesh.{Mesh}
use Rattle.layouts.specs.declared.turn.Turn.{Turn}
use Rattle.layouts.specs.declared.turn.Turn.TheVariants.{Never}
use Rattle.layouts.specs.declared.turn_rule.TurnRule.{TurnRule}
use Rattle.layouts.specs.Layout.{Meaning}
use Rattle.layouts.specs.Links.{Inside, link_count, link_number, start_of, end_of, span_of, span_at}
use Rattle.layouts.specs.Rules.{turn_of, height_of}

-- the answers at numbers of links, where None stands for a number that is no link's
abbrev pub start_at : Option Span → ℕ
start_at None = 255
start_at (Some s) = s.start

abbrev pub end_at : Option Span → ℕ
end_at None = 255
end_at (Some s) = s.end

abbrev pub turn_at : TurnRule → Option Span → Option Span → Turn
turn_at rule None q = Never
turn_at rule (Some p) None = Never
turn_at rule (Some p) (Some q) = turn_of rule p q

abbrev pub span_height : TurnRule → Span → ℕ
span_height rule s = height_of rule s.link.direction s.link.x s.link.y

abbrev pub height_at : TurnRule → Option Span → ℕ
height_at rule None = 0
height_at rule (Some s) = span_height rule s

abbrev pub mesh_meaning : TurnRule → ℕ → ℕ → Meaning
mesh_meaning rule w h = record {
  tiles = w * h;
  links = link_count w h;
  start = λ k. start_at (span_at w h k);
  end = λ k. end_at (span_at w h k);
  turn = λ a b. turn_at rule (span_at w h a) (span_at w h b);
  height = λ k. height_at rule (span_at w h k);
}

abbrev pub meaning_of : Mesh → Meaning
meaning_of m = mesh_meaning m.rule m.size.width m.size.height

-- A meaning is that of the mesh of this rule, width and height: told by its links, and not by their numbers.
pub record IsMesh (rule : TurnRule) (w h : ℕ) (m : Meaning) : Type 0 where
  pub tiles : m.tiles ≡ w * h
  pub links : m.links ≡ link_count w h
  pub number : (l : MeshLink) → Inside w h l → link_number w h l < m.links
  pub each : (k : ℕ) → k < m.links → (l : MeshLink) × Inside w h l × (link_number w h l ≡ k)
  pub start : (l : MeshLink) → Inside w h l → m.start (link_number w h l) ≡ start_of w l
  pub end : (l : MeshLink) → Inside w h l → m.end (link_number w h l) ≡ end_of w l
  pub turn : (p q : MeshLink) → Inside w h p → Inside w h q → m.turn (link_number w h p) (link_number w h q) ≡ turn_of rule (span_of w p) (span_of w q)
