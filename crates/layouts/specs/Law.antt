-- A mesh keeps the law of layouts.
use Rattle.std.specs.Prelude.{◌≡◌, ℕ, ◌*◌, ◌/◌, ◌%◌, ◌<◌, ◌≤◌, Bool, true, false, cond, Some, None, Option, ◌≢◌, refl}
use Rattle.std.proofs.Common.{sym, ap, ◌∙◌, subst, arith}
use Rattle.std.proofs.lemmas.Nat.{div-mul-add, mod-mul-add}
use Rattle.std.proofs.lemmas.Bool.{eqb-true, eqb-false, and_parts, not-true}
use Rattle.std.specs.Option.{option_map}
use Rattle.layouts.specs.declared.direction.Direction.{Direction}
use Rattle.layouts.specs.declared.direction.Direction.TheVariants.{East, West, North, South}
use Rattle.layouts.specs.declared.link.MeshLink.{MeshLink}
use Rattle.layouts.specs.declared.link.Span.{Span}
use Rattle.layouts.specs.declared.turn.Turn.TheVariants.{Never, Free, Climb}
use Rattle.layouts.specs.declared.turn_rule.TurnRule.{TurnRule}
use Rattle.layouts.specs.Layout.{topology_in, turns_in, WaysLaw, TurnLaw, Lawful, NoTiles, NoTurns}
use Rattle.layouts.specs.Links.{InRange, tile, column, row, Leaves, Inside, start_of, end_of, span_of, link_count, link_at, span_at}
use Rattle.layouts.specs.Rules.{barred, height_of, turn_of}
use Rattle.layouts.specs.Mesh.{start_at, end_at, turn_at, height_at, span_height, mesh_meaning}
use Rattle.layouts.specs.Bounds.{sides, level_le, level_ge, upright_le, tiles_le, tiles_ge}
use Rattle.layouts.specs.LinkNumbers.{Found, found, start_lt, end_lt}
use Rattle.layouts.specs.Rising.{back, rising}

-- what a turn says of the tests behind it
not_never : (t u : Bool) → (cond t (cond u Climb Free) Never ≢ Never) → t ≡ true
not_never true u h = refl
not_never false u h = absurd (h refl)

is_free : (t u : Bool) → cond t (cond u Climb Free) Never ≡ Free → (t ≡ true) × (u ≡ false)
is_free true true e = grind arith
is_free true false e = (refl, refl)
is_free false u e = grind arith

-- One step and then a step back leads to the start.
column_back : (d : Direction) (x y : ℕ) → Leaves d x y → column (back d) (column d x) ≡ x
column_back East x y l = omega arith
column_back West x y l = omega arith
column_back North x y l = refl
column_back South x y l = refl

row_back : (d : Direction) (x y : ℕ) → Leaves d x y → row (back d) (row d y) ≡ y
row_back East x y l = refl
row_back West x y l = refl
row_back North x y l = omega arith
row_back South x y l = omega arith

-- a tile's number tells its column and row
same_tile : (w x y u v : ℕ) → x < w → u < w → tile w x y ≡ tile w u v → (x ≡ u) × (y ≡ v)
same_tile w x y u v p q e =
    (sym (mod-mul-add y w x p) ∙ ap (λ n. n % w) e ∙ mod-mul-add v w u q, sym (div-mul-add y w x p) ∙ ap (λ n. n / w) e ∙ div-mul-add v w u q)

module _ (rule : TurnRule) (w h : ℕ) (r : InRange w h) where
  -- two links that make a free turn
  rises_between : (p q : MeshLink) → Inside w h p → Inside w h q → turn_of rule (span_of w p) (span_of w q) ≡ Free → span_height rule (span_of w p) < span_height rule (span_of w q)
  rises_between p q i j e =
      let s = sides w h r in
      let d = p.direction in
      let free = is_free _ _ e in
      let joined = and_parts _ _ free.0 in
      let same = same_tile w (column d p.x) (row d p.y) q.x q.y i.x_next j.x_in (eqb-true _ _ joined.0) in
      let up = rising rule d q.direction p.x p.y (omega (arith, i.x_in)) (omega (arith, i.y_in)) i.leaves (omega (arith, i.x_next)) (omega (arith, i.y_next))
      (λ turns_back. eqb-false (end_of w q) (start_of w p) (not-true _ joined.1)
      (simp (turns_back, sym same.0, sym same.1, column_back d p.x p.y i.leaves, row_back d p.x p.y i.leaves) refl))
      (ap (barred rule d q.direction) same.0 ∙ free.1) in
      subst (λ n. height_of rule d p.x p.y < n) (ap (λ n. height_of rule q.direction n (row d p.y)) same.0 ∙ ap (height_of rule q.direction q.x) same.1) up

  start_in : (k : ℕ) (o : Option MeshLink) → Found w h k o → k < link_count w h → start_at (option_map (span_of w) o) < w * h
  start_in k None f l = absurd (omega arith)
  start_in k (Some p) f l = start_lt w h r p f.0

  end_in : (k : ℕ) (o : Option MeshLink) → Found w h k o → k < link_count w h → end_at (option_map (span_of w) o) < w * h
  end_in k None f l = absurd (omega arith)
  end_in k (Some p) f l = end_lt w h r p f.0

  meets_at : (p q : Option Span) → (turn_at rule p q ≢ Never) → end_at p ≡ start_at q
  meets_at None q n = absurd (n refl)
  meets_at (Some p) None n = absurd (n refl)
  meets_at (Some p) (Some q) n = eqb-true p.end q.start (and_parts _ _ (not_never _ _ n)).0

  rises_at : (a b : ℕ) (p q : Option MeshLink) → Found w h a p → Found w h b q → turn_at rule (option_map (span_of w) p) (option_map (span_of w) q) ≡ Free → height_at rule (option_map (span_of w) p) < height_at rule (option_map (span_of w) q)
  rises_at a b None q f g e = grind arith
  rises_at a b (Some p) None f g e = grind arith
  rises_at a b (Some p) (Some q) f g e = rises_between p q f.0 g.0 e

  pub mesh_lawful : Lawful (mesh_meaning rule w h)
  mesh_lawful = record {
    sized = record {
      some_tiles = omega (arith, tiles_ge w h r);
      most_tiles = tiles_le w h r;
      some_links = omega (arith, level_ge w h r);
      most_links = omega (arith, level_le w h r, upright_le w h r);
    };
    joins = λ k l. (start_in k (link_at w h k) (found w h r k) l, end_in k (link_at w h k) (found w h r k) l);
    meets = λ a b. meets_at (span_at w h a) (span_at w h b);
    rises = λ a b. rises_at a b (link_at w h a) (link_at w h b) (found w h r a) (found w h r b);
  }

  pub mesh_ways : WaysLaw (topology_in (mesh_meaning rule w h))
  mesh_ways = record { sized = mesh_lawful.sized; joins = mesh_lawful.joins }

  pub mesh_turns : TurnLaw (topology_in (mesh_meaning rule w h)) (turns_in (mesh_meaning rule w h))
  mesh_turns = record { meets = mesh_lawful.meets; rises = mesh_lawful.rises }

  -- no link has a number from the count on
  none_from : (k : ℕ) (o : Option MeshLink) → Found w h k o → link_count w h ≤ k → option_map (span_of w) o ≡ None
  none_from k None f l = refl
  none_from k (Some p) f l = absurd (omega arith)

  turn_to_none : (p : Option Span) → turn_at rule p None ≡ Never
  turn_to_none None = refl
  turn_to_none (Some p) = refl

  none_at : (k : ℕ) → link_count w h ≤ k → span_at w h k ≡ None
  none_at k = none_from k (link_at w h k) (found w h r k)

  pub mesh_no_tiles : NoTiles (topology_in (mesh_meaning rule w h))
  mesh_no_tiles = record { no_start = λ k l. ap start_at (none_at k l); no_end = λ k l. ap end_at (none_at k l) }

  pub mesh_no_turns : NoTurns (topology_in (mesh_meaning rule w h)) (turns_in (mesh_meaning rule w h))
  mesh_no_turns = record {
    no_turn_from = λ a b l. ap (λ p. turn_at rule p (span_at w h b)) (none_at a l);
    no_turn_to = λ a b l. ap (turn_at rule (span_at w h a)) (none_at b l) ∙ turn_to_none (span_at w h a);
  }
