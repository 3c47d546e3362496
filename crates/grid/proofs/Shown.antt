-- What the outline shows of the items in lent slots.
use Rattle.std.proofs.Common.{◌≡◌, ℕ, true, refl, sym, ap, ◌∙◌}
use Rattle.std.proofs.lemmas.Bool.{leb-true}
use Rattle.model.specs.Grid.{Grid, enough_slots}
use Rattle.model.specs.Sums.{grid_sum, one, item_count, ahead, hops_ahead}
use Rattle.model.proofs.Outlines.{grid_sum-without_items, grid_sum_same_lanes}
use Rattle.grid.specs.Views.{streams_in, outline, setting}
use Rattle.grid.specs.Sweeps.{Workspace, setting_in, grid_in, items_in, ahead_in}
use Rattle.grid.proofs.Stands.{Lends, view_outline}

module _ {T : Type 0} (w : Workspace T) (links : w.kind.links ≡ w.tables.lanes.size.links) (enough : enough_slots (setting_in w) ≡ true) where
  lends : Lends w.tables w.slots
  lends = leb-true _ _ (rw links at enough)

  -- a sum over the items that does not ask for them
  sum_shown : (cost : ℕ → (ℕ × Unit {0}) → ℕ)
      → grid_sum (setting w.kind w.tables 0) cost (outline w.tables).contents ≡ grid_sum (setting_in w) (λ link i. cost link (i.0, tt)) (grid_in w).contents
  sum_shown cost =
      ap (λ (g : Grid (Unit {0})). grid_sum (setting w.kind w.tables 0) cost g.contents) (sym (view_outline w.tables w.slots lends))
      ∙ grid_sum-without_items (setting w.kind w.tables 0) cost (grid_in w)
      ∙ grid_sum_same_lanes (setting w.kind w.tables 0) (setting_in w) (λ link i. cost link (i.0, tt)) (grid_in w).contents refl refl

  pub items_shown : item_count (setting w.kind w.tables 0) (outline w.tables) ≡ items_in w
  items_shown = sum_shown one

  pub ahead_shown : hops_ahead (setting w.kind w.tables 0) (outline w.tables) ≡ ahead_in w
  ahead_shown = sum_shown (ahead (streams_in w.tables))
