use Rattle.std.proofs.Common.{length, Ok, refl, sym, ap, ◌∙◌}
use Rattle.layouts.specs.Mesh.{meaning_of}
use Rattle.search.specs.Finds.{values_needed, marks_needed}
use Rattle.session.proofs.Measuring.{seeks_by_name}
use Rattle.session.proofs.at_hand.GridAtHand.seek.Goals as goal

pub returns-clause-value : goal.returns-clause-value
returns-clause-value c =
    let hand = c.args.self.now in
    let lanes = hand.grid.tables.lanes.size.lanes in
    let values = ap length c.as_mut_slice.ensures.value ∙ hand.all_values ∙ ap (λ links. values_needed links lanes) (sym hand.grid.fits) in
    let marks = ap length c.as_mut_slice-2.ensures.value ∙ hand.all_marks ∙ ap (λ links. marks_needed links lanes) (sym hand.grid.fits) in
    let sought = c.in_ok-seek.ensures in (
      Ok c.in_ok-seek.field-0,
      seeks_by_name (meaning_of hand.grid.layout) hand.grid.tables _ c.args.stream c.args.request c.args.measure (Ok c.in_ok-seek.field-0)
          (rw (c.measure_of.ensures, values, marks) at sought.made),
      record { out = record { made = record { head = refl; layout = ap meaning_of sought.layout }; streams = refl; items = refl }; slots = refl },
      c.route.ensures.value,
    )
