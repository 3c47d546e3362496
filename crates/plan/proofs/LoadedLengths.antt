-- How long a plan that loads can be.
use Rattle.std.proofs.Common.{ℕ, ◌*◌, ◌≤◌, List, [], ◌∷◌, length, map, ap, arith, length-append}
use Rattle.std.specs.List.{AllByRecursion as All}
use Rattle.std.proofs.lemmas.Grind.{flat_map-append}
use Rattle.codec.specs.declared.head.GridSizes.{GridSizes}
use Rattle.codec.specs.Heads.{values_of, head_numbers}
use Rattle.codec.specs.Numbers.{number_bytes}
use Rattle.codec.specs.Sequences.{numbers_bytes}
use Rattle.codec.specs.Records.{Entry}
use Rattle.plan.specs.Loads.{stream_in}
use Rattle.plan.specs.Plans.{stream_numbers, records_numbers}
use Rattle.plan.proofs.Lengths.{record_short, small_head, head_short}
use Rattle.plan.proofs.Rising.{numbered_stream}
use Rattle.plan.proofs.Rewriting.{Opened, Loaded}

records_short : (es : List Entry) → All Opened es → length (numbers_bytes (records_numbers (map numbered_stream es))) ≤ 55 * length es
records_short [] each = omega arith
records_short (e ∷ more) each =
    let first = record_short e.stream (stream_in e) each.0.number each.0.small in
    let split = flat_map-append number_bytes (stream_numbers (numbered_stream e)) (records_numbers (map numbered_stream more)) in
    omega (
      arith,
      first,
      records_short more each.1,
      ap length split,
      length-append (numbers_bytes (stream_numbers (numbered_stream e))) (numbers_bytes (records_numbers (map numbered_stream more))),
    )

pub loaded_short : (sizes : GridSizes) (plan : List ℕ) (opened : List Entry) → Loaded sizes plan opened → length plan ≤ 3530
loaded_short sizes plan opened whole =
    let head = head_numbers (values_of whole.head) whole.head.count.value in
    let small = small_head (values_of whole.head) whole.head.count.value sizes whole.judged in
    omega (
      arith,
      ap length whole.bytes,
      ap length (flat_map-append number_bytes head (records_numbers (map numbered_stream opened))),
      length-append (numbers_bytes head) (numbers_bytes (records_numbers (map numbered_stream opened))),
      head_short (values_of whole.head) whole.head.count.value sizes small,
      records_short opened whole.each,
      whole.count,
      small.streams,
    )
