-- How long a plan can be.
use Rattle.std.proofs.Common.{◌≡◌, ℕ, zero, suc, ◌+◌, ◌*◌, ◌<◌, ◌≤◌, true, is_some, List, [], ◌∷◌, ◌++◌, length, map, Some, None, Ok, Option, refl, ap, arith, length-append}
use Rattle.std.proofs.lemmas.Bool.Decides.{nat_tests}
use Rattle.std.proofs.lemmas.Grind.{flat_map-append}
use Rattle.routes.specs.declared.hop.Hop.{Hop}
use Rattle.routes.specs.Routes.{OpenStream, hop_at}
use Rattle.routes.specs.Loads.{stream_count}
use Rattle.model.specs.Grid.{Streams}
use Rattle.codec.specs.declared.head.GridSizes.{GridSizes}
use Rattle.codec.specs.declared.head.HeadPart.TheVariants.{Version, Rule, Width, Height, Lanes, Depth, Capacity, Count}
use Rattle.codec.specs.declared.head.Head.{Head}
use Rattle.codec.specs.Heads.{rule_numbered, judged, head_numbers}
use Rattle.codec.proofs.JudgedHeads.{each_allowed, each_fits}
use Rattle.codec.specs.Numbers.{number_bytes}
use Rattle.codec.specs.Sequences.{numbers_bytes}
use Rattle.codec.specs.Records.{hop_number, record_numbers}
use Rattle.plan.specs.Plans.{stream_numbers, numbered, listed, open_streams, records_numbers, plan_bytes}
use Rattle.plan.proofs.SmallStreams.{SmallStream, AllSmall}

pub at_most_three : (n : ℕ) → length (number_bytes n) ≤ 3
unfolding number_bytes
at_most_three n = grind (arith, nat_tests)

pub one_byte : (n : ℕ) → n < 128 → length (number_bytes n) ≤ 1
unfolding number_bytes
one_byte n small = grind (arith, nat_tests)

pub two_bytes : (n : ℕ) → n < 16384 → length (number_bytes n) ≤ 2
unfolding number_bytes
two_bytes n small = grind (arith, nat_tests)

hops_short : (hops : List Hop) → ((k : ℕ) → k < length hops → ((hop_at hops k).link < 256) × ((hop_at hops k).lane < 4))
    → length (numbers_bytes (map hop_number hops)) ≤ 2 * length hops
hops_short [] small = omega arith
hops_short (h ∷ hops) small =
    let first = two_bytes (hop_number h) (omega (arith, small 0 (omega arith))) in
    let more = hops_short hops (λ k less. small (suc k) (omega arith)) in
    omega (arith, first, more, length-append (number_bytes (hop_number h)) (numbers_bytes (map hop_number hops)))

-- a small stream's record: each number that names a tile or the stream takes a byte, each hop at most two
pub record_short : (n : ℕ) (s : OpenStream) → n < stream_count → SmallStream s.request s.hops → length (numbers_bytes (stream_numbers (n, s))) ≤ 55
unfolding record_numbers
record_short n s low small =
    let hops = hops_short s.hops small.on_grid in
    simp length-append
    (omega (
      arith,
      hops,
      small.count,
      one_byte n (omega arith),
      one_byte s.request.source (omega (arith, small.source)),
      one_byte s.request.target (omega (arith, small.target)),
      at_most_three s.request.demand,
      one_byte (length s.hops) (omega (arith, small.count)),
    ))

module _ (streams : Streams) (small : AllSmall streams) where
  entry_short : (n : ℕ) (rest : List (ℕ × OpenStream)) (entry : Option OpenStream) → n < stream_count → streams n ≡ entry
      → length (numbers_bytes (records_numbers (numbered n entry ++ rest))) ≤ 55 + length (numbers_bytes (records_numbers rest))
  entry_short n rest None there is = omega arith
  entry_short n rest (Some s) there is =
      let short = record_short n s there (small n s is) in
      let split = flat_map-append number_bytes (stream_numbers (n, s)) (records_numbers rest) in
      omega (arith, short, ap length split, length-append (numbers_bytes (stream_numbers (n, s))) (numbers_bytes (records_numbers rest)))

  listed_short : (n k : ℕ) → n + k ≤ stream_count → length (numbers_bytes (records_numbers (listed streams n k))) ≤ 55 * k
  listed_short n zero there = omega arith
  listed_short n (suc k) there = omega (arith, entry_short n (listed streams (n + 1) k) (streams n) (omega arith) refl, listed_short (n + 1) k (omega arith))

  pub records_short : length (numbers_bytes (records_numbers (open_streams streams))) ≤ 3520
  unfolding open_streams
  records_short = listed_short 0 stream_count (omega arith)

rule_small : (n : ℕ) → is_some (rule_numbered n) ≡ true → n < 128
rule_small n is = grind (arith, nat_tests)

-- The numbers of an accepted head are small too, and those that have to fit are the grid's.
pub record SmallHead (h : Head) (count : ℕ) (grid : GridSizes) : Type 0 where
  pub version : h.version < 128
  pub rule : h.rule < 128
  pub width : h.width < 128
  pub height : h.height < 128
  pub lanes : h.lanes < 128
  pub depth : h.depth < 128
  pub capacity : h.capacity ≡ grid.capacity
  pub streams : count ≤ 64

pub small_head : (h : Head) (count : ℕ) (grid : GridSizes) → judged h count grid ≡ Ok tt → SmallHead h count grid
small_head h count grid is =
    let pass = each_allowed h count grid is in
    record {
      version = grind (arith, nat_tests, pass Version);
      rule = rule_small h.rule (pass Rule);
      width = grind (arith, nat_tests, pass Width);
      height = grind (arith, nat_tests, pass Height);
      lanes = grind (arith, nat_tests, pass Lanes);
      depth = grind (arith, nat_tests, pass Depth);
      capacity = grind (arith, nat_tests, each_fits h count grid is Capacity);
      streams = grind (arith, nat_tests, pass Count);
    }

pub head_short : (h : Head) (count : ℕ) (grid : GridSizes) → SmallHead h count grid → length (numbers_bytes (head_numbers h count)) ≤ 10
unfolding head_numbers
head_short h count grid small =
    simp length-append
    (omega (
      arith,
      one_byte h.version small.version,
      one_byte h.rule small.rule,
      one_byte h.width small.width,
      one_byte h.height small.height,
      one_byte h.lanes small.lanes,
      one_byte h.depth small.depth,
      at_most_three h.capacity,
      one_byte count (omega (arith, small.streams)),
    ))

pub plan_short : (h : Head) (streams : Streams) (grid : GridSizes) → SmallHead h (length (open_streams streams)) grid → AllSmall streams
    → length (plan_bytes h streams) ≤ 3530
plan_short h streams grid head small =
    let split = flat_map-append number_bytes (head_numbers h (length (open_streams streams))) (records_numbers (open_streams streams)) in
    omega (
      arith,
      head_short h (length (open_streams streams)) grid head,
      records_short streams small,
      ap length split,
      length-append (numbers_bytes (head_numbers h (length (open_streams streams)))) (numbers_bytes (records_numbers (open_streams streams))),
    )
