-- A plan that is written loads as the streams that it was written of.
use Rattle.std.proofs.Common.{◌≡◌, ℕ, zero, suc, ◌+◌, ◌<◌, ◌≤◌, true, false, nat_lt, List, [], ◌∷◌, ◌++◌, length, length-drop, map, Some, None, Ok, Result, refl, sym, ap, ◌∙◌, subst, arith, append_assoc, append-nil, zero-add}
use Rattle.std.proofs.Math.Path.{fun_ext}
use Rattle.std.proofs.lemmas.Bool.Decides.{nat_tests}
use Rattle.std.proofs.lemmas.Grind.{flat_map-append}
use Rattle.routes.specs.declared.hop.Hop.{Hop}
use Rattle.routes.specs.Routes.{OpenStream, hop_at, streams_of}
use Rattle.routes.specs.Loads.{stream_count, share, load}
use Rattle.model.specs.Grid.{Streams, Judge, assign}
use Rattle.model.specs.Kinds.{Kind}
use Rattle.model.specs.Calls.{open_refusal, vacancy, done}
use Rattle.model.specs.Safe.{Reached}
use Rattle.model.specs.Reopening.{streams_below, Reopens}
use Rattle.model.proofs.LaneSums.{sum_below_at}
use Rattle.model.proofs.Loads.{share_at_hop}
use Rattle.model.proofs.Reopening.{link_bears, opens_again}
use Rattle.grid.specs.declared.tables.Tables.{Tables}
use Rattle.grid.specs.Blank.{BlankTables}
use Rattle.grid.specs.Views.{streams_in, outline, setting}
use Rattle.grid.specs.Makes.{Edits}
use Rattle.codec.specs.declared.head.GridSizes.{GridSizes}
use Rattle.codec.specs.declared.head.Head.{Head}
use Rattle.codec.specs.declared.head.HeadNumbers.{HeadNumbers}
use Rattle.codec.specs.Heads.{head_at, values_of, judged, head_numbers}
use Rattle.codec.specs.Numbers.{number_bytes}
use Rattle.codec.specs.Sequences.{numbers_bytes}
use Rattle.codec.specs.Records.{Entry, hop_number, record_at, record_numbers}
use Rattle.codec.proofs.Sequenced.{Small}
use Rattle.codec.proofs.Reread.{Ahead, head_reread, record_reread}
use Rattle.plan.specs.declared.fault.LoadFault.{LoadFault}
use Rattle.plan.specs.Loads.{accepted_head, sizes_of, opening_of, records_from, ComesTo, Loads}
use Rattle.plan.specs.Plans.{stream_numbers, numbered, listed, open_streams, records_numbers, plan_bytes}
use Rattle.plan.specs.RoundTrips.{LoadsAs}
use Rattle.plan.proofs.SmallStreams.{LetsInSmall, AllSmall, open_small}
use Rattle.plan.proofs.Lengths.{small_head}
use Rattle.plan.proofs.Below.{none_below, below_closed, below_open, all_below}
use Rattle.plan.proofs.Loading.{first_opened, streams_once_open}

-- Open streams that a plan can open again: their numbers are small, and each is let in while those of lower numbers are open.
pub record Reloadable (judge : Judge) (streams : Streams) : Type 0 where
  pub small : AllSmall streams
  pub demand : (n : ℕ) (s : OpenStream) → streams n ≡ Some s → n < stream_count → s.request.demand ≤ 65535
  pub again : (n : ℕ) (s : OpenStream) → streams n ≡ Some s → n < stream_count → judge (streams_below n streams) s.request s.hops ≡ None

-- an open stream adds to a link no more than its load
load_at : (streams : Streams) (link n : ℕ) → n < stream_count → share link (streams n) ≤ load streams link
unfolding load
load_at streams link n low = sum_below_at stream_count (λ k. share link (streams k)) n low

-- the open streams of every grid can be
pub reloadable : (kind : Kind) (lanes capacity : ℕ) → LetsInSmall (kind.judge lanes capacity) → Reopens kind lanes capacity → capacity ≤ 65535
    → (streams : Streams) → ∥ Reached (kind.judge lanes capacity) streams ∥₁ → Reloadable (kind.judge lanes capacity) streams
reloadable kind lanes capacity lets_in reopens bound streams reached =
    let small = open_small lets_in reached in
    record {
      small = small;
      demand = λ n s is low.
          let link = (hop_at s.hops 0).link in
          let adds : share link (streams n) ≡ s.request.demand = rw is (share_at_hop link s.request s.hops 0 (omega (arith, (small n s is).count.0)) refl) in
          omega (arith, adds, load_at streams link n low, link_bears kind lanes capacity reopens streams reached link);
      again = opens_again kind lanes capacity reopens streams reached;
    }

small_hops : (hops : List Hop) → ((k : ℕ) → k < length hops → ((hop_at hops k).link < 256) × ((hop_at hops k).lane < 4)) → Small (map hop_number hops)
small_hops [] small = tt
small_hops (h ∷ hops) small = (omega (arith, small 0 (omega arith)), small_hops hops (λ k less. small (suc k) (omega arith)))

-- The open streams of a grid, which are to be opened again by a plan.
module _ (kind : Kind) (sizes : GridSizes) (streams : Streams) (able : Reloadable (kind.judge sizes.lanes sizes.capacity) streams) (plan : List ℕ) where
  -- those of numbers below k have been opened
  record Reopened (t : Tables) (k : ℕ) : Type 0 where
    lanes : t.lanes.size.lanes ≡ sizes.lanes
    capacity : t.capacity ≡ sizes.capacity
    streams_are : streams_in t ≡ streams_below k streams

  none_reopened : (t : Tables) → BlankTables kind.links sizes.lanes sizes.depth sizes.capacity t → Reopened t 0
  none_reopened t blank = record {
    lanes = blank.has_lanes;
    capacity = blank.has_capacity;
    streams_are = fun_ext blank.no_stream ∙ sym (none_below streams);
  }

  small_record : (k : ℕ) (s : OpenStream) → k < stream_count → streams k ≡ Some s → Small (record_numbers k s.request s.hops)
  unfolding record_numbers
  small_record k s there is =
      let small = able.small k s is in (
        omega arith,
        (
          omega (arith, small.source),
          (
            omega (arith, small.target),
            (
              able.demand k s is there,
              (omega (arith, small.count), small_hops s.hops small.on_grid),
            ),
          ),
        ),
      )

  not_declined : (t : Tables) (k : ℕ) (s : OpenStream) → Reopened t k → k < stream_count → streams k ≡ Some s
      → open_refusal (setting kind t 0) (outline t) k s.request s.hops ≡ None
  unfolding open_refusal
  not_declined t k s so_far there is =
      let number : nat_lt k stream_count ≡ true = grind (arith, nat_tests) in
      let above : nat_lt k k ≡ false = grind (arith, nat_tests) in
      let vacant : vacancy (streams_below k streams) k ≡ Ok tt = rw (number, above) refl in
      let vacant_here = subst (λ f. vacancy f k ≡ Ok tt) (sym so_far.streams_are) vacant in
      let judged : kind.judge t.lanes.size.lanes t.capacity (streams_in t) s.request s.hops ≡ None =
      rw (so_far.lanes, so_far.capacity, so_far.streams_are) (able.again k s is there) in
      rw (vacant_here, judged) refl

  reopened_one : (t between : Tables) (k : ℕ) (s : OpenStream) (e : Entry) → Reopened t k → streams k ≡ Some s → e.stream ≡ k → e.request ≡ s.request → e.hops ≡ s.hops
      → Edits kind t (opening_of e) done between → Reopened between (k + 1)
  reopened_one t between k s e so_far is stream_is request_is hops_are edits =
      let after : streams_in between ≡ assign (streams_in t) e.stream (Some (record { request = e.request; hops = e.hops })) =
      streams_once_open kind t between e.stream e.request e.hops edits in
      record {
        lanes = ap (λ size. size.lanes) edits.made.size ∙ so_far.lanes;
        capacity = edits.made.capacity ∙ so_far.capacity;
        streams_are = rw (stream_is, request_is, hops_are, so_far.streams_are) at after ∙ below_open streams k s is;
      }

  reopened_none : (t : Tables) (k : ℕ) → Reopened t k → streams k ≡ None → Reopened t (k + 1)
  reopened_none t k so_far none = record { lanes = so_far.lanes; capacity = so_far.capacity; streams_are = so_far.streams_are ∙ below_closed streams k none }

  lanes_low : (k : ℕ) (s : OpenStream) → streams k ≡ Some s → (j : ℕ) → j < length s.hops → (hop_at s.hops j).lane < 4
  lanes_low k s is j less = ((able.small k s is).on_grid j less).1

  record_ahead : (k : ℕ) (s : OpenStream) (rest : List (ℕ × OpenStream)) (place : ℕ) → Ahead plan place (records_numbers ((k, s) ∷ rest)) []
      → Ahead plan place (record_numbers k s.request s.hops) (numbers_bytes (records_numbers rest) ++ [])
  record_ahead k s rest place ahead = record {
    bytes = ahead.bytes ∙ (ap (λ bytes. bytes ++ []) (flat_map-append number_bytes (stream_numbers (k, s)) (records_numbers rest)) ∙ append_assoc (numbers_bytes (stream_numbers (k, s))) _ _);
  }

  open_next : (t t' : Tables) (k : ℕ) (s : OpenStream) (i place n : ℕ) (r : Result ℕ LoadFault) (e : Entry) → Reopened t k → k < stream_count → streams k ≡ Some s
      → record_at plan place ≡ Ok e → e.stream ≡ k → e.request ≡ s.request → e.hops ≡ s.hops
      → ComesTo kind t (records_from (setting kind t 0) plan (outline t) i place (suc n)) r t'
      → (between : Tables) × Reopened between (k + 1)
      × ComesTo kind between (records_from (setting kind between 0) plan (outline between) (i + 1) e.next n) r t'
  open_next t t' k s i place n r e so_far there is read stream_is request_is hops_are comes =
      let opened = first_opened kind plan t i place n e r t' read (rw (stream_is, request_is, hops_are) (not_declined t k s so_far there is)) comes in
      let between = opened.0 in
      (between, reopened_one t between k s e so_far is stream_is request_is hops_are opened.1, opened.2)

  reload_end : (k : ℕ) → k + 0 ≡ stream_count → (t t' : Tables) (i place : ℕ) (r : Result ℕ LoadFault) → Reopened t k → Ahead plan place [] []
      → ComesTo kind t (records_from (setting kind t 0) plan (outline t) i place 0) r t'
      → (r ≡ Ok (i + 0)) × (streams_in t' ≡ streams_below stream_count streams)
  unfolding records_from
  reload_end k split t t' i place r so_far ahead comes =
      let none : length plan ≤ place = omega (arith, ap length ahead.bytes, length-drop place plan) in
      let test : nat_lt place (length plan) ≡ false = grind (arith, nat_tests) in
      let here = rw test at comes in
      let last : k ≡ stream_count = omega (arith, split) in
      (here.0 ∙ ap Ok (omega arith), ap streams_of here.1.streams ∙ (so_far.streams_are ∙ ap (λ j. streams_below j streams) last))

  -- the records that are left open the streams that are left
  reload : (k n : ℕ) → k + n ≡ stream_count → (t t' : Tables) (i place : ℕ) (r : Result ℕ LoadFault) → Reopened t k → Ahead plan place (records_numbers (listed streams k n)) []
      → ComesTo kind t (records_from (setting kind t 0) plan (outline t) i place (length (listed streams k n))) r t'
      → (r ≡ Ok (i + length (listed streams k n))) × (streams_in t' ≡ streams_below stream_count streams)
  reload k zero split t t' i place r so_far ahead comes = reload_end k split t t' i place r so_far ahead comes
  reload k (suc n) split t t' i place r so_far ahead comes =
      let rest = listed streams (k + 1) n in
      let next : (k + 1) + n ≡ stream_count = omega (arith, split) in
      elim (streams k) as (λ entry. streams k ≡ entry → Ahead plan place (records_numbers (numbered k entry ++ rest)) []
      → ComesTo kind t (records_from (setting kind t 0) plan (outline t) i place (length (numbered k entry ++ rest))) r t'
      → (r ≡ Ok (i + length (numbered k entry ++ rest))) × (streams_in t' ≡ streams_below stream_count streams)) [
        | None ↦ λ none ahead comes. reload (k + 1) n next t t' i place r (reopened_none t k so_far none) ahead comes
        | Some s ↦ λ is ahead comes.
            let there : k < stream_count = omega (arith, split) in
            let first = record_reread (able.small k s is).count.1 (lanes_low k s is) (small_record k s there is) (record_ahead k s rest place ahead) in
            let opened = open_next t t' k s i place (length rest) r first.entry so_far there is first.is first.stream_is first.request_is first.hops_are comes in
            let more = reload (k + 1) n next opened.0 t' (i + 1) first.entry.next r opened.1 (record { bytes = first.rest_is }) opened.2 in
            (more.0 ∙ ap Ok (omega arith), more.1)
      ]
      refl ahead comes

-- loading behind a head that is accepted
headed : (kind : Kind) (t t' : Tables) (plan : List ℕ) (r : Result ℕ LoadFault) (h : HeadNumbers) (count : ℕ) → accepted_head (sizes_of t) plan ≡ Ok h
    → h.count.value ≡ count → Loads kind t plan r t' → ComesTo kind t (records_from (setting kind t 0) plan (outline t) 0 h.count.next count) r t'
headed kind t t' plan r h count accepted counted loads =
    let comes = rw accepted at loads in
    subst (λ n. ComesTo kind t (records_from (setting kind t 0) plan (outline t) 0 h.count.next n) r t') counted comes

head_accepted : (sizes : GridSizes) (plan : List ℕ) (h : Head) (count : ℕ) (n : HeadNumbers) → head_at plan ≡ Ok n → values_of n ≡ h → n.count.value ≡ count
    → judged h count sizes ≡ Ok tt → accepted_head sizes plan ≡ Ok n
head_accepted sizes plan h count n is values counted pass =
    let here : judged (values_of n) n.count.value sizes ≡ Ok tt = rw (values, counted) pass in
    rw (is, here) refl

-- the plan of a grid's open streams
module _ (kind : Kind) (sizes : GridSizes) (bound : sizes.capacity ≤ 65535) (streams : Streams)
    (able : Reloadable (kind.judge sizes.lanes sizes.capacity) streams) (beyond : (n : ℕ) → stream_count ≤ n → streams n ≡ None) (h : Head)
    (pass : judged h (length (open_streams streams)) sizes ≡ Ok tt) where
  small_in_head : Small (head_numbers h (length (open_streams streams)))
  unfolding head_numbers
  small_in_head =
      let small = small_head h (length (open_streams streams)) sizes pass in (
        omega (arith, small.version),
        (
          omega (arith, small.rule),
          (
            omega (arith, small.width),
            (
              omega (arith, small.height),
              (
                omega (arith, small.lanes),
                (
                  omega (arith, small.depth),
                  (omega (arith, small.capacity), (omega (arith, small.streams), tt)),
                ),
              ),
            ),
          ),
        ),
      )

  head_ahead : Ahead (plan_bytes h streams) 0 (head_numbers h (length (open_streams streams))) (numbers_bytes (records_numbers (open_streams streams)) ++ [])
  head_ahead = record {
    bytes = flat_map-append number_bytes (head_numbers h (length (open_streams streams))) (records_numbers (open_streams streams))
        ∙ ap (λ bytes. numbers_bytes (head_numbers h (length (open_streams streams))) ++ bytes) (sym (append-nil _));
  }

  pub loads_as : LoadsAs kind sizes streams (plan_bytes h streams)
  unfolding open_streams
  loads_as t t' r blank loads =
      let plan = plan_bytes h streams in
      let head = head_reread small_in_head head_ahead in
      let same : sizes_of t ≡ sizes = rw (blank.has_lanes, blank.has_depth, blank.has_capacity) refl in
      let accepted = head_accepted (sizes_of t) plan h (length (open_streams streams)) head.numbers head.is head.values head.count_is (rw same pass) in
      let comes = headed kind t t' plan r head.numbers (length (open_streams streams)) accepted head.count_is loads in
      let none = none_reopened kind sizes streams able plan t blank in
      let all = reload kind sizes streams able plan 0 stream_count refl t t' 0 head.numbers.count.next r none (record { bytes = head.rest_is }) comes in
      (all.0 ∙ ap Ok (zero-add _), λ n. ap (λ f. f n) (all.1 ∙ all_below streams beyond))
