-- A plan that loads is written back as it was.
use Rattle.std.proofs.Common.{◌≡◌, ℕ, zero, suc, ◌+◌, ◌<◌, ◌≤◌, true, false, cond, nat_lt, List, [], ◌∷◌, ◌++◌, length, map, drop, Some, None, Ok, Err, Option, Result, refl, sym, ap, ◌∙◌, subst, arith}
use Rattle.std.specs.List.{AllByRecursion as All}
use Rattle.std.proofs.lemmas.Bool.Decides.{nat_tests}
use Rattle.std.proofs.lemmas.List.{drop_all, length-map}
use Rattle.std.proofs.lemmas.Grind.{flat_map-append}
use Rattle.refusals.specs.declared.refusal.Refusal.TheVariants.{TrailingBytes}
use Rattle.routes.specs.declared.declined.Declined.{Declined}
use Rattle.routes.specs.Routes.{OpenStream}
use Rattle.routes.specs.Loads.{stream_count}
use Rattle.routes.proofs.Firsts.{first_none}
use Rattle.model.specs.Grid.{Setting, Grid}
use Rattle.model.specs.Kinds.{Kind}
use Rattle.model.specs.Calls.{declines, vacancy, open_refusal, opening}
use Rattle.grid.specs.declared.tables.Tables.{Tables}
use Rattle.grid.specs.Views.{streams_in, outline, setting}
use Rattle.codec.specs.declared.head.GridSizes.{GridSizes}
use Rattle.codec.specs.declared.head.HeadFault.{HeadFault}
use Rattle.codec.specs.declared.head.HeadNumbers.{HeadNumbers}
use Rattle.codec.specs.declared.number.ByteFault.{ByteFault}
use Rattle.codec.specs.Heads.{head_at, values_of, judged, head_numbers}
use Rattle.codec.specs.Numbers.{number_bytes}
use Rattle.codec.specs.Sequences.{numbers_bytes}
use Rattle.codec.specs.Records.{Entry, record_at, record_numbers}
use Rattle.codec.proofs.Standing.{Bytes}
use Rattle.codec.proofs.Heading.{head_stands}
use Rattle.codec.proofs.RecordBytes.{hops_counted, record_stands}
use Rattle.plan.specs.declared.fault.LoadFault.{LoadFault}
use Rattle.plan.specs.declared.fault.LoadFault.TheVariants as fault
use Rattle.plan.specs.Buffers.{fitted}
use Rattle.plan.specs.Loads.{Loading, once_read, at_end, records_from, if_judged, if_read, accepted_head, behind_head, sizes_of, loading_on, Loads, once_accepted}
use Rattle.plan.specs.Plans.{stream_numbers, open_streams, records_numbers, plan_bytes}
use Rattle.plan.specs.RoundTrips.{WrittenBack}
use Rattle.plan.proofs.Loading.{rest_stays}
use Rattle.plan.proofs.SmallStreams.{SmallStream, LetsInSmall}
use Rattle.plan.proofs.Rising.{AllBelow, numbered_stream, open_as_told, streams_opened}

-- A record whose stream can be opened: it has a number of the table, and small numbers besides.
pub record Opened (e : Entry) : Type 0 where
  pub number : e.stream < stream_count
  pub small : SmallStream e.request e.hops

vacant : (streams : ℕ → Option OpenStream) (n : ℕ) → declines (vacancy streams n) ≡ None → n < stream_count
vacant streams n none = grind (arith, nat_tests)

-- so it is of a record whose stream is not declined
pub can_open : {T : Type 0} (S : Setting) → LetsInSmall S.judge → (g : Grid T) (e : Entry) → open_refusal S g e.stream e.request e.hops ≡ None → Opened e
unfolding open_refusal
can_open S small g e none =
    let both = first_none (declines (vacancy g.streams e.stream) ∷ (S.judge g.streams e.request e.hops ∷ [])) none in
    record { number = vacant g.streams e.stream both.0; small = small g.streams e.request e.hops both.1.0 }

-- its hops are all read
pub hops_whole : (plan : List ℕ) (start : ℕ) (e : Entry) → record_at plan start ≡ Ok e → 1 ≤ length e.hops → length e.hops ≡ e.count
hops_whole plan start e is some =
    let counted = hops_counted plan start e is in
    grind (arith, nat_tests, counted)

-- what loading to an end says of its steps
read_on : (k : ℕ) (r : Result Entry ByteFault) (more : Entry → Loading) (c : ℕ) → (once_read k r more).answer ≡ Ok c
    → (e : Entry) × (r ≡ Ok e) × ((more e).answer ≡ Ok c)
read_on k (Ok e) more c is = (e, refl, is)
read_on k (Err f) more c is = cc

opened_on : (k : ℕ) (e : Entry) (o : Option Declined) (more : Loading) (c : ℕ) → (once_accepted k e o more).answer ≡ Ok c
    → (o ≡ None) × (more.answer ≡ Ok c)
opened_on k e None more c is = (refl, is)
opened_on k e (Some d) more c is = cc

ended : (plan : List ℕ) (count place c : ℕ) → (at_end plan count place).answer ≡ Ok c → length plan ≤ place
ended plan count place c is =
    elim (nat_lt place (length plan)) as (λ b. nat_lt place (length plan) ≡ b → cond b (Err (fault.Plan (record { refusal = TrailingBytes; place = place }))) (Ok count) ≡ Ok c → length plan ≤ place)
    [ true ↦ λ test no. cc | false ↦ λ test _. grind (arith, nat_tests, test) ] refl is

-- Records that are opened stand as they are written, up to the end of the plan.
pub record Stand (plan : List ℕ) (place n : ℕ) (opened : List Entry) : Type 0 where
  pub bytes : drop place plan ≡ numbers_bytes (records_numbers (map numbered_stream opened))
  pub count : length opened ≡ n
  pub each : All Opened opened

module _ (S : Setting) (small : LetsInSmall S.judge) (plan : List ℕ) (all : Bytes plan) where
  one_stands : (place n : ℕ) (e : Entry) (more : List Entry) → record_at plan place ≡ Ok e → Opened e → Stand plan e.next n more
      → Stand plan place (suc n) (e ∷ more)
  unfolding record_numbers
  one_stands place n e more is opened stand =
      let first = record_stands plan place e all is (hops_whole plan place e is opened.small.count.0) in
      record {
        bytes = first.bytes ∙ (ap (λ rest. numbers_bytes (stream_numbers (numbered_stream e)) ++ rest) stand.bytes ∙ sym (flat_map-append number_bytes (stream_numbers (numbered_stream e)) (records_numbers (map numbered_stream more))));
        count = ap suc stand.count;
        each = (opened, stand.each);
      }

  pub records_stand : {T : Type 0} (n k place : ℕ) (g : Grid T) (c : ℕ) → (records_from S plan g k place n).answer ≡ Ok c
      → Stand plan place n (records_from S plan g k place n).opened
  unfolding records_from
  records_stand zero k place g c is = record { bytes = drop_all place plan (ended plan k place c is); count = refl; each = tt }
  records_stand (suc n) k place g c is =
      let read = read_on k (record_at plan place) _ c is in
      let e = read.0 in
      let on = opened_on k e (open_refusal S g e.stream e.request e.hops) _ c read.2 in
      let rest = records_stand n (k + 1) e.next (opening S g e.stream e.request e.hops).grid c on.1 in
      rw (read.1, on.0) (one_stands place n e _ read.1 (can_open S small g e on.0) (rw on.0 at rest))

judged_on : (g h : HeadNumbers) (j : Result (Unit {0}) HeadFault) → if_judged g j ≡ Ok h → (g ≡ h) × (j ≡ Ok tt)
judged_on g h (Ok a) is = (cc, refl)
judged_on g h (Err f) is = cc

accepted : (sizes : GridSizes) (r : Result HeadNumbers ByteFault) (h : HeadNumbers) → if_read sizes r ≡ Ok h
    → (r ≡ Ok h) × (judged (values_of h) h.count.value sizes ≡ Ok tt)
accepted sizes (Ok g) h is =
    let on = judged_on g h (judged (values_of g) g.count.value sizes) is in
    (ap Ok on.0, subst (λ x. judged (values_of x) x.count.value sizes ≡ Ok tt) on.0 on.1)
accepted sizes (Err f) h is = cc

headed : {T : Type 0} (S : Setting) (plan : List ℕ) (g : Grid T) (r : Result HeadNumbers LoadFault) (c : ℕ) → (behind_head S plan g r).answer ≡ Ok c
    → (h : HeadNumbers) × (r ≡ Ok h) × ((records_from S plan g 0 h.count.next h.count.value).answer ≡ Ok c)
headed S plan g (Ok h) c is = (h, refl, is)
headed S plan g (Err f) c is = cc

-- A plan that loads to its end: its head is accepted, and behind it stand the records that are opened.
pub record Loaded (sizes : GridSizes) (plan : List ℕ) (opened : List Entry) : Type 0 where
  pub head : HeadNumbers
  pub is : head_at plan ≡ Ok head
  pub judged : judged (values_of head) head.count.value sizes ≡ Ok tt
  pub bytes : plan ≡ numbers_bytes (head_numbers (values_of head) head.count.value ++ records_numbers (map numbered_stream opened))
  pub count : length opened ≡ head.count.value
  pub each : All Opened opened

pub loaded : (kind : Kind) (t : Tables) → LetsInSmall (setting kind t 0).judge → (plan : List ℕ) → Bytes plan → (c : ℕ)
    → (loading_on kind t plan).answer ≡ Ok c → Loaded (sizes_of t) plan (loading_on kind t plan).opened
unfolding head_numbers
loaded kind t small plan all c is =
    let head = headed (setting kind t 0) plan (outline t) (accepted_head (sizes_of t) plan) c is in
    let h = head.0 in
    let accepted = accepted (sizes_of t) (head_at plan) h head.1 in
    let stand = records_stand (setting kind t 0) small plan all h.count.value 0 h.count.next (outline t) c head.2 in
    let front = head_stands plan h all accepted.0 in
    rw head.1
    (record {
      head = h;
      is = accepted.0;
      judged = accepted.1;
      bytes =
          front.bytes
          ∙ (ap (λ rest. numbers_bytes (head_numbers (values_of h) h.count.value) ++ rest) stand.bytes
          ∙ sym (flat_map-append number_bytes (head_numbers (values_of h) h.count.value) (records_numbers (map numbered_stream _))));
      count = stand.count;
      each = stand.each;
    })

-- numbers of the table
all_below : (es : List Entry) → All Opened es → AllBelow stream_count es
all_below [] each = tt
all_below (e ∷ more) each = (each.0.number, all_below more each.1)

fits : (size : ℕ) (bytes : List ℕ) → length bytes ≤ size → fitted size bytes ≡ Ok bytes
fits size bytes room = let test : nat_lt size (length bytes) ≡ false = grind (arith, nat_tests) in rw test refl

pub written_back : (kind : Kind) (t t' : Tables) → LetsInSmall (setting kind t 0).judge → (plan : List ℕ) → Bytes plan → (c : ℕ)
    → Loads kind t plan (Ok c) t' → WrittenBack kind t plan t'
written_back kind t t' small plan all c loads none rise =
    let opened = (loading_on kind t plan).opened in
    let whole = loaded kind t small plan all c (sym loads.0) in
    let h = whole.head in
    let listed : open_streams (streams_in t') ≡ map numbered_stream opened =
    ap open_streams (streams_opened kind opened t t' loads.1) ∙ open_as_told opened (streams_in t) rise (all_below opened whole.each) none in
    let count : length (open_streams (streams_in t')) ≡ h.count.value = ap length listed ∙ (length-map opened numbered_stream ∙ whole.count) in
    let judged : judged (values_of h) (length (open_streams (streams_in t'))) (sizes_of t') ≡ Ok tt =
    let stays = rest_stays kind opened t t' loads.1 in
    rw (count, stays.0, stays.1) whole.judged in
    let bytes : plan_bytes (values_of h) (streams_in t') ≡ plan = rw (count, listed) (sym whole.bytes) in
    (h, whole.is, λ size room. rw (judged, bytes) (fits size plan room))
