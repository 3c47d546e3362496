use Rattle.std.proofs.Common.{◌≡◌, true, sym, ap}
use Rattle.std.specs.Option.{option_map}
use Rattle.lanes.specs.Sizes.{holds}
use Rattle.lanes.proofs.Items.{none_past}
use Rattle.lanes.proofs.tables.Lanes.stream_at.Goals as goal

pub returns-then-behind-index : goal.returns-then-behind-index
returns-then-behind-index c =
    let on : holds c.args.self.now.size c.args.hop ≡ true = cc in
    let none = none_past c.args.self.now c.lane-k.result c.lane-k.ensures.within c.index.result.now c.index.ensures c.args.behind c.if-behind-index.true in
    rw (on, sym c.lane-k.ensures.value) (sym (ap (option_map (λ i. i.0)) none))

pub returns : goal.returns
returns c =
    let on : holds c.args.self.now.size c.args.hop ≡ true = cc in
    rw (on, sym c.lane-k.ensures.value) (sym (ap (option_map (λ i. i.0)) c.stream_in.ensures))
