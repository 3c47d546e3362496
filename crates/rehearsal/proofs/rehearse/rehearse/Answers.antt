use Rattle.std.proofs.Common.{◌≡◌, ◌≤◌, length, nat_lt, rules, arith, refl, ap, ◌∙◌}
use Rattle.std.proofs.lemmas.Bool.{or_parts}
use Rattle.std.proofs.lemmas.Bool.Decides.{nat_tests}
use Rattle.lanes.specs.Sizes.{lane_count}
use Rattle.lanes.specs.declared.strip.Strip.{Strip}
use Rattle.model.specs.Runs.{start}
use Rattle.grid.specs.InTurn.{no_call}
use Rattle.grid.specs.Sweeps.{Workspace, workspace}
use Rattle.grid.proofs.Stands.{Lends}
use Rattle.rehearsal.proofs.Beginning.{items_decline, ready, none_declines}
use Rattle.rehearsal.proofs.Completing.{not_endless}
use Rattle.rehearsal.proofs.Going.{turn_went}
use Rattle.rehearsal.proofs.Turning.{lent_still, sent_further, swept_further, rests_swept, rehearsed}
use Rattle.rehearsal.proofs.rehearse.rehearse.Given.{Over}
use Rattle.rehearsal.proofs.rehearse.rehearse.Goals as goal
use Rattle.rehearsal.proofs.rehearse.rehearse.Goals.{After-items}

-- enough is lent, in the words of the code
module _ (g : Over) (c : After-items g) where
  abbrev before : Workspace Strip
  before = workspace c.args.grid.now c.args.slots.now c.args.streams.now c.args.items.now

  lends : Lends before.tables before.slots
  lends = rw (c.slots.ensures, c.size-size.ensures) at c.if-slots.false

  lanes : c.lane_count-lanes.result ≡ lane_count before.tables.lanes.size
  lanes = c.lane_count-lanes.ensures.value ∙ ap lane_count c.size-size.ensures

  streams : lane_count before.tables.lanes.size ≤ length before.streams
  streams = rw lanes at c.if-streams-lanes.false

  items : lane_count before.tables.lanes.size ≤ length before.items
  items = rw lanes at c.if-items-lanes.false

pub returns-then-items-ne0-clause-made : goal.returns-then-items-ne0-clause-made
returns-then-items-ne0-clause-made g c =
    let lent = (goal.at.returns-then-items-ne0-clause-made g c).After-items in
    (items_decline (before g lent) c.args.grid.now.fits (lends g lent) (streams g lent) (items g lent) (λ none. c.if-items-ne0.true (c.items.ensures ∙ none)), refl)

pub loop-turn-init : goal.loop-turn-init
loop-turn-init g c =
    let lent = (goal.at.loop-turn-init g c).After-items in
    let grid = c.args.grid.now in
    let t = grid.tables in
    record {
      ways = refl;
      so_far = record {
        ready =
            ready (before g lent) grid.fits (lends g lent) (streams g lent) (items g lent)
            (g.met.P.Policy.safe grid.layout t.lanes.size.lanes t.lanes.size.depth t.capacity (length c.args.slots.now))
            (g.met.P.Policy.reopens grid.layout t.lanes.size.lanes t.capacity) grid.reached grid.standing (omega arith);
        stands = record {
          stands = record {
            acts = start;
            kind = refl;
            in_turn = no_call;
            reports = record {
              are_acts = tt;
              few = λ n. omega arith;
              counts = record { steps = refl; items = refl; tallies = rw c.streams.ensures at c.tallies.ensures };
            };
          };
          many = omega arith;
        };
        ahead = search rules;
        behind = record { streams = refl; items = refl };
      };
    }

pub sweep-requires : goal.sweep-requires
sweep-requires g c =
    let sent = sent_further c.loop-turn.invariant.so_far c.send_all-went.ensures.on refl refl in
    lent_still sent c.loop-turn.auto.streams c.loop-turn.auto.items

pub loop-turn-preserved : goal.loop-turn-preserved
loop-turn-preserved g c =
    let sent = sent_further c.loop-turn.invariant.so_far c.send_all-went.ensures.on refl refl in
    record {
      ways = c.sweep.ensures.ways ∙ c.send_all-went.ensures.ways ∙ c.loop-turn.invariant.ways;
      so_far =
          swept_further sent c.sweep.ensures.swept c.sweep.ensures.counted
          (turn_went c.send_all-went.result c.sweep.result.steps c.loop-turn.turn c.if-not-went.false);
    }

pub returns-after-loop-turn-clause-made : goal.returns-after-loop-turn-clause-made
returns-after-loop-turn-clause-made g c =
    let so_far = c.loop-turn.invariant.so_far in
    absurd (not_endless so_far.stands.stands so_far.ready (omega arith) (omega (arith, so_far.stands.many)))

pub returns-then-not-went-clause-made : goal.returns-then-not-went-clause-made
returns-then-not-went-clause-made g c =
    let sent = sent_further c.loop-turn.invariant.so_far c.send_all-went.ensures.on refl refl in
    let sweep = c.sweep.ensures in
    let none = or_parts c.send_all-went.result (nat_lt 0 c.sweep.result.steps) c.if-not-went.true in
    let all = swept_further sent sweep.swept sweep.counted {total = 0} (omega arith) in
    (none_declines _ all.ready, rehearsed all (omega arith) (rests_swept sent sweep.swept sweep.counted (grind (arith, nat_tests)) (c.send_all-went.ensures.declined none.0)))
