use Rattle.std.proofs.Common.{◌≡◌, ℕ, get_or, sym, subst, refl}
use Rattle.ds_latch.specs.Node.{Split, IsNode, closing}
use Rattle.ds_latch.specs.declared.node.Node.{Node}
use Rattle.ds_fire.specs.Fired.{IsFired, IsReady}
use Rattle.ds_fire.specs.Inside.{IsRunning, snapshot_seen}
use Rattle.ds_fire.specs.Snapshot.{Snapshot}
use Rattle.ds_fire.specs.Turn.{HasRowRoom, IsTurned}
use Rattle.ds_fire.proofs.Turning.{counted, design_there, feeds_there, few_firings, in_reach, may_count, nets_there, room_more, rows_there, stepped, stored_there, width_there}
use Rattle.ds_fire.proofs.state.State.step.Goals as goal

pub turn-requires-clause-room : goal.turn-requires-clause-room
turn-requires-clause-room c =
    let planned = c.self.inside.plan.now in
    let old : Snapshot = snapshot_seen c.self.inside.plan.now c.self.inside.vectors.now c.self.inside.counts c.self.inside.kept in
    let may : IsReady (snapshot_seen c.self.inside.plan.now c.self.inside.vectors.now c.self.inside.counts c.self.inside.kept) c.args.event = subst (λ (k : Snapshot). IsReady k c.args.event) (sym c.self.view_is) c.requires in
    subst (λ (s : Split). (n : Node) → IsNode s n → closing n ≡ c.args.event → HasRowRoom s n c.self.inside.kept.stored.items) (sym c.latches.ensures)
    (λ n is_node e. room_more old c.self.inside.kept c.self.invariant.sound refl c.self.invariant.room n is_node (subst (IsReady old) (sym e) may))

module _ (c : goal.After-add_one) where
  abbrev Both : Type 0
  Both = IsFired (snapshot_seen c.self.inside.plan.now c.self.inside.vectors.now c.self.inside.counts c.self.inside.kept) c.args.event (snapshot_seen c.self.inside.plan.now c.self.inside.vectors.now c.add_one.new.self c.turn.new.kept)
      × IsRunning (snapshot_seen c.self.inside.plan.now c.self.inside.vectors.now c.add_one.new.self c.turn.new.kept) c.self.inside.vectors.now c.turn.new.kept c.self.inside.feeds

  both : Both
  both =
      let may : IsReady (snapshot_seen c.self.inside.plan.now c.self.inside.vectors.now c.self.inside.counts c.self.inside.kept) c.args.event = subst (λ (k : Snapshot). IsReady k c.args.event) (sym c.self.view_is) c.requires in
      let turned : IsTurned c.self.inside.plan.now.split c.self.inside.vectors.now.rows c.args.event (get_or c.self.inside.counts c.args.event 0) c.self.inside.kept c.turn.new.kept =
      subst (λ (s : Split). IsTurned s c.self.inside.vectors.now.rows c.args.event (get_or c.self.inside.counts c.args.event 0) c.self.inside.kept c.turn.new.kept) c.latches.ensures
      (subst (λ (n : ℕ). IsTurned c.latches.result.now c.self.inside.vectors.now.rows c.args.event n c.self.inside.kept c.turn.new.kept) c.at-count.ensures c.turn.ensures) in
      stepped c.self.inside.plan.now c.self.inside.vectors.now c.self.inside.counts c.add_one.new.self c.self.inside.kept c.turn.new.kept c.self.inside.feeds c.args.event
      c.self.invariant may c.add_one.ensures turned

pub invariant_of-self : goal.invariant_of-self
invariant_of-self c = (both c).1

pub returns : goal.returns
returns c = subst (λ (k : Snapshot). IsFired k c.args.event (snapshot_seen c.self.inside.plan.now c.self.inside.vectors.now c.add_one.new.self c.turn.new.kept)) c.self.view_is (both c).0

pub at-count-requires : goal.at-count-requires
at-count-requires c =
    let may : IsReady (snapshot_seen c.self.inside.plan.now c.self.inside.vectors.now c.self.inside.counts c.self.inside.kept) c.args.event = subst (λ (k : Snapshot). IsReady k c.args.event) (sym c.self.view_is) c.requires in
    counted c.self.inside.plan.now c.self.inside.vectors.now c.self.inside.counts c.self.inside.kept c.self.inside.feeds c.self.invariant c.self.inside.plan.now.split refl c.args.event 0 may

pub turn-requires-clause-vector : goal.turn-requires-clause-vector
turn-requires-clause-vector c =
    let may : IsReady (snapshot_seen c.self.inside.plan.now c.self.inside.vectors.now c.self.inside.counts c.self.inside.kept) c.args.event = subst (λ (k : Snapshot). IsReady k c.args.event) (sym c.self.view_is) c.requires in
    in_reach c.self.inside.plan.now c.self.inside.vectors.now c.self.inside.counts c.self.inside.kept c.self.inside.feeds c.self.invariant c.self.inside.plan.now.split refl c.args.event c.at-count.result may c.at-count.ensures

pub turn-requires-clause-few : goal.turn-requires-clause-few
turn-requires-clause-few c =
    let may : IsReady (snapshot_seen c.self.inside.plan.now c.self.inside.vectors.now c.self.inside.counts c.self.inside.kept) c.args.event = subst (λ (k : Snapshot). IsReady k c.args.event) (sym c.self.view_is) c.requires in
    few_firings c.self.inside.plan.now c.self.inside.vectors.now c.self.inside.counts c.self.inside.kept c.self.inside.feeds c.self.invariant c.self.inside.plan.now.split refl c.args.event c.at-count.result may c.at-count.ensures

pub turn-requires-clause-design : goal.turn-requires-clause-design
turn-requires-clause-design c = design_there c.self.inside.plan.now c.self.inside.vectors.now c.self.inside.counts c.self.inside.kept c.self.inside.feeds c.self.invariant c.latches.result.now c.latches.ensures

pub turn-requires-clause-width : goal.turn-requires-clause-width
turn-requires-clause-width c = width_there c.self.inside.plan.now c.self.inside.vectors.now c.self.inside.counts c.self.inside.kept c.self.inside.feeds c.self.invariant c.latches.result.now c.latches.ensures

pub turn-requires-clause-feeds : goal.turn-requires-clause-feeds
turn-requires-clause-feeds c = feeds_there c.self.inside.plan.now c.self.inside.vectors.now c.self.inside.counts c.self.inside.kept c.self.inside.feeds c.self.invariant c.latches.result.now c.latches.ensures

pub turn-requires-clause-rows : goal.turn-requires-clause-rows
turn-requires-clause-rows c = rows_there c.self.inside.plan.now c.self.inside.vectors.now c.self.inside.counts c.self.inside.kept c.self.inside.feeds c.self.invariant c.latches.result.now c.latches.ensures

pub turn-requires-clause-nets : goal.turn-requires-clause-nets
turn-requires-clause-nets c = nets_there c.self.inside.plan.now c.self.inside.vectors.now c.self.inside.counts c.self.inside.kept c.self.inside.feeds c.self.invariant c.latches.result.now c.latches.ensures

pub turn-requires-clause-stored : goal.turn-requires-clause-stored
turn-requires-clause-stored c = stored_there c.self.inside.plan.now c.self.inside.vectors.now c.self.inside.counts c.self.inside.kept c.self.inside.feeds c.self.invariant c.latches.result.now c.latches.ensures

pub add_one-requires-clause-inside : goal.add_one-requires-clause-inside
add_one-requires-clause-inside c =
    let may : IsReady (snapshot_seen c.self.inside.plan.now c.self.inside.vectors.now c.self.inside.counts c.self.inside.kept) c.args.event = subst (λ (k : Snapshot). IsReady k c.args.event) (sym c.self.view_is) c.requires in
    counted c.self.inside.plan.now c.self.inside.vectors.now c.self.inside.counts c.self.inside.kept c.self.inside.feeds c.self.invariant c.self.inside.plan.now.split refl c.args.event 0 may

pub add_one-requires-clause-room : goal.add_one-requires-clause-room
add_one-requires-clause-room c =
    let may : IsReady (snapshot_seen c.self.inside.plan.now c.self.inside.vectors.now c.self.inside.counts c.self.inside.kept) c.args.event = subst (λ (k : Snapshot). IsReady k c.args.event) (sym c.self.view_is) c.requires in
    may_count c.self.inside.plan.now c.self.inside.vectors.now c.self.inside.counts c.self.inside.kept c.self.inside.feeds c.self.invariant c.self.inside.plan.now.split refl c.args.event 0 may
