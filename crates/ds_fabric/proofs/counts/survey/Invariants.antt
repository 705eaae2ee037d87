use Rattle.std.proofs.Common.{◌≡◌, ◌≤◌, ◌+◌, slice_index}
use Rattle.ds_fabric.specs.Looks.{LooksOn}
use Rattle.ds_fabric.proofs.IncomingArcs.{EnoughIn}
use Rattle.ds_fabric.proofs.counts.survey.Given as goal

abbrev pub invariant-loop-i : goal.invariant-loop-i
invariant-loop-i g l = record {
  table : l.seat.table_id ≡ l.initial.seat.table_id;
  slots : l.seat.me.1 ≡ l.initial.seat.me.1;
  looks : LooksOn l.initial.seat.me.0 l.seat.me.0;
  enough : EnoughIn l.context.run.now l.seat.me.0 l.turn l.context.incoming.now.numbers.items
      (slice_index l.context.incoming.now.starts.items l.event) l.i;
  from : slice_index l.context.incoming.now.starts.items l.event ≤ l.i;
  end : l.i-end ≡ slice_index l.context.incoming.now.starts.items (l.event + 1);
}
