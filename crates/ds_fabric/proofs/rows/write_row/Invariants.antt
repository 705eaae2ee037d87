use Rattle.std.proofs.Common.{◌≡◌}
use Rattle.ds_fabric.proofs.rows.write_row.Given as goal

abbrev pub invariant-loop-i : goal.invariant-loop-i
invariant-loop-i g l = record {
  table : l.seat.table_id ≡ l.fn.seat.table_id;
  id : l.seat.id ≡ l.fn.seat.id;
  me : l.seat.me ≡ (record l.fn.seat.me.0 { written = l.i }, l.fn.seat.me.1);
}
