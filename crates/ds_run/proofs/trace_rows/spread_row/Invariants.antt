use Rattle.std.proofs.Common.{◌≡◌, ◌+◌, ◌*◌, length, take, drop}
use Rattle.ds_base.specs.Values.{Row}
use Rattle.ds_cover.specs.Cover.{values_at}
use Rattle.ds_opening.specs.Packed.{Learns}
use Rattle.ds_rule.specs.Words.{node_values as stored_at}
use Rattle.ds_run.proofs.trace_rows.spread_row.Given as goal

abbrev pub invariant-loop-i : goal.invariant-loop-i
invariant-loop-i l = record {
  rest : l.rest ≡ drop (32 * l.i) l.members;
  same : length l.registers ≡ length l.initial.registers;
  learns : (row : Row)
      → values_at row l.members ≡ stored_at l.recorded.shown.view.run l.slave (l.k + 1)
      → Learns row (take (32 * l.i) l.members) l.initial.registers l.registers;
}
