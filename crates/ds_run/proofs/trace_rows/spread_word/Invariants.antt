use Rattle.std.proofs.Common.{◌≡◌, length, take, drop}
use Rattle.ds_base.specs.Values.{Row}
use Rattle.ds_base.specs.Word.{number_of_values}
use Rattle.ds_cover.specs.Cover.{values_at}
use Rattle.ds_opening.specs.Packed.{Learns}
use Rattle.ds_run.proofs.trace_rows.spread_word.Given as goal

abbrev pub invariant-loop-register : goal.invariant-loop-register
invariant-loop-register l = record {
  same : length l.registers ≡ length l.initial.registers;
  learns : (row : Row) → l.word ≡ number_of_values (values_at row l.members)
      → (l.rest ≡ number_of_values (drop l.register-index (values_at row l.members)))
      × Learns row (take l.register-index l.members) l.initial.registers l.registers;
}
