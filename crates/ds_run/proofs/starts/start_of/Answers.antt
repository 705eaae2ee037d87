use Rattle.std.proofs.Common.{arith}
use Rattle.ds_cover.specs.Cover.{value_at}
use Rattle.ds_settle.proofs.ByIndex.{map_by_index}
use Rattle.ds_run.proofs.starts.start_of.Goals as goal

pub returns : goal.returns
returns c = record {
  ok = map_by_index (value_at c.args.initial.now) c.args.registers.now c.loop-i.row
      c.loop-i.invariant.same (λ k d inside. c.loop-i.invariant.front k d (omega arith));
}
