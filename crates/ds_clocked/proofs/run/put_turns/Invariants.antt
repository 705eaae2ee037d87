use Rattle.std.proofs.Common.{◌≡◌, length}
use Rattle.ds_outside.specs.Pen.{Puts}
use Rattle.ds_clocked.specs.Loop.{IsWrittenTo}
use Rattle.ds_clocked.proofs.run.put_turns.Given as goal

abbrev pub invariant-loop-k : goal.invariant-loop-k
invariant-loop-k g l = record {
  states : length l.rows.state ≡ length l.netlist.registers;
  nets : length l.rows.nets ≡ length l.netlist.nets;
  outputs : length l.rows.outputs ≡ length l.netlist.outputs;
  done : IsWrittenTo l.netlist l.first l.initial.rows.state l.vectors.rows l.k l.rows.state (Puts (g.P.Pen.writing l.initial.pen) (g.P.Pen.writing l.pen));
}
