use Rattle.std.proofs.Common.{◌≡◌, ◌≢◌, ◌/◌, ◌%◌}
use Rattle.ds_slices.specs.Bytes.{AreTurnBytes}
use Rattle.ds_slices.specs.Ready.{AreReady}
use Rattle.ds_clocked.specs.Words.{PutsTurns}
use Rattle.ds_clocked.proofs.words.put_lines.Given as goal

abbrev pub invariant-loop-turn : goal.invariant-loop-turn
invariant-loop-turn g l = record {
  ready : AreReady l.netlist l.slices;
  same : l.slices.words ≡ l.initial.slices.words;
  made : l.turn % 8 ≢ 0 → AreTurnBytes l.netlist l.slices (l.turn / 8);
  lines : PutsTurns (g.P.Pen.writing l.initial.pen) (g.P.Pen.writing l.pen) l.netlist l.first l.turn l.initial.slices.words.items;
}
