use Rattle.std.proofs.Common.{◌-◌, ◌≤◌, length, take}
use Rattle.ds_clocked.specs.Appends.{PutsLines}
use Rattle.ds_clocked.specs.Words.{IsKnownWindow}
use Rattle.ds_clocked.proofs.words.put_words.Given as goal

abbrev pub invariant-writing : goal.invariant-writing
invariant-writing g l = record {
  within : l.from ≤ length l.vectors.rows;
  begun : IsKnownWindow l.netlist l.words.state l.vectors.rows l.words;
  written : PutsLines (g.P.Pen.writing l.initial.pen) (g.P.Pen.writing l.pen) l.netlist l.first l.initial.words.state (take l.from l.vectors.rows) l.words.state;
}

abbrev pub decreases-writing : goal.decreases-writing
decreases-writing g l = length l.vectors.rows - l.from
