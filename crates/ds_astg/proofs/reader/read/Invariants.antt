use Rattle.std.proofs.Common.{◌≡◌, drop}
use Rattle.ds_astg.specs.Read.{graph_of_lines as graph_in, graph_from}
use Rattle.ds_astg.specs.Sound.{IsStateSound}
use Rattle.ds_astg.proofs.reader.read.Given as goal

abbrev pub invariant-loop-i : goal.invariant-loop-i
invariant-loop-i l = record {
  so_far : graph_in l.lines ≡ graph_from (drop l.i l.lines) l.state;
  sound : IsStateSound l.state;
}
