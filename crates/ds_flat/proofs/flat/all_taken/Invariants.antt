use Rattle.std.proofs.Common.{◌≡◌}
use Rattle.ds_flat.specs.Run.{run_rest, IsRestKept}
use Rattle.ds_flat.specs.Turn.{most_turns}
use Rattle.ds_flat.proofs.flat.all_taken.Given as goal

abbrev pub invariant-turns : goal.invariant-turns
invariant-turns l = record {
  kept : IsRestKept l.library l.state;
  so_far : run_rest l.library l.state ≡ run_rest l.library l.initial.state;
}

abbrev pub decreases-turns : goal.decreases-turns
decreases-turns l = most_turns l.library l.state
