use Rattle.std.proofs.Common.{◌≡◌, ◌≤◌, drop}
use Rattle.ds_astg.specs.Marking.{value_from}
use Rattle.ds_astg.proofs.tokens.value.Given as goal

abbrev pub invariant-loop-i : goal.invariant-loop-i
invariant-loop-i l = record {
  so_far : value_from 0 l.text ≡ value_from l.value (drop l.i l.text);
  none : l.i ≤ 0 → l.value ≤ 0;
  one : l.i ≤ 1 → l.value ≤ 207;
  two : l.i ≤ 2 → l.value ≤ 2277;
  three : l.value ≤ 22977;
}
