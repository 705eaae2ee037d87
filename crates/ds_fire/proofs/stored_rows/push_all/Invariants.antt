use Rattle.std.proofs.Common.{◌≡◌, ◌≤◌, ◌++◌, take, vec_capacity}
use Rattle.ds_fire.proofs.stored_rows.push_all.Given as goal

abbrev pub invariant-loop-i : goal.invariant-loop-i
invariant-loop-i l = record {
  items : l.values.items ≡ l.initial.values.items ++ take l.i l.row;
  room : vec_capacity l.initial.values ≤ vec_capacity l.values;
}
