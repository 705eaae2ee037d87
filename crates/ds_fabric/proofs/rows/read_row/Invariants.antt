use Rattle.std.proofs.Common.{◌≡◌, ◌++◌, ◌∷◌, ◌-◌, vec_capacity}
use Rattle.ds_rule.specs.Words.{value}
use Rattle.ds_rule.specs.Plays.{listed}
use Rattle.ds_fabric.proofs.rows.read_row.Given as goal

abbrev pub invariant-loop-i : goal.invariant-loop-i
invariant-loop-i g l = record {
  table : l.seat.table_id ≡ l.fn.seat.table_id;
  id : l.seat.id ≡ l.fn.seat.id;
  me : l.seat.me ≡ l.fn.seat.me;
  items : l.into.items ≡ l.fn.into.items ++ l.fn.edge.producer ∷ listed
      (value l.fn.context.run.now l.fn.edge.producer (l.fn.turn - l.fn.edge.tokens)) l.i;
  room : vec_capacity l.into ≡ vec_capacity l.fn.into;
}
