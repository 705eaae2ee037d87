use Rattle.std.proofs.Common.{◌≡◌, ◌≤◌, vec_capacity}
use Rattle.ds_rule.specs.Rows.{supply_but}
use Rattle.ds_fabric.proofs.rows.read_rows.Given as goal

abbrev pub invariant-loop-i : goal.invariant-loop-i
invariant-loop-i g l = record {
  table : l.seat.table_id ≡ l.fn.seat.table_id;
  id : l.seat.id ≡ l.fn.seat.id;
  me : l.seat.me ≡ l.fn.seat.me;
  items : l.into.items ≡ supply_but l.fn.context.run.now
      (λ p. g.C.Compute.has_learnt l.fn.context.openings.now l.fn.learnt.scratch.now p l.fn.learnt.turn) l.fn.node
      l.fn.learnt.turn l.i;
  room : vec_capacity l.into ≡ vec_capacity l.fn.into;
  from : l.initial.i ≤ l.i;
}
