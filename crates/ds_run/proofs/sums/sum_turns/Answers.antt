use Rattle.std.proofs.Common.{◌≡◌, ◌∙◌, ◌<◌, ◌+◌, ◌^◌, ℕ, List, length, refl, ap, sym, subst, arith}
use Rattle.ds_base.specs.Values.{Row}
use Rattle.ds_latch.specs.Node.{Split}
use Rattle.ds_latch.specs.Plan.{Planned}
use Rattle.ds_fabric.specs.Showing.{Recorder}
use Rattle.ds_run.specs.RunOfPlan.{AreValues}
use Rattle.ds_run.specs.TraceRows.{HasLine}
use Rattle.ds_run.specs.Summed.{ones_in, ones_of}
use Rattle.ds_run.proofs.NodeRecords.{has_slaves, out_stored, out_wide}
use Rattle.ds_run.proofs.FinishedTurns.{gathered_is, line_read, outputs_long, outputs_read}
use Rattle.ds_run.proofs.Summed.{all_folded, none_folded, ones_more, outputs_few, turn_folded}
use Rattle.ds_run.proofs.sums.sum_turns.Goals as goal

pub loop-k-init : goal.loop-k-init
loop-k-init c = record {
  line = c.requires.line;
  registers = λ vectors is values. c.requires.registers ∙ sym values.clocked.starts;
  ones = λ vectors is values. refl;
  few = omega arith;
  folded = λ vectors is. none_folded c.args.stored.now.plan.now.split vectors c.args.line.now.registers
      c.args.fold.now c.requires.registers c.requires.fold;
}

pub row-requires-clause-stored : goal.row-requires-clause-stored
row-requires-clause-stored c =
    let (vectors, (finished_run, many)) = c.requires.stored in
    let below : c.loop-k.k < length vectors = omega (arith, many) in
    let stored = out_stored c.args.stored.now.plan.now vectors c.args.stored.now.recorded.now finished_run c.loop-k.k below in
    rw c.latch.ensures stored

pub row-requires-clause-length : goal.row-requires-clause-length
row-requires-clause-length c =
    let (vectors, (finished_run, many)) = c.requires.stored in
    let wide = out_wide c.args.stored.now.plan.now vectors c.args.stored.now.recorded.now finished_run in
    rw c.latch.ensures (c.loop-k.invariant.line.outputs ∙ sym wide)

pub overflow_add-ones : goal.overflow_add-ones
overflow_add-ones c =
    let (vectors, (finished_run, many)) = c.requires.stored in
    let long : length c.row.new.into ≡ length c.args.stored.now.plan.now.split.circuit.outputs =
    outputs_long c.args.stored.now.plan.now vectors c.args.stored.now.recorded.now finished_run
    c.loop-k.k (omega (arith, many)) c.latch.result c.row.new.into c.latch.ensures c.row.ensures in
    let few : length c.args.stored.now.plan.now.split.circuit.outputs < 2 ^ 32 =
    outputs_few c.args.stored.now.plan.now vectors c.args.stored.now.recorded.now finished_run in
    omega arith

pub copy_stored-requires-clause-rows : goal.copy_stored-requires-clause-rows
copy_stored-requires-clause-rows c =
    let (vectors, (finished_run, many)) = c.requires.stored in
    let slaves = has_slaves c.args.stored.now.plan.now vectors c.args.stored.now.recorded.now finished_run (c.loop-k.k + 1)
    (omega (arith, many)) in
    rw c.latches.ensures slaves

pub copy_stored-requires-clause-line : goal.copy_stored-requires-clause-line
copy_stored-requires-clause-line c =
    let (vectors, (finished_run, many)) = c.requires.stored in
    line_read c.args.stored.now.plan.now vectors c.args.stored.now.recorded.now finished_run c.loop-k.k
    (omega (arith, many)) c.latches.result.now c.loop-k.line c.latch.result c.row.new.into c.latches.ensures
    c.loop-k.invariant.line c.latch.ensures c.row.ensures

pub loop-k-preserved : goal.loop-k-preserved
loop-k-preserved c =
    let p : Planned = c.args.stored.now.plan.now in
    let r : Recorder = c.args.stored.now.recorded.now in
    let k : ℕ = c.loop-k.k in
    let t : Split = c.latches.result.now in
    let (some, (done, all)) = c.requires.stored in
    let long : length c.row.new.into ≡ length c.args.stored.now.plan.now.split.circuit.outputs =
    outputs_long p some r done k (omega (arith, all)) c.latch.result c.row.new.into c.latch.ensures c.row.ensures in
    let few : length c.args.stored.now.plan.now.split.circuit.outputs < 2 ^ 32 = outputs_few p some r done in
    let below : (vectors : List Row) → length vectors ≡ c.args.stored.now.turns → c.loop-k.k < length vectors =
    (λ vectors many. omega (arith, many)) in
    record {
      line = subst (λ (q : Split). HasLine q c.copy_stored.new.line) c.latches.ensures
          c.copy_stored.ensures.line;
      registers = λ vectors (finished_run, many). gathered_is p vectors r finished_run k (below vectors many) t c.copy_stored.new.line.registers
          c.latches.ensures c.copy_stored.ensures.gathered;
      ones = λ vectors (finished_run, many) values.
          ap (λ (n : ℕ). n + c.count_ones-ones.result) (c.loop-k.invariant.ones vectors (finished_run, many) values)
          ∙ (ap (λ (n : ℕ). ones_in p.split.circuit values.nets k + n)
          (c.count_ones-ones.ensures.value ∙ ap ones_of (outputs_read p vectors r finished_run
          k (below vectors many) values c.latch.result c.row.new.into c.latch.ensures c.row.ensures))
          ∙ sym (ones_more p.split.circuit values.nets k));
      few = omega arith;
      folded = λ vectors (finished_run, many). turn_folded p vectors r finished_run k (below vectors many) t c.latch.result c.row.new.into
          c.loop-k.line.registers c.copy_stored.new.line.registers c.loop-k.fold c.add_line.new.fold
          c.latch.ensures c.row.ensures (c.loop-k.invariant.registers vectors (finished_run, many)) c.latches.ensures
          c.copy_stored.ensures.gathered (c.loop-k.invariant.folded vectors (finished_run, many))
          c.in_ok-add_line.ensures;
    }

pub returns : goal.returns
returns c = λ vectors (finished_run, many).
    let values : AreValues c.args.stored.now.plan.now.split vectors c.args.stored.now.recorded.now.shown.view.run =
    finished_run.planned.values_are in
    all_folded c.args.stored.now.plan.now vectors c.loop-k.k c.loop-k.ones
    c.loop-k.line.registers c.loop-k.fold values.state values.nets (omega (arith, many)) values.clocked
    (c.loop-k.invariant.ones vectors (finished_run, many) values) (c.loop-k.invariant.folded vectors (finished_run, many))
