use Rattle.std.proofs.Common.{◌≡◌, ◌∙◌, ◌<◌, ◌+◌, ℕ, List, [], length, get_or, ap, arith, sym, subst}
use Rattle.std.proofs.lemmas.List.{get_or_default}
use Rattle.ds_base.specs.Lent.{with_values}
use Rattle.ds_base.specs.Values.{Row}
use Rattle.ds_cover.specs.Cover.{values_at}
use Rattle.ds_cover.proofs.LentRows.{with-all}
use Rattle.ds_latch.specs.Node.{Split, members, number_of}
use Rattle.ds_latch.specs.declared.node.Node.TheVariants.{Slave}
use Rattle.ds_opening.specs.Packed.{Learns}
use Rattle.ds_rule.specs.Run.{Run}
use Rattle.ds_rule.specs.Words.{node_values as stored_at}
use Rattle.ds_run.proofs.GatheredRegisters.{gathered_all, one_cluster}
use Rattle.ds_run.proofs.trace_rows.copy_stored.Goals as goal

pub spread_row-requires-clause-stored : goal.spread_row-requires-clause-stored
spread_row-requires-clause-stored c =
    let low : c.loop-i.i < length c.args.latches.now.clusters =
    omega (arith, ap length c.clusters-clusters.ensures.clusters) in
    let stored = c.requires.rows.stored c.loop-i.i low c.args.k (omega arith) in
    rw c.latch-slave.ensures stored

pub loop-i-preserved : goal.loop-i-preserved
loop-i-preserved c =
    let s : Split = c.args.latches.now in
    let run : Run = c.args.recorded.now.shown.view.run in
    let i : ℕ = c.loop-i.i in let k : ℕ = c.args.k in
    let these : List ℕ = c.as_slice.result.now in
    let old : Row = c.loop-i.line.registers in let new : Row = c.spread_row.new.registers in
    let values : Row = stored_at run c.latch-slave.result (k + 1) in
    let low : i < length s.clusters =
    omega (arith, ap length c.clusters-clusters.ensures.clusters) in
    let are : these ≡ members s i =
    c.as_slice.ensures
    ∙ (c.index-clusters-i.is
    ∙ (ap (λ (cs : List (List ℕ)). get_or cs i c.index-clusters-i.result)
    c.clusters-clusters.ensures.clusters
    ∙ get_or_default s.clusters i c.index-clusters-i.result [] low)) in
    let stored : values ≡ stored_at run (number_of (Slave i)) (k + 1) =
    ap (λ (n : ℕ). stored_at run n (k + 1)) c.latch-slave.ensures in
    let base : c.values_mut.result.now ≡ old = c.values_mut.ensures.value in
    let long : length new ≡ length old =
    c.spread_row.ensures.same ∙ ap (λ (r : Row). length r) base in
    let all : with_values old new ≡ new = with-all old new long in
    let learns : (row : Row) → values_at row these ≡ values
    → Learns row these old (with_values old new) = (λ row shown.
    subst (λ (r : Row). Learns row these old r) (sym all)
    (subst (λ (r : Row). Learns row these r new) base
    (c.spread_row.ensures.value row shown))) in
    record {
      line = record {
        outputs = c.loop-i.invariant.line.outputs;
        registers = ap (λ (r : Row). length r) all ∙ (long ∙ c.loop-i.invariant.line.registers);
      };
      outputs = c.loop-i.invariant.outputs;
      right = λ other shows.
          one_cluster s run k i low these are values stored old (with_values old new) learns other
          shows (c.loop-i.invariant.right other shows);
    }

pub returns-clause-gathered : goal.returns-clause-gathered
returns-clause-gathered c =
    let long : length c.loop-i.line.registers ≡ length c.args.latches.now.circuit.registers =
    c.loop-i.invariant.line.registers in
    let all : length c.clusters-clusters.result.now ≡ length c.args.latches.now.clusters =
    ap length c.clusters-clusters.ensures.clusters in
    λ other shows.
    gathered_all c.args.latches.now c.clusters-clusters.ensures.split c.loop-i.line.registers other
    long
    shows.0 (λ i inside. c.loop-i.invariant.right other shows i (omega arith))
