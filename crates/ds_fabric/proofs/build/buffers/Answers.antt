use Rattle.std.proofs.Common.{ℕ, List, arith, ap, get_or}
use mathlib.Core.Logic.{dite}
use native.Mathlib.Decide.{ℕ_discrete}
use Rattle.ds_rule.specs.Run.{Run}
use Rattle.ds_fabric.specs.HistoryList.{stride_of}
use Rattle.ds_fabric.proofs.build.buffers.Goals as goal

pub loop-node-init : goal.loop-node-init
loop-node-init g c k below = absurd (omega arith)

pub loop-node-preserved : goal.loop-node-preserved
loop-node-preserved g c k below = let n : ℕ = c.loop-node.node in
    let run : Run = c.args.run.now in let reads : List ℕ = c.args.reads.now in
    dite (ℕ_discrete k n)
    (λ e. (
      omega (arith, ap (λ (x : ℕ). get_or reads x 0) e, c.max-most.ensures),
      omega (arith, ap (stride_of run) e, c.stride_of.ensures, c.max-widest.ensures),
    ))
    (λ ne. let old = c.loop-node.invariant k (omega arith) in (
      omega (arith, old.0, c.max-most.ensures),
      omega (arith, old.1, c.max-widest.ensures),
    ))

pub returns : goal.returns
returns g c l near =
    let all = c.loop-node.invariant l (omega (
      arith,
      near,
      c.loop-node-test.false,
      c.loop-node.auto.node-end,
      c.nodes-node-end.ensures,
    )) in record {
      from = omega (arith, all.0, c.requires.reads.each l near, c.in_ok-from.ensures.capacity);
      told = omega (arith, all.1, c.in_ok-told.ensures.capacity);
    }
