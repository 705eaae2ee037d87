use Rattle.std.proofs.Common.{◌∙◌, ap}
use Rattle.ds_flat.specs.Net.{Scope}
use Rattle.ds_flat.proofs.NetNumberLemmas.{names_from}
use Rattle.ds_flat.proofs.Connected.{actual_step, actual_stop, bindings_more, fresh_formal}
use Rattle.ds_flat.proofs.connect.connect.Goals as goal

pub connect_one-requires : goal.connect_one-requires
connect_one-requires c = fresh_formal c.args.caller.now c.args.pairs.now c.loop-pair.pair-index
    c.pair-item.result c.loop-pair.scope.bound c.requires c.loop-pair-test.true c.pair-item.is
    c.loop-pair.invariant.bound

pub loop-pair-preserved : goal.loop-pair-preserved
loop-pair-preserved c = record {
  copy = ap (λ (s : Scope). s.copy) c.in-Ok.ensures.scope ∙ c.loop-pair.invariant.copy;
  bound = ap (λ (s : Scope). s.bound) c.in-Ok.ensures.scope
      ∙ bindings_more c.args.caller.now c.args.pairs.now c.loop-pair.pair-index c.pair-item.result
      c.loop-pair.scope.bound c.loop-pair-test.true c.pair-item.is c.loop-pair.invariant.bound;
  nets = actual_step c.args.caller.now c.loop-pair.nets c.connect_one.new.nets _ c.pair-item.result
      _ _
      (names_from c.args.pairs.now c.loop-pair.pair-index c.pair-item.result c.pair-item.is
      c.loop-pair-test.true)
      c.loop-pair.invariant.nets c.in-Ok.ensures.ok;
}

pub returns-in-Err-clause-fault : goal.returns-in-Err-clause-fault
returns-in-Err-clause-fault c =
    actual_stop c.in-Err.stop c.args.caller.now c.loop-pair.nets _ c.pair-item.result _ _
    (names_from c.args.pairs.now c.loop-pair.pair-index c.pair-item.result c.pair-item.is
    c.loop-pair-test.true)
    c.loop-pair.invariant.nets c.in-Err.ensures.fault
