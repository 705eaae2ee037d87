use Rattle.std.proofs.Common.{arith}
use Rattle.ds_flat.proofs.NetNumberLemmas.{word_from, step_names, stop_names}
use Rattle.ds_flat.proofs.numbers.numbers.Goals as goal

pub loop-k-preserved : goal.loop-k-preserved
loop-k-preserved c = record {
  so_far = step_names c.args.scope.now c.loop-k.nets c.net_number.new.nets c.loop-k.numbers.items
      c.push.new.self.items c.in-Ok.found c.word.result.now _ _ _
      (word_from c.args.names.now c.loop-k.k c.word.result.now c.word.ensures (omega arith))
      c.loop-k.invariant.so_far c.in-Ok.ensures.number c.in-Ok.ensures.ok
      c.in_ok-push-in-Ok.ensures.items;
  len = omega (arith, c.in_ok-push-in-Ok.ensures.len);
}

pub returns-in-Err-clause-fault : goal.returns-in-Err-clause-fault
returns-in-Err-clause-fault c =
    stop_names c.in-Err.stop c.args.scope.now c.loop-k.nets c.args.nets.now
    c.loop-k.numbers.items _ _ c.args.names.now c.word.result.now
    (word_from c.args.names.now c.loop-k.k c.word.result.now c.word.ensures (omega arith))
    c.loop-k.invariant.so_far c.in-Err.ensures.fault
