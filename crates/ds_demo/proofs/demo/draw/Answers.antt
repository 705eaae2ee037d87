use Rattle.std.proofs.Common.{arith}
use Rattle.rand_xoshiro.specs.SplitMix64.{mix_u64}
use Rattle.ds_demo.proofs.GeneratorWords.{drawn, all_drawn}
use Rattle.ds_demo.proofs.demo.draw.Goals as goal

pub loop-preserved : goal.loop-preserved
loop-preserved c = drawn mix_u64 _ _ _ _ _ _ _ _ c.loop-test.true c.next_word.ensures
    c.loop.invariant c.in_ok-push.ensures.items

pub returns : goal.returns
returns c = all_drawn mix_u64 _ _ _ _ (omega arith) c.loop.invariant
