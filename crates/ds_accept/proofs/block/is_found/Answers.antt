use Rattle.std.proofs.Common.{◌<◌, arith}
use Rattle.ds_accept.proofs.SweepSteps.{place_lt}
use Rattle.ds_accept.proofs.block.is_found.Goals as goal

pub overflow_mul-place : goal.overflow_mul-place
overflow_mul-place c = let (near, _) = c.requires.inside in
    let low : c.loop-token_sum.token_sum < c.args.bound = omega arith in
    omega (arith, place_lt c.args.events c.args.bound c.loop-token_sum.token_sum c.args.order.now.target low near)

pub overflow_add-place : goal.overflow_add-place
overflow_add-place c = let (near, _) = c.requires.inside in
    let low : c.loop-token_sum.token_sum < c.args.bound = omega arith in
    omega (arith, place_lt c.args.events c.args.bound c.loop-token_sum.token_sum c.args.order.now.target low near)
