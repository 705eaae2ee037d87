use Rattle.std.proofs.Common.{ℕ, ◌≡◌, ◌+◌, ◌*◌, ap, arith}
use Rattle.ds_accept.proofs.SweepSteps.{step_arc_at}
use Rattle.ds_accept.proofs.sweep.sweep_arc.Goals as goal

pub returns-then-next-bound : goal.returns-then-next-bound
returns-then-next-bound c arcs in_arcs = let (from, to) = c.requires.ends in
    let token_sum : (c.args.token_sum + c.from.result) * c.args.events ≡ (c.args.token_sum + c.args.arc.now.tokens) * c.args.events = ap (λ (n : ℕ). (c.args.token_sum + n) * c.args.events) c.from.ensures in
    step_arc_at arcs c.args.events c.args.bound c.args.token_sum c.args.arc.now c.args.masks.now in_arcs from to c.requires.size (omega arith)
    _ _ c.pour.new.masks c.pour.result c.pour.ensures.after c.pour.ensures.changed c.pour.ensures.same (omega arith) (omega arith)
