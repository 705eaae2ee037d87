use Rattle.std.proofs.Common.{arith}
use Rattle.ds_rule.proofs.PlaceLaws.{counts_inside}
use Rattle.ds_fabric.proofs.fabric.Fabric.seems_over.Goals as goal

pub peek-requires : goal.peek-requires
peek-requires g c = let (built, _, _) = c.self.invariant in
    omega (arith, built.over.sized, counts_inside c.self.inside.run.now 0 (omega arith))
