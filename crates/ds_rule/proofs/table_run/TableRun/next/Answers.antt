use Rattle.std.proofs.Common.{ap, arith}
use Rattle.ds_rule.specs.Run.{Run}
use Rattle.ds_rule.proofs.EventLaws.{node-next}
use Rattle.ds_rule.proofs.table_run.TableRun.next.Goals as goal

pub number-requires : goal.number-requires
number-requires g c = let same = ap (λ (r : Run). r.design_nodes) c.self.view_is in let (few, near) = c.requires in (
  omega (arith, same, few),
  omega (
    arith,
    (c.next.ensures c.args.self.now same).node_is,
    node-next c.args.self.now c.args.node c.args.fired,
    near,
  ),
)
