use Rattle.ds_latch.specs.Node.{Split}
use Rattle.ds_latch.proofs.Remade.{parts_slacken}
use Rattle.ds_latch.proofs.latches.Latches.with_slack.Goals as goal

pub invariant_of-self : goal.invariant_of-self
invariant_of-self c =
    let old : Split = record { circuit = c.self.inside.netlist.now; clusters = c.self.inside.clusters; initial = c.self.inside.initial; slack = c.self.inside.slack } in
    parts_slacken old c.args.slack c.self.inside.bits c.self.inside.edges c.requires c.self.invariant
