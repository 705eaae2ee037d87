use Rattle.std.proofs.Common.{◌∙◌, ap, sym, length}
use Rattle.ds_latch.specs.Node.{Split}
use Rattle.ds_latch.proofs.Remade.{parts_begin}
use Rattle.ds_latch.proofs.latches.Latches.begin.Goals as goal

pub invariant_of-self : goal.invariant_of-self
invariant_of-self c =
    let old : Split = record { circuit = c.self.inside.netlist.now; clusters = c.self.inside.clusters; initial = c.self.inside.initial; slack = c.self.inside.slack } in
    parts_begin old c.copy_from.new.self c.self.inside.bits c.self.inside.edges
    (ap length c.copy_from.ensures ∙ (c.requires ∙ ap (λ (s : Split). length s.circuit.registers) (sym c.self.view_is)))
    c.self.invariant
