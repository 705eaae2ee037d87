-- A netlist of a file with bytes is accepted, or a line names its fault.
use Rattle.std.proofs.Common.{◌≢◌, ℕ, List, inl, inr, refl, sym, subst}
use Rattle.ds_outside.specs.Held.{Held}
use Rattle.ds_blif.specs.Text.{models_of_text}
use Rattle.ds_blif.proofs.WellFormed.{read_well_formed}
use Rattle.ds_flat.specs.Copies.{flat_of}
use Rattle.ds_flat.proofs.FlatRange.{flat_in_range}
use Rattle.ds_design.specs.Accepted.{IsAccepted}
use Rattle.ds_design.specs.Circuit.{Circuit}
use Rattle.ds_design.specs.InRange.{IsInRange}
use Rattle.ds_netlist.specs.declared.fault.NetFault.{NetFault}
use Rattle.ds_netlist.specs.declared.fault.NetFault.TheVariants as net
use Rattle.ds_graph_laws.proofs.DesignsDecided.{designs_are_decided}
use Rattle.ds_stage.specs.FaultText.{IsNetFaultText, blif_text, file_line, flat_text}
use Rattle.ds_stage.specs.Stage.{Stage, then_stage}
use Rattle.ds_stage.specs.Stages.{accepted_stage, file_stage, netlist_stage}
use Rattle.ds_stage.proofs.FileMeaning.{netlist_in_range, read_meant}
use Rattle.ds_total_laws.specs.Decided.{IsDecided}
use Rattle.ds_total_laws.specs.FileBytes.{HasBytes}
use Rattle.ds_total_laws.proofs.StagesDecided.{file_decided, then_decided}

-- each fault but want of memory has a text
net_text_there : (c : Circuit) (fault : NetFault) → fault ≢ net.Memory → (text : List ℕ) × IsNetFaultText c fault text
net_text_there c (net.SeveralClocks one other) known = (_, refl)
net_text_there c (net.MixedEdges one other) known = (_, refl)
net_text_there c (net.DrivenClock clock) known = (_, refl)
net_text_there c (net.ClockAsData clock) known = (_, refl)
net_text_there c (net.MultiplyDriven twice one other) known = (_, refl)
net_text_there c (net.Undriven loose) known = (_, refl)
net_text_there c (net.CombinationalCycle nets) known = (_, refl)
net_text_there c net.Memory known = absurd (known refl)

-- each number in the flat design of a file names what is there
flat_named : (held : List ℕ → Held) (file : List ℕ) (c : Circuit) → (file_stage held file).means c → IsInRange c
flat_named held file c (lines, are, (models, read, is_flat)) =
    let parts = (read_well_formed lines models (read_meant file blif_text (models_of_text lines) models read)).parts in
    flat_in_range models parts c (read_meant file flat_text (flat_of models) c is_flat)

module _ (held : List ℕ → Held) (file : List ℕ) where
  accepted_decided : (c : Circuit) → IsInRange c → IsDecided (accepted_stage file c)
  accepted_decided c range = elim (designs_are_decided c range) [
    | inl accepts ↦ inl (c, (refl, accepts))
    | inr (fault, known, is) ↦ (let (text, shown) = net_text_there c fault known in inr (file_line file text, (fault, text, is, shown, refl)))
  ]

  -- a file with bytes has a design that is accepted, or a line names a fault
  pub netlist_decided : HasBytes (held file) → IsDecided (netlist_stage held file)
  netlist_decided has_bytes =
      then_decided (file_stage held file) (accepted_stage file) (file_decided held file has_bytes) (λ c is. accepted_decided c (flat_named held file c is))

  -- what stands behind a netlist is decided where it is for each accepted design in range
  pub behind_netlist : (next : Circuit → Stage (List ℕ)) → HasBytes (held file)
      → ((c : Circuit) → IsInRange c → IsAccepted c → IsDecided (next c)) → IsDecided (then_stage (netlist_stage held file) next)
  behind_netlist next has_bytes each =
      then_decided (netlist_stage held file) next (netlist_decided has_bytes) (λ c is.
      let (flat, is_flat, (same, accepts)) = is in
      each c (netlist_in_range held file c is) (subst (λ (d : Circuit). IsAccepted d) (sym same) accepts))
