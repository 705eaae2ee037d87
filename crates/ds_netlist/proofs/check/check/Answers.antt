use Rattle.std.proofs.Common.{◌∙◌, None, Some, subst, sym}
use Rattle.ds_netlist.specs.Verdict.{IsRefusal}
use Rattle.ds_netlist.specs.declared.fault.NetFault.{NetFault}
use Rattle.ds_netlist.proofs.FaultEvidence.{all_clocks, fault_first, fault_later, lent_columns}
use Rattle.ds_netlist.proofs.Leveled.{are_parts, places_of}
use Rattle.ds_netlist.proofs.FaultyCircuits.{cycle_refusal, matched, refusal}
use Rattle.ds_netlist.proofs.check.check.Goals as goal

pub returns-in-Some : goal.returns-in-Some
returns-in-Some c =
    let d = c.args.design.now in
    let clocks = all_clocks d c.in_ok-names.names.items c.as_slice.result.now (Some c.in-Some.fault) c.in_ok-names.ensures.ok c.as_slice.ensures.value c.in-Some.ensures.value in
    record { checked = refusal d c.inputs-inputs.ensures.in_range c.in-Some.fault (fault_first d c.in-Some.fault clocks) }

pub later_fault-requires-clause-columns : goal.later_fault-requires-clause-columns
later_fault-requires-clause-columns c =
    let d = c.args.design.now in
    let clocks = all_clocks d c.in_ok-names.names.items c.as_slice.result.now None c.in_ok-names.ensures.ok c.as_slice.ensures.value c.in_default.ensures.value in
    c.as_slice-4.ensures.value ∙ lent_columns d c.in_ok-names.names.items c.as_slice-2.result.now c.inputs-inputs.result.now c.in_ok-columns.columns.items c.first_name.result clocks
    c.in_ok-names.ensures.ok c.as_slice-2.ensures.value c.inputs-inputs.ensures.inputs c.first_name.ensures.value c.in_ok-columns.ensures.ok

pub returns-in-Some-2 : goal.returns-in-Some-2
returns-in-Some-2 c =
    let d = c.args.design.now in
    let clocks = all_clocks d c.in_ok-names.names.items c.as_slice.result.now None c.in_ok-names.ensures.ok c.as_slice.ensures.value c.in_default.ensures.value in
    record { checked = refusal d c.inputs-inputs.ensures.in_range c.in-Some-2.fault (fault_later d c.in_ok-fault.field-0 (Some c.in-Some-2.fault) clocks c.in_ok-fault.ensures.ok c.in-Some-2.is) }

pub returns-in_err-levels : goal.returns-in_err-levels
returns-in_err-levels c =
    let d = c.args.design.now in
    let clocks = all_clocks d c.in_ok-names.names.items c.as_slice.result.now None c.in_ok-names.ensures.ok c.as_slice.ensures.value c.in_default.ensures.value in
    let none = fault_later d c.in_ok-fault.field-0 None clocks c.in_ok-fault.ensures.ok c.in_default-2.is in
    record {
      checked = matched _ _ _ c.from_residual-in_err-levels.result c.from_residual-in_err-levels.ensures.1
          (λ e is. subst (λ (fault : NetFault). IsRefusal d fault) (sym is) (cycle_refusal d c.inputs-inputs.ensures.in_range none c.in_err-levels.field-0.0 c.in_err-levels.ensures.fault));
    }

pub series_of-requires : goal.series_of-requires
series_of-requires c =
    places_of c.tables.result.now c.as_slice-5.result.now c.in_ok-order.order.items c.in_ok-order.ensures.ok c.tables-2.result.now (c.tables-2.ensures.tables ∙ sym c.tables.ensures.tables)

pub returns : goal.returns
returns c =
    let d = c.args.design.now in
    let clocks = all_clocks d c.in_ok-names.names.items c.as_slice.result.now None c.in_ok-names.ensures.ok c.as_slice.ensures.value c.in_default.ensures.value in
    let none = fault_later d c.in_ok-fault.field-0 None clocks c.in_ok-fault.ensures.ok c.in_default-2.is in
    let cols = lent_columns d c.in_ok-names.names.items c.as_slice-2.result.now c.inputs-inputs.result.now c.in_ok-columns.columns.items c.first_name.result clocks
    c.in_ok-names.ensures.ok c.as_slice-2.ensures.value c.inputs-inputs.ensures.inputs c.first_name.ensures.value c.in_ok-columns.ensures.ok in
    record {
      checked = are_parts d c.inputs-inputs.ensures.in_range none c.in_ok-columns.columns.items c.in_ok-levels.levels.items c.in_ok-order.order.items cols c.in_ok-levels.ensures.ok
          c.tables.result.now c.as_slice-5.result.now c.tables.ensures.tables c.as_slice-5.ensures.value c.in_ok-order.ensures.ok
          c.tables-2.result.now c.in_ok-series.series c.tables-2.ensures.tables c.in_ok-series.ensures.order c.in_ok-series.ensures.bank;
    }
