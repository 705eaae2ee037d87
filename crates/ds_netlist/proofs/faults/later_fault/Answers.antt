use Rattle.std.proofs.Common.{◌≡◌, ◌∙◌, ◌++◌, ap, sym, subst, None, Some}
use Rattle.std.specs.Prelude.{IfOk, Option}
use Rattle.ds_design.specs.Circuit.{register_nets, used}
use Rattle.ds_design.specs.Levels.{table_nets}
use Rattle.ds_netlist.specs.Fault.{clock_as_data, driven_clock, mixed_edges}
use Rattle.ds_netlist.specs.declared.fault.NetFault.{NetFault}
use Rattle.ds_netlist.specs.declared.fault.NetFault.TheVariants.{ClockAsData, DrivenClock}
use Rattle.ds_netlist.proofs.FaultEvidence.{later_data, later_rest, lent_clock}
use Rattle.ds_netlist.proofs.faults.later_fault.Goals as goal

pub returns-in-Some-clock_in-2 : goal.returns-in-Some-clock_in-2
returns-in-Some-clock_in-2 c =
    let d = c.args.design.now in
    let edges : mixed_edges d.registers ≡ None = sym (c.in_default.ensures.value ∙ ap mixed_edges c.registers.ensures.registers) in
    let driven : driven_clock d ≡ None = lent_clock d (λ clock. DrivenClock clock) (table_nets d ++ register_nets d) c.as_slice.result.now c.args.names.now c.first_name.result None c.requires.one
    (c.as_slice.ensures.value ∙ c.in_ok-driven.ensures.ok) c.requires.names c.first_name.ensures.value c.in_default-clock_in.ensures.value in
    let data_clock : clock_as_data d ≡ Some (ClockAsData c.in-Some-clock_in-2.net) = lent_clock d (λ clock. ClockAsData clock) (used d) c.as_slice-2.result.now c.args.names.now c.first_name-2.result (Some c.in-Some-clock_in-2.net) c.requires.one
    (c.as_slice-2.ensures.value ∙ c.in_ok-used.ensures.ok) c.requires.names c.first_name-2.ensures.value c.in-Some-clock_in-2.ensures.value in
    record { ok = sym (later_data d (ClockAsData c.in-Some-clock_in-2.net) edges driven data_clock) }

pub returns : goal.returns
returns c =
    let d = c.args.design.now in
    let edges : mixed_edges d.registers ≡ None = sym (c.in_default.ensures.value ∙ ap mixed_edges c.registers.ensures.registers) in
    let driven : driven_clock d ≡ None = lent_clock d (λ clock. DrivenClock clock) (table_nets d ++ register_nets d) c.as_slice.result.now c.args.names.now c.first_name.result None c.requires.one
    (c.as_slice.ensures.value ∙ c.in_ok-driven.ensures.ok) c.requires.names c.first_name.ensures.value c.in_default-clock_in.ensures.value in
    let data_clock : clock_as_data d ≡ None = lent_clock d (λ clock. ClockAsData clock) (used d) c.as_slice-2.result.now c.args.names.now c.first_name-2.result None c.requires.one
    (c.as_slice-2.ensures.value ∙ c.in_ok-used.ensures.ok) c.requires.names c.first_name-2.ensures.value c.in_default-clock_in-2.ensures.value in
    record { ok = subst (λ (o : Option NetFault). IfOk c.driver_fault.result (λ fault. fault ≡ o)) (sym (later_rest d edges driven data_clock)) c.driver_fault.ensures.ok }
