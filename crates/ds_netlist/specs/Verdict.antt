-- What the checks answer.
use Rattle.std.specs.Prelude.{◌≡◌, ℕ, List}
use Rattle.ds_design.specs.Circuit.{Circuit, columns}
use Rattle.ds_design.specs.InRange.{IsInRange}
use Rattle.ds_design.specs.Accepted.{IsAccepted}
use Rattle.ds_design.specs.Levels.{AreLevels, IsTableOrder}
use Rattle.ds_cover.specs.Bank.{Driven}
use Rattle.ds_design.specs.Banked.{IsBankOf}
use Rattle.ds_netlist.specs.Fault.{IsNetFault}
use Rattle.ds_netlist.specs.Named.{IsNamed}
use Rattle.ds_netlist.specs.declared.fault.NetFault.{NetFault}

-- the circuit is accepted, and these are its columns, levels, order and packed tables
pub record AreNetlistParts (c : Circuit) (column_nets levels order : List ℕ)
    (bank : List Driven) : Type 0 where
  pub in_range : IsInRange c
  pub accepted : IsAccepted c
  pub columns_are : column_nets ≡ columns c
  pub are_levels : AreLevels c levels
  pub is_order : IsTableOrder c order
  pub is_bank : IsBankOf c.tables bank

-- the circuit has this fault, whose nets and registers are there
pub record IsRefusal (c : Circuit) (fault : NetFault) : Type 0 where
  pub shown : IsNetFault c fault
  pub named : IsNamed c fault
