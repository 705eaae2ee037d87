-- What a window of a run leaves on a sink.
use Rattle.std.specs.Prelude.{◌≡◌, ◌≢◌, ℕ, ◌≤◌, List, Option, Result, Err, IfOk, OnOk}
use Rattle.ds_base.specs.Values.{Row}
use Rattle.ds_latch.specs.Node.{Split}
use Rattle.ds_outside.specs.Fault.{Rose}
use Rattle.ds_clocked.specs.Appends.{AppendsLines, AppendsLinesPart}
use Rattle.ds_clocked.specs.declared.run.SimFault.{SimFault}
use Rattle.ds_clocked.specs.declared.run.SimFault.TheVariants.{Memory, Write}

-- what a call promises that writes the lines of a split design, from a turn on, and nothing else
pub record EndsLines (s : Split) (first : ℕ) (vectors : List Row) (result : Result Row SimFault)
    (old new : Option (List ℕ)) (before now : ℕ) : Type 0 where
  pub ok : IfOk result (AppendsLines s.circuit first s.initial vectors old new)
  pub part : result ≡ Err Write → AppendsLinesPart s.circuit first s.initial vectors old new
  pub no_memory : result ≢ Err Memory
  pub ok_same : OnOk result (now ≡ before)
  pub never_falls : before ≤ now
  pub cause : result ≡ Err Write → Rose before now
