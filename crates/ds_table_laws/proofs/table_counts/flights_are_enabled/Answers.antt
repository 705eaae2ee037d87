use Rattle.ds_table_laws.proofs.FlightIsEnabled.{flights_are_enabled_lem}
use Rattle.ds_table_laws.proofs.table_counts.flights_are_enabled.Goals as goal

pub returns : goal.returns
returns c = flights_are_enabled_lem
