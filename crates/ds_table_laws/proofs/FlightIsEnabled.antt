-- What is in flight is enabled at the counts that the words show.
use Rattle.ds_rule.proofs.GraphLaws.{flight_enabled}
use Rattle.ds_table_laws.specs.TableCounts.{FlightsAreEnabled}

pub flights_are_enabled_lem : FlightsAreEnabled
flights_are_enabled_lem = flight_enabled
