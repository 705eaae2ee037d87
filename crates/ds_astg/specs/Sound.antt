-- What holds of all that was read.
use Rattle.std.specs.Prelude.{◌≡◌, ℕ, ◌<◌, ◌≤◌, length, All, IfSome}
use Rattle.ds_astg.specs.Signals.{count_events}
use Rattle.ds_astg.specs.Place.{Places}
use Rattle.ds_astg.specs.Line.{State}
use Rattle.ds_astg.specs.declared.place.Place.{Place}

-- the ends of a place are events, of which there are so many
abbrev pub HasEnds : ℕ → Place → Type 0
HasEnds events place = IfSome place.source (λ u. u < events) × IfSome place.target (λ v. v < events)

-- each place has its key, there are not too many, and their ends are events
pub record ArePlaces (events : ℕ) (ps : Places) : Type 0 where
  pub each : length ps.keys ≡ length ps.places
  pub few : length ps.keys ≤ 1048576
  pub ends : All (HasEnds events) ps.places

-- each name is declared as something, and the ends of places are events of the names
pub record IsStateSound (state : State) : Type 0 where
  pub each : length state.signals.names ≡ length state.signals.roles
  pub places : ArePlaces (count_events state.signals.roles) state.places
