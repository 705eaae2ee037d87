-- The events that may fire.
use Rattle.std.specs.Prelude.{ℕ, ◌<◌, Option, MatchOption}
use Rattle.ds_fire.specs.Snapshot.{Snapshot}
use Rattle.ds_fire.specs.Fired.{IsReady}

-- the least event that may fire, or none where none may
abbrev pub IsLeastReady : Snapshot → Option ℕ → Type 0
IsLeastReady kept least =
    MatchOption least ((v : ℕ) → ¬ IsReady kept v)
    (λ v. IsReady kept v × ((u : ℕ) → u < v → ¬ IsReady kept u))
