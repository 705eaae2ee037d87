-- What a search asks of its arcs, and where it stands.
use Rattle.std.specs.Prelude.{◌≡◌, ◌<◌, ◌≤◌, ◌+◌, ◌^◌, ℕ, List, length}
use Rattle.std.specs.List.{All}
use Rattle.ds_period.specs.declared.timed.Timed.{Timed}
use Rattle.ds_period.specs.Search.{AreEvents, IsLow, IsRaising}

-- there is a place for each event and one more, none behind the end of the arcs
abbrev pub AreBeginnings : ℕ → List Timed → List ℕ → Type 0
AreBeginnings count arcs firsts = (length firsts ≡ count + 1) × All (λ k. k ≤ length arcs) firsts

-- arcs and events are few, the ends of the arcs are events, and the potentials so far are low
pub record MayGoOn (arcs : List Timed) (p q : ℕ) (h parent : List ℕ) : Type 0 where
  pub few_arcs : length arcs < 2 ^ 32
  pub low_ratio : q < 2 ^ 40
  pub few_events : length h < 2 ^ 32
  pub ends : AreEvents (length h) arcs
  pub search : IsRaising arcs p q (length h) h parent
  pub low : IsLow (2 ^ 104) h
