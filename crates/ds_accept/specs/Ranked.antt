-- Events with their ranks.
use Rattle.std.specs.Prelude.{◌≡◌, ℕ, ◌<◌, List, length}
use Rattle.std.specs.List.{HoldsAt}
use Rattle.ds_accept.specs.declared.ranked.EventRank.{EventRank}

-- each event stands at its place
pub record AreRanked (events : ℕ) (all : List EventRank) : Type 0 where
  pub one_each : length all ≡ events
  pub at : (v : ℕ) → v < events → HoldsAt (λ ranked. ranked.event ≡ v) all v
