-- What the code keeps of declared names, and how its numbers are those of the definitions.
use Rattle.std.specs.Prelude.{◌≡◌, ◌≢◌, ℕ, ◌<◌, ◌≤◌, List, length, map, slice_index_or, AllPairs}
use Rattle.ds_astg.specs.Signals.{count_events, first_event}
use Rattle.ds_astg.specs.declared.role.Role.{Role}
use Rattle.ds_astg.specs.declared.declaration.Declaration.{Declaration}

-- what the names are declared as
abbrev pub roles_of : List Declaration → List Role
roles_of kept = map (λ d. d.role) kept

-- names, each once, with the numbers of their first events, and how many events they have in all
pub record AreNumbered (names : List (List ℕ)) (kept : List Declaration)
    (events : ℕ) : Type 0 where
  pub few : length names ≤ 65536
  pub distinct : AllPairs (λ a b. a ≢ b) names
  pub within : length kept ≤ length names
  pub firsts : (k : ℕ) (d : Declaration) → k < length kept
      → (slice_index_or kept k d).first ≡ first_event (roles_of kept) k
  pub all : events ≡ count_events (roles_of kept)
