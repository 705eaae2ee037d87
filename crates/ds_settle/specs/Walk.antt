-- A walk from some nets back through the tables that drive them.
use Rattle.std.specs.Prelude.{◌≡◌, ◌≢◌, ◌⊎◌, ◌↔◌, ℕ, ◌+◌, ◌<◌, ◌≤◌, Bool, false, true, List, []}
use Rattle.std.specs.Prelude.{◌∷◌, ◌++◌, Option, Some, length, All, AllPairs, Any, Contains}
use Rattle.std.specs.Prelude.{MatchOption, None, not, count_by, slice_index, slice_index_or}
use Rattle.ds_design.specs.Circuit.{Circuit}
use Rattle.ds_design.specs.Levels.{table_nets}
use Rattle.ds_design.specs.declared.design.Gate.{Gate}
use Rattle.ds_settle.specs.Cone.{Parts, ReachesSome, net_of}

-- a table among the first that drives a net, or none
abbrev pub IsDriver : Circuit → ℕ → ℕ → Option ℕ → Type 0
IsDriver c count net driver =
    MatchOption driver ((k : ℕ) → k < count → net_of c k ≢ net)
    (λ k. (k < count) × (net_of c k ≡ net))

-- for each net the table among the first that drives it
pub record AreDrivers (c : Circuit) (count : ℕ) (drivers : List (Option ℕ)) : Type 0 where
  pub one_each : length drivers ≡ length c.nets
  pub each : (net : ℕ) → net < length c.nets
      → IsDriver c count net (slice_index_or drivers net None)

-- a net is marked
abbrev pub IsMarked : List Bool → ℕ → Type 0
IsMarked marks net = slice_index_or marks net false ≡ true

-- the nets that are marked are the sources and the nets of the tables that are found, each once,
-- and they reach these
pub record IsFound (c : Circuit) (these : List ℕ) (marks : List Bool) (found : Parts) : Type 0 where
  pub within : All (λ k. k < length c.tables) found.tables
  pub once : AllPairs (λ j k. j ≢ k) found.tables
  pub reach : All (λ k. ReachesSome c these (net_of c k)) found.tables
  pub marked : All (λ k. IsMarked marks (net_of c k)) found.tables
  pub sources_within : All (λ net. net < length c.nets) found.sources
  pub sources_once : AllPairs (λ a b. a ≢ b) found.sources
  pub sources_free : All (λ net. ¬ Contains (table_nets c) net) found.sources
  pub sources_reach : All (ReachesSome c these) found.sources
  pub sources_marked : All (IsMarked marks) found.sources
  pub all : (net : ℕ) → IsMarked marks net
      → Contains found.sources net ⊎ Any (λ k. net_of c k ≡ net) found.tables

-- what is found with a net: the table that drives it or, where none does, the net as a source
abbrev pub with_found : Parts → ℕ → Option ℕ → Parts
with_found found net None = record { tables = found.tables; sources = found.sources ++ net ∷ [] }
with_found found net (Some k) = record { tables = found.tables ++ k ∷ []; sources = found.sources }

-- how many nets are not marked
abbrev pub unmarked : List Bool → ℕ
unmarked marks = count_by not marks

-- marks and tables are kept as more are found, and each table that is found leaves one net less to
-- mark
pub record Grows (old_marks : List Bool) (old : Parts) (new_marks : List Bool)
    (new : Parts) : Type 0 where
  pub same_length : length new_marks ≡ length old_marks
  pub marks : (net : ℕ) → IsMarked old_marks net → IsMarked new_marks net
  pub longer : length old.tables ≤ length new.tables
  pub tables : (i : ℕ) → i < length old.tables → slice_index new.tables i ≡ slice_index old.tables i
  pub work : unmarked new_marks + length new.tables ≤ unmarked old_marks + length old.tables

-- some nets are marked, with what drives them, and what was found before stands for all nets that
-- they reach
pub record AreMet (c : Circuit) (nets : List ℕ) (old_marks : List Bool) (old : Parts)
    (new_marks : List Bool) (new : Parts) : Type 0 where
  pub grows : Grows old_marks old new_marks new
  pub met : All (IsMarked new_marks) nets
  pub found : (these : List ℕ) → All (ReachesSome c these) nets → IsFound c these old_marks old
      → IsFound c these new_marks new

-- the inputs of the first tables that were found are marked
abbrev pub AreFollowed : Circuit → List Bool → List ℕ → ℕ → Type 0
AreFollowed c marks tables count = (i : ℕ) (d : Gate) → i < count
    → All (IsMarked marks) (slice_index_or c.tables (slice_index tables i) d).table.inputs

-- the tables and the sources that reach these, each once
pub record AreReached (c : Circuit) (these : List ℕ) (found : Parts) : Type 0 where
  pub within : All (λ k. k < length c.tables) found.tables
  pub once : AllPairs (λ j k. j ≢ k) found.tables
  pub tables : (k : ℕ) → k < length c.tables
      → (Contains found.tables k ↔ ReachesSome c these (net_of c k))
  pub sources : (net : ℕ) → Contains found.sources net
      ↔ (ReachesSome c these net × ¬ Contains (table_nets c) net)
  pub sources_within : All (λ net. net < length c.nets) found.sources
  pub sources_once : AllPairs (λ a b. a ≢ b) found.sources
