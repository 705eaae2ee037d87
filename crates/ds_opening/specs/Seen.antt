-- The slots that a group reads, found one by one.
use Rattle.std.specs.Prelude.{◌≡◌, ◌⊎◌, ℕ, ◌+◌, ◌<◌, ◌≤◌, List, [], length, All, Contains}
use Rattle.std.specs.Prelude.{slice_index, slice_index_or}
use Rattle.ds_cover.specs.Bank.{Driven}
use Rattle.ds_design.specs.Circuit.{Circuit}
use Rattle.ds_design.specs.declared.design.Gate.{Gate}
use Rattle.ds_opening.specs.Reads.{AreReads}

-- the slot of a net is this one or one of these
abbrev pub IsReadAt : List ℕ → ℕ → List ℕ → ℕ → Type 0
IsReadAt net_slots own list net = (slice_index net_slots net ≡ own)
    ⊎ Contains list (slice_index net_slots net)

-- a slot with the stamp of a group is its own or in the list
pub record AreSeen (own : ℕ) (seen list : List ℕ) : Type 0 where
  pub within : All (λ s. s < length seen) list
  pub low : All (λ s. s ≤ own + 1) seen
  pub stamped : (s : ℕ) → s < length seen → slice_index seen s ≡ own + 1
      → (s ≡ own) ⊎ Contains list s

-- the slots of these nets are found, and what was found before stays
pub record AreSearched (net_slots : List ℕ) (own slots : ℕ) (before nets seen list : List ℕ)
    : Type 0 where
  pub found : AreSeen own seen list
  pub long : length seen ≡ slots
  pub at : All (IsReadAt net_slots own list) nets
  pub kept : (s : ℕ) → Contains before s → Contains list s

-- what some tables read has this slot or one of these
abbrev pub AreAt : Circuit → List ℕ → ℕ → List ℕ → List ℕ → Type 0
AreAt c net_slots own list tables = (k : ℕ) (d : Gate) → Contains tables k
    → All (IsReadAt net_slots own list) (slice_index_or c.tables k d).table.inputs

-- the slots that the tables of a group read, or its own slot
pub record IsReadBy (c : Circuit) (net_slots : List ℕ) (slots own : ℕ) (tables list : List ℕ)
    : Type 0 where
  pub within : All (λ s. s < slots) list
  pub each : ¬ Contains list own → AreAt c net_slots own list tables

-- the lists of the first groups
pub record AreReadBy (c : Circuit) (net_slots : List ℕ) (slots n : ℕ) (groups reads : List (List ℕ))
    : Type 0 where
  pub one_each : length reads ≡ n
  pub each : (a : ℕ) → a < n
      → IsReadBy c net_slots slots a (slice_index_or groups a []) (slice_index_or reads a [])

-- what these groups read, whatever else a grouping has
abbrev pub AreReadsOf : Circuit → List (List ℕ) → List (List ℕ) → List (List ℕ) → Type 0
AreReadsOf c others groups reads = (bank : List Driven) (lists : List (List ℕ))
    → AreReads c others (record { bank = bank; groups = groups; lists = lists; reads = reads })
