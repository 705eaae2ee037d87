-- What the tables of a group read.
use Rattle.std.specs.Prelude.{◌≡◌, ◌⊎◌, ℕ, ◌+◌, ◌<◌, List, [], ◌++◌, length, map, All, Contains}
use Rattle.std.specs.Prelude.{slice_index_or}
use Rattle.ds_design.specs.Circuit.{Circuit}
use Rattle.ds_design.specs.declared.design.Gate.{Gate}
use Rattle.ds_opening.specs.Groups.{Grouping, group_of}
use Rattle.ds_settle.specs.Cone.{nets_of_tables}

-- the slots: what the tables of each group drive, and behind them these lists of nets
abbrev pub slots_with : Circuit → Grouping → List (List ℕ) → List (List ℕ)
slots_with c g others = map (nets_of_tables c) g.groups ++ others

-- a net is in this slot, or in one of these
abbrev pub IsInSlots : List (List ℕ) → ℕ → List ℕ → ℕ → Type 0
IsInSlots slots own list net = (s : ℕ) × ((s ≡ own) ⊎ Contains list s)
    × Contains (slice_index_or slots s []) net

-- what these tables read is in this slot, or in one of these
abbrev pub ReadFrom : Circuit → List (List ℕ) → ℕ → List ℕ → List ℕ → Type 0
ReadFrom c slots own list tables = (k : ℕ) (d : Gate) → Contains tables k
    → All (IsInSlots slots own list) (slice_index_or c.tables k d).table.inputs

-- a group whose own slot is not in its list of slots reads nothing but what it drives and what
-- these slots have; another may read what is in no slot
pub record AreReads (c : Circuit) (others : List (List ℕ)) (g : Grouping) : Type 0 where
  pub one_each : length g.reads ≡ length g.groups
  pub within : (a : ℕ) → All (λ s. s < length g.groups + length others)
      (slice_index_or g.reads a [])
  pub each : (a : ℕ) → ¬ Contains (slice_index_or g.reads a []) a
      → ReadFrom c (slots_with c g others) a (slice_index_or g.reads a []) (group_of g a)
