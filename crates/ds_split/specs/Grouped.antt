-- Clusters of groups, and of the registers that no group has.
use Rattle.std.specs.Prelude.{◌≡◌, ◌⊎◌, ⊤, ℕ, ◌<◌, List, length, Any, Contains}
use Rattle.ds_base.specs.Limit.{most_of}
use Rattle.ds_base.specs.declared.number.Limit.TheVariants.{Clusters}
use Rattle.ds_base.specs.declared.number.Mode.{Mode}
use Rattle.ds_design.specs.Circuit.{Circuit}
use Rattle.ds_split.specs.Cluster.{Agree, HaveBoth, IsGrouping}
use Rattle.ds_split.specs.declared.fault.SplitFault.{SplitFault}
use Rattle.ds_split.specs.declared.fault.SplitFault.TheVariants.{TooMany, Memory}

-- some group has the register
abbrev pub IsInGroup : List (List ℕ) → ℕ → Type 0
IsInGroup groups r = Any (λ registers. Contains registers r) groups

-- two registers belong together: a group has both, or none has either and they agree by the mode
abbrev pub BelongTogether : Circuit → Mode → List (List ℕ) → ℕ → ℕ → Type 0
BelongTogether c mode groups a b =
    HaveBoth groups a b ⊎ ((¬ IsInGroup groups a) × (¬ IsInGroup groups b) × Agree c mode a b)

-- the clusters of a circuit's registers, of which some are taken by groups
abbrev pub IsGroupedClustering : Circuit → Mode → List (List ℕ) → List (List ℕ) → Type 0
IsGroupedClustering c mode groups clusters =
    IsGrouping (BelongTogether c mode groups) (length c.registers) clusters

-- there are more clusters than there may be
abbrev pub HasTooManyGrouped : Circuit → Mode → List (List ℕ) → Type 0
HasTooManyGrouped c mode groups = (clusters : List (List ℕ))
    × IsGroupedClustering c mode groups clusters × (most_of Clusters < length clusters)

-- why a circuit has no clusters with groups
abbrev pub IsGroupedFault : Circuit → Mode → List (List ℕ) → SplitFault → Type 0
IsGroupedFault c mode groups (TooMany limit) =
    (limit ≡ Clusters) × HasTooManyGrouped c mode groups
IsGroupedFault c mode groups Memory = ⊤
