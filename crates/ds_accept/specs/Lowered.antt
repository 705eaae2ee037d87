-- Sums of tokens along walks, as they are lowered.
use Rattle.std.specs.Prelude.{◌≡◌, ℕ, ◌+◌, ◌*◌, ◌^◌, ◌<◌, ◌≤◌, ⊤, Bool, true, false, Option}
use Rattle.std.specs.Prelude.{None, Some, List, length}
use Rattle.std.specs.List.{slice_index_or, sum_by}
use Rattle.ds_marked.specs.Graph.{Walk}
use Rattle.ds_marked.specs.declared.marked.Arc.{Arc}
use Rattle.ds_accept.specs.Masks.{AreAllIn, along_arcs}

-- the sum of an event, or none
abbrev pub sum_at : List (Option ℕ) → ℕ → Option ℕ
sum_at sums v = slice_index_or sums v None

-- one where there is a sum
abbrev pub one_if_some : Option ℕ → ℕ
one_if_some None = 0
one_if_some (Some sum) = 1

-- how many events have a sum
abbrev pub reached : List (Option ℕ) → ℕ
reached sums = sum_by one_if_some sums

-- a sum as a number, none above all
abbrev pub height : Option ℕ → ℕ
height None = 2 ^ 64
height (Some sum) = sum

-- the heights together, which fall with each sum
abbrev pub heights : List (Option ℕ) → ℕ
heights sums = sum_by height sums

-- no sum is above 255 for each event that has one
abbrev pub AreSumsBounded : List (Option ℕ) → Type 0
AreSumsBounded sums = (v sum : ℕ) → sum_at sums v ≡ Some sum → sum ≤ 255 * reached sums

-- each sum is that of a walk
abbrev pub AreWalkSums : List Arc → ℕ → List (Option ℕ) → Type 0
AreWalkSums arcs from sums = (v sum : ℕ) → sum_at sums v ≡ Some sum
    → Walk (along_arcs arcs) from v sum

-- a number is below a sum, or there is none
abbrev pub IsBelow : ℕ → Option ℕ → Type 0
IsBelow number None = ⊤
IsBelow number (Some sum) = number < sum

-- there is a sum, and it is at most this
abbrev pub IsAtMost : Option ℕ → ℕ → Type 0
IsAtMost o most = (sum : ℕ) × (o ≡ Some sum) × (sum ≤ most)

-- where the source of an arc has a sum, the target has at most its tokens more
abbrev pub IsLowAt : List (Option ℕ) → Arc → Type 0
IsLowAt sums arc = (sum : ℕ) → sum_at sums arc.source ≡ Some sum
    → IsAtMost (sum_at sums arc.target) (sum + arc.tokens)

-- sums after some arcs are taken: where none has fallen, those arcs are low
pub record IsLowering (arcs : List Arc) (low : List (Option ℕ) → Type 0)
    (old new : List (Option ℕ)) (changed : Bool) : Type 0 where
  pub size : length new ≡ length old
  pub bounded : AreSumsBounded new
  pub walks : (from : ℕ) → AreWalkSums arcs from old → AreWalkSums arcs from new
  pub start : (from : ℕ) → sum_at old from ≡ Some 0 → sum_at new from ≡ Some 0
  pub less : changed ≡ true → heights new < heights old
  pub same : changed ≡ false → new ≡ old
  pub stays : changed ≡ false → low new

-- sums after some arcs are taken: each that is that of a walk along these arcs stays one
pub record AreLowered (known : List Arc) (old new : List (Option ℕ)) : Type 0 where
  pub size : length new ≡ length old
  pub bounded : AreSumsBounded new
  pub walks : (arcs : List Arc) (from : ℕ) → AreAllIn known arcs → AreWalkSums arcs from old
      → AreWalkSums arcs from new
  pub start : (from : ℕ) → sum_at old from ≡ Some 0 → sum_at new from ≡ Some 0
