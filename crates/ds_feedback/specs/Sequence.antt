-- Feedback, and orders of tables and registers without it.
use Rattle.std.specs.Prelude.{◌≢◌, ℕ, ◌<◌, ◌≤◌, List, length, All, AllPairs, Contains, slice_index}
use Rattle.std.specs.Prelude.{slice_index_or}
use Rattle.ds_design.specs.Circuit.{Circuit}
use Rattle.ds_design.specs.declared.design.Gate.{Gate}
use Rattle.ds_netlist.specs.Edges.{FeedsIn}
use Rattle.ds_rank.specs.Order.{IsCycle}
use Rattle.ds_feedback.specs.Links.{links}

-- nets lead in a circle through tables and registers
abbrev pub HasFeedback : Circuit → Type 0
HasFeedback c = (nets : List ℕ) × IsCycle (FeedsIn (links c)) nets

-- each link is there once; none reads what it or a later one drives
pub record IsSequence (c : Circuit) (order : List ℕ) : Type 0 where
  pub places : All (λ k. k < length (links c)) order
  pub once : AllPairs (λ j k. j ≢ k) order
  pub all : (k : ℕ) → k < length (links c) → Contains order k
  pub before : (i j : ℕ) (d : Gate) → i ≤ j → j < length order
      → ¬ Contains (slice_index_or (links c) (slice_index order i) d).table.inputs
      (slice_index_or (links c) (slice_index order j) d).output
