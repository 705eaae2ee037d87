-- The values of all nodes in a clocked run, computed from an order of the tables.
use Rattle.std.specs.Prelude.{ℕ, zero, suc, ◌+◌, ◌*◌, ◌/◌, ◌%◌, ◌==◌, ◌≡◌, ◌≤◌, ◌<◌, cond}
use Rattle.std.specs.Prelude.{List, [], ◌∷◌, Option, Some, None, length, map, replicate}
use Rattle.std.specs.Prelude.{slice_get, slice_index_or, slice_set, All}
use Rattle.std.specs.List.{range_with_len}
use Rattle.ds_base.specs.Values.{Row}
use Rattle.ds_base.specs.declared.value.Value.TheVariants.{Zero}
use Rattle.ds_cover.specs.Cover.{value_of, values_at}
use Rattle.ds_design.specs.Circuit.{Circuit, columns, data_nets, register_nets}
use Rattle.ds_design.specs.InRange.{IsInRange}
use Rattle.ds_design.specs.Accepted.{IsAccepted}
use Rattle.ds_design.specs.Levels.{IsTableOrder}
use Rattle.ds_design.specs.Run.{IsRun, row_at}
use Rattle.ds_latch.specs.Node.{Split, number_of, nodes}
use Rattle.ds_latch.specs.declared.node.Node.{Node}
use Rattle.ds_latch.specs.declared.node.Node.TheVariants.{In, Out, Master, Slave}
use Rattle.ds_latch.specs.Numbered.{numbered}
use Rattle.ds_design.specs.declared.design.Gate.{Gate}

-- these nets take these values, one after another
abbrev pub given : List ℕ → Row → Row → Row
given [] values nets = nets
given (net ∷ these) [] nets = nets
given (net ∷ these) (value ∷ values) nets = given these values (slice_set nets net value)

-- the net that a table drives takes the table's value
abbrev pub driven : Option Gate → Row → Row
driven None nets = nets
driven (Some gate) nets = slice_set nets gate.output (value_of gate.table nets)

-- the tables at these places drive their nets, one after another
abbrev pub all_driven : List Gate → List ℕ → Row → Row
all_driven tables [] nets = nets
all_driven tables (k ∷ order) nets = all_driven tables order (driven (slice_get tables k) nets)

-- all nets for a state and a vector: columns and registers are given, tables drive in this order
abbrev pub settled_by : Circuit → List ℕ → Row → Row → Row
settled_by c order state vector = all_driven c.tables order
    (given (register_nets c) state (given (columns c) vector (replicate (length c.nets) Zero)))

-- the registers before turn k
abbrev pub state_before : Circuit → List ℕ → Row → List Row → ℕ → Row
state_before c order start vectors zero = start
state_before c order start vectors (suc k) =
    values_at (settled_by c order (state_before c order start vectors k) (row_at vectors k))
    (data_nets c)

-- all nets in turn k
abbrev pub nets_in : Circuit → List ℕ → Row → List Row → ℕ → Row
nets_in c order start vectors k =
    settled_by c order (state_before c order start vectors k) (row_at vectors k)

-- the node with a number
abbrev pub node_at : ℕ → Node
node_at zero = In
node_at (suc zero) = Out
node_at (suc (suc n)) = cond (n % 2 == 0) (Master (n / 2)) (Slave (n / 2))

-- value k of each node, in the clocked run on these vectors
abbrev pub foreseen : Split → List ℕ → List Row → Node → ℕ → Row
foreseen s order vectors n k = numbered s vectors (state_before s.circuit order s.initial vectors)
    (nets_in s.circuit order s.initial vectors) n k

-- the values of so many nodes, turn by turn: value k of the node with number l is row
-- k * count + l; a node behind those of the split design has rows of no values
unfoldable pub foreseen_rows : Split → ℕ → List ℕ → List Row → List Row
foreseen_rows s count order vectors = map
    (λ j. foreseen s order vectors (node_at (j % count)) (j / count))
    (range_with_len 0 ((length vectors + 1) * count))

-- the computed states and nets are the clocked run
abbrev pub ForeseesRun : Type 0
ForeseesRun = (c : Circuit) (order : List ℕ) → IsInRange c → IsAccepted c → IsTableOrder c order
    → (start : Row) (vectors : List Row) → length start ≡ length c.registers
    → All (λ vector. length vector ≡ length (columns c)) vectors
    → IsRun c start vectors (state_before c order start vectors) (nets_in c order start vectors)

-- each row stands in its place, a node has its number, and an extra event has rows of no values
abbrev pub ForeseesRows : Type 0
ForeseesRows = (s : Split) (order : List ℕ) (vectors : List Row)
    → ((count l k : ℕ) → l < count → k ≤ length vectors
    → slice_index_or (foreseen_rows s count order vectors) (k * count + l) []
    ≡ foreseen s order vectors (node_at l) k)
    × ((n : Node) → node_at (number_of n) ≡ n)
    × ((l k : ℕ) → nodes s ≤ l → foreseen s order vectors (node_at l) k ≡ [])
