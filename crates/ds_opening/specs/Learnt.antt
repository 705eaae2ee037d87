-- Which rows of nodes are learnt in a scratch.
use Rattle.std.specs.Prelude.{ℕ, ◌+◌, ◌==◌, ◌&&◌, Bool, false, true, slice_index}
use Rattle.ds_base.specs.Scratch.{Kept}
use Rattle.ds_latch.specs.declared.node.Node.{Node}
use Rattle.ds_latch.specs.declared.node.Node.TheVariants.{Master}
use Rattle.ds_opening.specs.Foreseen.{node_at}

-- whether a node is no master: the others learn the rows of IN and of slaves as they settle, and
-- nobody reads OUT
abbrev pub is_no_master : Node → Bool
is_no_master (Master i) = false
is_no_master n = true

-- whether the row of a node is learnt for a turn: its slot, which stands behind the first so many,
-- those of the groups, is noted for the turn, and it is no master
abbrev pub is_learnt : ℕ → Kept → ℕ → ℕ → Bool
is_learnt first k turn node =
    (slice_index k.turns (first + node) == turn) && is_no_master (node_at node)
