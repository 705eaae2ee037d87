-- Flow equivalence: after every legal list of every controller graph, what the nodes keep and have
-- stored are their values in the clocked run.
use Rattle.std.specs.Prelude.{◌≡◌, ℕ, ◌+◌, ◌<◌, ◌≤◌, List, length, map}
use Rattle.std.specs.List.{flat_map, range_with_len}
use Rattle.ds_cover.specs.Cover.{values_at}
use Rattle.ds_design.specs.Valuation.{IsValuation}
use Rattle.ds_design.specs.Run.{IsRun, row_at}
use Rattle.ds_design.specs.Trace.{trace_line, trace_lines}
use Rattle.ds_marked.specs.Graph.{Graph, IsLegal}
use Rattle.ds_latch.specs.Node.{Split, IsNode, opening, closing, place_of, nets_of}
use Rattle.ds_latch.specs.declared.node.Node.{Node}
use Rattle.ds_latch.specs.declared.node.Node.TheVariants.{In, Out}
use Rattle.ds_latch.specs.Plan.{IsSplit, IsController}
use Rattle.ds_latch.specs.Numbered.{numbered}
use Rattle.ds_latch.specs.Firing.{State, first_state, FiresAll, IsSettled, Takes, AreRegisters}
use Rattle.ds_base.specs.Values.{Row}

-- each node keeps the values of its last openings, as many as the slack and the last one, and has
-- stored the values of its closings
pub record IsInStep (s : Split) (vectors : List Row) (state nets : ℕ → Row)
    (now : State) : Type 0 where
  pub kept : (n : Node) → IsNode s n → (k : ℕ) → k ≤ now.count (opening n)
      → now.count (opening n) ≤ k + s.slack
      → now.rows n (place_of s k) ≡ numbered s vectors state nets n k
  pub stored : (n : Node) → IsNode s n
      → now.stored n ≡ map (numbered s vectors state nets n)
      (range_with_len 1 (now.count (closing n)))

-- after every legal list the nodes are in step with the clocked run
abbrev pub FlowEquivalence : Type 0
FlowEquivalence = (s : Split) (g : Graph) → IsController s g
    → (vectors : List Row) (state nets : ℕ → Row) → IsRun s.circuit s.initial vectors state nets
    → (events : List ℕ) → IsLegal g (length vectors) events
    → (now : State) → FiresAll s vectors (first_state s) events now
    → IsInStep s vectors state nets now

-- once every node has closed as often as there are vectors, the stored rows spell the trace: the
-- outputs are those stored by OUT, and the registers before a turn those stored by the slaves in
-- the turn before, at first the initial ones
abbrev pub StoredRowsSpellTrace : Type 0
StoredRowsSpellTrace = (s : Split) → IsSplit s → (first : ℕ)
    → (vectors : List Row) (state nets : ℕ → Row) → IsRun s.circuit s.initial vectors state nets
    → (now : State) → IsInStep s vectors state nets now
    → ((n : Node) → IsNode s n → now.count (closing n) ≡ length vectors)
    → (rows : ℕ → Row) → rows 0 ≡ s.initial
    → ((k : ℕ) → k < length vectors → AreRegisters s (λ n. row_at (now.stored n) k) (rows (k + 1)))
    → (flat_map (λ k. trace_line (first + k) (row_at (now.stored Out) k) (rows k))
    (range_with_len 0 (length vectors))
    ≡ trace_lines s.circuit first (length vectors) state nets)
    × (rows (length vectors) ≡ state (length vectors))

-- what a node takes as it opens is one row
abbrev pub OneRowTaken : Type 0
OneRowTaken = (s : Split) → IsSplit s → (vectors : List Row) (now : State) (opened : ℕ)
    → (n : Node) (row other : Row) → IsNode s n
    → Takes s vectors now opened n row → Takes s vectors now opened n other → row ≡ other

-- a valuation for what IN and all slaves show settles
abbrev pub SettlesFromAll : Type 0
SettlesFromAll = (s : Split) (shown : Node → Row) (n : Node) (state nets : Row)
    → AreRegisters s shown state → IsValuation s.circuit state (shown In) nets
    → IsSettled s shown n (values_at nets (nets_of s n))

-- every legal list can be fired
abbrev pub SomeFiring : Type 0
SomeFiring = (s : Split) (g : Graph) → IsController s g
    → (vectors : List Row) (state nets : ℕ → Row) → IsRun s.circuit s.initial vectors state nets
    → (events : List ℕ) → IsLegal g (length vectors) events
    → (now : State) × FiresAll s vectors (first_state s) events now
