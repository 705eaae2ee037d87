-- The headline: in whatever order the latches of an accepted graph fire, they do what the clocked
-- circuit does.
use Rattle.std.specs.Prelude.{◌≡◌, ◌⊎◌, ℕ, ◌+◌, ◌<◌, ◌≤◌, List, ◌++◌, All, length, map, slice_index}
use Rattle.std.specs.List.{flat_map, range_with_len}
use Rattle.ds_base.specs.Values.{Row}
use Rattle.ds_base.specs.declared.value.Value.{Value}
use Rattle.ds_cover.specs.Cover.{value_at, values_at}
use Rattle.ds_design.specs.Circuit.{Circuit, columns}
use Rattle.ds_design.specs.InRange.{IsInRange}
use Rattle.ds_design.specs.Run.{IsRun, row_at}
use Rattle.ds_design.specs.Trace.{IsTraceFrom, trace_line}
use Rattle.ds_marked.specs.Graph.{Graph, IsEnabled, IsLegal, counts_after}
use Rattle.ds_marked.specs.Progress.{HasFiredAll}
use Rattle.ds_latch.specs.Node.{Split, IsNode, closing, members}
use Rattle.ds_latch.specs.declared.node.Node.{Node}
use Rattle.ds_latch.specs.declared.node.Node.TheVariants.{Out, Slave}
use Rattle.ds_latch.specs.Plan.{IsPlan}
use Rattle.ds_latch.specs.Firing.{State, first_state, FiresAll, AreRegisters}

-- a list begins with another
abbrev pub BeginsWith : {X : Type 0} → List X → List X → Type 0
BeginsWith {X} whole front = (rest : List X) × (whole ≡ front ++ rest)

-- a register stands at this place of this cluster
pub record StandsAt (s : Split) (register cluster place : ℕ) : Type 0 where
  pub is_cluster : cluster < length s.clusters
  pub inside : place < length (members s cluster)
  pub here : slice_index (members s cluster) place ≡ register

-- the values that a register has stored: those at its place in the rows of its cluster's slave
abbrev pub values_stored : State → ℕ → ℕ → List Value
values_stored now cluster place = map (λ row. value_at row place) (now.stored (Slave cluster))

-- the clocked values of a register: those after each of so many turns
abbrev pub values_clocked : (ℕ → Row) → ℕ → ℕ → List Value
values_clocked state turns register =
    map (λ k. value_at (state k) register) (range_with_len 1 turns)

-- the rows of the outputs in each of so many turns
abbrev pub outputs_clocked : Circuit → (ℕ → Row) → ℕ → List Row
outputs_clocked c nets turns = map (λ k. values_at (nets k) c.outputs) (range_with_len 0 turns)

-- some event may fire next
abbrev pub HasNext : Graph → ℕ → List ℕ → Type 0
HasNext g turns events = (v : ℕ) × IsEnabled g turns (counts_after (λ _. 0) events) v

-- the registers turn by turn as the slaves have stored them, before the first turn the initial ones
pub record AreStored (s : Split) (now : State) (turns : ℕ) (rows : ℕ → Row) : Type 0 where
  pub first : rows 0 ≡ s.initial
  pub later : (k : ℕ) → k < turns → AreRegisters s (λ n. row_at (now.stored n) k) (rows (k + 1))

-- the lines of so many turns, numbered from a first one on, by the outputs that OUT has stored and
-- by these registers
abbrev pub stored_lines : ℕ → State → ℕ → (ℕ → Row) → List ℕ
stored_lines first now turns rows =
    flat_map (λ k. trace_line (first + k) (row_at (now.stored Out) k) (rows k))
    (range_with_len 0 turns)

-- what a legal list of firings leaves, beside a clocked run: it can be fired; the stored values of
-- each register are the first of its clocked values, and the rows that OUT has stored the first of
-- the rows of the outputs; each node has stored as many rows as it has closed; every event has
-- fired once a vector or some event may fire; the list goes on to one in which every event has; and
-- where every event has, what is stored spells the trace
pub record Interleaves (s : Split) (g : Graph) (vectors : List Row) (state nets : ℕ → Row)
    (events : List ℕ) : Type 0 where
  pub fires : (now : State) × FiresAll s vectors (first_state s) events now
  pub stores : (now : State) → FiresAll s vectors (first_state s) events now
      → (register cluster place : ℕ) → StandsAt s register cluster place
      → BeginsWith (values_clocked state (length vectors) register)
      (values_stored now cluster place)
  pub outputs_stored : (now : State) → FiresAll s vectors (first_state s) events now
      → BeginsWith (outputs_clocked s.circuit nets (length vectors)) (now.stored Out)
  pub stores_once_a_closing : (now : State) → FiresAll s vectors (first_state s) events now
      → (n : Node) → IsNode s n
      → length (now.stored n) ≡ counts_after (λ _. 0) events (closing n)
  pub goes_on : HasFiredAll g (length vectors) (counts_after (λ _. 0) events)
      ⊎ HasNext g (length vectors) events
  pub ends : (more : List ℕ) × IsLegal g (length vectors) (events ++ more)
      × HasFiredAll g (length vectors) (counts_after (λ _. 0) (events ++ more))
  pub spells : HasFiredAll g (length vectors) (counts_after (λ _. 0) events)
      → (now : State) → FiresAll s vectors (first_state s) events now
      → (rows : ℕ → Row) → AreStored s now (length vectors) rows
      → IsTraceFrom s.circuit 0 s.initial vectors (stored_lines 0 now (length vectors) rows)
      (rows (length vectors))

-- a clocked run is there, it is the only one, and every legal list of firings does what it does
pub record Desynchronizes (s : Split) (g : Graph) (vectors : List Row) : Type 0 where
  pub state : ℕ → Row
  pub nets : ℕ → Row
  pub run : IsRun s.circuit s.initial vectors state nets
  pub one : (state' nets' : ℕ → Row) → IsRun s.circuit s.initial vectors state' nets'
      → (k : ℕ) → (k ≤ length vectors → state' k ≡ state k)
      × (k < length vectors → nets' k ≡ nets k)
  pub all : (events : List ℕ) → IsLegal g (length vectors) events
      → Interleaves s g vectors state nets events

-- so it is for every circuit with its clusters, every graph that is accepted for them, and all
-- vectors as wide as its columns
abbrev pub Headline : Type 0
Headline = (s : Split) (g : Graph) → IsPlan s g → IsInRange s.circuit
    → (vectors : List Row) → All (λ vector. length vector ≡ length (columns s.circuit)) vectors
    → Desynchronizes s g vectors
