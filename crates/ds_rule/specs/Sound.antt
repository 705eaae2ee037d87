-- What a run must meet.
use Rattle.std.specs.Prelude.{◌≡◌, ◌≢◌, ℕ, ◌+◌, ◌-◌, ◌*◌, ◌<◌, ◌≤◌, length, cond, ◌==◌, zero, suc}
use Rattle.std.specs.Prelude.{slice_index, slice_index_or, All}
use mathlib.Core.Option.{some}
use lib.ListN.{get_elem?}
use Rattle.ds_marked.specs.Graph.{Agrees}
use Rattle.ds_rule.specs.declared.table_run.DataEdge.{DataEdge}
use Rattle.ds_rule.specs.Run.{Run, node_of, opening, closing}
use Rattle.ds_rule.specs.Words.{width, size, node_values}

-- a data edge by its number
abbrev pub edge_at : Run → ℕ → DataEdge
edge_at run n = slice_index_or run.edges n (record { producer = 0; consumer = 0; tokens = 0 })

-- how many words a node reads at most along the first n edges: of each producer its number and its
-- row
abbrev pub read_words : Run → ℕ → ℕ → ℕ
read_words run l zero = 0
read_words run l (suc n) =
    read_words run l n
    + cond ((edge_at run n).consumer == l) (1 + width run (edge_at run n).producer) 0

-- counts that agree with each arc meet the order between two events
abbrev pub HasOrder : Run → ℕ → ℕ → ℕ → Type 0
HasOrder run source target tokens =
    (counts : ℕ → ℕ) → All (Agrees counts) run.arcs → counts target ≤ counts source + tokens

-- the orders of a data edge, whose ends are two nodes: the consumer opens after the producer, and
-- the producer opens again after the consumer closed
pub record HasOrders (run : Run) (e : DataEdge) : Type 0 where
  pub tokens_few : e.tokens ≤ 1
  pub from : e.producer < run.design_nodes
  pub into : e.consumer < run.design_nodes
  pub apart : e.producer ≢ e.consumer
  pub there : HasOrder run (opening e.producer) (opening e.consumer) e.tokens
  pub back : HasOrder run (closing e.consumer) (opening e.producer) (1 - e.tokens + run.slack)

-- what a run must meet; the limits of a plan give the numbers
pub record IsSound (run : Run) : Type 0 where
  pub few : run.nodes + run.design_nodes < 4294967296
  pub few_arcs : length run.arcs < 4294967296
  pub short : run.limit < 4611686018427387904
  pub near : run.slack < 4611686018427387904
  pub among : run.design_nodes ≤ run.nodes
  pub narrow : run.nodes * (2 * run.limit) < 18446744073709551616
  pub sized : size run < 9223372036854775808
  pub reads : (l : ℕ) → read_words run l (length run.edges) < 9223372036854775808
  pub stores : (l : ℕ) → run.limit * width run l < 9223372036854775808
  -- each arc joins events of nodes
  pub named : All (λ a. (node_of run a.source < run.nodes) × (node_of run a.target < run.nodes))
      run.arcs
  -- each node has rows of one length
  pub rows_of_all : length run.lengths ≡ run.nodes
  pub same_length : (l k : ℕ) → l < run.nodes → k ≤ run.limit
      → length (node_values run l k) ≡ slice_index run.lengths l
  -- the edges stand by consumer, and each has its orders
  pub by_consumer : (j k : ℕ) → j ≤ k → k < length run.edges
      → (edge_at run j).consumer ≤ (edge_at run k).consumer
  pub orders : (k : ℕ) (e : DataEdge) → get_elem? run.edges k ≡ some e → HasOrders run e
