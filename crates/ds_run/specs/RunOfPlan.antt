-- The run of a plan on vectors, as the rule of the shared table sees it.
use Rattle.std.specs.Prelude.{◌≡◌, ◌≢◌, ◌⊎◌, ℕ, ◌+◌, ◌^◌, ◌<◌, ◌≤◌}
use Rattle.std.specs.Prelude.{List, [], length, All, AllPairs, Any, slice_index}
use Rattle.ds_base.specs.Values.{Row}
use Rattle.ds_design.specs.Run.{IsRun}
use Rattle.ds_latch.specs.Node.{Split, IsNode, number_of, nodes, nets_of}
use Rattle.ds_latch.specs.declared.node.Node.{Node}
use Rattle.ds_latch.specs.Order.{IsDataEdge, open_tokens}
use Rattle.ds_latch.specs.Plan.{Planned}
use Rattle.ds_latch.specs.Numbered.{numbered}
use Rattle.ds_rule.specs.Run.{Run}
use Rattle.ds_rule.specs.Words.{node_values}
use Rattle.ds_rule.specs.declared.table_run.DataEdge.{DataEdge}

-- an edge leads from one node to another, with the tokens of its producer
pub record Joins (p c : Node) (e : DataEdge) : Type 0 where
  pub from : e.producer ≡ number_of p
  pub into : e.consumer ≡ number_of c
  pub tokens : e.tokens ≡ open_tokens p

-- these are the data edges of a split design, each once, by their consumers
pub record AreDataEdges (s : Split) (edges : List DataEdge) : Type 0 where
  pub each : All (λ e. (p c : Node) × IsDataEdge s p c × Joins p c e) edges
  pub all : (p c : Node) → IsDataEdge s p c → Any (Joins p c) edges
  pub once : AllPairs (λ a b. (a.producer ≢ b.producer) ⊎ (a.consumer ≢ b.consumer)) edges
  pub by_consumer : AllPairs (λ a b. a.consumer ≤ b.consumer) edges

-- how many values a row of each node has: one for each of its nets, none for an extra event
pub record AreLengths (s : Split) (count : ℕ) (lengths : List ℕ) : Type 0 where
  pub one_each : length lengths ≡ count
  pub of_node : (n : Node) → IsNode s n → slice_index lengths (number_of n) ≡ length (nets_of s n)
  pub of_extra : (l : ℕ) → nodes s ≤ l → slice_index lengths l ≡ 0
  pub few : All (λ n. n < 2 ^ 32) lengths

-- the values of a run are those of the clocked run on the vectors
pub record AreValues (s : Split) (vectors : List Row) (run : Run) : Type 0 where
  pub state : ℕ → Row
  pub nets : ℕ → Row
  pub clocked : IsRun s.circuit s.initial vectors state nets
  pub of_node : (n : Node) → IsNode s n → (k : ℕ) → k ≤ length vectors
      → node_values run (number_of n) k ≡ numbered s vectors state nets n k
  pub of_extra : (l k : ℕ) → nodes s ≤ l → l < run.nodes → k ≤ length vectors
      → node_values run l k ≡ []

-- the run of a plan: the nodes of the split design, which open and close, and behind them a node
-- for each extra event
pub record IsRunOf (p : Planned) (vectors : List Row) (run : Run) : Type 0 where
  pub latches_are : run.design_nodes ≡ nodes p.split
  pub nodes_are : run.nodes + run.design_nodes ≡ length p.graph.events
  pub arcs_are : run.arcs ≡ p.graph.arcs
  pub limit_is : run.limit ≡ length vectors
  pub edges_are : AreDataEdges p.split run.edges
  pub lengths_are : AreLengths p.split run.nodes run.lengths
  pub slack_is : run.slack ≡ p.split.slack
  pub values_are : AreValues p.split vectors run
