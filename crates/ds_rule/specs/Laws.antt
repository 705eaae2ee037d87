-- What follows of the definitions.
use Rattle.std.specs.Prelude.{◌≡◌, ℕ, ◌≤◌, List, length}
use Rattle.ds_marked.specs.Graph.{Graph, IsLegal, counts_after}
use Rattle.ds_rule.specs.Run.{Run, events}
use Rattle.ds_rule.specs.Log.{count_in_log, IsLegalList, InTurn, firings}

-- the graph has the events and the arcs of a run
pub record IsGraphOfRun (g : Graph) (run : Run) : Type 0 where
  pub events_are : length g.events ≡ events run
  pub arcs_are : g.arcs ≡ run.arcs
  pub among : run.design_nodes ≤ run.nodes

-- a log, first one first, is a legal list of the graph, and counts each event as often as it stands
-- there
abbrev pub LogsAreLegal : Type 0
LogsAreLegal = (g : Graph) (run : Run) → IsGraphOfRun g run
    → (log : List ℕ) → IsLegalList run log → InTurn run log
    → IsLegal g run.limit (firings log)
    × ((e : ℕ) → counts_after (λ _. 0) (firings log) e ≡ count_in_log e log)
