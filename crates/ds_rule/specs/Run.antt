-- What a run is of: nodes, their events, and the orders between events.
-- The steps of the rule use these definitions by their laws alone (proofs/EventLaws).
use Rattle.std.specs.Prelude.{ℕ, ◌+◌, ◌-◌, ◌*◌, ◌/◌, ◌%◌, Bool, List, [], cond, ◌==◌, ◌&&◌, nat_lt}
use Rattle.std.specs.Prelude.{replicate}
use Rattle.ds_base.specs.Values.{Row}
use Rattle.ds_marked.specs.Graph.{Graph, IsEnabled, IsConsistent}
use Rattle.ds_marked.specs.declared.marked.Arc.{Arc}
use Rattle.ds_marked.specs.declared.marked.Event.{Event}
use Rattle.ds_marked.specs.declared.marked.Kind.TheVariants.{Dummy}
use Rattle.ds_rule.specs.declared.table_run.DataEdge.{DataEdge}

-- nodes, their events and their values
pub record Run : Type 0 where
  -- how many nodes there are; those below `design_nodes` open and close in turn, the others have
  -- one event each
  pub nodes : ℕ
  pub design_nodes : ℕ
  -- the orders between events
  pub arcs : List Arc
  -- how often each event may fire
  pub limit : ℕ
  -- which node reads which
  pub edges : List DataEdge
  -- how many values a row of each node has
  pub lengths : List ℕ
  -- how many openings a producer may be ahead
  pub slack : ℕ
  -- the values of all nodes, by turn
  pub rows : List Row

-- the run of no pass
abbrev pub no_run : Run
no_run = record {
  nodes = 0;
  design_nodes = 0;
  arcs = [];
  limit = 0;
  edges = [];
  lengths = [];
  slack = 0;
  rows = [];
}

-- how many events there are: two of each latch, then one of each other node
unfoldable pub events : Run → ℕ
events run = run.nodes + run.design_nodes

-- the node of an event
unfoldable pub node_of : Run → ℕ → ℕ
node_of run e = cond (nat_lt e (2 * run.design_nodes)) (e / 2) (e - run.design_nodes)

-- the event that a node fires next, after f firings
unfoldable pub next : Run → ℕ → ℕ → ℕ
next run l f = cond (nat_lt l run.design_nodes) (2 * l + f % 2) (l + run.design_nodes)

-- how often an event has fired, after f firings of its node
unfoldable pub turns : Run → ℕ → ℕ → ℕ
turns run e f = cond (nat_lt e (2 * run.design_nodes)) ((f + (1 - e % 2)) / 2) f

-- the event is an opening
unfoldable pub opens : Run → ℕ → Bool
opens run e = nat_lt e (2 * run.design_nodes) && (e % 2 == 0)

-- a latch opens
unfoldable pub opening : ℕ → ℕ
opening l = 2 * l

-- a latch closes
unfoldable pub closing : ℕ → ℕ
closing l = 2 * l + 1

-- how often a node has opened, after f firings
unfoldable pub opened : Run → ℕ → ℕ → ℕ
opened run l f = cond (nat_lt l run.design_nodes) ((f + 1) / 2) 0

-- the count of an event, where each node has fired so many times
abbrev pub count : Run → (ℕ → ℕ) → ℕ → ℕ
count run fired e = turns run e (fired (node_of run e))

-- an event of which its number alone is known
abbrev pub nameless : Event
nameless = record { signal = []; kind = Dummy }

-- the marked graph of a run: its events have numbers, and no names
abbrev pub graph : Run → Graph
graph run = record { events = replicate (events run) nameless; arcs = run.arcs }

-- the event may fire, where each node has fired so many times
abbrev pub IsEnabledInRun : Run → (ℕ → ℕ) → ℕ → Type 0
IsEnabledInRun run fired e = IsEnabled (graph run) run.limit (count run fired) e

-- the counts of the events agree with the arcs, and none is above the limit
abbrev pub IsConsistentInRun : Run → (ℕ → ℕ) → Type 0
IsConsistentInRun run fired = IsConsistent (graph run) run.limit (count run fired)
