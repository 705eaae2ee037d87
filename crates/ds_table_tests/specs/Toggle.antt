-- A small run, on which the tests stand: a register that turns over each turn, for two turns.
-- Node 0 is its slave, node 1 its master.
use Rattle.std.specs.Prelude.{◌≡◌, ℕ, List, [], ◌∷◌, Bool, true, false}
use Rattle.ds_base.specs.Values.{Row}
use Rattle.ds_base.specs.declared.value.Value.TheVariants.{Zero, One}
use Rattle.ds_marked.specs.declared.marked.Arc.{Arc}
use Rattle.ds_rule.specs.declared.table_run.DataEdge.{DataEdge}
use Rattle.ds_rule.specs.Run.{Run}
use Rattle.ds_base.specs.Scratch.{Memory}
use Rattle.ds_fabric.specs.Base.{Base}
use Rattle.ds_fabric.specs.Showing.{Showing, Belongs}

-- an arc of its parts
abbrev pub arc : ℕ → ℕ → ℕ → Arc
arc source target tokens = record { source = source; target = target; tokens = tokens }

-- a data edge of its parts
abbrev pub edge : ℕ → ℕ → ℕ → DataEdge
edge producer consumer tokens = record { producer = producer; consumer = consumer; tokens = tokens }

-- the values of the slave and the master, turn by turn
abbrev pub turned : List Row
turned = (Zero ∷ []) ∷ (Zero ∷ []) ∷ (One ∷ []) ∷ (One ∷ []) ∷ (Zero ∷ []) ∷ (Zero ∷ []) ∷ []

-- the run
abbrev pub toggle : Run
toggle = record {
  nodes = 2;
  design_nodes = 2;
  arcs = arc 0 1 0 ∷ arc 1 0 1 ∷ arc 2 3 0 ∷ arc 3 2 1 ∷ arc 0 2 1 ∷ arc 3 0 0 ∷ arc 2 0 0
      ∷ arc 1 2 1 ∷ [];
  limit = 2;
  edges = edge 1 0 0 ∷ edge 0 1 1 ∷ [];
  lengths = 1 ∷ 1 ∷ [];
  slack = 0;
  rows = turned;
}

-- a scratch of one net remembers nothing
abbrev pub one_net : Memory
one_net = record { nets = 1; slots = []; rows = [] }

-- a pass of a fabric of this run, which holds these nodes, so many, and has such room
pub record Holding (held : List Bool) (many room : ℕ) (f : Base) (p : Showing) : Type 0 where
  pub run_is : f.run ≡ toggle
  pub belongs : Belongs f p
  pub held_are : p.view.holds ≡ held
  pub many_are : p.many ≡ many
  pub room_is : p.room ≡ room

-- it holds both nodes
abbrev pub HoldsBoth : Base → Showing → Type 0
HoldsBoth = Holding (true ∷ true ∷ []) 2 2

-- it holds the slave, and has room for both
abbrev pub HoldsSlave : Base → Showing → Type 0
HoldsSlave = Holding (true ∷ false ∷ []) 1 2

-- it holds the master, and has room for no other
abbrev pub HoldsMaster : Base → Showing → Type 0
HoldsMaster = Holding (false ∷ true ∷ []) 1 1
