-- Events as data: the node of an event, and what it is of the node.
use Rattle.std.specs.Prelude.{◌≡◌, ℕ, ◌+◌, ◌*◌, ◌/◌, Bool, true, false}
use Rattle.ds_rule.specs.Run.{Run, node_of, turns, opens}
use Rattle.ds_rule.specs.declared.event_role.EventRole.{EventRole}
use Rattle.ds_rule.specs.declared.event_role.EventRole.TheVariants.{Opening, Closing, Alone}
use Rattle.ds_rule.specs.declared.node_event.NodeEvent.{NodeEvent}

-- the number of the node's event of this kind, where so many nodes are of the design
abbrev pub event_number : EventRole → ℕ → ℕ → ℕ
event_number Opening l design_nodes = 2 * l
event_number Closing l design_nodes = 2 * l + 1
event_number Alone l design_nodes = l + design_nodes

-- how often an event of this kind has fired, after f firings of its node: a latch opens first
abbrev pub fired_of : EventRole → ℕ → ℕ
fired_of Opening f = (f + 1) / 2
fired_of Closing f = f / 2
fired_of Alone f = f

-- an event of this kind is an opening
abbrev pub is_opening : EventRole → Bool
is_opening Opening = true
is_opening Closing = false
is_opening Alone = false

-- the data says of the event with this number what the run says of it
pub record IsNodeEvent (run : Run) (event : NodeEvent) (number : ℕ) : Type 0 where
  pub number_is : number ≡ event_number event.role event.node run.design_nodes
  pub node_is : event.node ≡ node_of run number
  pub turns_is : (f : ℕ) → fired_of event.role f ≡ turns run number f
  pub opens_is : opens run number ≡ is_opening event.role
