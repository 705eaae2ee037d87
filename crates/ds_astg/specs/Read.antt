-- What a list of lines stands for: a marked graph, or its first fault.
use Rattle.std.specs.Prelude.{ℕ, Bool, true, false, not, List, [], ◌∷◌, ◌++◌, Option, None}
use Rattle.std.specs.Prelude.{Some, Result, ◌==◌, ◌&&◌, ◌||◌, nat_lt, nat_le, is_some, map}
use Rattle.std.specs.Prelude.{if◌then◌else◌}
use Rattle.ds_lines.specs.First.{unless_fault, behind_line}
use Rattle.ds_lines.specs.Words.{word_at}
use Rattle.ds_lines.specs.Line.{Line}
use Rattle.ds_marked.specs.Graph.{Graph}
use Rattle.ds_marked.specs.declared.marked.Arc.{Arc}
use Rattle.ds_marked.specs.declared.marked.Event.{Event}
use Rattle.ds_marked.specs.declared.marked.Kind.TheVariants.{Rise, Fall, Dummy as DummyKind}
use Rattle.ds_astg.specs.Signals.{Declared}
use Rattle.ds_astg.specs.Place.{Places, Key, name_of}
use Rattle.ds_astg.specs.Line.{State, start, step, graph_head_of}
use Rattle.ds_astg.specs.declared.head.Head.{Head}
use Rattle.ds_astg.specs.declared.head.Head.TheVariants.{End}
use Rattle.ds_astg.specs.declared.role.Role.{Role}
use Rattle.ds_astg.specs.declared.role.Role.TheVariants.{Signal, Dummy}
use Rattle.ds_astg.specs.declared.place.Place.{Place}
use Rattle.ds_astg.specs.declared.fault.AstgKind.{AstgKind}
use Rattle.ds_astg.specs.declared.fault.AstgKind.TheVariants.{NotMarkedGraph}
use Rattle.ds_lines.specs.declared.at.At.{At}

-- nothing is read behind such a line
abbrev pub ends : Head → Bool
ends End = true
ends head = false

-- both events of a signal
abbrev pub events_of_signal : List ℕ → List Event
events_of_signal signal = record { signal = signal; kind = Rise }
    ∷ record { signal = signal; kind = Fall }
    ∷ []

-- the events of a name that is declared as such
abbrev pub named_events : Role → List ℕ → List Event
named_events Signal name = events_of_signal name
named_events Dummy name = record { signal = name; kind = DummyKind } ∷ []

-- the events of names, one name after another
abbrev pub all_events : List (List ℕ) → List Role → List Event
all_events [] roles = []
all_events (name ∷ names) [] = []
all_events (name ∷ names) (role ∷ roles) = named_events role name ++ all_events names roles

-- a number, 0 where there is none
abbrev pub or_zero : Option ℕ → ℕ
or_zero None = 0
or_zero (Some n) = n

-- the arc of a place
abbrev pub arc_of : Place → Arc
arc_of place = record {
  source = or_zero place.source;
  target = or_zero place.target;
  tokens = or_zero place.tokens;
}

-- whether an arc stands before another: by source, then by target, then by tokens
abbrev pub stands_before : Arc → Arc → Bool
stands_before a b =
    nat_lt a.source b.source || ((a.source == b.source) && (nat_lt a.target b.target
    || ((a.target == b.target) && nat_le a.tokens b.tokens)))

-- arcs in order, with another one
abbrev pub with_arc : Arc → List Arc → List Arc
with_arc arc [] = arc ∷ []
with_arc arc (other ∷ arcs) =
    if stands_before arc other then arc ∷ other ∷ arcs else other ∷ with_arc arc arcs

-- arcs in order
abbrev pub in_order : List Arc → List Arc
in_order [] = []
in_order (arc ∷ arcs) = with_arc arc (in_order arcs)

-- a place that lacks a source or a target
abbrev pub lacks : Place → Bool
lacks place = not (is_some place.source && is_some place.target)

-- the first place that lacks a source or a target, on the line where it first stands
abbrev pub lacking : List Key → List Place → Option (At AstgKind)
lacking [] places = None
lacking (key ∷ keys) [] = None
lacking (key ∷ keys) (place ∷ places) =
    if lacks place then Some (record { line = place.line; kind = NotMarkedGraph (name_of key) })
    else lacking keys places

-- the graph of signals and places
abbrev pub graph_of_parts : Declared → Places → Graph
graph_of_parts signals ps = record {
  events = all_events signals.names signals.roles;
  arcs = in_order (map arc_of ps.places);
}

-- what all lines stand for, if these are all
abbrev pub end_of : State → Result Graph (At AstgKind)
end_of state = unless_fault (lacking state.places.keys state.places.places)
    (graph_of_parts state.signals state.places)

-- what lines stand for, behind others of which this was read
abbrev pub graph_from : List Line → State → Result Graph (At AstgKind)
graph_from [] state = end_of state
graph_from (line ∷ lines) state =
    if ends (graph_head_of (word_at line.words 0)) then end_of state
    else behind_line line.number (step line state) (graph_from lines)

-- what lines stand for
abbrev pub graph_of_lines : List Line → Result Graph (At AstgKind)
graph_of_lines lines = graph_from lines start
