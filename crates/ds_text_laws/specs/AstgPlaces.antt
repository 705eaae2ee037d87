-- The graph that lines stand for has an arc for each place that they have, and no other.
use Rattle.std.specs.Prelude.{◌≡◌, ℕ, true, false, List, [], ◌∷◌, map, All, Ok, Some, IsPermutation}
use Rattle.ds_lines.specs.Line.{Line}
use Rattle.ds_lines.specs.Words.{word_at}
use Rattle.ds_marked.specs.Graph.{Graph}
use Rattle.ds_astg.specs.Line.{State, graph_head_of, start, step}
use Rattle.ds_astg.specs.Read.{all_events, arc_of, ends, graph_of_lines}
use Rattle.ds_astg.specs.declared.place.Place.{Place}

-- what was read behind lines, one after another, up to one behind which nothing is read
pub data LinesLeadTo : List Line → State → State → Type 0 where
  behind_all : {state : State} → LinesLeadTo [] state state
  at_end : {line : Line} {lines : List Line} {state : State}
      → ends (graph_head_of (word_at line.words 0)) ≡ true → LinesLeadTo (line ∷ lines) state state
  behind : {line : Line} {lines : List Line} {state next last : State}
      → ends (graph_head_of (word_at line.words 0)) ≡ false → step line state ≡ Ok next
      → LinesLeadTo lines next last → LinesLeadTo (line ∷ lines) state last

-- a place leads from an event to an event
abbrev pub JoinsEvents : Place → Type 0
JoinsEvents place = (u v : ℕ) × (place.source ≡ Some u) × (place.target ≡ Some v)

-- what was read behind all lines: its events are those of the names that are declared, each of its
-- places leads from an event to an event, and the arcs are one for each place, from its source to
-- its target with the tokens of its entry, none where it has no entry
pub record HasArcOfEachPlace (lines : List Line) (g : Graph) : Type 0 where
  pub last : State
  pub read : LinesLeadTo lines start last
  pub events : g.events ≡ all_events last.signals.names last.signals.roles
  pub whole : All JoinsEvents last.places.places
  pub arcs : IsPermutation (map arc_of last.places.places) g.arcs

-- so it is for each graph that is read
abbrev pub ArcsAreOfPlaces : Type 0
ArcsAreOfPlaces = (lines : List Line) (g : Graph) → graph_of_lines lines ≡ Ok g
    → HasArcOfEachPlace lines g
