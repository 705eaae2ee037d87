-- A line of the graph part: a source, and its targets.
use Rattle.std.specs.Prelude.{ℕ, Bool, true, List, Option, None, Some, Result, Ok, Err}
use Rattle.std.specs.Prelude.{◌==◌, if◌then◌else◌, nat_lt, length, drop}
use Rattle.ds_lines.specs.Words.{word_at}
use Rattle.ds_astg.specs.Turn.{then_do, all_of}
use Rattle.ds_astg.specs.Signals.{Declared}
use Rattle.ds_astg.specs.Node.{Node, node_of_word}
use Rattle.ds_astg.specs.Node.Node.{Event as EventNode, Place as PlaceNode}
use Rattle.ds_astg.specs.Place.{Places, named, between, number_of_place, place_at, with_place}
use Rattle.ds_astg.specs.Place.{with_place_at}
use Rattle.ds_astg.specs.Place.Key.{Named, Between}
use Rattle.ds_astg.specs.declared.place.Place.{Place}
use Rattle.ds_astg.specs.declared.fault.AstgKind.{AstgKind}
use Rattle.ds_astg.specs.declared.fault.AstgKind.TheVariants.{BadWord, NotMarkedGraph}

-- an end of a place may be this event: it is none yet, or this one
abbrev pub may_be : Option ℕ → ℕ → Bool
may_be None event = true
may_be (Some other) event = other == event

-- a place with this source
abbrev pub from_event : Place → ℕ → Place
from_event place event = record place { source = Some event }

-- a place with this target
abbrev pub to_event : Place → ℕ → Place
to_event place event = record place { target = Some event }

-- the place with a number and a name has this source, and no second one
abbrev pub with_source : ℕ → List ℕ → ℕ → Places → Result Places AstgKind
with_source k name event ps =
    if may_be (place_at ps k).source event then Ok
    (with_place_at ps k (from_event (place_at ps k) event))
    else Err (NotMarkedGraph name)

-- the place with a number and a name has this target, and no second one
abbrev pub with_target : ℕ → List ℕ → ℕ → Places → Result Places AstgKind
with_target k name event ps =
    if may_be (place_at ps k).target event then Ok
    (with_place_at ps k (to_event (place_at ps k) event))
    else Err (NotMarkedGraph name)

-- an event is the source of a place
abbrev pub into_place : ℕ → ℕ → List ℕ → Places → Result Places AstgKind
into_place line event name ps =
    then_do (with_place (Named name) (named line) ps)
    (λ all. with_source (number_of_place all (Named name)) name event all)

-- a source has this target
abbrev pub link : ℕ → Node → Node → Places → Result Places AstgKind
link line (EventNode u) (EventNode v) ps = with_place (Between u v) (between line u v) ps
link line (EventNode u) (PlaceNode name) ps = into_place line u name ps
link line (PlaceNode name) (EventNode v) ps = with_target (number_of_place ps (Named name)) name v
    ps
link line (PlaceNode name) (PlaceNode other) ps = Err (NotMarkedGraph name)

-- a source has this word as a target
abbrev pub link_word : Declared → ℕ → Node → List ℕ → Places → Result Places AstgKind
link_word signals line source word ps =
    then_do (node_of_word signals word) (λ target. link line source target ps)

-- a source has these words as targets
abbrev pub link_words : Declared → ℕ → Node → List (List ℕ) → Places → Result Places AstgKind
link_words signals line source words ps = all_of (link_word signals line source) words ps

-- a source stands there: an event is, a place is from here on
abbrev pub with_node : ℕ → Node → Places → Result Places AstgKind
with_node line (EventNode u) ps = Ok ps
with_node line (PlaceNode name) ps = with_place (Named name) (named line) ps

-- a source with its targets, of which there is one
abbrev pub source_line : Declared → ℕ → List (List ℕ) → Node → Places → Result Places AstgKind
source_line signals line words source ps =
    if nat_lt (length words) 2 then Err (BadWord (word_at words 0))
    else then_do (with_node line source ps) (link_words signals line source (drop 1 words))

-- the places after a line of the graph part
abbrev pub graph_line : Declared → ℕ → List (List ℕ) → Places → Result Places AstgKind
graph_line signals line words ps =
    then_do (node_of_word signals (word_at words 0))
    (λ source. source_line signals line words source ps)
