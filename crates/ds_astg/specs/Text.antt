-- The text of a marked graph, in the `.g` form of SIS and petrify.
use Rattle.std.specs.Prelude.{ℕ, ◌-◌, ◌*◌, Bool, List, [], ◌++◌, length, codes, decimal, ltb}
use Rattle.std.specs.Prelude.{◌&&◌, ◌==◌, take, drop, slice_index_or, if◌then◌else◌}
use Rattle.std.specs.List.{flat_map}
use Rattle.ds_marked.specs.Graph.{Graph}
use Rattle.ds_marked.specs.declared.marked.Arc.{Arc}
use Rattle.ds_marked.specs.declared.marked.Event.{Event}
use Rattle.ds_marked.specs.declared.marked.Kind.{Kind}
use Rattle.ds_marked.specs.declared.marked.Kind.TheVariants.{Rise, Fall, Dummy}
use Rattle.ds_marked.specs.Log.{text_of_event}
use Rattle.ds_astg.specs.Pieces.{all_below, line_with}

-- an arc with a number
abbrev pub arc_at : Graph → ℕ → Arc
arc_at g k = slice_index_or g.arcs k (record { source = 0; target = 0; tokens = 0 })

-- two arcs have the same ends
abbrev pub have_same_ends : Arc → Arc → Bool
have_same_ends a b = (a.source == b.source) && (a.target == b.target)

-- an arc with the same ends stands before this one
abbrev pub is_further : Graph → ℕ → Bool
is_further g k = ltb 0 k && have_same_ends (arc_at g (k - 1)) (arc_at g k)

-- the name of the place of such an arc
abbrev pub place_name : ℕ → List ℕ
place_name k = codes "p" ++ decimal k

-- a signal that rises, with a blank before it
abbrev pub rising : Kind → List ℕ → List ℕ
rising Rise signal = codes " " ++ signal
rising Fall signal = []
rising Dummy signal = []

-- the signal of an event that rises
abbrev pub signal_of : Event → List ℕ
signal_of e = rising e.kind e.signal

-- the signals that rise among these events
abbrev pub signals_text : List Event → List ℕ
signals_text events = flat_map signal_of events

-- the lines of the signals: the graph's own, which are so many and come first, and the further
-- ones, where there are some
abbrev pub signal_lines : ℕ → List Event → List ℕ
signal_lines own events =
    codes ".outputs" ++ signals_text (take (2 * own) events) ++ codes "\n"
    ++ line_with (codes ".internal") (signals_text (drop (2 * own) events))

-- what stands for an arc on the line of its source: its target, or its place
abbrev pub target_text : Graph → ℕ → List ℕ
target_text g k = codes " "
    ++ (if is_further g k then place_name k else text_of_event g (arc_at g k).target)

-- the same on the line of an event, where the arc begins there
abbrev pub arc_text : Graph → ℕ → ℕ → List ℕ
arc_text g v k = if (arc_at g k).source == v then target_text g k else []

-- an event from which arcs lead: the event, and what stands for them in their order
abbrev pub event_line : Graph → ℕ → List ℕ
event_line g v = line_with (text_of_event g v) (all_below (arc_text g v) (length g.arcs))

-- a place of its own: the place, and the target of its arc
abbrev pub place_line : Graph → ℕ → List ℕ
place_line g k =
    if is_further g k then place_name k ++ codes " " ++ text_of_event g (arc_at g k).target
    ++ codes "\n" else []

-- what stands for an arc in the marking: its ends, or its place
abbrev pub entry_name : Graph → ℕ → List ℕ
entry_name g k =
    if is_further g k then place_name k
    else codes "<" ++ text_of_event g (arc_at g k).source ++ codes ","
    ++ text_of_event g (arc_at g k).target ++ codes ">"

-- two tokens or more as a number, one token without
abbrev pub tokens_text : ℕ → List ℕ
tokens_text tokens = if ltb 1 tokens then codes "=" ++ decimal tokens else []

-- the entry of an arc with tokens, with a blank before it
abbrev pub entry_text : Graph → ℕ → List ℕ
entry_text g k =
    if ltb 0 (arc_at g k).tokens then codes " " ++ entry_name g k
    ++ tokens_text (arc_at g k).tokens else []

-- the whole text: the signals, of which so many are the graph's own, a line for each event from
-- which arcs lead, a line for each place of its own, the marking
abbrev pub graph_text : List ℕ → ℕ → Graph → List ℕ
graph_text name own g =
    codes ".model " ++ name ++ codes "\n" ++ signal_lines own g.events
    ++ codes ".graph\n" ++ all_below (event_line g) (length g.events)
    ++ all_below (place_line g) (length g.arcs)
    ++ codes ".marking {" ++ all_below (entry_text g) (length g.arcs) ++ codes " }\n.end\n"
