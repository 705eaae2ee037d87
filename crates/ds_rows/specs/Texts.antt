-- The events of a graph by their texts.
use Rattle.std.specs.Prelude.{ℕ, List, map}
use Rattle.ds_lines.specs.Names.{place_of_name}
use Rattle.ds_marked.specs.Graph.{Graph}
use Rattle.ds_marked.specs.Log.{event_text}

-- the events, as they are written
abbrev pub event_texts : Graph → List (List ℕ)
event_texts g = map event_text g.events

-- the first event that is written so; past the events where none is
abbrev pub event_by_text : Graph → List ℕ → ℕ
event_by_text g word = place_of_name (event_texts g) word
