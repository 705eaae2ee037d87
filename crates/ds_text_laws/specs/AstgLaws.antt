-- What follows of the text of a marked graph, by the definitions.
use Rattle.std.specs.Prelude.{◌≡◌, ◌≢◌, ℕ, ◌<◌, ◌^◌, true, List, ◌++◌, codes, slice_get}
use Rattle.std.specs.Prelude.{AllPairs, Ok, Some, false}
use Rattle.std.specs.List.{list_any}
use Rattle.ds_lines.specs.Line.{Line}
use Rattle.ds_marked.specs.Graph.{Graph, IsKept}
use Rattle.ds_marked.specs.declared.marked.Event.{Event}
use Rattle.ds_marked.specs.Log.{event_text}
use Rattle.ds_astg.specs.Word.{is_byte, is_signal}
use Rattle.ds_astg.specs.Signals.{Declared, role_of}
use Rattle.ds_astg.specs.Node.{node_of_word, event_in}
use Rattle.ds_astg.specs.Node.Node.{Event as EventNode, Place as PlaceNode}
use Rattle.ds_astg.specs.Place.Key.{Between}
use Rattle.ds_astg.specs.Marking.{key_in, place_text, tokens_of_entry}
use Rattle.ds_astg.specs.Read.{all_events, graph_of_lines}
use Rattle.ds_astg.specs.Text.{place_name, tokens_text}
use Rattle.ds_astg.specs.declared.role.Role.TheVariants.{Dummy}

-- an event, as it is written, is read as the event with its number
abbrev pub EventsAreRead : Type 0
EventsAreRead = (signals : Declared) (v : ℕ) (e : Event) → AllPairs (λ a b. a ≢ b) signals.names
    → slice_get (all_events signals.names signals.roles) v ≡ Some e → is_signal e.signal ≡ true
    → node_of_word signals (event_text e) ≡ Ok (EventNode v)

-- the name of an arc's own place, as it is written, is read as a place, where no dummy has it
abbrev pub PlacesAreRead : Type 0
PlacesAreRead = (signals : Declared) (k : ℕ) → k < 2 ^ 64
    → role_of signals (place_name k) ≢ Some Dummy
    → node_of_word signals (place_name k) ≡ Ok (PlaceNode (place_name k))

-- an entry with its tokens, as it is written, is read as what stands before the tokens, and these
abbrev pub TokensAreRead : Type 0
TokensAreRead = (text : List ℕ) (tokens : ℕ) → list_any (is_byte 61) text ≡ false → 0 < tokens
    → tokens < 256
    → (place_text (text ++ tokens_text tokens) ≡ text)
    × (tokens_of_entry (text ++ tokens_text tokens) ≡ Some tokens)

-- two events between brackets are read as the place between them
abbrev pub EndsAreRead : Type 0
EndsAreRead = (signals : Declared) (source target : List ℕ) (u v : ℕ)
    → event_in signals source ≡ Some u → event_in signals target ≡ Some v
    → list_any (is_byte 44) source ≡ false
    → key_in signals (codes "<" ++ source ++ codes "," ++ target ++ codes ">") ≡ Some (Between u v)

-- the graph that lines stand for is kept: its arcs join its events and are in order, and no event
-- stands twice
abbrev pub ReadGraphsAreKept : Type 0
ReadGraphsAreKept = (lines : List Line) (g : Graph) → graph_of_lines lines ≡ Ok g → IsKept g
