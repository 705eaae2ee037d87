-- The lines that a graph is written as.
use Rattle.std.specs.Prelude.{◌≡◌, ◌≢◌, ℕ, zero, suc, ◌<◌, ◌≤◌, true, List, [], ◌∷◌, ◌++◌, length}
use Rattle.std.specs.Prelude.{codes, All, AllPairs, Ok, ltb, ◌==◌, take, drop, if◌then◌else◌}
use Rattle.std.specs.List.{flat_map, AllByRecursion}
use Rattle.ds_lines.specs.Line.{lines_of}
use Rattle.ds_lines.specs.Print.{numbered_lines, IsPlain}
use Rattle.ds_marked.specs.Graph.{Graph, IsKept}
use Rattle.ds_astg.specs.Word.{first_byte, is_signal}
use Rattle.ds_marked.specs.Log.{text_of_event}
use Rattle.ds_astg.specs.Text.{arc_at, is_further, place_name, entry_name, tokens_text, graph_text}
use Rattle.ds_astg.specs.Read.{events_of_signal, graph_of_lines}

-- the lists of the numbers below a count, one after another
abbrev pub lists_below : {X : Type 0} → (ℕ → List X) → ℕ → List X
lists_below piece zero = []
lists_below piece (suc n) = lists_below piece n ++ piece n

-- the word of an arc on the line of its source
abbrev pub target_word : Graph → ℕ → List ℕ
target_word g k = if is_further g k then place_name k else text_of_event g (arc_at g k).target

-- the same where an event is its source
abbrev pub arc_words : Graph → ℕ → ℕ → List (List ℕ)
arc_words g v k = if (arc_at g k).source == v then target_word g k ∷ [] else []

-- a line that begins with a word; no line where nothing stands behind it
abbrev pub line_behind : List ℕ → List (List ℕ) → List (List (List ℕ))
line_behind word [] = []
line_behind word (next ∷ words) = (word ∷ next ∷ words) ∷ []

-- the line of an event
abbrev pub event_lines : Graph → ℕ → List (List (List ℕ))
event_lines g v = line_behind (text_of_event g v) (lists_below (arc_words g v) (length g.arcs))

-- the line of a place of its own
abbrev pub place_lines : Graph → ℕ → List (List (List ℕ))
place_lines g k = if is_further g k then (place_name k ∷ text_of_event g (arc_at g k).target ∷ [])
    ∷ [] else []

-- the entry of an arc with tokens
abbrev pub entry_words : Graph → ℕ → List (List ℕ)
entry_words g k = if ltb 0 (arc_at g k).tokens then
    (entry_name g k ++ tokens_text (arc_at g k).tokens) ∷ [] else []

-- the lines of the graph part
abbrev pub body_lines : Graph → List (List (List ℕ))
body_lines g = lists_below (event_lines g) (length g.events)
    ++ lists_below (place_lines g) (length g.arcs)

-- the line of the marking
abbrev pub marking_words : Graph → List (List ℕ)
marking_words g = codes ".marking" ∷ codes "{"
    ∷ (lists_below (entry_words g) (length g.arcs) ++ (codes "}" ∷ []))

-- the lines behind those of the signals
abbrev pub rest_lines : Graph → List (List (List ℕ))
rest_lines g = (codes ".graph" ∷ [])
    ∷ (body_lines g ++ (marking_words g ∷ (codes ".end" ∷ []) ∷ []))

-- the lines of a graph of these signals, of which so many are its own
abbrev pub graph_words : List ℕ → ℕ → List (List ℕ) → Graph → List (List (List ℕ))
graph_words name own signals g =
    (codes ".model" ∷ name ∷ []) ∷ (codes ".outputs" ∷ take own signals)
    ∷ (line_behind (codes ".internal") (drop own signals) ++ rest_lines g)

-- a graph of signals that the reader takes, within its limits
pub record IsReadable (signals : List (List ℕ)) (g : Graph) : Type 0 where
  pub events : g.events ≡ flat_map events_of_signal signals
  pub distinct : AllPairs (λ a b. a ≢ b) signals
  pub names : All (λ signal. is_signal signal ≡ true) signals
  pub undotted : All (λ signal. first_byte signal ≢ 46) signals
  pub some : All (λ signal. 0 < length signal) signals
  pub few : length signals ≤ 65536
  pub kept : IsKept g
  pub few_arcs : length g.arcs ≤ 1048576
  pub tokens : All (λ arc. arc.tokens < 256) g.arcs

-- the lines that a graph is written as stand for it, however many signals are its own
abbrev pub WrittenIsRead : Type 0
WrittenIsRead = (name : List ℕ) (own : ℕ) (signals : List (List ℕ)) (g : Graph)
    → IsReadable signals g → graph_of_lines (numbered_lines 1 (graph_words name own signals g))
    ≡ Ok g

-- the text that a graph is written as stands for it, where its lines are such as are printed
abbrev pub WrittenTextIsRead : Type 0
WrittenTextIsRead = (name : List ℕ) (own : ℕ) (signals : List (List ℕ)) (g : Graph)
    → IsReadable signals g → AllByRecursion IsPlain (graph_words name own signals g)
    → graph_of_lines (lines_of (graph_text name own g)) ≡ Ok g
