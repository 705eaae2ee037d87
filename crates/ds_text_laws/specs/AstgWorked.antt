-- Texts of marked graphs, worked by hand, against the words of the format.
use Rattle.std.specs.Prelude.{◌≡◌, ℕ, List, [], ◌∷◌, ◌++◌, codes, Ok, Err}
use Rattle.ds_lines.specs.Line.{lines_of}
use Rattle.ds_lines.specs.Worked.{physical}
use Rattle.ds_marked.specs.Graph.{Graph}
use Rattle.ds_marked.specs.declared.marked.Arc.{Arc}
use Rattle.ds_marked.specs.declared.marked.Event.{Event}
use Rattle.ds_marked.specs.declared.marked.Kind.TheVariants.{Dummy}
use Rattle.ds_astg.specs.Read.{graph_of_lines, events_of_signal}
use Rattle.ds_astg.specs.declared.fault.AstgKind.{AstgKind}
use Rattle.ds_astg.specs.declared.fault.AstgKind.TheVariants.{Unsupported, BadWord, Instance}
use Rattle.ds_astg.specs.declared.fault.AstgKind.TheVariants.{UnknownSignal, NotMarkedGraph}
use Rattle.ds_astg.specs.declared.fault.AstgKind.TheVariants.{BadMarking}

-- a text of these physical lines stands for this graph
abbrev pub Means : List (List ℕ) → Graph → Type 0
Means text graph = graph_of_lines (lines_of (physical text)) ≡ Ok graph

-- a text of these physical lines has this fault first
abbrev pub HasGraphFault : List (List ℕ) → ℕ → AstgKind → Type 0
HasGraphFault text line kind =
    graph_of_lines (lines_of (physical text)) ≡ Err (record { line = line; kind = kind })

-- an arc
abbrev pub worked_arc : ℕ → ℕ → ℕ → Arc
worked_arc source target tokens = record { source = source; target = target; tokens = tokens }

-- the lines of the toggle's graph before its marking
abbrev pub toggle_head : List (List ℕ)
toggle_head =
    codes ".model toggle"
    ∷ codes ".outputs IN OUT M0 S0"
    ∷ codes ".graph"
    ∷ codes "IN+ IN- M0+"
    ∷ codes "IN- IN+"
    ∷ codes "OUT+ OUT-"
    ∷ codes "OUT- OUT+ S0+"
    ∷ codes "M0+ M0- S0+"
    ∷ codes "M0- IN+ M0+ S0+"
    ∷ codes "S0+ OUT+ M0+ S0-"
    ∷ codes "S0- M0+ S0+"
    ∷ []

-- the entries of its marking
abbrev pub toggle_entries : List ℕ
toggle_entries =
    codes " <IN-,IN+> <OUT-,OUT+> <M0-,IN+> <M0-,M0+> <S0+,OUT+> <S0+,M0+> <S0-,M0+> <S0-,S0+>"

-- its marking, with another entry
abbrev pub toggle_marking : List ℕ → List ℕ
toggle_marking entry = codes ".marking {" ++ toggle_entries ++ entry ++ codes " }"

-- the toggle's graph with these lines before its marking, from line 12 on
abbrev pub toggle_with : List (List ℕ) → List (List ℕ)
toggle_with lines = toggle_head ++ lines ++ toggle_marking [] ∷ codes ".end" ∷ []

-- the toggle's graph
abbrev pub toggle_graph : Graph
toggle_graph = record {
  events = events_of_signal (codes "IN") ++ events_of_signal (codes "OUT")
      ++ events_of_signal (codes "M0")
      ++ events_of_signal (codes "S0");
  arcs =
      worked_arc 0 1 0 ∷ worked_arc 0 4 0 ∷ worked_arc 1 0 1 ∷ worked_arc 2 3 0 ∷ worked_arc 3 2 1
      ∷ worked_arc 3 6 0 ∷ worked_arc 4 5 0 ∷ worked_arc 4 6 0
      ∷ worked_arc 5 0 1 ∷ worked_arc 5 4 1 ∷ worked_arc 5 6 0 ∷ worked_arc 6 2 1 ∷ worked_arc 6 4 1
      ∷ worked_arc 6 7 0 ∷ worked_arc 7 4 1
      ∷ worked_arc 7 6 1 ∷ [];
}

-- the toggle's graph, as it is written
abbrev pub ToggleIsWorked : Type 0
ToggleIsWorked = Means (toggle_with []) toggle_graph

-- the toggle's graph with a line too many, and with an entry too many
pub record ToggleFaults : Type 0 where
  pub two_targets : HasGraphFault (toggle_with (codes "M0- p" ∷ codes "p M0+ S0+" ∷ [])) 13
      (NotMarkedGraph (codes "p"))
  pub no_target : HasGraphFault (toggle_with (codes "M0- p" ∷ [])) 12 (NotMarkedGraph (codes "p"))
  pub instance : HasGraphFault (toggle_with (codes "IN+/2 IN-" ∷ [])) 12 (Instance (codes "IN+/2"))
  pub entry : HasGraphFault (toggle_head ++ toggle_marking (codes " <M0+,IN+>") ∷ []) 12
      (BadMarking (codes "<M0+,IN+>"))

-- two signals, the graph part open, and these lines from line 3 on
abbrev pub from_three : List (List ℕ) → List (List ℕ)
from_three lines = codes ".inputs a b" ∷ codes ".graph" ∷ lines

-- the events of these signals
abbrev pub two_signals : List Event
two_signals = events_of_signal (codes "a") ++ events_of_signal (codes "b")

-- these arcs between them
abbrev pub graph_with : List Arc → Graph
graph_with arcs = record { events = two_signals; arcs = arcs }

-- a signal, two dummies, and a signal behind them, the graph part open, and these lines from line 5
-- on
abbrev pub from_five : List (List ℕ) → List (List ℕ)
from_five lines =
    codes ".inputs a" ∷ codes ".dummy e f" ∷ codes ".outputs b" ∷ codes ".graph" ∷ lines

-- these arcs between their six events
abbrev pub graph_with_dummies : List Arc → Graph
graph_with_dummies arcs = record {
  events = events_of_signal (codes "a") ++ record { signal = codes "e"; kind = Dummy }
      ∷ record { signal = codes "f"; kind = Dummy } ∷ events_of_signal (codes "b");
  arcs = arcs;
}

-- declarations that add up, one twice; a graph part that is closed and opened again; words behind
-- `.graph` and `.end`; places without an entry, one of which has the name of a signal and two of
-- which have the same ends; numbers of tokens; braces that touch entries; dummies as sources and
-- targets of places and in the marking, and one that is declared twice; no text
pub record GraphsAreWorked : Type 0 where
  pub empty : Means [] (record { events = []; arcs = [] })
  pub declared : Means (codes ".inputs a" ∷ codes ".outputs b a" ∷ codes ".end" ∷ codes "x" ∷ [])
      (graph_with [])
  pub again : Means (from_three (codes "a+ b+" ∷ codes ".internal b" ∷ codes ".graph of m"
      ∷ codes "a+ a- b+" ∷ codes ".end" ∷ []))
      (graph_with (worked_arc 0 1 0 ∷ worked_arc 0 2 0 ∷ []))
  pub places : Means (from_three (codes "p b+" ∷ codes "a+ p b b+ p" ∷ codes "b b+" ∷ []))
      (graph_with (worked_arc 0 2 0 ∷ worked_arc 0 2 0 ∷ worked_arc 0 2 0 ∷ []))
  pub tokens : Means (from_three (codes "a+ a- a+" ∷ codes "a- p" ∷ codes "p a+"
      ∷ codes ".marking {<a+,a->=001 <a+,a+>=255 p=0}" ∷ []))
      (graph_with (worked_arc 0 0 255 ∷ worked_arc 0 1 1 ∷ worked_arc 1 0 0 ∷ []))
  pub later : Means (from_three (codes ".marking {}" ∷ codes ".graph" ∷ codes "a+ p"
      ∷ codes "p b-" ∷ codes ".end" ∷ codes "p a-" ∷ [])) (graph_with (worked_arc 0 3 0 ∷ []))
  pub dummies : Means (from_five (codes "a+ e b+" ∷ codes "e f p" ∷ codes "p b-" ∷ codes "f a+"
      ∷ codes ".dummy e" ∷ codes ".marking { p <f,a+>=2 <a+,e> }" ∷ []))
      (graph_with_dummies (worked_arc 0 2 1 ∷ worked_arc 0 4 0 ∷ worked_arc 2 3 0 ∷ worked_arc 2 5 1
      ∷ worked_arc 3 0 2 ∷ []))

-- lines with a word that is none
pub record FaultsOfWords : Type 0 where
  pub capacity : HasGraphFault (codes ".capacity p=2" ∷ []) 1 (Unsupported (codes ".capacity"))
  pub outside : HasGraphFault (codes "a+ b+" ∷ []) 1 (BadWord (codes "a+"))
  pub closed : HasGraphFault (from_three (codes ".model m" ∷ codes "a+ b+" ∷ [])) 4
      (BadWord (codes "a+"))
  pub lone : HasGraphFault (from_three (codes "a+" ∷ [])) 3 (BadWord (codes "a+"))
  pub lone_instance : HasGraphFault (from_three (codes "a+/2" ∷ [])) 3 (Instance (codes "a+/2"))
  pub lone_unknown : HasGraphFault (from_three (codes "c+" ∷ [])) 3 (UnknownSignal (codes "c+"))
  pub toggled : HasGraphFault (from_three (codes "a+ b~" ∷ [])) 3 (BadWord (codes "b~"))
  pub unknown : HasGraphFault (from_three (codes "a+ c- d/" ∷ [])) 3 (UnknownSignal (codes "c-"))
  pub signal : HasGraphFault (codes ".inputs a b+ c=" ∷ []) 1 (BadWord (codes "b+"))
  pub two_models : HasGraphFault (codes ".model m" ∷ codes ".model m" ∷ []) 2
      (BadWord (codes ".model"))
  pub no_model : HasGraphFault (codes ".model" ∷ []) 1 (BadWord (codes ".model"))

-- lines with a dummy that is none, or that is something else too
pub record FaultsOfDummies : Type 0 where
  pub signed : HasGraphFault (codes ".dummy e f+ g=" ∷ []) 1 (BadWord (codes "f+"))
  pub a_signal : HasGraphFault (codes ".outputs M0" ∷ codes ".dummy M0" ∷ []) 2
      (BadWord (codes "M0"))
  pub a_dummy : HasGraphFault (codes ".dummy M0" ∷ codes ".outputs M0" ∷ []) 2
      (BadWord (codes "M0"))
  pub a_place : HasGraphFault (toggle_with (codes "M0- e" ∷ codes "e S0+" ∷ codes ".dummy e" ∷ []))
      14
      (BadWord (codes "e"))
  pub a_place_too : HasGraphFault (toggle_with (codes "M0- e" ∷ codes "e S0+" ∷ codes ".outputs f e"
      ∷ [])) 14 (BadWord (codes "e"))
  pub again : HasGraphFault (from_five (codes "a+ b" ∷ codes "b b+" ∷ codes ".outputs b" ∷ [])) 7
      (BadWord (codes "b"))
  pub rises : HasGraphFault (from_five (codes "a+ e+" ∷ [])) 5 (UnknownSignal (codes "e+"))
  pub instance : HasGraphFault (from_five (codes "e/1 e" ∷ [])) 5 (Instance (codes "e/1"))
  pub lone : HasGraphFault (from_five (codes "e" ∷ [])) 5 (BadWord (codes "e"))
  pub entry : HasGraphFault (from_five (codes "a+ e" ∷ codes ".marking { e }" ∷ [])) 6
      (BadMarking (codes "e"))
  pub later : HasGraphFault (from_five (codes "a+ g" ∷ codes "g b+" ∷ codes ".dummy h"
      ∷ codes ".marking { <a+,g> }" ∷ [])) 8 (BadMarking (codes "<a+,g>"))

-- places that are none of a marked graph
pub record FaultsOfPlaces : Type 0 where
  pub adjacent : HasGraphFault (from_three (codes "p q" ∷ [])) 3 (NotMarkedGraph (codes "p"))
  pub two_sources : HasGraphFault (from_three (codes "a+ p" ∷ codes "b+ p" ∷ [])) 4
      (NotMarkedGraph (codes "p"))
  pub dotted : HasGraphFault (from_three (codes "a+ .p" ∷ codes ".end" ∷ [])) 3
      (NotMarkedGraph (codes ".p"))
  pub no_source : HasGraphFault (from_three (codes "a+ q" ∷ codes "p b+" ∷ codes "q b+" ∷ [])) 4
      (NotMarkedGraph (codes "p"))

-- markings with a bad entry, or without their braces
pub record FaultsOfMarkings : Type 0 where
  pub unknown : HasGraphFault (from_three (codes "a+ b+" ∷ codes ".marking { p }" ∷ [])) 4
      (BadMarking (codes "p"))
  pub later : HasGraphFault (from_three (codes ".marking { p }" ∷ codes "a+ p" ∷ [])) 3
      (BadMarking (codes "p"))
  pub repeated : HasGraphFault (from_three (codes "a+ b+" ∷ codes ".marking { <a+,b+> <a+,b+>=2 }"
      ∷ []))
      4 (BadMarking (codes "<a+,b+>=2"))
  pub number : HasGraphFault (from_three (codes "a+ b+" ∷ codes ".marking { <a+,b+>=256 }" ∷ [])) 4
      (BadMarking (codes "<a+,b+>=256"))
  pub long : HasGraphFault (from_three (codes "a+ b+" ∷ codes ".marking { <a+,b+>=0001 }" ∷ [])) 4
      (BadMarking (codes "<a+,b+>=0001"))
  pub brace : HasGraphFault (from_three (codes "a+ b+" ∷ codes ".marking {<a+,b+>} }" ∷ [])) 4
      (BadMarking (codes "<a+,b+>}"))
  pub parted : HasGraphFault (from_three (codes "a+ b+" ∷ codes ".marking { <a+, b+> }" ∷ [])) 4
      (BadMarking (codes "<a+,"))
  pub unopened : HasGraphFault (codes ".marking }" ∷ []) 1 (BadMarking (codes ".marking"))
  pub unclosed : HasGraphFault (codes ".marking {" ∷ []) 1 (BadMarking (codes ".marking"))
  pub none : HasGraphFault (codes ".marking" ∷ []) 1 (BadMarking (codes ".marking"))
  pub two : HasGraphFault (codes ".marking {}" ∷ codes ".marking { p }" ∷ []) 2
      (BadMarking (codes ".marking"))

-- each kind of fault
pub record GraphFaultsAreWorked : Type 0 where
  pub toggle : ToggleFaults
  pub words : FaultsOfWords
  pub dummies : FaultsOfDummies
  pub places : FaultsOfPlaces
  pub markings : FaultsOfMarkings
