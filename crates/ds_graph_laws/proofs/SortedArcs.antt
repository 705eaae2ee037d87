-- Arcs stand in order in some order of theirs.
use Rattle.std.proofs.Common.{◌⊎◌, ◌≤◌, List, arith}
use Rattle.ds_marked.specs.Graph.{StandsBefore}
use Rattle.ds_marked.specs.declared.marked.Arc.{Arc}
use Rattle.ds_graph_laws.proofs.Sorting.{InOrder, LessOr, less_cases, less_then, most_cases, put_in_order}

-- of two arcs one stands before the other
stands_cases : (a b : Arc) → StandsBefore a b ⊎ StandsBefore b a
stands_cases a b =
    less_cases (LessOr a.target b.target (a.tokens ≤ b.tokens)) (LessOr b.target a.target (b.tokens ≤ a.tokens)) a.source b.source
    (less_cases (a.tokens ≤ b.tokens) (b.tokens ≤ a.tokens) a.target b.target (most_cases a.tokens b.tokens))

-- what stands before an arc stands before what is behind it
stands_then : (a b d : Arc) → StandsBefore a b → StandsBefore b d → StandsBefore a d
stands_then a b d =
    less_then (LessOr a.target b.target (a.tokens ≤ b.tokens)) (LessOr b.target d.target (b.tokens ≤ d.tokens)) (LessOr a.target d.target (a.tokens ≤ d.tokens))
    a.source b.source d.source
    (less_then (a.tokens ≤ b.tokens) (b.tokens ≤ d.tokens) (a.tokens ≤ d.tokens) a.target b.target d.target (λ few more. omega (few, more, arith)))

-- the arcs of a list in order
abbrev pub OrderedArcs : List Arc → Type 0
OrderedArcs arcs = InOrder StandsBefore arcs

-- every list of arcs has an order
pub in_order : (arcs : List Arc) → OrderedArcs arcs
in_order = put_in_order StandsBefore stands_cases stands_then
