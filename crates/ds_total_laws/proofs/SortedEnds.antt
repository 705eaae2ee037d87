-- Ends of data edges stand in order in some order of theirs.
use Rattle.std.proofs.Common.{◌⊎◌, ◌≤◌, List, arith}
use Rattle.ds_shake.specs.Steps.{PairBefore}
use Rattle.ds_shake.specs.declared.edge_ends.EdgeEnds.{EdgeEnds}
use Rattle.ds_graph_laws.proofs.Sorting.{InOrder, less_cases, less_then, most_cases, put_in_order}

-- of two ends one stands before the other
ends_cases : (a b : EdgeEnds) → PairBefore a b ⊎ PairBefore b a
ends_cases a b = less_cases (a.consumer ≤ b.consumer) (b.consumer ≤ a.consumer) a.producer b.producer (most_cases a.consumer b.consumer)

ends_then : (a b d : EdgeEnds) → PairBefore a b → PairBefore b d → PairBefore a d
ends_then a b d = less_then (a.consumer ≤ b.consumer) (b.consumer ≤ d.consumer) (a.consumer ≤ d.consumer) a.producer b.producer d.producer (λ few more. omega (few, more, arith))

-- every list of ends has an order
pub ends_in_order : (ends : List EdgeEnds) → InOrder PairBefore ends
ends_in_order = put_in_order PairBefore ends_cases ends_then
