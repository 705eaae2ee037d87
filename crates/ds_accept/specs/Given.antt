-- Orders that walks give.
use Rattle.std.specs.Prelude.{ℕ, ◌<◌, ◌≤◌, Option, None, Some, List, length, All, min}
use Rattle.std.specs.List.{HoldsAt, AllWithin}
use Rattle.ds_marked.specs.Graph.{Graph, Walk}
use Rattle.ds_marked.specs.declared.marked.Arc.{Arc}

-- the tokens along some walk from the source to the target sum to at most those of the order
abbrev pub IsGiven : Graph → Arc → Type 0
IsGiven g order = (sum : ℕ) × (sum ≤ order.tokens) × Walk g order.source order.target sum

-- this order is not given, and those before it are
abbrev pub IsUnmetAt : Graph → List Arc → ℕ → ℕ → Type 0
IsUnmetAt g asked from k = HoldsAt (λ order. ¬ IsGiven g order) asked k
    × AllWithin (IsGiven g) asked from k

-- the place of the first order that no walk gives, or none where walks give them all
abbrev pub IsFirstUnmet : Graph → List Arc → Option ℕ → Type 0
IsFirstUnmet g asked None = All (IsGiven g) asked
IsFirstUnmet g asked (Some k) = (k < length asked) × IsUnmetAt g asked 0 k

-- the same of the orders from one place up to another
abbrev pub IsFirstUnmetBelow : Graph → List Arc → ℕ → ℕ → Option ℕ → Type 0
IsFirstUnmetBelow g asked from to None = AllWithin (IsGiven g) asked from to
IsFirstUnmetBelow g asked from to (Some k) = (k < to) × (from ≤ k) × IsUnmetAt g asked from k

-- an order with one token at most
abbrev pub capped : Arc → Arc
capped order =
    record { source = order.source; target = order.target; tokens = min order.tokens 1 }
