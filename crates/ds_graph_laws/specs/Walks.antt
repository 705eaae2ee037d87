-- Least sums of tokens exist, so it is decided whether a walk has few tokens.
use Rattle.std.specs.Prelude.{◌⊎◌, ℕ, ◌≤◌, List, Option}
use Rattle.ds_marked.specs.Graph.{Graph, Walk}
use Rattle.ds_accept.specs.Sums.{AreLeastSums}
use Rattle.ds_accept.specs.Fault.{ShowsLeast}

-- each graph has least sums from each event
abbrev pub LeastSumsExist : Type 0
LeastSumsExist = (g : Graph) (from : ℕ) → (sums : List (Option ℕ)) × AreLeastSums g from sums

-- the tokens along some walk from one event to another sum to at most these
abbrev pub HasWalkWithin : Graph → ℕ → ℕ → ℕ → Type 0
HasWalkWithin g from to tokens = (sum : ℕ) × Walk g from to sum × (sum ≤ tokens)

-- between any two events there is such a walk or there is none
abbrev pub WalksAreDecided : Type 0
WalksAreDecided = (g : Graph) (from to tokens : ℕ)
    → HasWalkWithin g from to tokens ⊎ (¬ HasWalkWithin g from to tokens)

-- what the least sum between two events is can be shown
abbrev pub LeastIsShown : Type 0
LeastIsShown = (g : Graph) (from to : ℕ)
    → (least : Option ℕ) × (numbers : List (Option ℕ)) × ShowsLeast g from to least numbers
