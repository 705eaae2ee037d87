-- With whom the pass of a node is, in each state that the rule of the turnstile allows.
use Rattle.std.specs.Prelude.{◌≡◌, ℕ, ◌<◌, ◌⊎◌, Some, true}
use mathlib.Core.Option.{some}
use lib.ListN.{get_elem?}
use Rattle.atomic_table.specs.Table.{State}
use Rattle.ds_fabric.specs.Showing.{Showing}
use Rattle.ds_runner.specs.TurnstileRule.{Slot, Alone, Turning, fabric, has_out, nodes_of_key, run}
use Rattle.ds_runner.specs.declared.turn_view.TurnView.{TurnView}
use Rattle.ds_runner.specs.declared.plays.Key.{Key}

-- the turn of that number lives, and has the node out
abbrev pub HasIt : State Slot TurnView → ℕ → ℕ → Type 0
HasIt s id l = (v : TurnView) × (get_elem? s.views id ≡ some v) × (v.live ≡ true)
    × (has_out v l ≡ true)

-- the slot of the node has a pass that holds it and no other, and no turn has the node out
abbrev pub IsFree : Key → State Slot TurnView → ℕ → Type 0
IsFree k s l =
    ((p : Showing) × (get_elem? s.homes l ≡ some (some (Some p))) × Alone (fabric k) (run k) l p)
    × ((id : ℕ) → ¬ HasIt s id l)

-- one turn at most has a node out
abbrev pub OneTurnHasIt : Type 0
OneTurnHasIt = (k : Key) (s : State Slot TurnView) → Turning k s → (l id other : ℕ)
    → HasIt s id l → HasIt s other l → id ≡ other

-- the pass of each node is free, or with a turn
abbrev pub PassesAreSomewhere : Type 0
PassesAreSomewhere = (k : Key) (s : State Slot TurnView) → Turning k s → (l : ℕ)
    → l < nodes_of_key k → IsFree k s l ⊎ ((id : ℕ) × HasIt s id l)
