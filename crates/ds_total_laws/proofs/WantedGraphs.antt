-- The graph that is wanted of a split design has a text, or a line refuses it.
use Rattle.std.proofs.Common.{◌≢◌, ◌⊎◌, inl, inr, ℕ, true, false, List, refl, AllPairs}
use Rattle.ds_marked.specs.Graph.{Graph}
use Rattle.ds_latch.specs.Node.{Split}
use Rattle.ds_latch.specs.Latches.{HasEdges}
use Rattle.ds_latch.specs.declared.latches.Edge.{Edge}
use Rattle.ds_split.specs.Split.{HasTooManyOrders}
use Rattle.ds_stage.specs.GraphStage.{wanted_stage}
use Rattle.ds_graph_laws.proofs.ControllersExist.{fitting_controller}
use Rattle.ds_total_laws.specs.DecidedExpansions.{ControllersAreDecided}
use Rattle.ds_total_laws.proofs.ExpansionsDecided.{expansions_are_decided}

-- the graph of the required orders is wanted: where they are not too many it is there
pub graph_wanted : (file : List ℕ) (s : Split) (edges : List Edge) → HasEdges s edges → AllPairs (λ a b. a ≢ b) edges → ¬ HasTooManyOrders s
    → (g : Graph) × (wanted_stage file false s).means g
graph_wanted file s edges has once fits =
    let (g, kept, events, orders, simple) = fitting_controller s edges has once fits in
    (g, record { kept = kept; events = events; orders = orders; simple = simple })

-- the expansion is wanted: it is there, or it is refused
pub expansion_wanted : (file : List ℕ) (s : Split) (edges : List Edge) → HasEdges s edges → AllPairs (λ a b. a ≢ b) edges
    → ((g : Graph) × (wanted_stage file true s).means g) ⊎ ((line : List ℕ) × (wanted_stage file true s).refused line)
expansion_wanted file s edges has once = elim (expansions_are_decided s edges has once) [
  | inl (g, kept, is) ↦ inl (g, record { kept = kept; expansion = is })
  | inr (limit, fault) ↦ inr (_, (limit, fault, refl))
]

-- the graph that is wanted has a text, or a line refuses it
pub controllers_are_decided : ControllersAreDecided
controllers_are_decided file false s edges has once not_many =
    let (g, is) = graph_wanted file s edges has once not_many in
    inl (_, (g, is, refl))
controllers_are_decided file true s edges has once not_many = elim (expansion_wanted file s edges has once) [
  | inl (g, is) ↦ inl (_, (g, is, refl))
  | inr (line, refused) ↦ inr (line, inl refused)
]
