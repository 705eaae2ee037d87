-- Lists of orders and of events grow by those of one node or cluster.
use Rattle.std.proofs.Common.{◌≡◌, ℕ, ◌+◌, List, [], ◌∷◌, ◌++◌, ap, sym, ◌∙◌, append_assoc}
use Rattle.ds_marked.specs.declared.marked.Arc.{Arc}
use Rattle.ds_marked.specs.declared.marked.Event.{Event}
use Rattle.ds_latch.specs.declared.node.Node.TheVariants.{Master, Slave}
use Rattle.ds_latch.specs.Plan.{node_events}
use Rattle.ds_control.specs.Orders.{closing_arc, opening_arc, node_arcs, cluster_events}
use Rattle.ds_control.proofs.TwoForEach.{flat_map_next}

pub arc_is : (a : Arc) (s t k u v : ℕ) → a ≡ record { source = s; target = t; tokens = k } → s ≡ u → t ≡ v → a ≡ record { source = u; target = v; tokens = k }
arc_is a s t k u v is e f = is ∙ (ap (λ (x : ℕ). let r : Arc = record { source = x; target = t; tokens = k } in r) e ∙ ap (λ (x : ℕ). let r : Arc = record { source = u; target = x; tokens = k } in r) f)

pub node_pushed : (old : List Arc) (i : ℕ) (a b : Arc) → a ≡ closing_arc i → b ≡ opening_arc i → (old ++ node_arcs i ++ a ∷ []) ++ b ∷ [] ≡ old ++ node_arcs (i + 1)
node_pushed old i a b first second =
    append_assoc (old ++ node_arcs i) (a ∷ []) (b ∷ [])
    ∙ (append_assoc old (node_arcs i) (a ∷ b ∷ [])
    ∙ ap (λ (xs : List Arc). old ++ xs) (ap (λ (x : Arc). node_arcs i ++ x ∷ b ∷ []) first
    ∙ (ap (λ (x : Arc). node_arcs i ++ closing_arc i ∷ x ∷ []) second
    ∙ sym (flat_map_next (λ n. closing_arc n ∷ opening_arc n ∷ []) i))))

pub cluster_pushed : (old : List Event) (i : ℕ) → (old ++ cluster_events i) ++ (node_events (Master i) ++ node_events (Slave i)) ≡ old ++ cluster_events (i + 1)
cluster_pushed old i =
    append_assoc old (cluster_events i) (node_events (Master i) ++ node_events (Slave i))
    ∙ ap (λ (xs : List Event). old ++ xs) (sym (flat_map_next (λ n. node_events (Master n) ++ node_events (Slave n)) i))
