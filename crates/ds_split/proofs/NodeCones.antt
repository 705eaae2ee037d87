-- The nets of the nodes, and the cone of each that settles.
use Rattle.std.proofs.Common.{◌≡◌, ◌∙◌, ℕ, ◌+◌, ◌<◌, List, [], ◌∷◌, ◌++◌, length, get_or, not, arith, ap, refl, sym, subst, inl, inr, ◌==◌}
use Rattle.std.specs.Prelude.{All}
use Rattle.std.specs.List.{list_any}
use Rattle.std.proofs.lemmas.Bool.{cases_eq}
use Rattle.std.proofs.lemmas.List.{get_or_append_left, get_or_default, get_or_push, length-map}
use Rattle.std.proofs.lemmas.List.Elements.{All-filter, All-map}
use Rattle.ds_design.specs.Circuit.{control_nets, data_nets, register_nets}
use Rattle.ds_design.specs.InRange.{IsInRange}
use Rattle.ds_design.specs.declared.design.Register.{Register}
use Rattle.ds_latch.specs.Node.{Split, IsNode, number_of, members, nets_of}
use Rattle.ds_latch.specs.declared.node.Node.{Node}
use Rattle.ds_latch.specs.declared.node.Node.TheVariants.{In, Out, Master, Slave}
use Rattle.ds_latch.specs.Plan.{IsSplit}
use Rattle.ds_settle.specs.Cone.{IsCone, Parts}
use Rattle.ds_split.specs.Cones.{AreCones, IsConeAt, cone_place}
use Rattle.ds_split.specs.Settled.{IsSettling}

-- the nets of each node are nets of the design
module _ (s : Split) (split : IsSplit s) (range : IsInRange s.circuit) where
  abbrev IsNet : ℕ → Type 0
  IsNet net = net < length s.circuit.nets

  data_within : All (λ net. net < length s.circuit.nets) (data_nets s.circuit)
  data_within = All-map IsNet (λ (r : Register). r.data_net) s.circuit.registers (λ k d inside. (range.registers k d inside).0)

  outputs_within : All (λ net. net < length s.circuit.nets) (register_nets s.circuit)
  outputs_within = All-map IsNet (λ (r : Register). r.output) s.circuit.registers (λ k d inside. (range.registers k d inside).1)

  member_low : (i : ℕ) → i < length s.clusters → (k d : ℕ) → k < length (members s i) → get_or (members s i) k d < length s.circuit.registers
  member_low i is_cluster k d inside = split.within i [] is_cluster k d inside

  pub nets_within : (n : Node) → IsNode s n → All (λ net. net < length s.circuit.nets) (nets_of s n)
  nets_within In is_node = All-filter (λ net. not (list_any (λ clock. clock == net) (control_nets s.circuit))) IsNet s.circuit.inputs range.inputs
  nets_within Out is_node = range.outputs
  nets_within (Master i) is_node =
      let sizes : length (data_nets s.circuit) ≡ length s.circuit.registers = length-map s.circuit.registers (λ (r : Register). r.data_net) in
      All-map IsNet (λ r. get_or (data_nets s.circuit) r 0) (members s i) (λ k d inside. data_within (get_or (members s i) k d) 0 (omega (arith, member_low i is_node k d inside)))
  nets_within (Slave i) is_node =
      let sizes : length (register_nets s.circuit) ≡ length s.circuit.registers = length-map s.circuit.registers (λ (r : Register). r.output) in
      All-map IsNet (λ r. get_or (register_nets s.circuit) r 0) (members s i) (λ k d inside. outputs_within (get_or (members s i) k d) 0 (omega (arith, member_low i is_node k d inside)))

-- the nets of a node, as they are lent
pub lent : (bits : List (List ℕ)) (node index : ℕ) (item list : List ℕ) → list ≡ item → item ≡ get_or bits index item → index ≡ node → node < length bits → list ≡ get_or bits node []
lent bits node index item list list_is item_is index_is inside =
    list_is ∙ (item_is ∙ (ap (λ (n : ℕ). get_or bits n item) index_is ∙ get_or_default bits node item [] inside))

-- the cone of a node that settles stands at its place
pub cone_low : (s : Split) (n : Node) → IsNode s n → IsSettling n → cone_place n < length s.clusters + 1
cone_low s In is_node settling = absurd settling
cone_low s Out is_node settling = omega arith
cone_low s (Master i) is_node settling = (let h : i < length s.clusters = is_node in omega (h, arith))
cone_low s (Slave i) is_node settling = absurd settling

pub cone_at : (s : Split) (cones : List Parts) → AreCones s cones → (number place : ℕ) → ((n : Node) → number_of n ≡ number → place ≡ cone_place n) → (cone : Parts) → cone ≡ get_or cones place cone → IsConeAt s number cone
cone_at s cones are number place place_is cone is n at =
    subst (IsCone s.circuit (nets_of s n)) (ap (λ (k : ℕ). get_or cones k cone) (sym (place_is n at.is)) ∙ sym is)
    (are.each n at.node at.settling cone)

-- the first cone, that of OUT
pub cones_begun : (s : Split) (cones : List Parts) (cone : Parts) → cones ≡ cone ∷ [] → IsConeAt s 1 cone
    → (n : Node) → IsNode s n → IsSettling n → cone_place n < 1 → (d : Parts) → IsCone s.circuit (nets_of s n) (get_or cones (cone_place n) d)
cones_begun s cones cone is at In is_node settling below d = absurd settling
cones_begun s cones cone is at Out is_node settling below d =
    subst (λ (xs : List Parts). IsCone s.circuit (nets_of s Out) (get_or xs 0 d)) (sym is) (at Out (record { node = is_node; settling = settling; is = refl }))
cones_begun s cones cone is at (Master i) is_node settling below d = absurd (omega arith)
cones_begun s cones cone is at (Slave i) is_node settling below d = absurd settling

-- all cones
pub cones_all : (s : Split) (cones : List Parts) (i : ℕ) → i ≡ length s.clusters
    → ((n : Node) → IsNode s n → IsSettling n → cone_place n < i + 1 → (d : Parts) → IsCone s.circuit (nets_of s n) (get_or cones (cone_place n) d))
    → (n : Node) → IsNode s n → IsSettling n → (d : Parts) → IsCone s.circuit (nets_of s n) (get_or cones (cone_place n) d)
cones_all s cones i all each In is_node settling d = absurd settling
cones_all s cones i all each Out is_node settling d = each Out is_node settling (omega arith) d
cones_all s cones i all each (Master j) is_node settling d = each (Master j) is_node settling (let low : j < length s.clusters = is_node in omega arith) d
cones_all s cones i all each (Slave j) is_node settling d = absurd settling

-- one cone more
pub cones_more : (s : Split) (cones : List Parts) (cone : Parts) (i : ℕ) → length cones ≡ i + 1
    → ((n : Node) → IsNode s n → IsSettling n → cone_place n < i + 1 → (d : Parts) → IsCone s.circuit (nets_of s n) (get_or cones (cone_place n) d))
    → IsCone s.circuit (nets_of s (Master i)) cone
    → (n : Node) → IsNode s n → IsSettling n → cone_place n < i + 1 + 1 → (d : Parts) → IsCone s.circuit (nets_of s n) (get_or (cones ++ cone ∷ []) (cone_place n) d)
cones_more s cones cone i long each here In is_node settling below d = absurd settling
cones_more s cones cone i long each here Out is_node settling below d =
    subst (IsCone s.circuit (nets_of s Out)) (sym (get_or_append_left cones (cone ∷ []) d 0 (omega arith))) (each Out is_node settling (omega arith) d)
cones_more s cones cone i long each here (Master j) is_node settling below d =
    elim (cases_eq j i) [
      | inl e ↦
          subst (λ (k : ℕ). IsCone s.circuit (nets_of s (Master k)) (get_or (cones ++ cone ∷ []) (k + 1) d)) (sym e)
          (subst (IsCone s.circuit (nets_of s (Master i))) (sym (get_or_push cones cone d (i + 1) long)) here)
      | inr ne ↦ subst (IsCone s.circuit (nets_of s (Master j))) (sym (get_or_append_left cones (cone ∷ []) d (j + 1) (omega arith))) (each (Master j) is_node settling (omega arith) d)
    ]
cones_more s cones cone i long each here (Slave j) is_node settling below d = absurd settling
