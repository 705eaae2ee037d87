-- A node has fewer nets than 2 ^ 32.
use Rattle.std.proofs.Common.{◌≡◌, ◌≢◌, ◌∙◌, ℕ, zero, suc, ◌<◌, ◌≤◌, ◌^◌, not, List, [], ◌∷◌}
use Rattle.std.proofs.Common.{◌==◌, length, get_or, arith, ap, sym, subst}
use Rattle.std.specs.Prelude.{All, AllPairs}
use Rattle.std.specs.List.{flat_map, list_any}
use Rattle.std.proofs.lemmas.Bool.{eqb-true}
use Rattle.std.proofs.lemmas.Bool.Decides.{Decides-eqb}
use Rattle.std.proofs.lemmas.List.{get_or_default, length-map}
use Rattle.std.proofs.lemmas.List.Elements.{All-contains}
use Rattle.std.proofs.lemmas.List.Sums.{count_by-le-length, length-filter}
use Rattle.std.proofs.lemmas.Map.Made.{IsDistinct-from_AllPairs}
use Rattle.std.proofs.lemmas.Map.Steps.{length-le_from_distinct_below}
use Rattle.std.proofs.lemmas.Map.Views.{Contains-from_any}
use Rattle.ds_base.proofs.AppendedPairs.{pairs-left, pairs-right}
use Rattle.ds_design.specs.Circuit.{control_nets, data_nets, register_nets}
use Rattle.ds_design.specs.InRange.{IsInRange}
use Rattle.ds_latch.specs.Node.{Split, IsNode, members, nets_of}
use Rattle.ds_latch.specs.declared.node.Node.{Node}
use Rattle.ds_latch.specs.declared.node.Node.TheVariants.{In, Out, Master, Slave}
use Rattle.ds_latch.specs.Node.{nodes, number_of}
use Rattle.ds_latch.specs.Plan.{IsSplit}
use Rattle.ds_latch.proofs.EventNodes.{node_at}

-- different numbers below one are no more than it
few_below : (xs : List ℕ) (n : ℕ) → AllPairs (λ a b. a ≢ b) xs → All (λ x. x < n) xs
    → length xs ≤ n
few_below xs n once low =
    length-le_from_distinct_below xs n (IsDistinct-from_AllPairs Decides-eqb xs once)
    (λ x is. All-contains (λ y. y < n) xs x low (Contains-from_any eqb-true x xs is))

-- a number that stands once in lists one behind the other stands once in each
once_in : (lists : List (List ℕ)) → AllPairs (λ a b. a ≢ b) (flat_map (λ xs. xs) lists)
    → (i : ℕ) → i < length lists → AllPairs (λ a b. a ≢ b) (get_or lists i [])
once_in [] once i inside = absurd (omega arith)
once_in (xs ∷ lists) once zero inside = pairs-left xs (flat_map (λ xs. xs) lists) once
once_in (xs ∷ lists) once (suc i) inside =
    once_in lists (pairs-right xs (flat_map (λ xs. xs) lists) once) i (omega arith)

module _ (s : Split) (split : IsSplit s) (range : IsInRange s.circuit)
    (outputs_once : AllPairs (λ a b. a ≢ b) s.circuit.outputs) where
  members_few : (i : ℕ) → i < length s.clusters → length (members s i) < 2 ^ 32
  members_few i inside = omega (
    arith,
    few_below (members s i) (length s.circuit.registers)
        (once_in s.clusters split.once i inside) (split.within i [] inside),
    range.few_registers,
  )

  nets_few : (n : Node) → IsNode s n → length (nets_of s n) < 2 ^ 32
  nets_few In is_node =
      let column = λ (net : ℕ). not (list_any (λ clock. clock == net) (control_nets s.circuit)) in
      omega (
        arith,
        length-filter column s.circuit.inputs,
        count_by-le-length column s.circuit.inputs,
        few_below s.circuit.inputs (length s.circuit.nets) range.inputs_once range.inputs,
        range.few_nets,
      )
  nets_few Out is_node = omega (
    arith,
    few_below s.circuit.outputs (length s.circuit.nets) outputs_once range.outputs,
    range.few_nets,
  )
  nets_few (Master i) is_node = omega (
    arith,
    length-map (members s i) (λ r. get_or (data_nets s.circuit) r 0),
    members_few i is_node,
  )
  nets_few (Slave i) is_node = omega (
    arith,
    length-map (members s i) (λ r. get_or (register_nets s.circuit) r 0),
    members_few i is_node,
  )

  -- so it is of lists that are those of the nodes
  pub bits_few : (bits : List (List ℕ)) → length bits ≡ nodes s
      → ((n : Node) → IsNode s n → get_or bits (number_of n) [] ≡ nets_of s n)
      → All (λ nets. length nets < 2 ^ 32) bits
  bits_few bits long are k d inside =
      let (n, is_node, at) = node_at s k (omega arith) in
      subst (λ nets. length nets < 2 ^ 32)
      (sym (are n is_node) ∙ (ap (λ l. get_or bits l []) at ∙ sym (get_or_default bits k d [] inside)))
      (nets_few n is_node)
