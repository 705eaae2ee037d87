-- Which node produces a net.
use Rattle.std.proofs.Common.{◌≡◌, ◌≢◌, inl, inr, ℕ, zero, suc, ◌+◌, ◌*◌, ◌<◌, List, [], ◌∷◌, ◌++◌, length, get_or, map, not, ◌==◌, refl, sym, ◌∙◌, ap, subst, arith}
use Rattle.std.specs.Prelude.{All, AllPairs, Contains}
use Rattle.std.specs.List.{flat_map, list_any}
use Rattle.std.proofs.lemmas.Bool.{cases_lt}
use Rattle.std.proofs.lemmas.List.{length-map}
use Rattle.std.proofs.lemmas.List.Elements.{All-get_or, All-contains, All-from_get_or, All-filter, All-map, Contains-get_or, Contains-append_left, Contains-append_right}
use Rattle.ds_base.proofs.ListLemmas.{Any-from_map}
use Rattle.ds_base.proofs.AppendedPairs.{pairs-left, pairs-right, pairs-between}
use Rattle.ds_design.specs.Accepted.{IsAccepted}
use Rattle.ds_design.specs.Circuit.{columns, control_nets, data_nets, register_nets}
use Rattle.ds_design.specs.InRange.{IsInRange}
use Rattle.ds_design.specs.Levels.{table_nets}
use Rattle.ds_latch.specs.Node.{Split, IsNode, number_of, nets_of, members}
use Rattle.ds_latch.specs.declared.node.Node.{Node}
use Rattle.ds_latch.specs.declared.node.Node.TheVariants.{In, Out, Master, Slave}
use Rattle.ds_design.specs.declared.design.Register.{Register}
use Rattle.ds_split.specs.Cluster.{HasEachOnce}
use Rattle.ds_split.specs.Groups.{group}
use Rattle.ds_split.specs.Nets.{IsProducer}
use Rattle.ds_split.proofs.Loops.{in_group}

-- what stands in one list stands in all of them together
pub flat_has : (groups : List (List ℕ)) (i x : ℕ) → Contains (group groups i) x → Contains (flat_map (λ registers. registers) groups) x
flat_has [] i x is = absurd (let low : i < 0 = in_group [] i x is in omega arith)
flat_has (g ∷ groups) zero x is = Contains-append_left g (flat_map (λ registers. registers) groups) x is
flat_has (g ∷ groups) (suc i) x is = Contains-append_right g (flat_map (λ registers. registers) groups) x (flat_has groups i x is)

-- what stands in two lists makes them one, where all together have nothing twice
pub flat_apart : (groups : List (List ℕ)) → AllPairs (λ a b. a ≢ b) (flat_map (λ registers. registers) groups)
    → (i j x : ℕ) → Contains (group groups i) x → Contains (group groups j) x → i ≡ j
flat_apart [] pairs i j x one other = absurd (let low : i < 0 = in_group [] i x one in omega arith)
flat_apart (g ∷ groups) pairs zero zero x one other = refl
flat_apart (g ∷ groups) pairs zero (suc j) x one other =
    absurd (pairs-between g (flat_map (λ registers. registers) groups) pairs x one (flat_has groups j x other))
flat_apart (g ∷ groups) pairs (suc i) zero x one other =
    absurd (pairs-between g (flat_map (λ registers. registers) groups) pairs x other (flat_has groups i x one))
flat_apart (g ∷ groups) pairs (suc i) (suc j) x one other =
    ap suc (flat_apart groups (pairs-right g (flat_map (λ registers. registers) groups) pairs) i j x one other)

-- places of a list in which nothing stands twice
pub one_place : (xs : List ℕ) → AllPairs (λ a b. a ≢ b) xs → (i j : ℕ) → i < length xs → j < length xs
    → get_or xs i 0 ≡ get_or xs j 0 → i ≡ j
one_place xs pairs i j one other same = elim (cases_lt i j) [
  | inl below ↦ absurd (pairs i j 0 below other same)
  | inr above ↦ elim (cases_lt j i) [
    | inl below ↦ absurd (pairs j i 0 below one (sym same))
    | inr equal ↦ omega arith
  ]
]

module _ (s : Split) (accepted : IsAccepted s.circuit) (each : HasEachOnce (length s.circuit.registers) s.clusters) where
  pub member_within : (i r : ℕ) → Contains (members s i) r → r < length s.circuit.registers
  member_within i r is =
      let low : i < length s.clusters = in_group s.clusters i r is in
      All-contains (λ r. r < length s.circuit.registers) (members s i) r
      (All-get_or (λ registers. All (λ r. r < length s.circuit.registers) registers) s.clusters i [] low each.within) is

  -- a net of a slave is that of a register
  slave_register : (i net : ℕ) → Contains (nets_of s (Slave i)) net
      → (r : ℕ) × (r < length (register_nets s.circuit)) × Contains (members s i) r × (get_or (register_nets s.circuit) r 0 ≡ net)
  slave_register i net is =
      let (k, r, inside, at, e) = Any-from_map (λ r. get_or (register_nets s.circuit) r 0) (members s i) net is in
      let low : r < length s.circuit.registers = member_within i r (k, inside, at) in
      let n : length (register_nets s.circuit) ≡ length s.circuit.registers = length-map s.circuit.registers (λ (r : Register). r.output) in
      (r, omega arith, (k, inside, at), e)

  slave_net : (i net : ℕ) → Contains (nets_of s (Slave i)) net → Contains (register_nets s.circuit) net
  slave_net i net is =
      let (r, low, member, e) = slave_register i net is in
      subst (λ (n : ℕ). Contains (register_nets s.circuit) n) e (Contains-get_or (register_nets s.circuit) r 0 low)

  -- the nets that columns and tables drive
  pairs_front : AllPairs (λ a b. a ≢ b) (columns s.circuit ++ map (λ t. t.output) s.circuit.tables)
  pairs_front = pairs-left (columns s.circuit ++ map (λ t. t.output) s.circuit.tables) (register_nets s.circuit) accepted.one_driver

  front_apart : (net : ℕ) → Contains (columns s.circuit ++ map (λ t. t.output) s.circuit.tables) net → ¬ Contains (register_nets s.circuit) net
  front_apart = pairs-between (columns s.circuit ++ map (λ t. t.output) s.circuit.tables) (register_nets s.circuit) accepted.one_driver

  column_apart : (net : ℕ) → Contains (columns s.circuit) net → ¬ Contains (register_nets s.circuit) net
  column_apart net column = front_apart net (Contains-append_left (columns s.circuit) (map (λ t. t.output) s.circuit.tables) net column)

  -- no table drives the net of a producer
  pub no_table : (p : Node) (net : ℕ) → IsProducer s p net → ¬ Contains (table_nets s.circuit) net
  no_table In net (source, node, has) table =
      pairs-between (columns s.circuit) (map (λ t. t.output) s.circuit.tables) pairs_front net has table
  no_table Out net (source, node, has) table = source
  no_table (Master i) net (source, node, has) table = source
  no_table (Slave i) net (source, node, has) table =
      front_apart net (Contains-append_right (columns s.circuit) (map (λ t. t.output) s.circuit.tables) net table) (slave_net i net has)

  -- a net has one producer
  pub one_producer : (p q : Node) (net : ℕ) → IsProducer s p net → IsProducer s q net → number_of p ≡ number_of q
  one_producer In In net one other = refl
  one_producer In Out net one (source, node, has) = absurd source
  one_producer In (Master j) net one (source, node, has) = absurd source
  one_producer In (Slave j) net (from, at, column) (source, node, has) = absurd (column_apart net column (slave_net j net has))
  one_producer Out q net (source, node, has) other = absurd source
  one_producer (Master i) q net (source, node, has) other = absurd source
  one_producer (Slave i) In net (source, node, has) (from, at, column) = absurd (column_apart net column (slave_net i net has))
  one_producer (Slave i) Out net one (source, node, has) = absurd source
  one_producer (Slave i) (Master j) net one (source, node, has) = absurd source
  one_producer (Slave i) (Slave j) net (from, at, one) (source, node, other) =
      let (r, low, member, e) = slave_register i net one in
      let (q, within, member', f) = slave_register j net other in
      let pairs = pairs-right (columns s.circuit ++ map (λ t. t.output) s.circuit.tables) (register_nets s.circuit) accepted.one_driver in
      let same : r ≡ q = one_place (register_nets s.circuit) pairs r q low within (e ∙ sym f) in
      let here : i ≡ j = flat_apart s.clusters each.once i j q (subst (λ (n : ℕ). Contains (members s i) n) same member) member' in
      ap (λ k. 2 * k + 3) here

  -- the nets of a node are there
  module _ (in_range : IsInRange s.circuit) where
    data_within : (r : ℕ) → r < length s.circuit.registers → get_or (data_nets s.circuit) r 0 < length s.circuit.nets
    data_within r low =
        let n : length (data_nets s.circuit) ≡ length s.circuit.registers = length-map s.circuit.registers (λ (r : Register). r.data_net) in
        All-get_or (λ net. net < length s.circuit.nets) (data_nets s.circuit) r 0 (omega arith)
        (All-map (λ net. net < length s.circuit.nets) (λ (r : Register). r.data_net) s.circuit.registers
        (λ k d inside. (in_range.registers k d inside).0))

    output_within : (r : ℕ) → r < length s.circuit.registers → get_or (register_nets s.circuit) r 0 < length s.circuit.nets
    output_within r low =
        let n : length (register_nets s.circuit) ≡ length s.circuit.registers = length-map s.circuit.registers (λ (r : Register). r.output) in
        All-get_or (λ net. net < length s.circuit.nets) (register_nets s.circuit) r 0 (omega arith)
        (All-map (λ net. net < length s.circuit.nets) (λ (r : Register). r.output) s.circuit.registers
        (λ k d inside. (in_range.registers k d inside).1))

    members_within : (f : ℕ → ℕ) → ((r : ℕ) → r < length s.circuit.registers → f r < length s.circuit.nets) → (i : ℕ)
        → All (λ net. net < length s.circuit.nets) (map f (members s i))
    members_within f within i = All-map (λ net. net < length s.circuit.nets) f (members s i)
        (All-from_get_or (λ r. f r < length s.circuit.nets) (members s i) 0
        (λ k inside. within (get_or (members s i) k 0) (member_within i (get_or (members s i) k 0) (Contains-get_or (members s i) k 0 inside))))

    pub nets_within : (n : Node) → IsNode s n → All (λ net. net < length s.circuit.nets) (nets_of s n)
    nets_within In is = All-filter (λ net. not (list_any (λ clock. clock == net) (control_nets s.circuit)))
        (λ net. net < length s.circuit.nets) s.circuit.inputs in_range.inputs
    nets_within Out is = in_range.outputs
    nets_within (Master i) is = members_within (λ r. get_or (data_nets s.circuit) r 0) data_within i
    nets_within (Slave i) is = members_within (λ r. get_or (register_nets s.circuit) r 0) output_within i
