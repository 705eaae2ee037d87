-- What the cone of a node settles to over its producers' values is its next value.
use Rattle.std.proofs.Common.{◌≡◌, ◌∙◌, ℕ, suc, ◌-◌, ◌<◌, List, [], ◌++◌, length, get_or, inl, inr, refl, arith, ap, sym, subst}
use Rattle.std.specs.Prelude.{All, Contains}
use Rattle.std.specs.List.{flat_map}
use Rattle.std.proofs.lemmas.List.{length-map, get_or_default}
use Rattle.std.proofs.lemmas.List.Elements.{All-map, Contains-append_cases, Contains-append_left, Contains-append_right, Contains-get_or}
use Rattle.ds_base.specs.Values.{Row}
use Rattle.ds_base.proofs.ListLemmas.{agree_from_map, Contains-map}
use Rattle.ds_cover.specs.Cover.{value_at, values_at}
use Rattle.ds_design.specs.Circuit.{columns, data_nets, register_nets, used}
use Rattle.ds_design.specs.Run.{IsRun, row_at}
use Rattle.ds_latch.specs.Node.{Split, IsNode, members, nets_of}
use Rattle.ds_latch.specs.declared.node.Node.{Node}
use Rattle.ds_latch.specs.declared.node.Node.TheVariants.{In, Out, Master, Slave}
use Rattle.ds_latch.specs.Order.{IsDataEdge}
use Rattle.ds_latch.specs.Plan.{IsSplit}
use Rattle.ds_latch.specs.Numbered.{numbered}
use Rattle.ds_design.specs.declared.design.Register.{Register}
use Rattle.ds_latch.proofs.Flow.{Settles, settles_master, settles_out}
use Rattle.ds_settle.specs.Cone.{IsCone, IsPartSettled, Parts}
use Rattle.ds_settle.proofs.ConeReach.{cone_settles, sources_known}
use Rattle.ds_split.specs.Settled.{IsSettling, IsSupplied, SettlesNextValue}
use Rattle.ds_latch.proofs.TurnValues.{master_value, picked}

-- the nets of a node that settles are used
pub settling_used : (s : Split) → IsSplit s → (n : Node) → IsNode s n → IsSettling n → All (Contains (used s.circuit)) (nets_of s n)
settling_used s split In is_node settling = absurd settling
settling_used s split Out is_node settling = λ k d inside. Contains-append_right (flat_map (λ t. t.table.inputs) s.circuit.tables ++ data_nets s.circuit) s.circuit.outputs (get_or s.circuit.outputs k d) (Contains-get_or s.circuit.outputs k d inside)
settling_used s split (Master i) is_node settling =
    let inputs : List ℕ = flat_map (λ t. t.table.inputs) s.circuit.tables in
    let sizes : length (data_nets s.circuit) ≡ length s.circuit.registers = length-map s.circuit.registers (λ (r : Register). r.data_net) in
    All-map (Contains (used s.circuit)) (λ r. get_or (data_nets s.circuit) r 0) (members s i) (λ k d inside.
    let low : get_or (members s i) k d < length s.circuit.registers = split.within i [] is_node k d inside in
    let net : ℕ = get_or (data_nets s.circuit) (get_or (members s i) k d) 0 in
    Contains-append_left (inputs ++ data_nets s.circuit) s.circuit.outputs net (Contains-append_right inputs (data_nets s.circuit) net (Contains-get_or (data_nets s.circuit) (get_or (members s i) k d) 0 (omega arith))))
settling_used s split (Slave i) is_node settling = absurd settling

settling_settles : (s : Split) (n : Node) → IsNode s n → IsSettling n → Settles s n
settling_settles s In is_node settling = absurd settling
settling_settles s Out is_node settling = settles_out s
settling_settles s (Master i) is_node settling = settles_master s i is_node
settling_settles s (Slave i) is_node settling = absurd settling

module _ (s : Split) (split : IsSplit s) (vectors : List Row) (state nets : ℕ → Row) (run : IsRun s.circuit s.initial vectors state nets)
    (n : Node) (is_node : IsNode s n) (settling : IsSettling n) (k : ℕ) (below : k < length vectors)
    (cone : Parts) (is_cone : IsCone s.circuit (nets_of s n) cone) (old new : Row) (supplied : IsSupplied s (numbered s vectors state nets) k n old) where
  edges : Settles s n
  edges = settling_settles s n is_node settling

  -- the registers of a cluster, on the nets of the turn
  slave_value : (d : ℕ) → d < length s.clusters → values_at (nets k) (nets_of s (Slave d)) ≡ values_at (state k) (members s d)
  slave_value d inside =
      let sizes : length (register_nets s.circuit) ≡ length s.circuit.registers = length-map s.circuit.registers (λ (r : Register). r.output) in
      let within : All (λ r. r < length (register_nets s.circuit)) (members s d) = λ j e low. (let w : get_or (members s d) j e < length s.circuit.registers = split.within d [] inside j e low in omega arith) in
      picked (nets k) (register_nets s.circuit) (members s d) within ∙ ap (λ (w : Row). values_at w (members s d)) (run.settles k below).register

  -- a source of the cone has on the nets what it has in the turn
  source_is : (source : ℕ) → Contains cone.sources source → Contains (columns s.circuit ++ register_nets s.circuit) source → value_at old source ≡ value_at (nets k) source
  source_is source in_cone known =
      let (j, x, inside, at, reaches) = ((is_cone.sources source).0 in_cone).0 in
      let in_nets : Contains (nets_of s n) x = (j, inside, at) in
      elim (Contains-append_cases (columns s.circuit) (register_nets s.circuit) source known) [
        | inl column ↦
            (let e : IsDataEdge s In n = edges In tt tt (source, x, column, in_nets, reaches) in
            let number : suc k - 0 ≡ suc k = omega arith in
            let row : values_at old (columns s.circuit) ≡ values_at (nets k) (columns s.circuit) = supplied In tt e ∙ (ap (numbered s vectors state nets In) number ∙ sym (run.settles k below).column) in
            agree_from_map (value_at old) (value_at (nets k)) (columns s.circuit) row source column)
        | inr register ↦
            (let (r, in_range, is_r) = register in
            let is_register : r < length s.circuit.registers = (let size : length (register_nets s.circuit) ≡ length s.circuit.registers = length-map s.circuit.registers (λ (r : Register). r.output) in omega arith) in
            let (d, cluster, there, is, in_cluster) = split.covered r is_register in
            let same : cluster ≡ members s d = sym is ∙ get_or_default s.clusters d cluster [] there in
            let in_members : Contains (members s d) r = subst (λ (rs : List ℕ). Contains rs r) same in_cluster in
            let net_of : get_or (register_nets s.circuit) r 0 ≡ source = get_or_default (register_nets s.circuit) r 0 source in_range ∙ is_r in
            let in_slave : Contains (nets_of s (Slave d)) source = subst (λ (net : ℕ). Contains (nets_of s (Slave d)) net) net_of (Contains-map (λ r. get_or (register_nets s.circuit) r 0) (members s d) r in_members) in
            let e : IsDataEdge s (Slave d) n = edges (Slave d) tt there (source, x, in_slave, in_nets, reaches) in
            let number : suc k - 1 ≡ k = omega arith in
            let row : values_at old (nets_of s (Slave d)) ≡ values_at (nets k) (nets_of s (Slave d)) = supplied (Slave d) there e ∙ (ap (numbered s vectors state nets (Slave d)) number ∙ sym (slave_value d there)) in
            agree_from_map (value_at old) (value_at (nets k)) (nets_of s (Slave d)) row source in_slave)
      ]

  pub sources_agree : All (λ net. value_at old net ≡ value_at (nets k) net) cone.sources
  sources_agree j d inside =
      let source : ℕ = get_or cone.sources j d in
      let in_cone : Contains cone.sources source = Contains-get_or cone.sources j d inside in
      source_is source in_cone (sources_known s.circuit split.accepted (nets_of s n) cone is_cone (settling_used s split n is_node settling) j d inside)

  pub settled_is : IsPartSettled s.circuit cone old new → values_at new (nets_of s n) ≡ values_at (nets k) (nets_of s n)
  settled_is part = (cone_settles s.circuit split.accepted (nets_of s n) cone is_cone (state k) (row_at vectors k) (nets k) (run.settles k below) old new sources_agree part).1

-- the nets of a node that settles have its next value in a turn
pub turn_value : (s : Split) → IsSplit s → (vectors : List Row) (state nets : ℕ → Row) → IsRun s.circuit s.initial vectors state nets
    → (n : Node) → IsNode s n → IsSettling n → (k : ℕ) → k < length vectors → values_at (nets k) (nets_of s n) ≡ numbered s vectors state nets n (suc k)
turn_value s split vectors state nets run In is_node settling k below = absurd settling
turn_value s split vectors state nets run Out is_node settling k below = refl
turn_value s split vectors state nets run (Master i) is_node settling k below = master_value s split vectors state nets run i is_node k below
turn_value s split vectors state nets run (Slave i) is_node settling k below = absurd settling

pub settles_next_value_lem : SettlesNextValue
settles_next_value_lem s split vectors state nets run n is_node settling k below cone is_cone old new supplied part =
    settled_is s split vectors state nets run n is_node settling k below cone is_cone old new supplied part
    ∙ turn_value s split vectors state nets run n is_node settling k below
