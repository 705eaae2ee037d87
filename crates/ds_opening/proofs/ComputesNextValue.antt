-- What the opening of a node that settles computes is the node's next value.
use Rattle.std.proofs.Common.{◌≡◌, ◌∙◌, ℕ, suc, ◌-◌, ◌<◌, Bool, cond, List, [], ◌∷◌, ◌++◌, length, get_or, map, refl, arith, ap, sym, subst}
use Rattle.std.specs.Prelude.{All, Contains}
use Rattle.std.proofs.lemmas.List.{get_or-map, length-map}
use Rattle.std.proofs.lemmas.List.Elements.{All-head, All-tail}
use Rattle.ds_base.specs.Values.{Row}
use Rattle.ds_cover.specs.Cover.{values_at}
use Rattle.ds_design.specs.Circuit.{register_nets}
use Rattle.ds_design.specs.InRange.{IsInRange}
use Rattle.ds_latch.specs.Node.{Split, IsNode, number_of, nodes, members, nets_of}
use Rattle.ds_latch.specs.declared.node.Node.{Node}
use Rattle.ds_latch.specs.declared.node.Node.TheVariants.{In, Out, Master, Slave}
use Rattle.ds_latch.specs.Numbered.{numbered}
use Rattle.ds_latch.specs.Order.{IsDataEdge, to_master, to_out, to_slave}
use Rattle.ds_latch.specs.Plan.{IsSplit}
use Rattle.ds_design.specs.declared.design.Register.{Register}
use Rattle.ds_latch.proofs.OrderTokens.{number_below}
use Rattle.ds_latch.proofs.TurnValues.{picked}
use Rattle.ds_settle.specs.Cone.{IsCone, IsPartSettled, Parts}
use Rattle.ds_split.specs.Cones.{IsSettlingAt}
use Rattle.ds_split.specs.Settled.{IsSettling, IsSupplied}
use Rattle.ds_split.proofs.NodeCones.{nets_within}
use Rattle.ds_split.proofs.SettlesNextValue.{settles_next_value_lem}
use Rattle.ds_opening.specs.Packed.{AreInside, AreLearnt, packed, packed_rows}
use Rattle.ds_opening.specs.TurnOfOpenings.{IsFed, Turn, read_of, value_taken, woven}

-- no node reads OUT, and none that settles reads a master
pub no_out : (s : Split) (n : Node) → IsDataEdge s Out n → ⊥
no_out s _ (to_master source is_p inside supplies) = source
no_out s _ (to_out source is_p supplies) = source

pub no_master : (s : Split) (i : ℕ) (n : Node) → IsDataEdge s (Master i) n → IsSettling n → ⊥
no_master s i _ (to_master source is_p inside supplies) settling = source
no_master s i _ (to_out source is_p supplies) settling = source
no_master s i _ (to_slave inside) settling = settling

module _ (s : Split) (split : IsSplit s) (bits : List (List ℕ)) (one_each : length bits ≡ nodes s)
    (nets_are : (n : Node) → IsNode s n → get_or bits (number_of n) [] ≡ nets_of s n)
    (n : Node) (number : ℕ) (at : IsSettlingAt s n number) (learnt : ℕ → Bool) (from : List ℕ) (t : Turn)
    (fed : IsFed s n learnt from t) where
  abbrev pub foreseen : Row
  foreseen = t.nets t.opened

  -- the numbers of the producers
  abbrev pub numbers : List ℕ
  numbers = map number_of fed.nodes

  -- the registers of a cluster, on the nets of the turn
  slave_value : (d : ℕ) → d < length s.clusters → values_at foreseen (nets_of s (Slave d)) ≡ values_at (t.state t.opened) (members s d)
  slave_value d inside =
      let sizes : length (register_nets s.circuit) ≡ length s.circuit.registers = length-map s.circuit.registers (λ (r : Register). r.output) in
      let within : All (λ r. r < length (register_nets s.circuit)) (members s d) = λ j e low. (let w : get_or (members s d) j e < length s.circuit.registers = split.within d [] inside j e low in omega arith) in
      picked foreseen (register_nets s.circuit) (members s d) within ∙ ap (λ (w : Row). values_at w (members s d)) (fed.run.settles t.opened fed.below).register

  source_value : (p : Node) → IsNode s p → IsDataEdge s p n → values_at foreseen (nets_of s p) ≡ read_of s t p
  source_value In is_p edge =
      (fed.run.settles t.opened fed.below).column ∙ ap (numbered s t.vectors t.state t.nets In) (let e : suc t.opened ≡ suc t.opened - 0 = omega arith in e)
  source_value Out is_p edge = absurd (no_out s n edge)
  source_value (Master i) is_p edge = absurd (no_master s i n edge at.settling)
  source_value (Slave d) is_p edge =
      slave_value d is_p ∙ ap (numbered s t.vectors t.state t.nets (Slave d)) (let e : t.opened ≡ suc t.opened - 1 = omega arith in e)

  weave_rows : (ps : List Node) → All (λ p. IsNode s p × IsDataEdge s p n) ps → woven learnt (read_of s t) ps ≡ packed_rows learnt foreseen bits (map number_of ps)
  weave_rows [] each = refl
  weave_rows (p ∷ ps) each =
      let (is_p, edge) = All-head (λ p. IsNode s p × IsDataEdge s p n) p ps each in
      let row : read_of s t p ≡ values_at foreseen (get_or bits (number_of p) []) = sym (source_value p is_p edge) ∙ ap (values_at foreseen) (sym (nets_are p is_p)) in
      ap (λ (r : Row). cond (learnt (number_of p)) [] (number_of p ∷ packed r) ++ woven learnt (read_of s t) ps) row
      ∙ ap (λ (ws : List ℕ). cond (learnt (number_of p)) [] (number_of p ∷ packed (values_at foreseen (get_or bits (number_of p) []))) ++ ws)
      (weave_rows ps (All-tail (λ p. IsNode s p × IsDataEdge s p n) p ps each))

  -- the words are those of the producers' rows on the nets of the turn
  pub from_is : from ≡ packed_rows learnt foreseen bits numbers
  from_is = fed.words ∙ weave_rows fed.nodes fed.producers.each

  -- the producer with a number
  record Producer (v : ℕ) : Type 0 where
    node : Node
    is_node : IsNode s node
    is : v ≡ number_of node

  producer : (k d : ℕ) → k < length numbers → Producer (get_or numbers k d)
  producer k d inside =
      let low : k < length fed.nodes = omega (length-map fed.nodes number_of, inside, arith) in record {
        node = get_or fed.nodes k In;
        is_node = (fed.producers.each k In low).0;
        is = get_or-map number_of fed.nodes k In d low;
      }

  pub numbers_inside : All (λ node. node < length bits) numbers
  numbers_inside k d inside =
      let p : Producer (get_or numbers k d) = producer k d inside in
      let low : number_of p.node < nodes s = number_below s p.node p.is_node in
      omega (low, p.is, one_each, arith)

  pub numbers_within : IsInRange s.circuit → (nets : Row) → length nets ≡ length s.circuit.nets → All (λ node. AreInside (get_or bits node []) nets) numbers
  numbers_within range nets size k d inside =
      let p : Producer (get_or numbers k d) = producer k d inside in
      subst (λ (node : ℕ). AreInside (get_or bits node []) nets) (sym p.is)
      (subst (λ (these : List ℕ). AreInside these nets) (sym (nets_are p.node p.is_node))
      (subst (λ (m : ℕ). All (λ net. net < m) (nets_of s p.node)) (sym size) (nets_within s split range p.node p.is_node)))

  pub supplied : (filled : Row) → AreLearnt foreseen bits numbers filled → IsSupplied s (numbered s t.vectors t.state t.nets) t.opened n filled
  supplied filled rows p is_p edge =
      let (k, inside, is) = fed.producers.all p edge in
      let has : Contains numbers (number_of p) = (
        k,
        omega (length-map fed.nodes number_of, inside, arith),
        get_or-map number_of fed.nodes k p (number_of p) inside ∙ ap number_of is,
      ) in
      let here : values_at filled (nets_of s p) ≡ values_at foreseen (nets_of s p) =
      subst (λ (these : List ℕ). values_at filled these ≡ values_at foreseen these) (nets_are p is_p) (rows (number_of p) has) in
      here ∙ source_value p is_p edge

  pub value : (filled settled : Row) → AreLearnt foreseen bits numbers filled → (cone : Parts) → IsCone s.circuit (nets_of s n) cone → IsPartSettled s.circuit cone filled settled
      → values_at settled (nets_of s n) ≡ value_taken s t n
  value filled settled rows cone is_cone part =
      settles_next_value_lem s split t.vectors t.state t.nets fed.run n at.node at.settling t.opened fed.below cone is_cone filled settled (supplied filled rows) part
