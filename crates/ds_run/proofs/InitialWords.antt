-- The words of the values that the nodes have before they open.
use Rattle.std.proofs.Common.{◌≡◌, ◌∙◌, ℕ, ◌-◌, ◌*◌, ◌<◌, List, [], ◌∷◌, length, get_or, take, drop, replicate, refl, arith, ap, sym, subst, inl, inr}
use Rattle.std.specs.Prelude.{All}
use Rattle.std.proofs.lemmas.Bool.{cases_lt}
use Rattle.std.proofs.lemmas.List.{get_or-map, length-map}
use Rattle.std.proofs.lemmas.List.Elements.{All-drop, All-head, All-replicate, All-tail, All-take}
use Rattle.ds_base.specs.Values.{Row}
use Rattle.ds_base.specs.Word.{code_of, number_of_values, word_of, count_of_words}
use Rattle.ds_base.specs.declared.value.Value.TheVariants.{Zero}
use Rattle.ds_cover.specs.Cover.{value_at, values_at}
use Rattle.ds_design.specs.Circuit.{register_nets}
use Rattle.ds_latch.specs.Node.{Split, IsNode, number_of, nodes, members, nets_of}
use Rattle.ds_latch.specs.declared.node.Node.{Node}
use Rattle.ds_latch.specs.declared.node.Node.TheVariants.{In, Out, Master, Slave}
use Rattle.ds_latch.specs.Order.{open_tokens}
use Rattle.ds_latch.proofs.EventNodes.{node_at}
use Rattle.ds_latch.proofs.NodeNumbers.{same_node}
use Rattle.ds_design.specs.Rows.{Rows}
use Rattle.ds_opening.specs.Groups.{Grouping}
use Rattle.ds_rule.specs.Run.{Run}
use Rattle.ds_rule.specs.Words.{value, node_values as values_in, width}
use Rattle.ds_rule.proofs.PlaceLaws.{width-is}
use Rattle.ds_run.specs.Openings.{AreOpenings}
use Rattle.ds_run.proofs.Rows.{value_of_node}
use Rattle.ds_run.proofs.ComputedOpenings.{room_at}

-- the number of zeros
number-zeros : (values : Row) → All (λ v. v ≡ Zero) values → number_of_values values ≡ 0
number-zeros [] all = refl
number-zeros (v ∷ values) all =
    let here : code_of v ≡ 0 = ap code_of (All-head (λ x. x ≡ Zero) v values all) in
    let rest : number_of_values values ≡ 0
    = number-zeros values (All-tail (λ x. x ≡ Zero) v values all) in
    omega (here, rest, arith)

word-zeros : (count i : ℕ) → word_of (replicate count Zero) i ≡ 0
word-zeros count i =
    let all : Row = replicate count Zero in
    number-zeros (take 32 (drop (32 * i) all))
    (All-take (λ v. v ≡ Zero) 32 (drop (32 * i) all)
    (All-drop (λ v. v ≡ Zero) (32 * i) all (All-replicate (λ v. v ≡ Zero) count Zero refl)))

-- word i of a value
value-word : (run : Run) (l k i : ℕ) (values : Row) → values_in run l k ≡ values
    → value run l k i ≡ word_of values i
unfolding value
value-word run l k i values is = ap (λ (r : Row). word_of r i) is

module _ {s : Split} {vectors : Rows} {run : Run} {groups : Grouping} {order : List ℕ}
    {starts : List Row} (w : AreOpenings s vectors run groups order starts) where
  -- a node that has words is one of the split design
  low : (l i : ℕ) → i < width run l → l < nodes s
  low l i inside =
      elim (cases_lt l (nodes s)) [
        | inl below ↦ below
        | inr behind ↦ (
            let none : width run l ≡ count_of_words 0
            = width-is run l ∙ ap count_of_words (w.planned.lengths_are.of_extra l behind) in
            absurd (let past : i < 0 = omega (none, inside, arith) in omega (past, arith)))
      ]

  -- word i of the first value of a node
  first_word : (n : Node) → IsNode s n → (i : ℕ)
      → value run (number_of n) 0 i ≡ word_of (value_of_node w.planned n 0) i
  first_word n is_node i =
      value-word run (number_of n) 0 i (value_of_node w.planned n 0)
      (w.planned.values_are.of_node n is_node 0 (omega arith))

  none : (n : Node) → IsNode s n → open_tokens n ≡ 0 → (i : ℕ) → value run (number_of n) 0 i ≡ 0
  none In is_node other i = first_word In is_node i ∙ word-zeros (length (nets_of s In)) i
  none Out is_node other i = first_word Out is_node i ∙ word-zeros (length (nets_of s Out)) i
  none (Master j) is_node other i =
      first_word (Master j) is_node i ∙ word-zeros (length (nets_of s (Master j))) i
  none (Slave j) is_node other i = absurd (omega (other, arith))

  module _ {asked : Run} (asked_is : asked ≡ run) {l i : ℕ} (inside : i < width asked l) where
    near : l < nodes s
    near = low l i (subst (λ (r : Run). i < width r l) asked_is inside)

    -- the first word of a node that is no slave
    pub first_zero : (n : Node) → number_of n ≡ l → open_tokens n ≡ 0 → 0 ≡ value asked l 0 i
    first_zero n at other =
        let (m, is_node, is) = node_at s l near in
        let same : m ≡ n = same_node m n (is ∙ sym at) in
        let is_zero : value run (number_of n) 0 i ≡ 0
        = none n (subst (IsNode s) same is_node) other i in
        sym (ap (λ (r : Run). value r l 0 i) asked_is
        ∙ (ap (λ (m : ℕ). value run m 0 i) (sym at) ∙ is_zero))

    module _ (j : ℕ) (slave_is : number_of (Slave j) ≡ l) where
      cluster_low : j < length s.clusters
      cluster_low = omega (near, slave_is, arith)

      pub start_inside : j < length starts
      start_inside =
          let size : length starts ≡ length s.clusters
          = ap (λ (rows : List Row). length rows) w.starts_are
          ∙ length-map s.clusters (values_at s.initial) in
          omega (cluster_low, size, arith)

      module _ {start : Row} (start_is : start ≡ get_or starts j start) where
        abbrev registers : List ℕ
        registers = members s j

        start-values : start ≡ values_at s.initial registers
        start-values =
            start_is
            ∙ (ap (λ (rows : List Row). get_or rows j start) w.starts_are
            ∙ get_or-map (values_at s.initial) s.clusters j [] start cluster_low)

        pub start_wide : 32 * i < length start
        start_wide =
            let size : length start ≡ length registers
            = ap (λ (r : Row). length r) start-values
            ∙ length-map registers (value_at s.initial) in
            let nets : length (nets_of s (Slave j)) ≡ length registers
            = length-map registers (λ r. get_or (register_nets s.circuit) r 0) in
            let wide : width asked l ≡ count_of_words (length (nets_of s (Slave j)))
            = (let here : l ≡ l = refl in room_at w asked_is here (Slave j) cluster_low slave_is) in
            omega (size, nets, wide, inside, arith)

        -- the first word of a slave
        pub first_start : word_of start i ≡ value asked l 0 i
        first_start =
            let begun : s.initial ≡ w.planned.values_are.state 0
            = sym w.planned.values_are.clocked.starts in
            ap (λ (r : Row). word_of r i) start-values
            ∙ (ap (λ (r : Row). word_of (values_at r registers) i) begun
            ∙ (sym (first_word (Slave j) cluster_low i)
            ∙ (ap (λ (m : ℕ). value run m 0 i) slave_is
            ∙ ap (λ (r : Run). value r l 0 i) (sym asked_is))))
