-- Words of columns, tables and registers are turns of a run.
use Rattle.std.proofs.Common.{◌≡◌, ◌≢◌, ◌∙◌, ℕ, zero, suc, ◌+◌, ◌<◌, List, [], ◌++◌, None, length, get_or, refl, sym, ap, arith, subst}
use Rattle.std.specs.Prelude.{All, Contains}
use Rattle.std.specs.Int.{bit_at}
use Rattle.std.proofs.lemmas.List.{append_assoc, get_or-map, get_or_default, length-append, length-map}
use Rattle.std.proofs.lemmas.List.Elements.{Contains-append_right, Contains-get_or}
use Rattle.std.proofs.lemmas.Nat.Bits.{bit_at-zero}
use Rattle.ds_base.proofs.AppendedPairs.{get_or-left, get_or-right}
use Rattle.ds_base.specs.Values.{Row}
use Rattle.ds_base.specs.declared.value.Value.TheVariants.{Zero, Unknown}
use Rattle.ds_cover.specs.Cover.{value_at, values_at, value_of}
use Rattle.ds_cover.specs.Kept.{bit_value}
use Rattle.ds_cover.specs.Packed.{one_bit}
use Rattle.ds_design.specs.Circuit.{Circuit, columns, data_nets, drivers, register_nets}
use Rattle.ds_design.specs.Levels.{table_nets}
use Rattle.ds_design.specs.Run.{row_at}
use Rattle.ds_design.specs.declared.design.Gate.{Gate}
use Rattle.ds_design.specs.declared.design.Register.{Register}
use Rattle.ds_settle.proofs.ByIndex.{map_by_index}
use Rattle.ds_slices.specs.Linked.{AreLinked, linked_net}
use Rattle.ds_slices.specs.Turns.{AreKnownTurns, AreTurns, IsColumnWord, registers_before, turn_row}
use Rattle.ds_slices.proofs.TurnBits.{value-one_bit, value_in}

module _ (c : Circuit) where
  -- the nets of tables and registers, by place
  net_of_table : (k : ℕ) (d : Gate) → k < length c.tables → linked_net c k ≡ (get_or c.tables k d).output
  net_of_table k d inside =
      let long = length-map c.tables (λ (t : Gate). t.output) in
      get_or-left (table_nets c) (register_nets c) k 0 (omega arith) ∙ get_or-map (λ (t : Gate). t.output) c.tables k d 0 inside

  net_of_register : (i : ℕ) → i < length c.registers → linked_net c (length c.tables + i) ≡ get_or (register_nets c) i 0
  net_of_register i inside =
      let long = length-map c.tables (λ (t : Gate). t.output) in
      get_or-right (table_nets c) (register_nets c) i (length c.tables + i) 0 (omega arith)

  -- a net that nothing drives is none of them
  pub undriven_apart : (net : ℕ) → ¬ Contains (drivers c) net → (k : ℕ) → k < length c.tables + length c.registers → linked_net c k ≢ net
  undriven_apart net free k inside e =
      let long : length (table_nets c ++ register_nets c) ≡ length c.tables + length c.registers =
      length-append (table_nets c) (register_nets c)
      ∙ (let one = length-map c.tables (λ (t : Gate). t.output) in let two = length-map c.registers (λ (r : Register). r.output) in omega arith) in
      let here : Contains (columns c ++ (table_nets c ++ register_nets c)) net =
      Contains-append_right (columns c) (table_nets c ++ register_nets c) net
      (subst (λ (x : ℕ). Contains (table_nets c ++ register_nets c) x) e (Contains-get_or (table_nets c ++ register_nets c) k 0 (omega arith))) in
      free (subst (λ (ns : List ℕ). Contains ns net) (sym (append_assoc (columns c) (table_nets c) (register_nets c))) here)

  module _ (start : Row) (vectors : List Row) (from : ℕ) (words : List ℕ) (linked : AreLinked c start words)
      (columned : (i : ℕ) → i < length (columns c) → IsColumnWord vectors from i (get_or words (get_or (columns c) i 0) 0))
      (undriven : (net : ℕ) → ¬ Contains (drivers c) net → get_or words net 0 ≡ 0)
      (starts : length start ≡ length c.registers)
      (widths : All (λ row. length row ≡ length (columns c)) vectors) (known : AreKnownTurns vectors from) where
    row_length : (k : ℕ) → k < length vectors → length (row_at vectors k) ≡ length (columns c)
    row_length k inside = widths k [] inside

    column : (k : ℕ) → k < 64 → from + k < length vectors → values_at (turn_row words k) (columns c) ≡ row_at vectors (from + k)
    column k low inside =
        let long : length (row_at vectors (from + k)) ≡ length (columns c) = row_length (from + k) inside in
        sym (map_by_index (value_at (turn_row words k)) (columns c) (row_at vectors (from + k)) long
        (λ i d within.
        let at : get_or (columns c) i 0 ≡ get_or (columns c) i d = get_or_default (columns c) i 0 d within in
        let bit : bit_at (get_or words (get_or (columns c) i 0) 0) k ≡ one_bit (value_at (row_at vectors (from + k)) i) = columned i within k low inside in
        let sure : value_at (row_at vectors (from + k)) i ≢ Unknown = known k low inside i Zero (omega arith) in
        sym (ap (value_at (turn_row words k)) (sym at) ∙ (value_in words k (get_or (columns c) i 0)
        ∙ (ap bit_value bit ∙ value-one_bit (value_at (row_at vectors (from + k)) i) sure)))))

    register_value : (k i d : ℕ) → i < length c.registers → value_at (turn_row words k) (get_or (register_nets c) i d) ≡ bit_value (bit_at (get_or words (linked_net c (length c.tables + i)) 0) k)
    register_value k i d inside =
        let long = length-map c.registers (λ (r : Register). r.output) in
        let at : get_or (register_nets c) i d ≡ linked_net c (length c.tables + i) =
        get_or_default (register_nets c) i d 0 (omega arith) ∙ sym (net_of_register i inside) in
        ap (value_at (turn_row words k)) at ∙ value_in words k (linked_net c (length c.tables + i))

    register : (k : ℕ) → k < 64 → values_at (turn_row words k) (register_nets c) ≡ registers_before c start words k
    register zero low =
        let long = length-map c.registers (λ (r : Register). r.output) in
        sym (map_by_index (value_at (turn_row words 0)) (register_nets c) start (starts ∙ sym long)
        (λ i d within.
        let inside : i < length c.registers = omega arith in
        let r : Register = get_or c.registers i (record { data_net = 0; output = 0; edge = None; control = None; initial = 0; line = 0 }) in
        let word = (linked (length c.tables + i) (omega arith)).register i r inside refl in
        sym (register_value 0 i d inside ∙ word.begins)))
    register (suc k) low =
        let long = length-map c.registers (λ (r : Register). r.output) in
        let data_long = length-map c.registers (λ (r : Register). r.data_net) in
        let row_long = length-map (data_nets c) (value_at (turn_row words k)) in
        sym (map_by_index (value_at (turn_row words (suc k))) (register_nets c) (values_at (turn_row words k) (data_nets c)) (row_long ∙ (data_long ∙ sym long))
        (λ i d within.
        let inside : i < length c.registers = omega arith in
        let r : Register = record { data_net = 0; output = 0; edge = None; control = None; initial = 0; line = 0 } in
        let word = (linked (length c.tables + i) (omega arith)).register i r inside refl in
        let fed : get_or (data_nets c) i 0 ≡ (get_or c.registers i r).data_net = get_or-map (λ (r : Register). r.data_net) c.registers i r 0 inside in
        get_or-map (value_at (turn_row words k)) (data_nets c) i 0 Zero (omega arith)
        ∙ (ap (value_at (turn_row words k)) fed ∙ (value_in words k (get_or c.registers i r).data_net
        ∙ (ap bit_value (sym (word.later k low)) ∙ sym (register_value (suc k) i d inside))))))

    table : (k : ℕ) → k < 64 → All (λ t. value_at (turn_row words k) t.output ≡ value_of t.table (turn_row words k)) c.tables
    table k low j d inside =
        ap (value_at (turn_row words k)) (sym (net_of_table j d inside))
        ∙ (value_in words k (linked_net c j) ∙ (linked j (omega arith)).table d inside k low)

    pub are_turns : length words ≡ length c.nets → AreTurns c start vectors from words
    are_turns size = record {
      one_each = size;
      valued = λ k low inside. record {
        one_each = length-map words (λ (word : ℕ). bit_value (bit_at word k)) ∙ size;
        column = column k low inside;
        register = register k low;
        table = table k low;
        undriven = λ net below free. value_in words k net ∙ (ap (λ (w : ℕ). bit_value (bit_at w k)) (undriven net free) ∙ ap bit_value (bit_at-zero k));
      };
    }
