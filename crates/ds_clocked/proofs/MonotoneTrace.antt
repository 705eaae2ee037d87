-- Each character of a trace but `x` stands, where known values take the place of unknown ones.
use Rattle.std.proofs.Common.{◌≡◌, ◌≢◌, ℕ, zero, suc, ◌+◌, ◌<◌, ◌≤◌, List, [], ◌∷◌, ◌++◌, map}
use Rattle.std.proofs.Common.{length, refl, arith, ap, sym, ◌∙◌, subst, add-one}
use Rattle.std.specs.Prelude.{All, Contains, codes, decimal}
use Rattle.std.specs.List.{flat_map, range_with_len}
use Rattle.std.proofs.lemmas.List.{length-map}
use Rattle.ds_base.specs.Values.{Row, Stands}
use Rattle.ds_base.specs.declared.value.Value.{Value}
use Rattle.ds_base.specs.declared.value.Value.TheVariants.{Zero, One, Unknown}
use Rattle.ds_cover.specs.Cover.{value_at, value_of, values_at}
use Rattle.ds_design.specs.declared.design.Gate.{Gate}
use Rattle.ds_design.specs.declared.design.Net.{Net}
use Rattle.ds_design.specs.Circuit.{Circuit, columns, data_nets, drivers, initial_row}
use Rattle.ds_design.specs.Circuit.{register_nets}
use Rattle.ds_design.specs.Accepted.{IsAccepted}
use Rattle.ds_design.specs.Valuation.{IsValuation}
use Rattle.ds_design.specs.Run.{IsRun, row_at, AllStand}
use Rattle.ds_design.specs.Trace.{IsTrace, value_text, values_text, trace_line}
use Rattle.ds_design.specs.Trace.{end_line, trace_lines}
use Rattle.ds_design.proofs.Monotone.{known_values_stand}
use Rattle.ds_clocked.specs.Laws.{byte_at, TextStands, DifferInStarts}

-- a text stands in itself
itself : (text : List ℕ) → TextStands text text
itself text = record { long = refl; same = λ k other. refl }

-- one more character in front
places : (a b : ℕ) (old new : List ℕ) → (a ≢ 120 → b ≡ a) → TextStands old new
    → (k : ℕ) → byte_at (a ∷ old) k ≢ 120 → byte_at (b ∷ new) k ≡ byte_at (a ∷ old) k
places a b old new first rest zero other = first other
places a b old new first rest (suc k) other = rest.same k other

in_front : (a b : ℕ) (old new : List ℕ) → (a ≢ 120 → b ≡ a) → TextStands old new
    → TextStands (a ∷ old) (b ∷ new)
in_front a b old new first rest =
    record { long = ap suc rest.long; same = places a b old new first rest }

-- one text behind another
behind : (one one' two two' : List ℕ) → TextStands one one' → TextStands two two'
    → TextStands (one ++ two) (one' ++ two')
behind [] [] two two' first second = second
behind [] (b ∷ new) two two' first second =
    absurd (let long : suc (length new) ≡ 0 = first.long in omega arith)
behind (a ∷ old) [] two two' first second =
    absurd (let long : 0 ≡ suc (length old) = first.long in omega arith)
behind (a ∷ old) (b ∷ new) two two' first second =
    let long : suc (length new) ≡ suc (length old) = first.long in
    let rest : TextStands old new =
    record { long = omega arith; same = λ k other. first.same (suc k) other } in
    in_front a b (old ++ two) (new ++ two') (first.same 0) (behind old new two two' rest second)

-- a value that stands is printed as it was, but where it was `x`
printed : (old new : Value) → Stands old new
    → value_text old ≢ 120 → value_text new ≡ value_text old
printed Zero new stands other = ap value_text (stands (λ e. absurd (other (ap value_text e))))
printed One new stands other = ap value_text (stands (λ e. absurd (other (ap value_text e))))
printed Unknown new stands other = absurd (other refl)

-- and so is a row of as many
printed_row : (old new : Row) → length new ≡ length old → AllStand old new
    → TextStands (map value_text old) (map value_text new)
printed_row [] [] long stand = itself []
printed_row [] (b ∷ new) long stand = absurd (omega arith)
printed_row (a ∷ old) [] long stand = absurd (omega arith)
printed_row (a ∷ old) (b ∷ new) long stand =
    in_front (value_text a) (value_text b) (map value_text old) (map value_text new)
    (printed a b (stand 0)) (printed_row old new (omega arith) (λ k. stand (suc k)))

row_stands : (old new : Row) → length new ≡ length old → AllStand old new
    → TextStands (values_text old) (values_text new)
row_stands [] [] long stand = itself (values_text [])
row_stands [] (b ∷ new) long stand = absurd (omega arith)
row_stands (a ∷ old) [] long stand = absurd (omega arith)
row_stands (a ∷ old) (b ∷ new) long stand = printed_row (a ∷ old) (b ∷ new) long stand

-- the values at some nets
picked : (one other : Row) (these : List ℕ) → AllStand one other
    → AllStand (values_at one these) (values_at other these)
picked one other [] stand k known = refl
picked one other (net ∷ nets) stand zero known = stand net known
picked one other (net ∷ nets) stand (suc k) known = picked one other nets stand k known

picked_text : (one other : Row) (these : List ℕ) → AllStand one other
    → TextStands (values_text (values_at one these)) (values_text (values_at other these))
picked_text one other these stand =
    row_stands (values_at one these) (values_at other these)
    (length-map these (value_at other) ∙ sym (length-map these (value_at one)))
    (picked one other these stand)

-- the line of a turn, and the last line
line_stands : (k : ℕ) (outputs outputs' registers registers' : Row)
    → TextStands (values_text outputs) (values_text outputs')
    → TextStands (values_text registers) (values_text registers')
    → TextStands (trace_line k outputs registers) (trace_line k outputs' registers')
line_stands k outputs outputs' registers registers' first second =
    let front : List ℕ = decimal k ++ codes " " in
    let one : List ℕ = front ++ values_text outputs in
    let one' : List ℕ = front ++ values_text outputs' in
    let ones : TextStands one one' =
    behind front front (values_text outputs) (values_text outputs') (itself front) first in
    let two : List ℕ = one ++ codes " " in
    let two' : List ℕ = one' ++ codes " " in
    let twos : TextStands two two' =
    behind one one' (codes " ") (codes " ") ones (itself (codes " ")) in
    let three : List ℕ = two ++ values_text registers in
    let three' : List ℕ = two' ++ values_text registers' in
    let threes : TextStands three three' =
    behind two two' (values_text registers) (values_text registers') twos second in
    behind three three' (codes "\n") (codes "\n") threes (itself (codes "\n"))

end_stands : (registers registers' : Row)
    → TextStands (values_text registers) (values_text registers')
    → TextStands (end_line registers) (end_line registers')
end_stands registers registers' stand =
    behind (codes "end ") (codes "end ") _ _ (itself (codes "end "))
    (behind (values_text registers) (values_text registers') _ _ stand (itself (codes "\n")))

-- lines one behind the other
lines_stand : (line line' : ℕ → List ℕ) (from turns : ℕ)
    → ((k : ℕ) → k < from + turns → TextStands (line k) (line' k))
    → TextStands (flat_map line (range_with_len from turns))
    (flat_map line' (range_with_len from turns))
lines_stand line line' from zero each = itself []
lines_stand line line' from (suc turns) each =
    behind (line from) (line' from) _ _ (each from (omega arith))
    (lines_stand line line' (from + 1) turns (λ k below. each k (omega arith)))

-- the line of a turn of a run
abbrev line_of : Circuit → (ℕ → Row) → (ℕ → Row) → ℕ → List ℕ
line_of c state nets k = trace_line (0 + k) (values_at (nets k) c.outputs) (state k)

module _ (c : Circuit) (turns : ℕ) (state nets state' nets' : ℕ → Row)
    (rows : (k : ℕ) → k ≤ turns → TextStands (values_text (state k)) (values_text (state' k)))
    (all : (k : ℕ) → k < turns → AllStand (nets k) (nets' k)) where
  turn_stands : (k : ℕ) → k < turns → TextStands (line_of c state nets k) (line_of c state' nets' k)
  turn_stands k below =
      line_stands (0 + k) (values_at (nets k) c.outputs) (values_at (nets' k) c.outputs)
      (state k) (state' k) (picked_text (nets k) (nets' k) c.outputs (all k below))
      (rows k (omega arith))

  turns_stand : TextStands (trace_lines c 0 turns state nets) (trace_lines c 0 turns state' nets')
  turns_stand =
      lines_stand (line_of c state nets) (line_of c state' nets') 0 turns
      (λ k below. turn_stands k (omega arith))

-- a valuation or a run of the one circuit is one of the other
module _ (c other : Circuit) (differ : DifferInStarts c other) where
  same_drivers : drivers other ≡ drivers c
  same_drivers =
      ap (λ (these : List ℕ). these ++ map (λ t. t.output) other.tables ++ register_nets other)
      differ.columns
      ∙ (ap (λ (tables : List Gate). columns c ++ map (λ t. t.output) tables ++ register_nets other)
      differ.tables
      ∙ ap (λ (these : List ℕ). columns c ++ map (λ t. t.output) c.tables ++ these)
      differ.register_nets)

  valuation_of_one : (state vector nets : Row) → IsValuation other state vector nets
      → IsValuation c state vector nets
  valuation_of_one state vector nets is = record {
    one_each = is.one_each ∙ ap (λ (ns : List Net). length ns) differ.nets;
    column = ap (λ (these : List ℕ). values_at nets these) (sym differ.columns) ∙ is.column;
    register =
        ap (λ (these : List ℕ). values_at nets these) (sym differ.register_nets) ∙ is.register;
    table =
        subst (λ (ts : List Gate). All (λ t. value_at nets t.output ≡ value_of t.table nets) ts)
        differ.tables is.table;
    undriven = λ net below free. is.undriven net
        (subst (λ (ns : List Net). net < length ns) (sym differ.nets) below)
        (λ driven. free (subst (λ (these : List ℕ). Contains these net) same_drivers driven));
  }

  run_of_one : (start : Row) (vectors : List Row) (state nets : ℕ → Row)
      → IsRun other start vectors state nets → IsRun c start vectors state nets
  run_of_one start vectors state nets run = record {
    starts = run.starts;
    settles = λ k below.
        valuation_of_one (state k) (row_at vectors k) (nets k) (run.settles k below);
    steps = λ k below.
        run.steps k below ∙ ap (λ (these : List ℕ). values_at (nets k) these) differ.data_nets;
  }

  same_lines : (turns : ℕ) (state nets : ℕ → Row)
      → trace_lines other 0 turns state nets ≡ trace_lines c 0 turns state nets
  same_lines turns state nets =
      ap (λ (outputs : List ℕ). trace_lines (record c { outputs = outputs }) 0 turns state nets)
      differ.outputs

  as_many : length (initial_row other) ≡ length c.registers
  as_many =
      length-map other.registers _ ∙ (sym (length-map other.registers (λ r. r.output))
      ∙ (ap (λ (these : List ℕ). length these) differ.register_nets
      ∙ length-map c.registers (λ r. r.output)))

-- a row of registers has one value each
module _ (c : Circuit) (start : Row) (vectors : List Row) (state nets : ℕ → Row)
    (run : IsRun c start vectors state nets) where
  wide : length start ≡ length c.registers
      → (k : ℕ) → k ≤ length vectors → length (state k) ≡ length c.registers
  wide long zero below = ap (λ (row : Row). length row) run.starts ∙ long
  wide long (suc k) below =
      let here : state (suc k) ≡ values_at (nets k) (data_nets c) =
      rw add-one at (run.steps k (omega arith)) in
      ap (λ (row : Row). length row) here
      ∙ (length-map (data_nets c) (value_at (nets k)) ∙ length-map c.registers (λ r. r.data_net))

-- two runs of one circuit, and their texts
module _ (c : Circuit) (accepted : IsAccepted c) (start start' : Row)
    (starts : AllStand start start')
    (one : length start ≡ length c.registers) (other : length start' ≡ length c.registers)
    (vectors vectors' : List Row) (long : length vectors' ≡ length vectors)
    (rows : (k : ℕ) → AllStand (row_at vectors k) (row_at vectors' k))
    (state nets state' nets' : ℕ → Row) (run : IsRun c start vectors state nets)
    (run' : IsRun c start' vectors' state' nets') where
  stand : (k : ℕ) → (k ≤ length vectors → AllStand (state k) (state' k))
      × (k < length vectors → AllStand (nets k) (nets' k))
  stand k =
      known_values_stand c accepted start start' vectors vectors' starts long rows
      state nets state' nets' run run' k

  registers_stand : (k : ℕ) → k ≤ length vectors
      → TextStands (values_text (state k)) (values_text (state' k))
  registers_stand k below =
      row_stands (state k) (state' k)
      (wide c start' vectors' state' nets' run' other k (omega arith)
      ∙ sym (wide c start vectors state nets run one k below))
      ((stand k).0 below)

  trace_stands : TextStands
      (trace_lines c 0 (length vectors) state nets ++ end_line (state (length vectors)))
      (trace_lines c 0 (length vectors) state' nets' ++ end_line (state' (length vectors)))
  trace_stands =
      behind (trace_lines c 0 (length vectors) state nets)
      (trace_lines c 0 (length vectors) state' nets') _ _
      (turns_stand c (length vectors) state nets state' nets' registers_stand (λ k. (stand k).1))
      (end_stands (state (length vectors)) (state' (length vectors))
      (registers_stand (length vectors) (omega arith)))

-- the text of a trace, by its run
spelt : (c : Circuit) (vectors : List Row) (text : List ℕ) (is : IsTrace c vectors text)
    → text ≡ trace_lines c 0 (length vectors) is.is_trace.state is.is_trace.nets
    ++ end_line (is.is_trace.state (length vectors))
spelt c vectors text is =
    is.spelt ∙ (ap (λ (lines : List ℕ). lines ++ end_line is.last) is.is_trace.spelt
    ∙ ap (λ (row : Row). trace_lines c 0 (length vectors) is.is_trace.state is.is_trace.nets
    ++ end_line row) is.is_trace.ends)

pub known_characters_stand : (c other : Circuit) → IsAccepted c → DifferInStarts c other
    → AllStand (initial_row c) (initial_row other)
    → (vectors vectors' : List Row) → length vectors' ≡ length vectors
    → ((k : ℕ) → AllStand (row_at vectors k) (row_at vectors' k))
    → (text text' : List ℕ) → IsTrace c vectors text → IsTrace other vectors' text'
    → TextStands text text'
known_characters_stand c other accepted differ starts vectors vectors' long rows text text'
    one two =
    let state : ℕ → Row = two.is_trace.state in
    let nets : ℕ → Row = two.is_trace.nets in
    let both =
    trace_stands c accepted (initial_row c) (initial_row other) starts
    (length-map c.registers _) (as_many c other differ) vectors vectors' long rows
    one.is_trace.state one.is_trace.nets state nets one.is_trace.run
    (run_of_one c other differ (initial_row other) vectors' state nets two.is_trace.run) in
    let theirs : text' ≡ trace_lines c 0 (length vectors) state nets
    ++ end_line (state (length vectors)) =
    spelt other vectors' text' two
    ∙ (ap (λ (lines : List ℕ). lines ++ end_line (state (length vectors')))
    (same_lines c other differ (length vectors') state nets)
    ∙ ap (λ (n : ℕ). trace_lines c 0 n state nets ++ end_line (state n)) long) in
    subst (λ (t : List ℕ). TextStands t text') (sym (spelt c vectors text one))
    (subst (λ (t : List ℕ). TextStands (trace_lines c 0 (length vectors) one.is_trace.state
    one.is_trace.nets ++ end_line (one.is_trace.state (length vectors))) t) (sym theirs) both)
