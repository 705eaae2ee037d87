-- A trace of known values has no `x`.
use Rattle.std.proofs.Common.{◌≡◌, ◌≢◌, ◌∙◌, ℕ, zero, suc, ◌+◌, ◌<◌, ◌≤◌, ◌^◌, false, List, [], ◌∷◌, ◌++◌, length, get_or, map, inl, inr, refl, arith, ap, sym, subst}
use Rattle.std.specs.Prelude.{codes, decimal}
use Rattle.std.specs.List.{flat_map, list_any, range_with_len}
use Rattle.std.proofs.lemmas.Bool.Decides.{eqb_tells}
use Rattle.std.proofs.lemmas.Fmt.{decimal_is_IsNumeral}
use Rattle.std.proofs.lemmas.List.{get_or_default}
use Rattle.std.proofs.lemmas.List.Elements.{All-map}
use Rattle.std.proofs.lemmas.List.Folds.{list_any-append, list_any_none}
use Rattle.std.proofs.lemmas.Str.Parse.{digit_at}
use Rattle.ds_base.specs.Values.{AreKnown, Row}
use Rattle.ds_base.specs.declared.value.Value.{Value}
use Rattle.ds_base.specs.declared.value.Value.TheVariants.{Zero, One, Unknown}
use Rattle.ds_cover.specs.Cover.{value_at, values_at}
use Rattle.ds_design.specs.Circuit.{initial_row}
use Rattle.ds_design.specs.Trace.{end_line, trace_line, value_text, values_text}
use Rattle.ds_table_laws.specs.Known.{KnownTracesAreKnown, is_x}
use Rattle.ds_design.proofs.KnownRuns.{nets_known, state_known}

-- no byte of a text is `x`
abbrev HasNone : List ℕ → Type 0
HasNone text = list_any is_x text ≡ false

none_behind : (front text : List ℕ) → HasNone front → HasNone text → HasNone (front ++ text)
none_behind front text first rest = list_any-append is_x front text ∙ rw first rest

digit_none : (byte : ℕ) → byte ≤ 57 → is_x byte ≡ false
digit_none byte low = elim (eqb_tells byte 120) [ inl (is, same) ↦ absurd (omega (arith, same)) | inr (is, differ) ↦ is ]

number_none : (n : ℕ) → n < 2 ^ 64 → HasNone (decimal n)
number_none n small =
    let (numeral, same) = decimal_is_IsNumeral n small in
    list_any_none is_x (decimal n) (λ k d inside.
    let (low, high) = digit_at (decimal n) k numeral.1 inside in
    subst (λ (byte : ℕ). is_x byte ≡ false) (get_or_default (decimal n) k 0 d inside) (digit_none (get_or (decimal n) k 0) high))

value_none : (value : Value) → value ≢ Unknown → is_x (value_text value) ≡ false
value_none Zero known = refl
value_none One known = refl
value_none Unknown known = absurd (known refl)

values_none : (row : Row) → AreKnown row → HasNone (values_text row)
values_none [] known = refl
values_none (value ∷ row) known =
    list_any_none is_x (map value_text (value ∷ row)) (All-map (λ byte. is_x byte ≡ false) value_text (value ∷ row) (λ k d inside. value_none (get_or (value ∷ row) k d) (known k d inside)))

line_none : (k : ℕ) (outputs registers : Row) → k < 2 ^ 64 → AreKnown outputs → AreKnown registers → HasNone (trace_line k outputs registers)
line_none k outputs registers small outs regs =
    let number : List ℕ = decimal k in
    let out : List ℕ = values_text outputs in
    let reg : List ℕ = values_text registers in
    none_behind (number ++ codes " " ++ out ++ codes " " ++ reg) (codes "\n")
    (none_behind (number ++ codes " " ++ out ++ codes " ") reg
    (none_behind (number ++ codes " " ++ out) (codes " ")
    (none_behind (number ++ codes " ") out (none_behind number (codes " ") (number_none k small) refl) (values_none outputs outs)) refl)
    (values_none registers regs)) refl

end_none : (registers : Row) → AreKnown registers → HasNone (end_line registers)
end_none registers known =
    none_behind (codes "end " ++ values_text registers) (codes "\n") (none_behind (codes "end ") (values_text registers) refl (values_none registers known)) refl

lines_none : (line : ℕ → List ℕ) (a n : ℕ) → ((k : ℕ) → k < a + n → HasNone (line k)) → HasNone (flat_map line (range_with_len a n))
lines_none line a zero each = refl
lines_none line a (suc n) each =
    none_behind (line a) (flat_map line (range_with_len (a + 1) n)) (each a (omega arith)) (lines_none line (a + 1) n (λ k low. each k (omega (arith, low))))

pub known_traces_are_known : KnownTracesAreKnown
known_traces_are_known c accepted vectors small starts rows text is =
    let from = is.is_trace in
    let n : ℕ = length vectors in
    let state : (k : ℕ) → k ≤ length vectors → AreKnown (from.state k) = state_known c accepted (initial_row c) vectors starts rows from.state from.nets from.run in
    let outputs : (k : ℕ) → k < length vectors → AreKnown (values_at (from.nets k) c.outputs) = λ k low.
    All-map (λ value. value ≢ Unknown) (value_at (from.nets k)) c.outputs
    (λ i d inside. nets_known c accepted (initial_row c) vectors starts rows from.state from.nets from.run k low (state k (omega arith)) (get_or c.outputs i d)) in
    let line : ℕ → List ℕ = λ k. trace_line (0 + k) (values_at (from.nets k) c.outputs) (from.state k) in
    let lines : HasNone (flat_map line (range_with_len 0 n)) =
    lines_none line 0 n (λ k low. line_none (0 + k) (values_at (from.nets k) c.outputs) (from.state k) (omega arith) (outputs k (omega arith)) (state k (omega arith))) in
    subst HasNone (sym (is.spelt ∙ ap (λ (front : List ℕ). front ++ end_line is.last) from.spelt))
    (none_behind (flat_map line (range_with_len 0 n)) (end_line is.last) lines (end_none is.last (subst AreKnown (sym from.ends) (state n (omega arith)))))
