-- One more turn of a run.
use Rattle.std.proofs.Common.{◌≡◌, ℕ, ◌+◌, ◌<◌, List, [], ◌∷◌, ◌++◌, length, drop, refl, arith, ap, sym, ◌∙◌, subst, add-zero}
use Rattle.std.proofs.lemmas.List.{drop_more, append_assoc, append-nil}
use Rattle.std.proofs.Math.Seq.{drop-length}
use Rattle.ds_base.specs.Values.{Row}
use Rattle.ds_cover.specs.Cover.{values_at}
use Rattle.ds_design.specs.Circuit.{Circuit, data_nets, initial_row}
use Rattle.ds_design.specs.Valuation.{IsValuation}
use Rattle.ds_design.specs.Run.{row_at}
use Rattle.ds_design.specs.Trace.{IsTrace, AreLines, trace_line, end_line}
use Rattle.ds_design.proofs.ClockedRuns.{trace_by_turns}
use Rattle.ds_clocked.specs.Loop.{IsWrittenTo}

pub no_turn : (c : Circuit) (first : ℕ) (start : Row) (vectors : List Row) (IsWritten : List ℕ → Type 0) → IsWritten [] → IsWrittenTo c first start vectors 0 start IsWritten
no_turn c first start vectors IsWritten none = record {
  text = [];
  written = none;
  rest = λ rest last from. subst (λ (turn : ℕ). AreLines c turn start vectors rest last) (add-zero first) from;
}

pub one_turn : (c : Circuit) (first : ℕ) (start : Row) (vectors : List Row) (k : ℕ) (state nets : Row) (Before After : List ℕ → Type 0) → k < length vectors
    → IsWrittenTo c first start vectors k state Before → IsValuation c state (row_at vectors k) nets
    → ((text : List ℕ) → Before text → After (text ++ trace_line (first + k) (values_at nets c.outputs) state))
    → IsWrittenTo c first start vectors (k + 1) (values_at nets (data_nets c)) After
one_turn c first start vectors k state nets Before After inside done settled line =
    let text : List ℕ = trace_line (first + k) (values_at nets c.outputs) state in
    record {
      text = done.text ++ text;
      written = line done.text done.written;
      rest = λ rest last from.
          let turn : first + (k + 1) ≡ first + k + 1 = omega arith in
          let from_here : AreLines c (first + k + 1) (values_at nets (data_nets c)) (drop (k + 1) vectors) rest last = subst (λ (t : ℕ). AreLines c t (values_at nets (data_nets c)) (drop (k + 1) vectors) rest last) turn from in
          let here : AreLines c (first + k) state (row_at vectors k ∷ drop (k + 1) vectors) (text ++ rest) last = (nets, rest, settled, from_here, refl) in
          let all : AreLines c first start vectors (done.text ++ (text ++ rest)) last =
          done.rest (text ++ rest) last (subst (λ (vs : List Row). AreLines c (first + k) state vs (text ++ rest) last) (sym (drop_more vectors k [] inside)) here) in
          subst (λ (t : List ℕ). AreLines c first start vectors t last) (sym (append_assoc done.text text rest)) all;
    }

pub last_turn : (c : Circuit) (first : ℕ) (start : Row) (vectors : List Row) (k : ℕ) (state : Row) (IsWritten : List ℕ → Type 0) → k ≡ length vectors
    → IsWrittenTo c first start vectors k state IsWritten → (lines : List ℕ) × AreLines c first start vectors lines state × IsWritten lines
last_turn c first start vectors k state IsWritten all done =
    let none_left : drop k vectors ≡ [] = ap (λ (n : ℕ). drop n vectors) all ∙ drop-length vectors in
    let end : AreLines c (first + k) state (drop k vectors) [] state = subst (λ (vs : List Row). AreLines c (first + k) state vs [] state) (sym none_left) (refl, refl) in
    (done.text, subst (λ (t : List ℕ). AreLines c first start vectors t state) (append-nil done.text) (done.rest [] state end), done.written)

pub whole_trace : (c : Circuit) (start : Row) (vectors : List Row) (lines : List ℕ) (last : Row) → start ≡ initial_row c → AreLines c 0 start vectors lines last → IsTrace c vectors (lines ++ end_line last)
whole_trace c start vectors lines last is are = record {
  lines = lines;
  last = last;
  is_trace = trace_by_turns c 0 (initial_row c) vectors lines last (subst (λ (row : Row). AreLines c 0 row vectors lines last) is are);
  spelt = refl;
}
