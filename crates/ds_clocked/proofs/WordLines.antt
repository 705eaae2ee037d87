-- Lines that are written out of words are lines of the run.
use Rattle.std.proofs.Common.{◌≡◌, ◌∙◌, ℕ, zero, suc, ◌+◌, ◌-◌, ◌*◌, ◌/◌, ◌%◌, ◌<◌, ◌≤◌, List, [], ◌∷◌, ◌++◌, length, take, drop, refl, sym, ap, arith, subst, append-nil, flat_map}
use Rattle.std.specs.List.{range_with_len}
use Rattle.std.proofs.Math.Seq.{take-add}
use Rattle.std.proofs.lemmas.List.{get_or-drop, get_or-take, length-drop, length-take-le, map-id}
use Rattle.std.proofs.lemmas.List.Concat.{flat_map-append}
use Rattle.std.proofs.lemmas.List.FromFn.{map-range_with_len_more}
use Rattle.ds_base.specs.Values.{Row}
use Rattle.ds_cover.specs.Cover.{values_at}
use Rattle.ds_design.specs.Circuit.{Circuit, data_nets}
use Rattle.ds_design.specs.Run.{IsRun, row_at}
use Rattle.ds_design.specs.Trace.{AreLines, trace_line, trace_lines}
use Rattle.ds_design.specs.Valuation.{IsValuation}
use Rattle.ds_design.proofs.ClockedRuns.{turns_by_trace}
use Rattle.ds_design.proofs.RunWindows.{lines_in_windows}
use Rattle.ds_outside.specs.Pen.{Writing}
use Rattle.ds_outside.proofs.Pens.{puts_nothing, puts_on}
use Rattle.ds_clocked.specs.Appends.{PutsLines}
use Rattle.ds_clocked.specs.Words.{PutsTurns, registers_in}
use Rattle.ds_slices.specs.Bytes.{AreBytes}
use Rattle.ds_slices.specs.Turns.{AreTurns, registers_before, turn_row}

-- the line of a turn of words
abbrev line_in : Circuit → ℕ → List ℕ → ℕ → List ℕ
line_in c first words k = trace_line (first + k) (values_at (turn_row words k) c.outputs) (registers_in c words k)

-- one line more
pub line_more : (c : Circuit) (first k : ℕ) (words : List ℕ) → trace_lines c first (k + 1) (registers_in c words) (turn_row words)
    ≡ trace_lines c first k (registers_in c words) (turn_row words) ++ line_in c first words k
line_more c first k words =
    let f : ℕ → List ℕ = line_in c first words in
    let more : range_with_len 0 (k + 1) ≡ range_with_len 0 k ++ k ∷ [] =
    sym (map-id (range_with_len 0 (k + 1))) ∙ (map-range_with_len_more (λ (j : ℕ). j) 0 k k (omega arith) ∙ ap (λ (xs : List ℕ). xs ++ k ∷ []) (map-id (range_with_len 0 k))) in
    ap (flat_map f) more ∙ (flat_map-append f (range_with_len 0 k) (k ∷ []) ∙ ap (λ (t : List ℕ). flat_map f (range_with_len 0 k) ++ t) (append-nil (f k)))

-- the values of nets in a turn, by their bytes
pub row_of_bytes : (words words' nets bytes : List ℕ) (k : ℕ) → words ≡ words' → AreBytes words nets (k / 8) bytes
    → turn_row bytes (k % 8) ≡ values_at (turn_row words' k) nets
row_of_bytes words words' nets bytes k same made =
    made (k % 8) (omega arith)
    ∙ (ap (λ (n : ℕ). values_at (turn_row words n) nets) (let e : 8 * (k / 8) + k % 8 ≡ k = omega arith in e)
    ∙ ap (λ (ws : List ℕ). values_at (turn_row ws k) nets) same)

-- lines that agree
lines_agree : (line line' : ℕ → List ℕ) (from turns : ℕ) → ((k : ℕ) → k < from + turns → line k ≡ line' k)
    → flat_map line (range_with_len from turns) ≡ flat_map line' (range_with_len from turns)
lines_agree line line' from zero each = refl
lines_agree line line' from (suc turns) each =
    ap (λ (t : List ℕ). t ++ flat_map line (range_with_len (from + 1) turns)) (each from (omega arith))
    ∙ ap (λ (t : List ℕ). line' from ++ t) (lines_agree line line' (from + 1) turns (λ k below. each k (omega arith)))

-- the vectors of some turns
pub row_in : (vectors : List Row) (from count k : ℕ) → k < count → row_at (take count (drop from vectors)) k ≡ row_at vectors (from + k)
row_in vectors from count k below = get_or-take count (drop from vectors) k [] below ∙ get_or-drop from vectors k []

pub few_long : (vectors : List Row) (from count : ℕ) → from + count ≤ length vectors → length (take count (drop from vectors)) ≡ count
few_long vectors from count within = length-take-le count (drop from vectors) (let long : length (drop from vectors) ≡ length vectors - from = length-drop from vectors in omega arith)

-- the registers behind some turns
pub registers_behind : (c : Circuit) (start : Row) (words : List ℕ) (count : ℕ) → 0 < count
    → registers_before c start words count ≡ values_at (turn_row words (count - 1)) (data_nets c)
registers_behind c start words zero some = absurd (omega arith)
registers_behind c start words (suc count) some =
    ap (λ (n : ℕ). values_at (turn_row words n) (data_nets c)) (let e : count ≡ suc count - 1 = omega arith in e)

module _ (c : Circuit) (start : Row) (vectors : List Row) (from count : ℕ) (words : List ℕ) (turns : AreTurns c start vectors from words)
    (low : count ≤ 64) (within : from + count ≤ length vectors) where
  window : List Row
  window = take count (drop from vectors)

  valued : (k : ℕ) → k < count → IsValuation c (registers_before c start words k) (row_at vectors (from + k)) (turn_row words k)
  valued k below = turns.valued k (omega arith) (omega arith)

  is_run : IsRun c start (take count (drop from vectors)) (registers_before c start words) (turn_row words)
  is_run =
      let long = few_long vectors from count within in
      record {
        starts = refl;
        settles = λ k below.
            subst (λ (row : Row). IsValuation c (registers_before c start words k) row (turn_row words k)) (sym (row_in vectors from count k (omega arith))) (valued k (omega arith));
        steps = λ k below. ap (registers_before c start words) (let e : k + 1 ≡ suc k = omega arith in e);
      }

  pub are_lines : (first : ℕ) → AreLines c first start (take count (drop from vectors)) (trace_lines c first count (registers_in c words) (turn_row words))
      (registers_before c start words count)
  are_lines first =
      let long = few_long vectors from count within in
      let same : trace_lines c first count (registers_in c words) (turn_row words) ≡ trace_lines c first count (registers_before c start words) (turn_row words) =
      lines_agree (line_in c first words) (λ k. trace_line (first + k) (values_at (turn_row words k) c.outputs) (registers_before c start words k)) 0 count
      (λ k below. ap (λ (row : Row). trace_line (first + k) (values_at (turn_row words k) c.outputs) row) (valued k (omega arith)).register) in
      turns_by_trace c first start (take count (drop from vectors)) (trace_lines c first count (registers_in c words) (turn_row words)) (registers_before c start words count)
      (record {
        state = registers_before c start words;
        nets = turn_row words;
        run = is_run;
        spelt = same ∙ ap (λ (n : ℕ). trace_lines c first n (registers_before c start words) (turn_row words)) (sym long);
        ends = ap (registers_before c start words) (sym long);
      })

-- no turn yet
pub puts_none : (w : Writing) (c : Circuit) (first : ℕ) (start : Row) (vectors : List Row) → PutsLines w w c first start (take 0 vectors) start
puts_none w c first start vectors = ([], (refl, refl), puts_nothing w)

-- some turns more
pub puts_more : {a b d : Writing} (c : Circuit) (first : ℕ) (start middle last : Row) (vectors : List Row) (from count : ℕ) (words : List ℕ)
    → PutsLines a b c first start (take from vectors) middle → AreTurns c middle vectors from words → 0 < count → count ≤ 64 → from + count ≤ length vectors
    → PutsTurns b d c (first + from) count words → last ≡ values_at (turn_row words (count - 1)) (data_nets c)
    → PutsLines a d c first start (take (from + count) vectors) last
puts_more {a} {b} {d} c first start middle last vectors from count words (lines, are, puts) turns some low within more is =
    let text : List ℕ = trace_lines c (first + from) count (registers_in c words) (turn_row words) in
    let front : length (take from vectors) ≡ from = length-take-le from vectors (omega arith) in
    let here : AreLines c (first + from) middle (take count (drop from vectors)) text (registers_before c middle words count) =
    are_lines c middle vectors from count words turns low within (first + from) in
    let at : AreLines c (first + length (take from vectors)) middle (take count (drop from vectors)) text last =
    subst (λ (n : ℕ). AreLines c (first + n) middle (take count (drop from vectors)) text last) (sym front)
    (subst (λ (row : Row). AreLines c (first + from) middle (take count (drop from vectors)) text row) (registers_behind c middle words count some ∙ sym is) here) in (
      lines ++ text,
      subst (λ (vs : List Row). AreLines c first start vs (lines ++ text) last) (sym (take-add from count vectors))
          (lines_in_windows c first start middle last (take from vectors) (take count (drop from vectors)) lines text are at),
      puts_on puts more,
    )
