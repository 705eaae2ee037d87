-- Runs, lines and legal lists in windows.
use Rattle.std.proofs.Common.{◌≡◌, ℕ, suc, ◌+◌, ◌-◌, List, [], ◌∷◌, ◌++◌, length, refl, arith, ap, sym, ◌∙◌, inl, inr, subst, add-zero, append_assoc, length-append}
use Rattle.std.proofs.lemmas.Bool.{cases_lt}
use Rattle.ds_base.specs.Values.{Row}
use Rattle.ds_cover.specs.Cover.{values_at}
use Rattle.ds_design.specs.Circuit.{Circuit, data_nets}
use Rattle.ds_design.specs.Valuation.{IsValuation}
use Rattle.ds_design.specs.Run.{IsRun, row_at}
use Rattle.ds_design.specs.Trace.{IsTraceFrom, AreLines, trace_line}
use Rattle.ds_design.specs.Windows.{later}
use Rattle.ds_design.proofs.ClockedRuns.{trace_by_turns, turns_by_trace}
use Rattle.ds_base.proofs.AppendedPairs.{get_or-left, get_or-right}

module _ (c : Circuit) (start : Row) (one two : List Row) (state nets : ℕ → Row) where
  split_run : IsRun c start (one ++ two) state nets → IsRun c start one state nets × IsRun c (state (length one)) two (later (length one) state) (later (length one) nets)
  split_run run =
      let long : length (one ++ two) ≡ length one + length two = length-append one two in (
        record {
          starts = run.starts;
          settles = λ k below. subst (λ (row : Row). IsValuation c (state k) row (nets k)) (get_or-left one two k [] below) (run.settles k (omega arith));
          steps = λ k below. run.steps k (omega arith);
        },
        record {
          starts = ap state (add-zero (length one));
          settles = λ k below. subst (λ (row : Row). IsValuation c (state (length one + k)) row (nets (length one + k))) (get_or-right one two k (length one + k) [] refl) (run.settles (length one + k) (omega arith));
          steps = λ k below. ap state (omega arith) ∙ run.steps (length one + k) (omega arith);
        },
      )

  join_run : IsRun c start one state nets × IsRun c (state (length one)) two (later (length one) state) (later (length one) nets) → IsRun c start (one ++ two) state nets
  join_run (first, second) =
      let long : length (one ++ two) ≡ length one + length two = length-append one two in
      record {
        starts = first.starts;
        settles = λ k below.
            elim (cases_lt k (length one)) [
              | inl inside ↦ subst (λ (row : Row). IsValuation c (state k) row (nets k)) (sym (get_or-left one two k [] inside)) (first.settles k inside)
              | inr past ↦
                  (let at : length one + (k - length one) ≡ k = omega arith in
                  subst (λ (j : ℕ). IsValuation c (state j) (row_at (one ++ two) j) (nets j)) at
                  (subst (λ (row : Row). IsValuation c (state (length one + (k - length one))) row (nets (length one + (k - length one)))) (sym (get_or-right one two (k - length one) (length one + (k - length one)) [] refl))
                  (second.settles (k - length one) (omega arith))))
            ];
        steps = λ k below.
            elim (cases_lt k (length one)) [
              | inl inside ↦ first.steps k inside
              | inr past ↦
                  (let at : length one + (k - length one) ≡ k = omega arith in
                  ap state (omega arith) ∙ (second.steps (k - length one) (omega arith) ∙ ap (λ (j : ℕ). values_at (nets j) (data_nets c)) at))
            ];
      }

  pub run_in_windows : (IsRun c start (one ++ two) state nets → IsRun c start one state nets × IsRun c (state (length one)) two (later (length one) state) (later (length one) nets)) × (IsRun c start one state nets × IsRun c (state (length one)) two (later (length one) state) (later (length one) nets) → IsRun c start (one ++ two) state nets)
  run_in_windows = (split_run, join_run)

pub lines_in_windows : (c : Circuit) (first : ℕ) (start middle last : Row) (one two : List Row) (lines more : List ℕ) → AreLines c first start one lines middle → AreLines c (first + length one) middle two more last → AreLines c first start (one ++ two) (lines ++ more) last
lines_in_windows c first start middle last [] two lines more (none, is) rest =
    subst (λ (text : List ℕ). AreLines c first start two text last) (sym (ap (λ (text : List ℕ). text ++ more) none))
    (subst (λ (row : Row). AreLines c first row two more last) is
    (subst (λ (turn : ℕ). AreLines c turn middle two more last) (add-zero first) rest))
lines_in_windows c first start middle last (vector ∷ vectors) two lines more (nets, rest, settled, others, spelt) second =
    let at : first + suc (length vectors) ≡ first + 1 + length vectors = omega arith in (
      nets,
      rest ++ more,
      settled,
      lines_in_windows c (first + 1) (values_at nets (data_nets c)) middle last vectors two rest more others (subst (λ (turn : ℕ). AreLines c turn middle two more last) at second),
      ap (λ (text : List ℕ). text ++ more) spelt ∙ append_assoc (trace_line first (values_at nets c.outputs) start) rest more,
    )

pub traces_in_windows : (c : Circuit) (first : ℕ) (start middle last : Row) (one two : List Row) (lines more : List ℕ) → IsTraceFrom c first start one lines middle → IsTraceFrom c (first + length one) middle two more last → IsTraceFrom c first start (one ++ two) (lines ++ more) last
traces_in_windows c first start middle last one two lines more is_one is_two =
    trace_by_turns c first start (one ++ two) (lines ++ more) last
    (lines_in_windows c first start middle last one two lines more (turns_by_trace c first start one lines middle is_one) (turns_by_trace c (first + length one) middle two more last is_two))
