-- What a run sums up to, turn by turn.
use Rattle.std.proofs.Common.{◌≡◌, ◌∙◌, ℕ, ◌+◌, ◌^◌, ◌<◌, ◌≤◌, List, ◌++◌, length, get_or, ap, sym, subst, arith, zero-add}
use Rattle.std.proofs.lemmas.List.FromFn.{sum_by-map-range_with_len_more}
use Rattle.ds_base.specs.Values.{Row}
use Rattle.ds_cover.specs.Cover.{values_at}
use Rattle.ds_design.specs.Circuit.{Circuit, initial_row}
use Rattle.ds_latch.specs.Node.{Split, number_of}
use Rattle.ds_latch.specs.declared.node.Node.TheVariants.{Out}
use Rattle.ds_latch.specs.Plan.{Planned}
use Rattle.ds_design.specs.Run.{IsRun}
use Rattle.ds_design.specs.Trace.{end_line, trace_line}
use Rattle.ds_clocked.specs.Loop.{IsWrittenTo}
use Rattle.ds_clocked.proofs.OneMoreTurn.{last_turn, no_turn, whole_trace}
use Rattle.ds_demo.specs.Fold.{Folded, nothing, fold_after}
use Rattle.ds_demo.proofs.TextSums.{fold_after-append, sum_of_text}
use Rattle.ds_rule.specs.Words.{node_values as stored_at}
use Rattle.ds_fabric.specs.Showing.{Recorder}
use Rattle.ds_run.specs.RunOfPlan.{AreValues}
use Rattle.ds_run.specs.declared.sums.Sums.{Sums}
use Rattle.ds_run.specs.TraceRows.{IsGathered}
use Rattle.ds_run.specs.Finished.{IsFinished}
use Rattle.ds_run.specs.Summed.{IsSummed, IsSummedTo, ones_in, ones_of}
use Rattle.ds_run.proofs.NodeRecords.{latches_among, out_near, out_wide}
use Rattle.ds_run.proofs.FinishedTurns.{turn_written}

-- the ones of one turn more
pub ones_more : (c : Circuit) (nets : ℕ → Row) (k : ℕ)
    → ones_in c nets (k + 1) ≡ ones_in c nets k + ones_of (values_at (nets k) c.outputs)
ones_more c nets k =
    sum_by-map-range_with_len_more ones_of (λ j. values_at (nets j) c.outputs) 0 k k (zero-add k)

-- a row of outputs has fewer values than 2 ^ 32
pub outputs_few : (p : Planned) (vectors : List Row) (r : Recorder) → IsFinished p vectors r
    → length p.split.circuit.outputs < 2 ^ 32
outputs_few p vectors r finished_run =
    let lengths : List ℕ = r.shown.view.run.lengths in
    let near : number_of Out < r.shown.view.run.design_nodes = out_near p vectors r finished_run in
    let among : r.shown.view.run.design_nodes ≤ r.shown.view.run.nodes =
    latches_among p vectors r finished_run in
    let inside : 1 < length r.shown.view.run.lengths =
    omega (arith, finished_run.planned.lengths_are.one_each) in
    let few : get_or lengths 1 0 < 2 ^ 32 = finished_run.planned.lengths_are.few 1 0 inside in
    omega (arith, out_wide p vectors r finished_run)

-- the lines of so many turns were added, up to these registers
abbrev pub IsFoldedTo : Split → List Row → ℕ → Row → Folded → Type 0
IsFoldedTo s vectors turns row fold =
    IsWrittenTo s.circuit 0 s.initial vectors turns row (λ text. fold ≡ fold_after nothing text)

-- before the first turn
pub none_folded : (s : Split) (vectors : List Row) (row : Row) (fold : Folded) → row ≡ s.initial
    → fold ≡ nothing → IsFoldedTo s vectors 0 row fold
unfolding fold_after
none_folded s vectors row fold starts none =
    let IsAdded : List ℕ → Type 0 = λ text. fold ≡ fold_after nothing text in
    subst (λ (row : Row). IsWrittenTo s.circuit 0 s.initial vectors 0 row IsAdded) (sym starts)
    (no_turn s.circuit 0 s.initial vectors IsAdded none)

-- one turn more
pub turn_folded : (p : Planned) (vectors : List Row) (r : Recorder)
    → (finished_run : IsFinished p vectors r)
    → (k : ℕ) → k < length vectors
    → (t : Split) (n : ℕ) (outputs before next : Row) (fold more : Folded)
    → n ≡ 1 → outputs ≡ stored_at r.shown.view.run n (k + 1)
    → ((values : AreValues p.split vectors r.shown.view.run) → before ≡ values.state k)
    → t ≡ p.split → IsGathered t r.shown.view.run k next
    → IsFoldedTo p.split vectors k before fold
    → more ≡ fold_after fold (trace_line k outputs before)
    → IsFoldedTo p.split vectors (k + 1) next more
turn_folded p vectors r finished_run k below t n outputs before next fold more at is was same gathered
    done added =
    turn_written p vectors r finished_run k below 0 t n outputs before next
    (λ text. fold ≡ fold_after nothing text) (λ text. more ≡ fold_after nothing text)
    at is was same gathered done
    (λ text folded. added
    ∙ (ap (λ (f : Folded). fold_after f (trace_line k outputs before)) folded
    ∙ (fold_after-append nothing text (trace_line k outputs before)
    ∙ ap (λ (turn : ℕ). fold_after nothing (text ++ trace_line turn outputs before))
    (sym (zero-add k)))))

-- after the last turn
pub all_folded : (p : Planned) (vectors : List Row) (k ones : ℕ) (last : Row) (fold : Folded)
    (state nets : ℕ → Row)
    → k ≡ length vectors → IsRun p.split.circuit p.split.initial vectors state nets
    → ones ≡ ones_in p.split.circuit nets k
    → IsFoldedTo p.split vectors k last fold → IsSummedTo p vectors ones last fold
all_folded p vectors k ones last fold state nets all run count done =
    let (lines, are, folded) = last_turn p.split.circuit 0 p.split.initial vectors k last
    (λ text. fold ≡ fold_after nothing text) all done in
    record {
      state = state;
      nets = nets;
      run = run;
      ones_are = count ∙ ap (ones_in p.split.circuit nets) all;
      lines = lines;
      are = are;
      folded = folded;
    }

-- with the last line
pub summed : (p : Planned) (vectors : List Row) (sums : Sums) (last : Row) (fold after : Folded)
    → p.split.initial ≡ initial_row p.split.circuit
    → IsSummedTo p vectors sums.ones last fold → after ≡ fold_after fold (end_line last)
    → sums.fold ≡ after.sum → IsSummed p vectors sums
summed p vectors sums last fold after start to added is = record {
  state = to.state;
  nets = to.nets;
  run = subst (λ (row : Row). IsRun p.split.circuit row vectors to.state to.nets) start to.run;
  ones = to.ones_are;
  text = to.lines ++ end_line last;
  traced = whole_trace p.split.circuit p.split.initial vectors to.lines last start to.are;
  fold = is
      ∙ (ap (λ (f : Folded). f.sum) (added
      ∙ (ap (λ (f : Folded). fold_after f (end_line last)) to.folded
      ∙ fold_after-append nothing to.lines (end_line last)))
      ∙ sum_of_text (to.lines ++ end_line last));
}
