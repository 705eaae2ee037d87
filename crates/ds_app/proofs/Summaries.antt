-- What the run of a made design sums up to.
use Rattle.std.proofs.Common.{◌≡◌, ◌∙◌, ◌≤◌, ℕ, List, Result, Ok, Err, IfOk, length, ap, sym, subst}
use Rattle.ds_base.specs.Limit.{most_of}
use Rattle.ds_base.specs.declared.number.Limit.TheVariants.{Vectors}
use Rattle.ds_base.specs.Values.{Row}
use Rattle.ds_design.specs.Circuit.{Circuit, columns, initial_row}
use Rattle.ds_latch.specs.Plan.{Planned}
use Rattle.ds_design.specs.Rows.{Rows}
use Rattle.ds_design.specs.Run.{IsRun}
use Rattle.ds_design.specs.Trace.{IsTrace}
use Rattle.ds_demo.specs.Demo.{demo_design, demo_vectors}
use Rattle.ds_demo.specs.Laws.{VectorsFit}
use Rattle.ds_run.specs.Summed.{IsSummed, ones_in}
use Rattle.ds_run.specs.declared.sums.Sums.{Sums}
use Rattle.ds_app.specs.DemoStage.{AreSums}

-- the vectors fit the netlist of the design
pub vectors_fit_netlist : VectorsFit → (seed registers turns : ℕ) → turns ≤ most_of Vectors → (design : Circuit) (vectors : Rows) (circuit : Circuit)
    → design ≡ demo_design seed registers → vectors ≡ demo_vectors seed registers turns → circuit ≡ design
    → vectors.width ≡ length (columns circuit)
vectors_fit_netlist law seed registers turns few design vectors circuit is are same =
    ap (λ (r : Rows). r.width) are ∙ ((law seed registers turns few).width ∙ ap (λ (c : Circuit). length (columns c)) (sym (same ∙ is)))

-- the sums of the run are those of the design
pub are_sums : VectorsFit → (seed registers turns : ℕ) → turns ≤ most_of Vectors → (design : Circuit) (vectors : Rows) (p : Planned)
    → design ≡ demo_design seed registers → vectors ≡ demo_vectors seed registers turns → p.split.circuit ≡ design
    → (sums : Sums) → IsSummed p vectors.rows sums → AreSums seed registers turns sums.ones sums.fold
are_sums law seed registers turns few design vectors p is are same sums summed =
    let circuit : p.split.circuit ≡ demo_design seed registers = same ∙ is in
    let rows : vectors.rows ≡ (demo_vectors seed registers turns).rows = ap (λ (r : Rows). r.rows) are in
    let long : length vectors.rows ≡ turns = ap length rows ∙ (law seed registers turns few).one_a_turn in
    record {
      state = summed.state;
      nets = summed.nets;
      run = subst (λ (c : Circuit). IsRun c (initial_row c) (demo_vectors seed registers turns).rows summed.state summed.nets) circuit
          (subst (λ (rs : List Row). IsRun p.split.circuit (initial_row p.split.circuit) rs summed.state summed.nets) rows summed.run);
      counted = summed.ones ∙ (ap (λ (c : Circuit). ones_in c summed.nets (length vectors.rows)) circuit
          ∙ ap (ones_in (demo_design seed registers) summed.nets) long);
      trace = summed.text;
      traced = subst (λ (c : Circuit). IsTrace c (demo_vectors seed registers turns).rows summed.text) circuit
          (subst (λ (rs : List Row). IsTrace p.split.circuit rs summed.text) rows summed.traced);
      folded = summed.fold;
    }

-- the same of an answer
pub answer_sums : {E : Type 0} → VectorsFit → (seed registers turns : ℕ) → turns ≤ most_of Vectors → (design : Circuit) (vectors : Rows) (p : Planned)
    → design ≡ demo_design seed registers → vectors ≡ demo_vectors seed registers turns → p.split.circuit ≡ design
    → (result : Result Sums E) → IfOk result (IsSummed p vectors.rows) → IfOk result (λ sums. AreSums seed registers turns sums.ones sums.fold)
answer_sums law seed registers turns few design vectors p is are same (Ok sums) summed = are_sums law seed registers turns few design vectors p is are same sums summed
answer_sums law seed registers turns few design vectors p is are same (Err why) summed = tt
