-- The design of a seed has a summary.
use Rattle.std.proofs.Common.{◌≡◌, ◌∙◌, ◌≤◌, ℕ, List, length, inl, refl}
use Rattle.std.specs.Prelude.{All}
use Rattle.std.proofs.lemmas.List.{length-map}
use Rattle.ds_base.specs.Values.{Row}
use Rattle.ds_design.specs.Accepted.{IsAccepted}
use Rattle.ds_design.specs.Circuit.{Circuit, columns, initial_row, initial_value}
use Rattle.ds_design.specs.InRange.{IsInRange}
use Rattle.ds_design.specs.declared.design.Register.{Register}
use Rattle.ds_design.proofs.ClockedRuns.{some_run}
use Rattle.ds_demo.specs.Demo.{demo_design, demo_vectors, seed_words}
use Rattle.ds_demo.specs.Fold.{fold_of}
use Rattle.ds_demo.proofs.Accepts.{accepted, vectors_fit}
use Rattle.ds_demo.proofs.DemoInRange.{in_range}
use Rattle.ds_run.specs.Summed.{ones_in}
use Rattle.ds_app.specs.DemoStage.{demo_stage, summary_text}
use Rattle.ds_total_laws.specs.Decided.{IsDecided}
use Rattle.ds_table_laws.proofs.SomeTrace.{traces_exist}

demo_accepted : (seed registers : ℕ) → 1 ≤ registers → IsAccepted (demo_design seed registers)
unfolding demo_design
demo_accepted seed registers some = accepted registers (seed_words registers seed) some

demo_range : (seed registers : ℕ) → 1 ≤ registers → registers ≤ 4096 → IsInRange (demo_design seed registers)
unfolding demo_design
demo_range seed registers some few = in_range registers (seed_words registers seed) some few

-- the vectors of a seed are as wide as the columns
demo_wide : (seed registers turns : ℕ) → turns ≤ 65536
    → All (λ vector. length vector ≡ length (columns (demo_design seed registers))) (demo_vectors seed registers turns).rows
demo_wide seed registers turns few =
    let fits = vectors_fit seed registers turns few in
    λ k d inside. fits.vectors.one_width k d inside ∙ fits.width

-- the design of a seed has a summary
pub demo_decided : (seed registers turns : ℕ) → 1 ≤ registers → registers ≤ 4096 → turns ≤ 65536 → IsDecided (demo_stage seed registers turns)
demo_decided seed registers turns some few short =
    let c : Circuit = demo_design seed registers in
    let vectors : List Row = (demo_vectors seed registers turns).rows in
    let range : IsInRange c = demo_range seed registers some few in
    let accepts : IsAccepted c = demo_accepted seed registers some in
    let wide : All (λ vector. length vector ≡ length (columns c)) vectors = demo_wide seed registers turns short in
    let long : length (initial_row c) ≡ length c.registers = length-map c.registers (λ (r : Register). initial_value r.initial) in
    let (state, nets, run) = some_run c range accepts (initial_row c) vectors long wide in
    let (trace, traced) = traces_exist c range accepts vectors wide in
    let ones : ℕ = ones_in c nets turns in
    let fold : ℕ = fold_of trace in
    inl (
      summary_text registers turns ones fold,
      record {
        ones = ones;
        fold = fold;
        sums = record { state = state; nets = nets; run = run; counted = refl; trace = trace; traced = traced; folded = refl };
        spelt = refl;
      },
    )
