-- A plan of what is held has one clocked run, and every legal list does what it does.
use Rattle.std.proofs.Common.{◌≡◌, ℕ, Bool, List, Option, None, Some, length, sym, subst}
use Rattle.std.specs.Prelude.{All}
use Rattle.ds_outside.specs.Held.{Held}
use Rattle.ds_design.specs.Accepted.{IsAccepted}
use Rattle.ds_design.specs.Circuit.{Circuit, columns}
use Rattle.ds_design.specs.InRange.{IsInRange}
use Rattle.ds_latch.specs.Plan.{IsPlan}
use Rattle.ds_latch.proofs.Headline.{headline}
use Rattle.ds_design.specs.Rows.{Rows}
use Rattle.ds_stage.specs.StreamStage.{most_vectors}
use Rattle.ds_stage.proofs.FileMeaning.{netlist_in_range, vectors_wide}
use Rattle.ds_stage.proofs.Streamed.{streamed_wide}
use Rattle.ds_stage.proofs.PlanAccepted.{planned_circuit, planned_is_plan}
use Rattle.ds_app.specs.Interleavings.{Interleavings}
use Rattle.ds_app.specs.RunStage.{run_vectors_stage}

-- the vectors of `run` are as wide as the columns
run_wide : (held : List ℕ → Held) (vec : List ℕ) (log : Bool) (stop : Option ℕ) (c : Circuit) (vectors : Rows) → (run_vectors_stage held vec log stop c).means vectors
    → All (λ vector. length vector ≡ length (columns c)) vectors.rows
run_wide held vec log None c vectors means = streamed_wide held vec (most_vectors log) c vectors means
run_wide held vec log (Some stop) c vectors means = vectors_wide held vec c vectors means

pub interleavings_lem : (held : List ℕ → Held) (words : List (List ℕ)) → Interleavings held words
interleavings_lem held words job is_job c netlist p planned vectors means =
    let (flat, is_flat, (is, accepted)) = netlist in
    let accepted' : IsAccepted c = subst (λ (d : Circuit). IsAccepted d) (sym is) accepted in
    let plan : IsPlan p.split p.graph = planned_is_plan held job.net job.graph job.groups job.clusters job.slack c p accepted' planned in
    let same : c ≡ p.split.circuit = sym (planned_circuit held job.net job.graph job.groups job.clusters job.slack c p planned) in
    headline p.split p.graph plan
    (subst IsInRange same (netlist_in_range held job.net c netlist))
    vectors.rows
    (subst (λ (d : Circuit). All (λ vector. length vector ≡ length (columns d)) vectors.rows) same (run_wide held job.vec job.log job.stop c vectors means))
