-- The summary of a run of the design that is made from a number.
use Rattle.std.specs.Prelude.{◌≡◌, ℕ, ◌+◌, ◌*◌, List, ◌++◌, codes}
use Rattle.ds_base.specs.Values.{Row}
use Rattle.ds_design.specs.Circuit.{initial_row}
use Rattle.ds_design.specs.Run.{IsRun}
use Rattle.ds_design.specs.Trace.{IsTrace}
use Rattle.ds_demo.specs.Demo.{demo_design, demo_vectors}
use Rattle.ds_demo.specs.Fold.{fold_of}
use Rattle.ds_run.specs.Summed.{ones_in}
use Rattle.ds_stage.specs.Report.{count_line}
use Rattle.ds_stage.specs.Stage.{Stage, giving}

-- the ones in all output rows of the clocked run, and the fold of its trace
pub record AreSums (seed registers turns ones fold : ℕ) : Type 0 where
  pub state : ℕ → Row
  pub nets : ℕ → Row
  pub run : IsRun (demo_design seed registers) (initial_row (demo_design seed registers))
      (demo_vectors seed registers turns).rows state nets
  pub counted : ones ≡ ones_in (demo_design seed registers) nets turns
  pub trace : List ℕ
  pub traced : IsTrace (demo_design seed registers) (demo_vectors seed registers turns).rows trace
  pub folded : fold ≡ fold_of trace

-- the turns; the firings of the run, four for each turn and each register and as many for IN and
-- OUT; the ones and the fold
abbrev pub summary_text : ℕ → ℕ → ℕ → ℕ → List ℕ
summary_text registers turns ones fold = count_line (codes "turns") turns
    ++ count_line (codes "firings") (4 * turns * (registers + 1))
    ++ count_line (codes "ones") ones ++ count_line (codes "fold") fold

-- the summary of a run of the design of a seed, with so many registers, on as many vectors as turns
pub record IsSummary (seed registers turns : ℕ) (text : List ℕ) : Type 0 where
  pub ones : ℕ
  pub fold : ℕ
  pub sums : AreSums seed registers turns ones fold
  pub spelt : text ≡ summary_text registers turns ones fold

-- `demo`
abbrev pub demo_stage : ℕ → ℕ → ℕ → Stage (List ℕ)
demo_stage seed registers turns = giving (IsSummary seed registers turns)
