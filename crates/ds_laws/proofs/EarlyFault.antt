-- A fault is answered by its status where no read failed that a stage before it needs.
use Rattle.std.proofs.Common.{◌≡◌, ℕ, zero, suc, ◌≤◌, List, Option, None, Some, Ok, ◌⊎◌, inl, inr, refl, arith, subst}
use Rattle.ds_outside.specs.Fault.{Rose}
use Rattle.ds_cmd.specs.Line.{job_of}
use Rattle.ds_cmd.specs.declared.job.Job.{Job}
use Rattle.ds_cmd.specs.declared.job.Job.TheVariants.{Run, Clock, Check, Graph, Replay, Accept, Demo, Period, Clusters, Rate, Times}
use Rattle.ds_netlist.specs.Laws.{FaultsAreRefused}
use Rattle.ds_split.specs.Laws.{OneGroupedClustering}
use Rattle.ds_stage.specs.Ends.{RoseIn}
use Rattle.ds_stage.specs.declared.stop.Stop.TheVariants.{Unwritten}
use Rattle.ds_app.specs.Job.{stages_of}
use Rattle.ds_app.specs.Status.{AreTold, Call, HasWindows, IsAnswered, IsDone, IsNoLine, IsUnread, IsUnwritten}
use Rattle.ds_app.proofs.ExclusiveJobs.{job_not_refused}
use Rattle.ds_app.proofs.JobsLeaveNothing.{job_nothing}

-- a number is not there, or is
none_or_some : (stop : Option ℕ) → (stop ≡ None) ⊎ ¬ (stop ≡ None)
none_or_some None = inl refl
none_or_some (Some turns) = inr (λ is. cc)

-- a job reads its vectors by windows, or does not
windows_or_none : (job : Job) → HasWindows job ⊎ ¬ HasWindows job
windows_or_none (Run job) = none_or_some job.stop
windows_or_none (Clock job) = inl tt
windows_or_none (Check net) = inr (λ none. none)
windows_or_none (Graph job) = inr (λ none. none)
windows_or_none (Replay job) = inr (λ none. none)
windows_or_none (Accept job) = inr (λ none. none)
windows_or_none (Demo job) = inr (λ none. none)
windows_or_none (Period job) = inr (λ none. none)
windows_or_none (Clusters job) = inr (λ none. none)
windows_or_none (Rate job) = inr (λ none. none)
windows_or_none (Times job) = inr (λ none. none)

-- words are those of one job
same_job : (words : List (List ℕ)) (one other : Job) → job_of words ≡ Ok one → job_of words ≡ Ok other → one ≡ other
same_job words one other is also = cc

module _ (faults : FaultsAreRefused) (clustering : OneGroupedClustering) (call : Call) (job : Job) (line : List ℕ) (is_job : job_of call.words ≡ Ok job)
    (told : AreTold call.held job) (refused : (stages_of call.held job).refused line) where
  no_text : (text : List ℕ) → ¬ (stages_of call.held job).means text
  no_text text means = job_not_refused faults clustering call.held job told text line means refused

  not_done : ¬ IsDone call
  not_done done = no_text done.text (subst (λ (j : Job). (stages_of call.held j).means done.text) (same_job call.words done.job job done.is_job is_job) done.is_text)

  not_no_line : ¬ IsNoLine call.words
  not_no_line (fault, is) = cc

  not_unread : ((other : List ℕ) → ¬ (stages_of call.held job).unread (RoseIn call.before call.now) other) → ¬ IsUnread call
  not_unread read failed =
      read failed.line (subst (λ (j : Job). (stages_of call.held j).unread (RoseIn call.before call.now) failed.line) (same_job call.words failed.job job failed.is_job is_job) failed.is_line)

  not_left : (HasWindows job → ¬ Rose call.out.before call.out.now) → (text : List ℕ)
      → Rose call.out.before call.out.now → ¬ (stages_of call.held job).leaves (RoseIn call.before call.now) Unwritten text
  not_left whole text rose leaves = elim (windows_or_none job) [
    | inl windows ↦ whole windows rose
    | inr none ↦ (job_nothing call.held job none).only (RoseIn call.before call.now) Unwritten text leaves
  ]

  not_unwritten : (HasWindows job → ¬ Rose call.out.before call.out.now) → ¬ IsUnwritten call
  not_unwritten whole stopped =
      let same : stopped.job ≡ job = same_job call.words stopped.job job stopped.is_job is_job in
      elim stopped.is_text [
        | inl means ↦ no_text stopped.text (subst (λ (j : Job). (stages_of call.held j).means stopped.text) same means)
        | inr leaves ↦ not_left whole stopped.text stopped.cause (subst (λ (j : Job). (stages_of call.held j).leaves (RoseIn call.before call.now) Unwritten stopped.text) same leaves)
      ]

-- the statuses other than 1 and 4 are excluded
pub exact_fault_early : FaultsAreRefused → OneGroupedClustering → (call : Call) (status : ℕ) → IsAnswered call status → (job : Job) (line : List ℕ)
    → job_of call.words ≡ Ok job → AreTold call.held job → (stages_of call.held job).refused line
    → ((other : List ℕ) → ¬ (stages_of call.held job).unread (RoseIn call.before call.now) other)
    → (HasWindows job → ¬ Rose call.out.before call.out.now) → (status ≡ 1) ⊎ (status ≡ 4)
exact_fault_early faults clustering call zero answered job line is_job told refused read whole =
    absurd (not_done faults clustering call job line is_job told refused (answered.done refl))
exact_fault_early faults clustering call (suc zero) answered job line is_job told refused read whole = inl refl
exact_fault_early faults clustering call (suc (suc zero)) answered job line is_job told refused read whole =
    absurd (not_no_line faults clustering call job line is_job told refused (answered.no_line refl).0)
exact_fault_early faults clustering call (suc (suc (suc zero))) answered job line is_job told refused read whole =
    absurd (not_unread faults clustering call job line is_job told refused read (answered.unread refl))
exact_fault_early faults clustering call (suc (suc (suc (suc zero)))) answered job line is_job told refused read whole = inr refl
exact_fault_early faults clustering call (suc (suc (suc (suc (suc zero))))) answered job line is_job told refused read whole =
    absurd (not_unwritten faults clustering call job line is_job told refused whole (answered.unwritten refl))
exact_fault_early faults clustering call (suc (suc (suc (suc (suc (suc status)))))) answered job line is_job told refused read whole =
    absurd (let known : suc (suc (suc (suc (suc (suc status))))) ≤ 5 = answered.known in omega (arith, known))
