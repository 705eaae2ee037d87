-- Each way in which a call may end has its status, and no other.
use Rattle.std.proofs.Common.{◌≡◌, ◌∙◌, ◌⊎◌, ℕ, List, [], Result, Ok, Err, inl, inr, ap, refl, arith, sym, subst}
use Rattle.std.specs.Prelude.{codes}
use Rattle.ds_outside.specs.Fault.{Rose}
use Rattle.ds_outside.specs.Written.{appended, AppendsPart}
use Rattle.ds_netlist.proofs.FaultyCircuits.{faults_are_refused_lem}
use Rattle.ds_split.proofs.OneClustering.{one_grouped_lem}
use Rattle.ds_cmd.specs.Line.{job_of}
use Rattle.ds_cmd.specs.declared.job.Job.{Job}
use Rattle.ds_cmd.specs.declared.fault.UsageFault.{UsageFault}
use Rattle.ds_cmd.specs.declared.fault.UsageFault.TheVariants as usage
use Rattle.ds_stage.specs.declared.stop.Stop.{Stop}
use Rattle.ds_stage.specs.declared.stop.Stop.TheVariants.{Refused, Unread, Unwritten, Memory}
use Rattle.ds_stage.specs.Ends.{Ends, RoseIn, UnlessUnread, UnlessUnwritten, UnreadOr, UnwrittenOr}
use Rattle.ds_app.specs.Job.{stages_of}
use Rattle.ds_stage.specs.Stage.{leaves_nothing}
use Rattle.ds_app.specs.Status.{AreTold, Call, HasWindows, IsAnswered, HasLeft, IsWanting, Reports, SaysEnd, SaysStop, SaysUsage, WritesLast}
use Rattle.ds_stage.proofs.StagesLeaveNothing.{LeavesNothing, nothing_appended}
use Rattle.ds_app.proofs.JobsLeaveNothing.{job_nothing}
use Rattle.ds_app.proofs.ExclusiveJobs.{job_not_refused}
use Rattle.ds_app.proofs.JobReadFailures.{job_says}

-- the job of some words is one job
same_job : (words : List (List ℕ)) (job other : Job) → job_of words ≡ Ok job → job_of words ≡ Ok other → job ≡ other
same_job words job other is also = cc

-- and words with a job are a command line
pub no_fault : (words : List (List ℕ)) (job : Job) (fault : UsageFault) → job_of words ≡ Ok job → job_of words ≡ Err fault → ⊥
no_fault words job fault is faulty = cc

-- a job has no text and a fault
never_both : (call : Call) (job other : Job) (text line : List ℕ) → job_of call.words ≡ Ok job → job_of call.words ≡ Ok other
    → AreTold call.held other → (stages_of call.held job).means text → (stages_of call.held other).refused line → ⊥
never_both call job other text line is also told means refused =
    job_not_refused faults_are_refused_lem one_grouped_lem call.held other told text line
    (subst (λ (j : Job). (stages_of call.held j).means text) (same_job call.words job other is also) means) refused

-- a job that leaves nothing leaves the output as it was
left_same : (call : Call) (job : Job) (stop : Stop) → LeavesNothing (stages_of call.held job) → ((text : List ℕ) → leaves_nothing stop text → text ≡ [])
    → HasLeft call job stop → call.out.new ≡ call.out.old
left_same call job stop nothing none left =
    left.written ∙ (ap (appended call.out.old) (none left.text (nothing.only (RoseIn call.before call.now) stop left.text left.is_left)) ∙ nothing_appended call.out.old)

-- so does want of memory
wanting_same : (call : Call) → WritesLast call.words → IsWanting call → call.out.new ≡ call.out.old
wanting_same call last (inl same) = same
wanting_same call last (inr (job, is, left)) = left_same call job Memory (job_nothing call.held job (last job is)) (λ text none. none) left

answered_done : (call : Call) (job : Job) (text : List ℕ) → job_of call.words ≡ Ok job → (stages_of call.held job).means text
    → call.out.new ≡ appended call.out.old text → call.err.new ≡ call.err.old → call.now ≡ call.before → call.out.now ≡ call.out.before → IsAnswered call 0
answered_done call job text is means written silent reads writes = record {
  known = omega arith;
  done = λ e. record { job = job; text = text; is_job = is; is_text = means; written = written; silent = silent };
  refused = λ e. absurd (omega arith);
  no_line = λ e. absurd (omega arith);
  unread = λ e. absurd (omega arith);
  no_memory = λ e. absurd (omega arith);
  unwritten = λ e. absurd (omega arith);
  out_same = λ last low high. absurd (omega arith);
  failed_read = inr (inr reads);
  failed_write = inr writes;
  exact_line = λ fault faulty. absurd (no_fault call.words job fault is faulty);
  exact_fault = λ other line also told refused none written. absurd (never_both call job other text line is also told means refused);
  complete = λ other t also told meant none whole. inl refl;
}

answered_refused : (call : Call) (job : Job) (line : List ℕ) → job_of call.words ≡ Ok job → (stages_of call.held job).refused line
    → HasLeft call job (Refused line) → Reports call.err line → call.now ≡ call.before → call.out.now ≡ call.out.before → IsAnswered call 1
answered_refused call job line is refused left reported reads writes = record {
  known = omega arith;
  done = λ e. absurd (omega arith);
  refused = λ e. record { job = job; line = line; is_job = is; is_line = refused; left = left; reported = reported };
  no_line = λ e. absurd (omega arith);
  unread = λ e. absurd (omega arith);
  no_memory = λ e. absurd (omega arith);
  unwritten = λ e. absurd (omega arith);
  out_same = λ last low high. left_same call job (Refused line) (job_nothing call.held job (last job is)) (λ text none. none) left;
  failed_read = inr (inr reads);
  failed_write = inr writes;
  exact_line = λ fault faulty. absurd (no_fault call.words job fault is faulty);
  exact_fault = λ other l also told r none written. inl refl;
  complete = λ other text also told means none whole. absurd (never_both call other other text line also also told means
      (subst (λ (j : Job). (stages_of call.held j).refused line) (same_job call.words job other is also) refused));
}

answered_unread : (call : Call) (job : Job) (line : List ℕ) → job_of call.words ≡ Ok job → (stages_of call.held job).unread (RoseIn call.before call.now) line
    → HasLeft call job (Unread line) → Reports call.err line → call.out.now ≡ call.out.before → IsAnswered call 3
answered_unread call job line is unread left reported writes =
    let failed = job_says call.held job (RoseIn call.before call.now) line unread in
    record {
      known = omega arith;
      done = λ e. absurd (omega arith);
      refused = λ e. absurd (omega arith);
      no_line = λ e. absurd (omega arith);
      unread = λ e. record { job = job; line = line; is_job = is; is_line = unread; left = left; reported = reported };
      no_memory = λ e. absurd (omega arith);
      unwritten = λ e. absurd (omega arith);
      out_same = λ last low high. left_same call job (Unread line) (job_nothing call.held job (last job is)) (λ text none. none) left;
      failed_read = inl refl;
      failed_write = inr writes;
      exact_line = λ fault faulty. absurd (no_fault call.words job fault is faulty);
      exact_fault = λ other l also told r none written. absurd (none failed.which failed.name failed.is);
      complete = λ other t also told meant none whole. absurd (none failed.which failed.name failed.is);
    }

-- a job that gives a text, or leaves one although it writes last, is not refused
begun_not_refused : (call : Call) (job other : Job) (text line : List ℕ) → job_of call.words ≡ Ok job → job_of call.words ≡ Ok other
    → AreTold call.held other → (stages_of call.held job).means text ⊎ (stages_of call.held job).leaves (RoseIn call.before call.now) Unwritten text
    → Rose call.out.before call.out.now → (HasWindows other → ¬ Rose call.out.before call.out.now) → (stages_of call.held other).refused line → ⊥
begun_not_refused call job other text line is also told (inl means) rose whole refused = never_both call job other text line is also told means refused
begun_not_refused call job other text line is also told (inr left) rose whole refused =
    (job_nothing call.held job (λ has. whole (subst HasWindows (same_job call.words job other is also) has) rose)).only (RoseIn call.before call.now) Unwritten text left

answered_unwritten : (call : Call) (job : Job) (text : List ℕ) → job_of call.words ≡ Ok job
    → (stages_of call.held job).means text ⊎ (stages_of call.held job).leaves (RoseIn call.before call.now) Unwritten text
    → AppendsPart call.out.old call.out.new text → Rose call.out.before call.out.now → Reports call.err (codes "desync: cannot write\n") → call.now ≡ call.before → IsAnswered call 5
answered_unwritten call job text is means part cause reported reads = record {
  known = omega arith;
  done = λ e. absurd (omega arith);
  refused = λ e. absurd (omega arith);
  no_line = λ e. absurd (omega arith);
  unread = λ e. absurd (omega arith);
  no_memory = λ e. absurd (omega arith);
  unwritten = λ e. record { job = job; text = text; is_job = is; is_text = means; part = part; cause = cause; reported = reported };
  out_same = λ last low high. absurd (omega arith);
  failed_read = inr (inr reads);
  failed_write = inl refl;
  exact_line = λ fault faulty. absurd (no_fault call.words job fault is faulty);
  exact_fault = λ other line also told refused none written. absurd (begun_not_refused call job other text line is also told means cause written refused);
  complete = λ other t also told meant none whole. absurd (whole cause);
}

pub answered_memory : (call : Call) → IsWanting call → Reports call.err (codes "desync: out of memory\n") → call.out.now ≡ call.out.before → IsAnswered call 4
answered_memory call wanting reported writes = record {
  known = omega arith;
  done = λ e. absurd (omega arith);
  refused = λ e. absurd (omega arith);
  no_line = λ e. absurd (omega arith);
  unread = λ e. absurd (omega arith);
  no_memory = λ e. (wanting, reported);
  unwritten = λ e. absurd (omega arith);
  out_same = λ last low high. wanting_same call last wanting;
  failed_read = inr (inl refl);
  failed_write = inr writes;
  exact_line = λ fault faulty. inr refl;
  exact_fault = λ other line also told refused none written. inr refl;
  complete = λ other t also told meant none whole. inr refl;
}

pub answered_usage : (call : Call) (fault : UsageFault) → job_of call.words ≡ Err fault → call.out.new ≡ call.out.old
    → Reports call.err (codes "desync: bad command line\n") → call.now ≡ call.before → call.out.now ≡ call.out.before → IsAnswered call 2
answered_usage call fault faulty same reported reads writes = record {
  known = omega arith;
  done = λ e. absurd (omega arith);
  refused = λ e. absurd (omega arith);
  no_line = λ e. ((fault, faulty), reported);
  unread = λ e. absurd (omega arith);
  no_memory = λ e. absurd (omega arith);
  unwritten = λ e. absurd (omega arith);
  out_same = λ last low high. same;
  failed_read = inr (inr reads);
  failed_write = inr writes;
  exact_line = λ other also. inl refl;
  exact_fault = λ job line is told refused none written. absurd (no_fault call.words job fault is faulty);
  complete = λ job t is told meant none whole. absurd (no_fault call.words job fault is faulty);
}

-- what ended a job says the status
answered_stop : (A : Type 0) (call : Call) (job : Job) (stop : Stop) (status : ℕ) → job_of call.words ≡ Ok job
    → Ends {A = A} (stages_of call.held job) (RoseIn call.before call.now) call.out (Err stop)
    → UnreadOr stop (call.now ≡ call.before) → UnwrittenOr stop (call.out.now ≡ call.out.before) → SaysStop stop call.err status → IsAnswered call status
answered_stop A call job (Refused line) status is (refused, (text, left, written)) reads writes (e, reported) =
    subst (λ (s : ℕ). IsAnswered call s) (sym e) (answered_refused call job line is refused (record { text = text; is_left = left; written = written }) reported reads writes)
answered_stop A call job (Unread line) status is (unread, (text, left, written)) reads writes (e, reported) =
    subst (λ (s : ℕ). IsAnswered call s) (sym e) (answered_unread call job line is unread (record { text = text; is_left = left; written = written }) reported writes)
answered_stop A call job Unwritten status is (text, means, part, cause) reads writes (e, reported) =
    subst (λ (s : ℕ). IsAnswered call s) (sym e) (answered_unwritten call job text is means part cause reported reads)
answered_stop A call job Memory status is (text, left, written) reads writes (e, reported) =
    subst (λ (s : ℕ). IsAnswered call s) (sym e) (answered_memory call (inr (job, is, record { text = text; is_left = left; written = written })) reported writes)

-- so does a job that is done
pub answered_end : (call : Call) (job : Job) (ended : Result (Unit {0}) Stop) (status : ℕ) → job_of call.words ≡ Ok job
    → Ends (stages_of call.held job) (RoseIn call.before call.now) call.out ended
    → UnlessUnread ended (call.now ≡ call.before) → UnlessUnwritten ended (call.out.now ≡ call.out.before) → SaysEnd ended call.err status → IsAnswered call status
answered_end call job (Ok done) status is (text, means, written) reads writes (e, silent) =
    subst (λ (s : ℕ). IsAnswered call s) (sym e) (answered_done call job text is means written silent reads writes)
answered_end call job (Err stop) status is ends reads writes says = answered_stop (Unit {0}) call job stop status is ends reads writes says

-- words that are no command line, or for which there was no memory, say the status
pub answered_words : (call : Call) (fault : UsageFault) (status : ℕ) → (fault ≡ usage.Memory) ⊎ (job_of call.words ≡ Err fault)
    → call.out.new ≡ call.out.old → call.now ≡ call.before → call.out.now ≡ call.out.before → SaysUsage fault call.err status → IsAnswered call status
answered_words call usage.Line status (inl memory) same reads writes says = cc
answered_words call usage.Line status (inr is) same reads writes (e, reported) = subst (λ (s : ℕ). IsAnswered call s) (sym e) (answered_usage call usage.Line is same reported reads writes)
answered_words call usage.Number status (inl memory) same reads writes says = cc
answered_words call usage.Number status (inr is) same reads writes (e, reported) = subst (λ (s : ℕ). IsAnswered call s) (sym e) (answered_usage call usage.Number is same reported reads writes)
answered_words call usage.Mode status (inl memory) same reads writes says = cc
answered_words call usage.Mode status (inr is) same reads writes (e, reported) = subst (λ (s : ℕ). IsAnswered call s) (sym e) (answered_usage call usage.Mode is same reported reads writes)
answered_words call usage.Memory status either same reads writes (e, reported) = subst (λ (s : ℕ). IsAnswered call s) (sym e) (answered_memory call (inl same) reported writes)
