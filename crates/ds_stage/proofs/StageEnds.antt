-- How a job ends that goes through stages.
use Rattle.std.proofs.Common.{◌≡◌, ◌∙◌, sym, ℕ, ◌≤◌, List, [], Option, None, Some, Result, Ok, Err, inl, inr, arith, subst}
use Rattle.ds_outside.specs.Fault.{Rose}
use Rattle.ds_outside.specs.Written.{appended}
use Rattle.ds_outside.specs.Held.{Held}
use Rattle.ds_outside.specs.declared.files.Which.{Which}
use Rattle.ds_outside.specs.declared.files.Which.TheVariants.{Vectors}
use Rattle.ds_outside.specs.declared.files.Which.TheVariants as which
use Rattle.ds_base.specs.declared.number.Mode.{Mode}
use Rattle.ds_design.specs.Circuit.{Circuit}
use Rattle.ds_stage.specs.declared.stop.Stop.{Stop}
use Rattle.ds_stage.specs.declared.stop.Stop.TheVariants.{Refused, Unread, Unwritten, Memory}
use Rattle.ds_stage.specs.Stage.{OfFile, Stage, giving, leaves_nothing, then_stage}
use Rattle.ds_latch.specs.Node.{Split, slackened}
use Rattle.ds_stage.specs.Stages.{lines_stage, vectors_stage}
use Rattle.ds_stage.specs.GroupsStage.{grouped_stage, groups_stage}
use Rattle.ds_stage.specs.ClustersStage.{clustered_stage, clusters_stage}
use Rattle.ds_stage.specs.SplitStage.{parted_stage, split_stage}
use Rattle.ds_stage.specs.PlanStage.{IsOwnPlan, marked_stage, plan_stage, planned_stage}
use Rattle.ds_stage.specs.Ends.{Ends, Leaves, Never, Output, RoseIn, Stops}
use Rattle.ds_stage.proofs.StagesLeaveNothing.{LeavesNothing, nothing_appended}
use Rattle.ds_stage.proofs.Stages.{IsWider, wider_both}

-- nothing is left on an output that is as it was
left_as_is : {A : Type 0} (stage : Stage A) (failed : OfFile) (out : Output) (stop : Stop) → out.new ≡ out.old → stage.leaves failed stop [] → Leaves stage failed out stop
left_as_is stage failed out stop same is = ([], is, same ∙ sym (nothing_appended out.old))

-- a stage that leaves nothing where it stops leaves the output as it is
pub ended : (A : Type 0) (stage : Stage (List ℕ)) (failed : OfFile) (out : Output) (stop : Stop) → LeavesNothing stage → out.new ≡ out.old
    → Stops stage failed stop → Ends {A = A} stage failed out (Err stop)
ended A stage failed out (Refused line) nothing same is = (is, left_as_is stage failed out (Refused line) same (nothing.may failed (Refused line) is))
ended A stage failed out (Unread line) nothing same is = (is, left_as_is stage failed out (Unread line) same (nothing.may failed (Unread line) is))
ended A stage failed out Unwritten nothing same is = absurd is
ended A stage failed out Memory nothing same is = left_as_is stage failed out Memory same (nothing.may failed Memory tt)

-- a first stage that leaves nothing ends all of them so where it stops
pub ended_first : {B : Type 0} (A : Type 0) (first : Stage B) (next : B → Stage (List ℕ)) (failed : OfFile) (out : Output) (stop : Stop) → LeavesNothing first → out.new ≡ out.old
    → Stops first failed stop → Ends {A = A} (then_stage first next) failed out (Err stop)
ended_first A first next failed out (Refused line) nothing same is =
    (inl is, left_as_is (then_stage first next) failed out (Refused line) same (inl (is, nothing.may failed (Refused line) is)))
ended_first A first next failed out (Unread line) nothing same is =
    (inl is, left_as_is (then_stage first next) failed out (Unread line) same (inl (is, nothing.may failed (Unread line) is)))
ended_first A first next failed out Unwritten nothing same is = absurd is
ended_first A first next failed out Memory nothing same is =
    left_as_is (then_stage first next) failed out Memory same (inl (tt, nothing.may failed Memory tt))

-- behind a stage that gives something, a job ends as its later stages do
pub ends_after : {A B : Type 0} (first : Stage B) (next : B → Stage (List ℕ)) (failed : OfFile) (out : Output) (b : B) → first.means b
    → (result : Result A Stop) → Ends (next b) failed out result → Ends (then_stage first next) failed out result
ends_after first next failed out b means (Ok x) (text, is, written) = (text, (b, means, is), written)
ends_after first next failed out b means (Err (Refused line)) (is, (text, left, same)) = (inr (b, means, is), (text, inr (b, means, left), same))
ends_after first next failed out b means (Err (Unread line)) (is, (text, left, same)) = (inr (b, means, is), (text, inr (b, means, left), same))
ends_after first next failed out b means (Err Unwritten) (text, inl is, part, cause) = (text, inl (b, means, is), part, cause)
ends_after first next failed out b means (Err Unwritten) (text, inr left, part, cause) = (text, inr (inr (b, means, left)), part, cause)
ends_after first next failed out b means (Err Memory) (text, left, same) = (text, inr (b, means, left), same)

-- what a stage leaves that leaves nothing, it leaves whatever failed
left_more : {A : Type 0} (stage : Stage A) (failed more : OfFile) (out : Output) (stop : Stop) → LeavesNothing stage
    → ((text : List ℕ) → leaves_nothing stop text → text ≡ []) → Stops stage more stop → Leaves stage failed out stop → Leaves stage more out stop
left_more stage failed more out stop nothing none is (text, left, same) =
    ([], nothing.may more stop is, subst (λ (t : List ℕ). out.new ≡ appended out.old t) (none text (nothing.only failed stop text left)) same)

-- a stage that leaves nothing ends the same whatever failed, where it may
pub ends_more : {A : Type 0} (stage : Stage (List ℕ)) (failed more : OfFile) (out : Output) → LeavesNothing stage
    → ((line : List ℕ) → stage.unread failed line → stage.unread more line)
    → (result : Result A Stop) → Ends stage failed out result → Ends stage more out result
ends_more stage failed more out nothing unread (Ok x) is = is
ends_more stage failed more out nothing unread (Err (Refused line)) (is, left) = (is, left_more stage failed more out (Refused line) nothing (λ text none. none) is left)
ends_more stage failed more out nothing unread (Err (Unread line)) (is, left) =
    (unread line is, left_more stage failed more out (Unread line) nothing (λ text none. none) (unread line is) left)
ends_more stage failed more out nothing unread (Err Unwritten) (text, inl is, part, cause) = (text, inl is, part, cause)
ends_more stage failed more out nothing unread (Err Unwritten) (text, inr left, part, cause) = absurd (nothing.only failed Unwritten text left)
ends_more stage failed more out nothing unread (Err Memory) left = left_more stage failed more out Memory nothing (λ text none. none) tt left

-- a last stage ends as one that gives less, whatever failed
pub gives_more : {A : Type 0} (P Q : List ℕ → Type 0) (more : OfFile) (out : Output) → ((text : List ℕ) → P text → Q text)
    → (result : Result A Stop) → Ends (giving P) Never out result → Ends (giving Q) more out result
gives_more P Q more out gives (Ok x) (text, is, written) = (text, gives text is, written)
gives_more P Q more out gives (Err (Refused line)) (none, left) = absurd none
gives_more P Q more out gives (Err (Unread line)) (none, left) = absurd none
gives_more P Q more out gives (Err Unwritten) (text, inl is, part, cause) = (text, inl (gives text is), part, cause)
gives_more P Q more out gives (Err Unwritten) (text, inr none, part, cause) = absurd none
gives_more P Q more out gives (Err Memory) left = left

-- the parts of a job behind the split need not know what failed
pub no_more : {A : Type 0} (stage : Stage A) (more : OfFile) → ((line : List ℕ) → stage.unread Never line → stage.unread more line)
    → IsWider stage stage Never more
no_more stage more unread = record { means = λ a is. is; refused = λ line is. is; unread = unread }

-- a count that rose since later rose since earlier
pub rose_since : (before mid now : ℕ) → before ≤ mid → Rose mid now → Rose before now
rose_since before mid now less rose = omega arith

-- vectors that were read later, of files that hold the same
pub vectors_since : (held later : List ℕ → Held) (vec : List ℕ) (c : Circuit) (before mid now : Which → List ℕ → ℕ) → later ≡ held
    → ((w : Which) (n : List ℕ) → before w n ≤ mid w n)
    → IsWider (vectors_stage later vec c) (vectors_stage held vec c) (RoseIn mid now) (RoseIn before now)
vectors_since held later vec c before mid now same less =
    subst (λ (h : List ℕ → Held). IsWider (vectors_stage later vec c) (vectors_stage h vec c) (RoseIn mid now) (RoseIn before now)) same
    (record {
      means = λ a is. is;
      refused = λ line is. is;
      unread = λ line either. elim either [
        | inl (rose, spelt) ↦ inl (rose_since (before Vectors vec) (mid Vectors vec) (now Vectors vec) (less Vectors vec) rose, spelt)
        | inr (lines, is, none) ↦ absurd none
      ];
    })

-- a stage that reads no file says the same, whatever failed
reads_nothing : {A : Type 0} (stage : Stage A) (failed more : OfFile) → ((line : List ℕ) → ¬ stage.unread failed line) → IsWider stage stage failed more
reads_nothing stage failed more none = record { means = λ a is. is; refused = λ line is. is; unread = λ line is. absurd (none line is) }

module _ (held later : List ℕ → Held) (before mid now : Which → List ℕ → ℕ) (same : later ≡ held)
    (less : (w : Which) (n : List ℕ) → before w n ≤ mid w n) where
  -- lines that were read later, of files that hold the same
  pub lines_since : (which : Which) (file : List ℕ) → IsWider (lines_stage later which file) (lines_stage held which file) (RoseIn mid now) (RoseIn before now)
  lines_since which file =
      subst (λ (h : List ℕ → Held). IsWider (lines_stage later which file) (lines_stage h which file) (RoseIn mid now) (RoseIn before now)) same
      (record {
        means = λ a is. is;
        refused = λ line is. is;
        unread = λ line (rose, spelt). (rose_since (before which file) (mid which file) (now which file) (less which file) rose, spelt);
      })

  -- so too groups
  pub groups_since : (groups : Option (List ℕ)) (c : Circuit) → IsWider (groups_stage later groups c) (groups_stage held groups c) (RoseIn mid now) (RoseIn before now)
  groups_since None c = reads_nothing (giving (λ gs. gs ≡ [])) (RoseIn mid now) (RoseIn before now) (λ line none. none)
  groups_since (Some file) c =
      wider_both (lines_stage later which.Groups file) (lines_stage held which.Groups file) (grouped_stage file c) (grouped_stage file c) (RoseIn mid now) (RoseIn before now)
      (lines_since which.Groups file) (λ lines. reads_nothing (grouped_stage file c lines) (RoseIn mid now) (RoseIn before now) (λ line none. none))

  -- the latches
  pub split_since : (net : List ℕ) (groups : Option (List ℕ)) (mode : Mode) (c : Circuit)
      → IsWider (split_stage later net groups mode c) (split_stage held net groups mode c) (RoseIn mid now) (RoseIn before now)
  split_since net groups mode c =
      wider_both (groups_stage later groups c) (groups_stage held groups c) (parted_stage net mode c) (parted_stage net mode c) (RoseIn mid now) (RoseIn before now)
      (groups_since groups c) (λ gs. reads_nothing (parted_stage net mode c gs) (RoseIn mid now) (RoseIn before now) (λ line none. none))

  -- the clusters
  pub clustered_since : (net : List ℕ) (groups : Option (List ℕ)) (mode : Mode) (c : Circuit)
      → IsWider (clustered_stage later net groups mode c) (clustered_stage held net groups mode c) (RoseIn mid now) (RoseIn before now)
  clustered_since net groups mode c =
      wider_both (groups_stage later groups c) (groups_stage held groups c) (clusters_stage net mode c) (clusters_stage net mode c) (RoseIn mid now) (RoseIn before now)
      (groups_since groups c) (λ gs. reads_nothing (clusters_stage net mode c gs) (RoseIn mid now) (RoseIn before now) (λ line none. none))

  -- the plan of latches
  pub plan_since : (graph : Option (List ℕ)) (s : Split) → IsWider (plan_stage later graph s) (plan_stage held graph s) (RoseIn mid now) (RoseIn before now)
  plan_since None s = reads_nothing (giving (IsOwnPlan s)) (RoseIn mid now) (RoseIn before now) (λ line none. none)
  plan_since (Some file) s =
      wider_both (lines_stage later which.Graph file) (lines_stage held which.Graph file) (marked_stage file s) (marked_stage file s) (RoseIn mid now) (RoseIn before now)
      (lines_since which.Graph file) (λ lines. reads_nothing (marked_stage file s lines) (RoseIn mid now) (RoseIn before now)
      (λ line either. elim either [ inl none ↦ none | inr (g, read, none) ↦ none ]))

  -- and the plan of a netlist
  pub planned_since : (net : List ℕ) (graph groups : Option (List ℕ)) (mode : Mode) (slack : ℕ) (c : Circuit)
      → IsWider (planned_stage later net graph groups mode slack c) (planned_stage held net graph groups mode slack c) (RoseIn mid now) (RoseIn before now)
  planned_since net graph groups mode slack c =
      wider_both (split_stage later net groups mode c) (split_stage held net groups mode c) (λ (s : Split). plan_stage later graph (slackened s slack))
      (λ (s : Split). plan_stage held graph (slackened s slack)) (RoseIn mid now) (RoseIn before now)
      (split_since net groups mode c) (λ s. plan_since graph (slackened s slack))

-- counts that never fell, one time after another
pub never_fell : (before mid now : Which → List ℕ → ℕ) → ((w : Which) (n : List ℕ) → before w n ≤ mid w n) → ((w : Which) (n : List ℕ) → mid w n ≤ now w n)
    → (w : Which) (n : List ℕ) → before w n ≤ now w n
never_fell before mid now one other w n = omega (one w n, other w n, arith)
