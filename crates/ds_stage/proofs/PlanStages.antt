-- The stages of a plan: what the text of the graph gives the file gives, and a plan that is given is the one, and not refused.
use Rattle.std.proofs.Common.{◌≡◌, ◌≢◌, ◌∙◌, ℕ, List, Some, inl, inr, ap, sym, subst}
use Rattle.ds_outside.specs.Held.{Held, FrontIsHeld}
use Rattle.ds_outside.specs.declared.files.Which.TheVariants as which
use Rattle.ds_marked.specs.Graph.{Graph}
use Rattle.ds_latch.specs.Node.{Split}
use Rattle.ds_latch.specs.Plan.{Planned}
use Rattle.ds_accept.proofs.OnePlan.{one_plan_lem}
use Rattle.ds_accept.proofs.FaultyGraphs.{faults_are_refused_lem}
use Rattle.ds_accept.specs.declared.fault.AcceptFault.{AcceptFault}
use Rattle.ds_accept.specs.declared.fault.AcceptFault.TheVariants as accept
use Rattle.ds_stage.specs.Stage.{OfFile, IsExclusive, giving, then_stage}
use Rattle.ds_stage.specs.Stages.{lines_stage, text_stage}
use Rattle.ds_stage.specs.GraphText.{IsAcceptText, accept_text}
use Rattle.ds_stage.specs.PlanStage.{IsOwnPlan, acceptable_stage, marked_stage, named_stage}
use Rattle.ds_stage.specs.Ends.{Never}
use Rattle.ds_stage.proofs.OneGraph.{one_graph}
use Rattle.ds_stage.proofs.Stages.{IsWider, read_means, read_refused, wider_first}

-- the plan of a text that was read is that of the file
pub named_wider : (held : List ℕ → Held) (file text : List ℕ) (s : Split) (more : OfFile) → FrontIsHeld (held file) 16777217 text
    → IsWider (then_stage (text_stage file text) (marked_stage file s)) (named_stage held file s) Never more
named_wider held file text s more front =
    wider_first (text_stage file text) (lines_stage held which.Graph file) (marked_stage file s) Never more
    (record { means = read_means (held file) file text front; refused = read_refused (held file) file text front; unread = λ line none. absurd none })
    (λ lines. record {
      means = λ a is. is;
      refused = λ line is. is;
      unread = λ line either. elim either [ inl none ↦ absurd none | inr (a, is, none) ↦ absurd none ];
    })

-- a fault that has a text is not want of memory
shown_fault : (g : Graph) (fault : AcceptFault) (text : List ℕ) → IsAcceptText g fault text → fault ≢ accept.Memory
shown_fault g fault text shown is =
    let none : accept_text g accept.Memory ≡ Some text = subst (λ (f : AcceptFault). accept_text g f ≡ Some text) is shown in cc

pub acceptable_exclusive : (file : List ℕ) (s : Split) (g : Graph) → IsExclusive (acceptable_stage file s g)
acceptable_exclusive file s g = record {
  one = λ a b is also. one_plan_lem s g a b is.graph_kept is.plan_kept also.plan_kept is.plan also.plan;
  not_refused = λ a line is refused.
      let (fault, text, faulty, shown, spelt) = refused in
      faults_are_refused_lem s g fault (shown_fault g fault text shown) faulty is.acceptable;
}

same_planned : (a b : Planned) → a.split ≡ b.split → a.graph ≡ b.graph → a ≡ b
same_planned a b e f =
    ap (λ (s : Split). record { split = s; graph = a.graph }) e ∙ ap (λ (g : Graph). record { split = b.split; graph = g }) f

pub own_exclusive : (s : Split) → IsExclusive (giving (IsOwnPlan s))
own_exclusive s = record {
  one = λ a b is also. same_planned a b (is.split ∙ sym also.split) (one_graph s a.graph b.graph is.graph also.graph);
  not_refused = λ a line is none. none;
}
