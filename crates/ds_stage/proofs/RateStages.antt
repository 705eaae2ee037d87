-- The stages of `rate`: what the text of a graph gives the file gives, and a graph that is given is
-- the one, and not refused.
use Rattle.std.proofs.Common.{◌≡◌, ◌≢◌, ◌∙◌, ◌<◌, ◌≤◌, ℕ, List, codes, Result, Ok, Err, IfOk, inl, inr, subst, sym}
use Rattle.ds_outside.specs.Held.{Held, FrontIsHeld, untold}
use Rattle.ds_outside.specs.declared.files.Which.{Which}
use Rattle.ds_outside.specs.declared.files.Which.TheVariants as which
use Rattle.ds_lines.specs.Line.{Line}
use Rattle.ds_marked.specs.Graph.{Graph, IsLive}
use Rattle.ds_marked.specs.declared.marked.Arc.{Arc}
use Rattle.ds_rank.specs.Order.{IsCycle}
use Rattle.ds_rank.specs.Rank.{HasFreeArc}
use Rattle.ds_rank.proofs.RankedEdges.{no_cycle}
use Rattle.ds_period.specs.Controller.{HasPeriod}
use Rattle.ds_period.specs.Timing.{HasCycle}
use Rattle.ds_astg.specs.Read.{graph_of_lines}
use Rattle.ds_accept.specs.declared.fault.AcceptFault.TheVariants.{TokenFreeCycle}
use Rattle.ds_stage.specs.declared.stop.Stop.{Stop}
use Rattle.ds_stage.specs.declared.stop.Stop.TheVariants.{Refused, Unread, Unwritten, Memory}
use Rattle.ds_stage.specs.FaultText.{file_line}
use Rattle.ds_stage.specs.GraphText.{IsAcceptText, astg_text}
use Rattle.ds_stage.specs.Stage.{OfFile, IsExclusive, then_stage}
use Rattle.ds_stage.specs.Stages.{lines_stage, read_or_line, result_stage, text_stage}
use Rattle.ds_stage.specs.RateStage.{bare_graph_stage, bare_stage, cyclic_stage}
use Rattle.ds_stage.specs.Ends.{Never, RoseIn, SaysRefused, Stops}
use Rattle.ds_stage.proofs.ExclusiveStages.{lines_exclusive, result_exclusive, then_exclusive}
use Rattle.ds_stage.proofs.StageReadFailures.{Says, lines_say, then_says}
use Rattle.ds_stage.proofs.StagesLeaveNothing.{LeavesNothing, lines_nothing, no_text, result_nothing, then_nothing}
use Rattle.ds_stage.proofs.Stages.{IsWider, read_means, read_refused, wider_first}

-- in a live graph no arcs without tokens lead in a circle
pub live_has_none : (g : Graph) → IsLive g → (events : List ℕ) → ¬ IsCycle (HasFreeArc g) events
live_has_none g live events cycle = no_cycle (HasFreeArc g) live.rank rises events cycle
  where
    rises : (u v : ℕ) → HasFreeArc g u v → live.rank u < live.rank v
    rises u v (k, arc, inside, is, (source, target, free)) =
        let up : arc.tokens ≡ 0 → live.rank arc.source < live.rank arc.target =
        subst (λ (a : Arc). a.tokens ≡ 0 → live.rank a.source < live.rank a.target) is (live.rises k arc inside) in
        rw (← source, ← target) (up free)

-- the line of a cycle without tokens stops the stage
pub says_free : (file : List ℕ) (g : Graph) (events text : List ℕ) → IsCycle (HasFreeArc g) events → IsAcceptText g (TokenFreeCycle events) text
    → (stop : Stop) → SaysRefused (file_line file text) stop → Stops (cyclic_stage file g) Never stop
says_free file g events text cycle shown (Refused line) is = inl (events, text, cycle, shown, is)
says_free file g events text cycle shown (Unread line) is = absurd is
says_free file g events text cycle shown Unwritten is = absurd is
says_free file g events text cycle shown Memory is = tt

-- so does the line that there is no cycle
pub says_acyclic : (file : List ℕ) (g : Graph) → ¬ HasCycle g
    → (stop : Stop) → SaysRefused (file_line file (codes "no cycle")) stop → Stops (cyclic_stage file g) Never stop
says_acyclic file g none (Refused line) is = inr (none, is)
says_acyclic file g none (Unread line) is = absurd is
says_acyclic file g none Unwritten is = absurd is
says_acyclic file g none Memory is = tt

-- a graph that has a period has neither line
cyclic_not_refused : (file : List ℕ) (g : Graph) (line : List ℕ) → HasPeriod g → ¬ (cyclic_stage file g).refused line
cyclic_not_refused file g line has (inl (events, text, cycle, shown, spelt)) = live_has_none g has.tokens events cycle
cyclic_not_refused file g line has (inr (none, spelt)) = none has.cycle

cyclic_exclusive : (file : List ℕ) (g : Graph) → IsExclusive (cyclic_stage file g)
cyclic_exclusive file g = record {
  one = λ a b is also. is.0 ∙ sym also.0;
  not_refused = λ a line is refused. cyclic_not_refused file g line is.1 refused;
}

module _ (held : List ℕ → Held) (file : List ℕ) where
  -- the graph of a text that was read is that of the file
  pub bare_wider : (text : List ℕ) (more : OfFile) → FrontIsHeld (held file) 16777217 text
      → IsWider (then_stage (text_stage file text) (bare_stage file)) (bare_graph_stage held file) Never more
  bare_wider text more front =
      wider_first (text_stage file text) (lines_stage held which.Graph file) (bare_stage file) Never more
      (record { means = read_means (held file) file text front; refused = read_refused (held file) file text front; unread = λ line none. absurd none })
      (λ lines. record {
        means = λ a is. is;
        refused = λ line is. is;
        unread = λ line either. elim either [ inl none ↦ absurd none | inr (a, is, none) ↦ absurd none ];
      })

  pub bare_nothing : LeavesNothing (bare_graph_stage held file)
  bare_nothing =
      then_nothing (lines_stage held which.Graph file) (bare_stage file) (lines_nothing held which.Graph file)
      (λ (lines : List Line). then_nothing (result_stage (read_or_line file astg_text (graph_of_lines lines))) (cyclic_stage file)
      (result_nothing (read_or_line file astg_text (graph_of_lines lines)))
      (λ g. record { may = no_text (cyclic_stage file g); only = λ failed stop text is. is }))

  -- the file is named only where a read failed
  pub bare_says : (failed : OfFile) → Says (bare_graph_stage held file) failed
  bare_says failed =
      then_says (lines_stage held which.Graph file) (bare_stage file) failed (lines_say held which.Graph file failed)
      (λ (lines : List Line). then_says (result_stage (read_or_line file astg_text (graph_of_lines lines))) (cyclic_stage file) failed (λ line none. absurd none) (λ g line none. absurd none))

  -- a file gives one graph, and is then not refused
  pub bare_exclusive : held file ≢ untold → IsExclusive (bare_graph_stage held file)
  bare_exclusive told =
      then_exclusive (lines_stage held which.Graph file) (bare_stage file) (lines_exclusive held which.Graph file told)
      (λ (lines : List Line). then_exclusive (result_stage (read_or_line file astg_text (graph_of_lines lines))) (cyclic_stage file)
      (result_exclusive (read_or_line file astg_text (graph_of_lines lines))) (cyclic_exclusive file))

-- a live graph has a period where some cycle is there
pub has_period : {A : Type 0} (g : Graph) → IsLive g → (result : Result A Stop) → IfOk result (λ done. HasCycle g) → IfOk result (λ done. HasPeriod g)
has_period g live (Ok done) cycle = record { tokens = live; cycle = cycle }
has_period g live (Err stop) cycle = tt
