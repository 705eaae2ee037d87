use Rattle.std.proofs.Common.{◌≡◌, ◌∙◌, ◌+◌, ◌-◌, ◌<◌, ℕ, arith, length, subst, sym, ap}
use Rattle.ds_latch.specs.Plan.{Planned}
use Rattle.ds_fabric.specs.Showing.{Recorder}
use Rattle.ds_run.specs.TraceLines.{AreRegistersBefore}
use Rattle.ds_run.proofs.NodeRecords.{has_slaves}
use Rattle.ds_run.proofs.TraceLines.{registers_after}
use Rattle.ds_run.proofs.trace_part.line_before.Goals.{then-turn-gt0, else-turn-gt0}
use Rattle.ds_run.proofs.trace_part.line_before.Goals as goal

pub copy_stored-requires-clause-rows : goal.copy_stored-requires-clause-rows
copy_stored-requires-clause-rows c =
    let (vectors, (finished_run, many)) = c.requires.stored in
    let slaves = has_slaves c.args.stored.now.plan.now vectors c.args.stored.now.recorded.now finished_run
    (c.args.turn - 1 + 1) (omega (arith, many)) in
    rw c.latches-then-turn-gt0.ensures slaves

pub returns-clause-registers : goal.returns-clause-registers
returns-clause-registers c =
    let p : Planned = c.args.stored.now.plan.now in
    let r : Recorder = c.args.stored.now.recorded.now in
    let turns : ℕ = c.args.stored.now.turns in
    elim c.if-turn-gt0.branch [
      | then-turn-gt0 w ↦
          let behind : c.args.turn - 1 + 1 ≡ c.args.turn = omega arith in
          let after = registers_after p r turns c.args.stored.now.first (c.args.turn - 1)
          w.latches-then-turn-gt0.result.now w.copy_stored.new.line.registers (omega arith)
          w.latches-then-turn-gt0.ensures w.copy_stored.ensures.gathered in
          λ vectors is values. rw w.line-is (after vectors is values ∙ ap values.state behind)
      | else-turn-gt0 w ↦ λ vectors is values.
          let (has, starts) = c.in_ok-line.ensures in
          let none : 0 ≡ c.args.turn = omega arith in
          rw w.line-is (starts ∙ ap (λ s. s.initial) c.latches.ensures ∙ sym values.clocked.starts
          ∙ ap values.state none)
    ]
