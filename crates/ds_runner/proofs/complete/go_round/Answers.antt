use Rattle.std.proofs.Common.{◌≡◌, ◌∙◌, ◌+◌, ◌<◌, Bool, true, cond, ap, sym, subst, arith}
use Rattle.ds_rule.specs.Run.{Run}
use Rattle.ds_rule.specs.declared.view.View.{View}
use Rattle.ds_fabric.specs.Base.{Base}
use Rattle.ds_runner.specs.Work.{AdvancesBelow}
use Rattle.ds_runner.proofs.WorkLemmas.{one_more_node, moved_on}
use Rattle.ds_runner.proofs.complete.go_round.Goals as goal
use Rattle.ds_runner.proofs.complete.go_round.Goals.{then-fire_twice+else-caller-eq0, else-fire_twice}

pub nodes-preserved : goal.nodes-preserved
nodes-preserved g c = let i = c.nodes.invariant in let run : Run = c.args.workload.now.run in
    let v : View = c.args.pass.now.view in let w : View = c.fire_twice.new.pass.view in
    let (same, _) = c.workload.invariant in let runs = same ∙ ap (λ (x : Base). x.run) c.workload.view_is in
    let both = one_more_node run v c.nodes.pass.view w c.nodes.node c.nodes.busy c.fire_twice.result c.requires.sound
    (omega (arith, ap (λ (r : Run). r.nodes) runs)) (i.1, i.2) c.fire_twice.ensures.told in
    let busy : cond c.fire_twice.result true c.nodes.busy ≡ c.if-fire_twice.busy = elim c.if-fire_twice.branch [
      | then-fire_twice+else-caller-eq0 b ↦ ap (λ x. cond x true c.nodes.busy) b.if-fire_twice.true ∙ sym b.busy-is
      | else-fire_twice b ↦ ap (λ x. cond x true c.nodes.busy) b.if-fire_twice.false ∙ sym b.busy-is
    ] in
    let quota_left : 0 < c.fire_twice.new.caller.quota_left = elim c.if-fire_twice.branch [
      | then-fire_twice+else-caller-eq0 b ↦ omega (arith, b.if-caller-eq0.false)
      | else-fire_twice b ↦ c.fire_twice.ensures.stuck b.if-fire_twice.false
    ] in (
      moved_on c.args.workload.now.memory c.args.pass.now c.nodes.pass c.fire_twice.new.pass i.0 c.fire_twice.ensures.moved,
      subst (λ (b : Bool). AdvancesBelow run v (c.nodes.node + 1) w b) busy both.0,
      both.1,
      c.fire_twice.ensures.fired ∙ i.3,
      quota_left,
    )
