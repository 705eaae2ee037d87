use Rattle.std.proofs.Common.{◌≡◌, ◌∙◌, ap, arith, length, sym}
use Rattle.ds_latch.specs.Node.{Split, nodes}
use Rattle.ds_rule.specs.Run.{Run}
use Rattle.ds_base.specs.Scratch.{Memory}
use Rattle.ds_opening.specs.Learnt.{is_learnt}
use Rattle.ds_opening.proofs.Slots.{slots_long}
use Rattle.ds_run.specs.Openings.{RunWithMemory, memory_of}
use Rattle.ds_run.proofs.openings.OpeningsCompute.has_learnt.Goals as goal

pub is_learnt-requires : goal.is_learnt-requires
is_learnt-requires c =
    let s : Split = c.self.inside.latches.now in
    let m : Memory = memory_of s c.self.inside.cones.now.groups c.self.inside.order.now c.self.inside.vectors.now.rows in
    let memory_is : m ≡ c.args.self.now.memory = ap (λ (x : RunWithMemory). x.memory) c.self.view_is in
    let run_is = ap (λ (x : RunWithMemory). x.run) c.self.view_is in
    let latches : c.args.self.now.run.design_nodes ≡ nodes s =
    ap (λ (r : Run). r.design_nodes) (sym run_is) ∙ c.self.invariant.openings.planned.latches_are in
    omega (
      arith,
      c.requires.producer,
      latches,
      c.requires.remembers.turns,
      ap (λ (x : Memory). length x.slots) memory_is,
      slots_long s c.self.invariant.openings.split c.self.inside.cones.now.groups,
    )

pub returns : goal.returns
returns c =
    c.is_learnt.ensures
    ∙ ap (λ (m : RunWithMemory). is_learnt m.groups c.args.scratch.now c.args.turn c.args.producer)
    c.self.view_is
