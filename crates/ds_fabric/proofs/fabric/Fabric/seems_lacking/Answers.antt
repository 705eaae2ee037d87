use Rattle.std.proofs.Common.{◌<◌, ◌≤◌, ◌+◌, ap, arith}
use Rattle.ds_rule.specs.Run.{Run, events}
use Rattle.ds_rule.proofs.PlaceLaws.{counts_inside}
use Rattle.ds_fabric.specs.Base.{Base}
use Rattle.ds_fabric.proofs.PassMemory.{next_below}
use Rattle.ds_fabric.proofs.fabric.Fabric.seems_lacking.Goals as goal

pub peek-fired-requires : goal.peek-fired-requires
peek-fired-requires g c = let (built, _, _) = c.self.invariant in let run : Run = c.self.inside.run.now in
    let near : c.index-number.result + 1 ≤ run.nodes = omega (
      arith,
      c.requires.near,
      c.index-number.ensures,
      ap (λ (x : Base). x.run.nodes) c.self.view_is,
    ) in
    omega (arith, built.over.sized, counts_inside run (c.index-number.result + 1) near)

pub lacking_from-requires : goal.lacking_from-requires
lacking_from-requires g c = let (built, _, _) = c.self.invariant in
    let run : Run = c.self.inside.run.now in
    let near : c.index-number.result < run.nodes = omega (
      arith,
      c.requires.near,
      c.index-number.ensures,
      ap (λ (x : Base). x.run.nodes) c.self.view_is,
    ) in (
      omega (
        arith,
        c.if-before-limit.false,
        c.limit.ensures,
        built.over.sound.short,
      ),
      omega (
        arith,
        c.next-event.ensures,
        ap (λ (x : Base). events x.run) c.self.view_is,
        next_below run c.index-number.result c.peek-fired.result built.over.sound.among near,
      ),
    )
