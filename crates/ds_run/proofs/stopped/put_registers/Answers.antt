use Rattle.std.proofs.Common.{◌≡◌, ℕ, arith, length, subst, sym}
use Rattle.std.specs.List.{flat_map, range_with_len}
use Rattle.ds_control.proofs.TwoForEach.{flat_map_next}
use Rattle.ds_outside.specs.Pen.{Puts}
use Rattle.ds_outside.proofs.Pens.{puts_nothing, puts_on, with_put}
use Rattle.ds_run.specs.Left.{home_line}
use Rattle.ds_run.proofs.stopped.put_registers.Goals as goal

pub loop-r-init : goal.loop-r-init
loop-r-init g c = record {
  written = puts_nothing (g.P.Pen.writing c.args.pen.now);
}

pub loop-r-preserved : goal.loop-r-preserved
loop-r-preserved g c = record {
  written = with_put (sym (flat_map_next
      (home_line c.args.latches.now c.args.left.now.fired c.args.left.now.homes.items) c.loop-r.r))
      (puts_on c.loop-r.invariant.written c.put_register.ensures);
}

pub returns : goal.returns
returns g c =
    let all : c.loop-r.r ≡ length c.args.left.now.homes.items = omega arith in
    subst (λ (n : ℕ). Puts (g.P.Pen.writing c.args.pen.now) (g.P.Pen.writing c.loop-r.pen)
    (flat_map (home_line c.args.latches.now c.args.left.now.fired c.args.left.now.homes.items)
    (range_with_len 0 n))) all c.loop-r.invariant.written
