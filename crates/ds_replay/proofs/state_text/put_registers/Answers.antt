use Rattle.std.proofs.Common.{◌≡◌, ℕ, arith, length, subst, sym}
use Rattle.std.specs.List.{flat_map, range_with_len}
use Rattle.ds_control.proofs.TwoForEach.{flat_map_next}
use Rattle.ds_outside.specs.Pen.{Puts}
use Rattle.ds_outside.proofs.Pens.{puts_nothing, puts_on, with_put}
use Rattle.ds_replay.specs.Kept.{register_line}
use Rattle.ds_replay.proofs.state_text.put_registers.Goals as goal

pub loop-r-init : goal.loop-r-init
loop-r-init g c = record { written = puts_nothing (g.P.Pen.writing c.args.pen.now) }

pub loop-r-preserved : goal.loop-r-preserved
loop-r-preserved g c = record {
  written = with_put (sym (flat_map_next (register_line c.args.state.now c.args.homes.now) c.loop-r.r)) (puts_on c.loop-r.invariant.written c.put_register.ensures);
}

pub returns : goal.returns
returns g c =
    let all : c.loop-r.r ≡ length c.args.homes.now = omega arith in
    subst (λ (n : ℕ). Puts (g.P.Pen.writing c.args.pen.now) (g.P.Pen.writing c.loop-r.pen)
    (flat_map (register_line c.args.state.now c.args.homes.now) (range_with_len 0 n))) all c.loop-r.invariant.written
