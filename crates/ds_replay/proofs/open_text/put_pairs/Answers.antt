use Rattle.std.proofs.Common.{◌≡◌, ℕ, arith, ap, length, subst, sym}
use Rattle.std.specs.List.{flat_map, range_with_len}
use Rattle.ds_control.proofs.TwoForEach.{flat_map_next}
use Rattle.ds_latch.specs.Node.{Split}
use Rattle.ds_outside.specs.Pen.{Puts}
use Rattle.ds_fire.specs.Snapshot.{count_of, held_row, split_of}
use Rattle.ds_outside.proofs.Pens.{puts_nothing, puts_on, with_put}
use Rattle.ds_replay.specs.OpenLines.{open_pair}
use Rattle.ds_replay.proofs.open_text.put_pairs.Goals as goal

pub loop-i-init : goal.loop-i-init
loop-i-init g c = record { written = puts_nothing (g.P.Pen.writing c.args.pen.now) }

pub loop-i-preserved : goal.loop-i-preserved
loop-i-preserved g c = record {
  written = with_put (sym (flat_map_next (open_pair (count_of c.args.state.now) (held_row c.args.state.now)) c.loop-i.i)) (puts_on c.loop-i.invariant.written c.put_pair.ensures);
}

pub returns : goal.returns
returns g c =
    let all : c.loop-i.i ≡ length (split_of c.args.state.now).clusters = omega (arith, ap length c.clusters-clusters.ensures.clusters, ap (λ (s : Split). length s.clusters) c.requires.split) in
    subst (λ (n : ℕ). Puts (g.P.Pen.writing c.args.pen.now) (g.P.Pen.writing c.loop-i.pen)
    (flat_map (open_pair (count_of c.args.state.now) (held_row c.args.state.now)) (range_with_len 0 n))) all c.loop-i.invariant.written
