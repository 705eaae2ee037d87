use Rattle.std.proofs.Common.{◌≡◌, ◌-◌, drop, length, arith}
use Rattle.std.proofs.Math.ListN.{length-drop}
use Rattle.ds_replay.specs.Replay.{start_of}
use Rattle.ds_replay.proofs.start.firings.Goals as goal

pub returns : goal.returns
returns c =
    let long : length (drop (start_of c.args.lines.now) c.args.lines.now) ≡ length c.args.lines.now - start_of c.args.lines.now = length-drop (start_of c.args.lines.now) c.args.lines.now in
    omega (arith, long, c.count.ensures, c.start.ensures.value)
