use Rattle.ds_flat.proofs.Frames.{path_more}
use Rattle.ds_flat.proofs.stack.path_in.Goals as goal

pub loop-frame-preserved : goal.loop-frame-preserved
loop-frame-preserved c =
    path_more c.args.frames.now c.loop-frame.frame-index c.frame-item.result c.args.name.now
    c.loop-frame.path.items c.in_ok-path.path.items c.loop-frame-test.true c.frame-item.is
    c.loop-frame.invariant c.in_ok-path.ensures
