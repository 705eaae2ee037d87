use Rattle.std.proofs.Common.{List}
use Rattle.ds_fabric.specs.Base.{Base}
use Rattle.ds_fabric.specs.Showing.{Showing}
use Rattle.ds_runner.specs.Shown.{Stile, Turned}
use Rattle.ds_table_tests.proofs.TestTurnstile.{all_alone, opened, kept, new}
use Rattle.ds_table_tests.proofs.hand.set_up.Goals as goal

pub build-requires-clause-alone : goal.build-requires-clause-alone
build-requires-clause-alone c =
    all_alone c.args.fabric.now c.args.passes.now.items c.requires.trio.0

pub returns-clause-ok : goal.returns-clause-ok
returns-clause-ok c =
    let f : Base = c.args.fabric.now in let ps : List Showing = c.args.passes.now.items in
    let s : Stile = c.in_ok-stile.stile in let t : Turned = c.in_ok-stile.turn in
    let o = c.in_ok-stile.ensures.ok in let e = c.split-other.ensures in (
      opened f ps s t c.requires.trio.0 c.requires.trio.1 o,
      kept f ps s t c.split-other.new.turn c.in_ok-scratch.scratch c.in_ok-scratch.ensures o e.fits.0 e.left,
      new f s t c.split-other.result c.in_ok-spare.spare c.in_ok-spare.ensures e.fits.1 e.new
          e.none,
    )
