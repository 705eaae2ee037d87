use Rattle.std.proofs.Common.{rules, ◌++◌, List, subst, sym}
use Rattle.ds_base.specs.Values.{Row}
use Rattle.ds_outside.proofs.Pens.{finished, puts_on}
use Rattle.ds_rows.specs.Homes.{AreHomes}
use Rattle.ds_replay.specs.Kept.{open_part, state_text}
use Rattle.ds_replay.specs.OpenLines.{AreShown}
use Rattle.ds_rows.specs.declared.homes.Home.{Home}
use Rattle.ds_replay.proofs.OpenTexts.{text_is}
use Rattle.ds_replay.proofs.state_text.write_kept.Goals as goal

pub put_registers-requires-clause-homes : goal.put_registers-requires-clause-homes
put_registers-requires-clause-homes g c =
    subst (λ (homes : List Home). AreHomes c.args.latches.now homes) (sym c.as_slice-homes.ensures.value) c.requires.homes

pub put_wanted-requires-clause-rows : goal.put_wanted-requires-clause-rows
put_wanted-requires-clause-rows g c wanted =
    subst (λ (rows : List Row). AreShown c.args.after.now.state.now rows) (sym c.as_slice-rows.ensures.value) (c.requires.rows wanted)

pub returns : goal.returns
returns g c =
    let homes : List Home = c.as_slice-homes.result.now in
    let homes_are : AreHomes c.args.latches.now c.as_slice-homes.result.now =
    subst (λ (these : List Home). AreHomes c.args.latches.now these) (sym c.as_slice-homes.ensures.value) c.requires.homes in
    let done = finished c.new-pen.ensures.begun (puts_on (puts_on c.put_registers.ensures c.put_fired.ensures) c.put_wanted.ensures) c.finish.ensures in (
      state_text c.args.after.now.state.now homes c.args.after.now.fired c.args.most ++ open_part c.args.after.now.transparent c.args.after.now.state.now,
      text_is c.args.after.now.transparent c.args.after.now.state.now c.args.latches.now homes c.args.after.now.fired c.args.most c.requires.split c.requires.slack homes_are c.requires.most,
      search rules,
    )
