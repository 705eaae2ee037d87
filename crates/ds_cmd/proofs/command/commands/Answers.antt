use Rattle.std.proofs.Common.{ap, map}
use Rattle.clap.specs.Words.{shape_of}
use Rattle.ds_cmd.proofs.command.commands.Goals as goal

pub returns : goal.returns
returns c =
    let none = ap (map shape_of) c.new.ensures.items in
    let one = c.with-commands.ensures _ _ none c.command.ensures in
    let two = c.with-commands-2.ensures _ _ one c.command-2.ensures in
    let three = c.with-commands-3.ensures _ _ two c.command-3.ensures in
    let four = c.with-commands-4.ensures _ _ three c.command-4.ensures in
    let five = c.with-commands-5.ensures _ _ four c.command-5.ensures in
    let six = c.with-commands-6.ensures _ _ five c.command-6.ensures in
    let seven = c.with-commands-7.ensures _ _ six c.command-7.ensures in
    let eight = c.with-commands-8.ensures _ _ seven c.command-8.ensures in
    let nine = c.with-commands-9.ensures _ _ eight c.command-9.ensures in
    let ten = c.with-commands-10.ensures _ _ nine c.command-10.ensures in
    c.with.ensures _ _ ten c.command-11.ensures
