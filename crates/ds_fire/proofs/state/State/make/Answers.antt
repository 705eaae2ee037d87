use Rattle.std.proofs.Common.{◌≡◌, ◌∙◌, ◌<◌, length, ap, arith, sym}
use Rattle.ds_latch.specs.Node.{number_of}
use Rattle.ds_latch.specs.declared.node.Node.TheVariants.{In, Out, Master, Slave}
use Rattle.ds_fire.specs.Snapshot.{split_of}
use Rattle.ds_fire.proofs.state.State.make.Goals as goal

pub copy_vector-requires-clause-opened : goal.copy_vector-requires-clause-opened
copy_vector-requires-clause-opened c =
    let e : number_of In ≡ c.args.latch = ap number_of (sym c.in-In.is) ∙ c.of.ensures in
    c.requires.opened In tt e

pub copy_settled-requires-clause-node : goal.copy_settled-requires-clause-node
copy_settled-requires-clause-node c =
    let is : number_of Out ≡ c.args.latch = ap number_of (sym c.in-Out.is) ∙ c.of.ensures in
    (Out, record { node = tt; settling = tt; is = is }, c.requires.width Out tt is)

pub copy_settled-requires-in-Master-clause-node : goal.copy_settled-requires-in-Master-clause-node
copy_settled-requires-in-Master-clause-node c =
    let is : number_of (Master c.in-Master.field-0) ≡ c.args.latch = ap number_of (sym c.in-Master.is) ∙ c.of.ensures in
    let low : c.in-Master.field-0 < length (split_of c.args.self.now).clusters = omega (is, c.requires.node, arith) in
    (Master c.in-Master.field-0, record { node = low; settling = tt; is = is }, c.requires.width (Master c.in-Master.field-0) low is)

pub copy_master-requires-clause-slave : goal.copy_master-requires-clause-slave
copy_master-requires-clause-slave c =
    let is : number_of (Slave c.in-Slave.field-0) ≡ c.args.latch = ap number_of (sym c.in-Slave.is) ∙ c.of.ensures in
    let low : c.in-Slave.field-0 < length (split_of c.args.self.now).clusters = omega (is, c.requires.node, arith) in
    (c.in-Slave.field-0, low, is, c.requires.width (Slave c.in-Slave.field-0) low is)
