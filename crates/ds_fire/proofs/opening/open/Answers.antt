use Rattle.std.proofs.Common.{◌≡◌, ◌∙◌, ◌<◌, length, ap, arith, subst, sym}
use Rattle.ds_latch.specs.Node.{number_of}
use Rattle.ds_latch.specs.declared.node.Node.{Node}
use Rattle.ds_latch.specs.declared.node.Node.TheVariants.{In, Out, Master, Slave}
use Rattle.ds_latch.proofs.OrderTokens.{same_node}
use Rattle.ds_fire.specs.Turn.{IsOpened}
use Rattle.ds_fire.proofs.opening.open.Goals as goal

pub open_slave-requires-clause-slave : goal.open_slave-requires-clause-slave
open_slave-requires-clause-slave c =
    let is : number_of (Slave c.in-Slave.field-0) ≡ c.args.opening.latch = ap number_of (sym c.in-Slave.is) ∙ c.of.ensures in
    let low : c.in-Slave.field-0 < length c.args.latches.now.clusters = omega (is, c.requires.node, arith) in
    (c.in-Slave.field-0, low, is)

pub open_settled-requires-clause-node : goal.open_settled-requires-clause-node
open_settled-requires-clause-node c =
    let is : number_of Out ≡ c.args.opening.latch = ap number_of (sym c.in-Out.is) ∙ c.of.ensures in
    (Out, record { node = tt; settling = tt; is = is })

pub open_settled-requires-in-Master-clause-node : goal.open_settled-requires-in-Master-clause-node
open_settled-requires-in-Master-clause-node c =
    let is : number_of (Master c.in-Master.field-0) ≡ c.args.opening.latch = ap number_of (sym c.in-Master.is) ∙ c.of.ensures in
    let low : c.in-Master.field-0 < length c.args.latches.now.clusters = omega (is, c.requires.node, arith) in
    (Master c.in-Master.field-0, record { node = low; settling = tt; is = is })

pub open_in-requires : goal.open_in-requires
open_in-requires c = record {
  few = c.requires.few;
  vector = c.requires.vector;
  width = c.requires.width;
  rows = c.requires.rows;
}

pub returns-in-In : goal.returns-in-In
returns-in-In c =
    let is : number_of In ≡ c.args.opening.latch = ap number_of (sym c.in-In.is) ∙ c.of.ensures in
    record {
      opens = λ n is_node e.
          subst (λ (m : Node). IsOpened c.args.latches.now c.args.vectors.now.rows c.args.opening.opened m c.args.kept.now.rows.items c.open_in.new.kept.rows.items)
          (sym (same_node n In (e ∙ sym is))) c.open_in.ensures.opens;
      nets = c.open_in.ensures.nets;
      stored = c.open_in.ensures.stored;
    }

pub open_settled-requires-clause-few : goal.open_settled-requires-clause-few
open_settled-requires-clause-few c = c.requires.few

pub open_settled-requires-clause-design : goal.open_settled-requires-clause-design
open_settled-requires-clause-design c = c.requires.design

pub open_settled-requires-clause-feeds : goal.open_settled-requires-clause-feeds
open_settled-requires-clause-feeds c = c.requires.feeds

pub open_settled-requires-clause-rows : goal.open_settled-requires-clause-rows
open_settled-requires-clause-rows c = c.requires.rows

pub open_settled-requires-clause-nets : goal.open_settled-requires-clause-nets
open_settled-requires-clause-nets c = c.requires.nets

pub open_settled-requires-in-Master-clause-few : goal.open_settled-requires-in-Master-clause-few
open_settled-requires-in-Master-clause-few c = c.requires.few

pub open_settled-requires-in-Master-clause-design : goal.open_settled-requires-in-Master-clause-design
open_settled-requires-in-Master-clause-design c = c.requires.design

pub open_settled-requires-in-Master-clause-feeds : goal.open_settled-requires-in-Master-clause-feeds
open_settled-requires-in-Master-clause-feeds c = c.requires.feeds

pub open_settled-requires-in-Master-clause-rows : goal.open_settled-requires-in-Master-clause-rows
open_settled-requires-in-Master-clause-rows c = c.requires.rows

pub open_settled-requires-in-Master-clause-nets : goal.open_settled-requires-in-Master-clause-nets
open_settled-requires-in-Master-clause-nets c = c.requires.nets

pub open_slave-requires-clause-few : goal.open_slave-requires-clause-few
open_slave-requires-clause-few c = c.requires.few

pub open_slave-requires-clause-rows : goal.open_slave-requires-clause-rows
open_slave-requires-clause-rows c = c.requires.rows

pub returns-in-Out : goal.returns-in-Out
returns-in-Out c = record {
  opens = c.open_settled.ensures.opens c.args.vectors.now.rows;
  nets = c.open_settled.ensures.nets;
  stored = c.open_settled.ensures.stored;
}

pub returns-in-Master : goal.returns-in-Master
returns-in-Master c = record {
  opens = c.open_settled-in-Master.ensures.opens c.args.vectors.now.rows;
  nets = c.open_settled-in-Master.ensures.nets;
  stored = c.open_settled-in-Master.ensures.stored;
}

pub returns-in-Slave : goal.returns-in-Slave
returns-in-Slave c = record {
  opens = c.open_slave.ensures.opens c.args.vectors.now.rows;
  nets = c.open_slave.ensures.nets;
  stored = c.open_slave.ensures.stored;
}
