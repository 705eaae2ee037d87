use Rattle.std.proofs.Common.{◌∙◌, arith}
use Rattle.ds_fabric.proofs.HistoryTickets.{stored_told}
use Rattle.ds_fabric.proofs.record.Record.stored.Goals as goal

pub history-requires : goal.history-requires
history-requires c sound = omega (arith, c.index.ensures, sound.among, c.requires)

pub returns : goal.returns
returns c = let t = stored_told c.args.self.now.shown.view c.index.result c.args.node
    c.history.result.0.now c.history.result.1.now c.history.ensures c.index.ensures c.requires in
    record {
      value = c.turns.ensures ∙ t.0;
      sound = c.history.ensures.sound;
      most = omega (arith, c.turns.ensures, t.0, t.1);
    }
