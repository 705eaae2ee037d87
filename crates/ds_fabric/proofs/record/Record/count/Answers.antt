use Rattle.std.proofs.Common.{◌≡◌, ◌∙◌, ℕ, ap, arith, sym, length}
use Rattle.ds_rule.specs.Run.{Run, node_of}
use Rattle.ds_rule.specs.Rule.{tickets}
use Rattle.ds_rule.specs.declared.view.View.{View}
use Rattle.ds_rule.proofs.EventLaws.{node_below}
use Rattle.ds_fabric.specs.Showing.{Recorder}
use Rattle.ds_fabric.specs.declared.history.History.{History}
use Rattle.ds_fabric.proofs.HistoryTickets.{counted}
use Rattle.ds_fabric.proofs.record.Record.count.Goals as goal

pub history-requires : goal.history-requires
history-requires c = let v : View = c.args.self.now.shown.view in let run : Run = v.run in
    let same : c.self.inside.design_nodes ≡ v.run.design_nodes = c.self.invariant.design_nodes_is
    ∙ ap (λ (x : Recorder). x.shown.view.run.design_nodes) c.self.view_is in
    λ sound. omega (
      arith,
      (c.of-event.ensures run same).node_is,
      ap (node_of run) c.index.ensures,
      node_below run c.args.event sound.among c.requires,
    )

pub returns : goal.returns
returns c = let v : View = c.args.self.now.shown.view in let run : Run = v.run in
    let same : c.self.inside.design_nodes ≡ v.run.design_nodes = c.self.invariant.design_nodes_is
    ∙ ap (λ (x : Recorder). x.shown.view.run.design_nodes) c.self.view_is in
    let h : History = c.history.result.0.now in let i = c.history.ensures in
    let e = c.of-event.ensures run same in
    c.turns.ensures ∙ (e.turns_is h.fired
    ∙ (counted v h c.history.result.1.now i.room c.index.result i.counts i.tells
    (sym e.node_is ∙ sym i.node_is)
    ∙ ap (λ (e : ℕ). length (tickets v e)) c.index.ensures))
