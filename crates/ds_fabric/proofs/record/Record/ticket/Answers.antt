use Rattle.std.proofs.Common.{◌≡◌, ◌∙◌, ℕ, List, ap, arith, length, subst, sym}
use Rattle.ds_rule.specs.Run.{Run, events, node_of}
use Rattle.ds_rule.specs.declared.view.View.{View}
use Rattle.ds_rule.proofs.EventLaws.{node_below}
use Rattle.ds_fabric.specs.Showing.{Recorder}
use Rattle.ds_fabric.specs.declared.history.History.{History}
use Rattle.ds_fabric.proofs.HistoryTickets.{ticket_inside, ticket_told, stands_in}
use Rattle.ds_fabric.proofs.record.Record.ticket.Goals as goal

pub history-requires : goal.history-requires
history-requires c = let v : View = c.args.self.now.shown.view in let run : Run = v.run in
    let same : c.self.inside.design_nodes ≡ v.run.design_nodes = c.self.invariant.design_nodes_is
    ∙ ap (λ (x : Recorder). x.shown.view.run.design_nodes) c.self.view_is in
    let long = subst (λ (x : Recorder). length x.shown.view.tickets ≡ events x.shown.view.run)
    c.self.view_is c.self.invariant.keeps.tickets_long in
    λ sound. omega (
      arith,
      (c.of-event.ensures run same).node_is,
      ap (node_of run) c.index.ensures,
      node_below run c.args.event sound.among
          (ticket_inside v c.args.event c.args.k long c.requires),
    )

pub ticket-requires : goal.ticket-requires
ticket-requires c = let v : View = c.args.self.now.shown.view in
    let same : c.self.inside.design_nodes ≡ v.run.design_nodes = c.self.invariant.design_nodes_is
    ∙ ap (λ (x : Recorder). x.shown.view.run.design_nodes) c.self.view_is in
    let h : History = c.history.result.0.now in let ws : List ℕ = c.history.result.1.now in
    let i = c.history.ensures in let e = c.of-event.ensures v.run same in (
      v.run,
      c.index.result,
      e.opens_is,
      stands_in v h ws i.room c.index.result i.tells (sym e.node_is ∙ sym i.node_is),
      (ticket_told v c.of-event.result.node c.args.event c.index.result c.args.k h ws i
          c.index.ensures e.node_is c.requires).0,
    )

pub returns : goal.returns
returns c = let v : View = c.args.self.now.shown.view in
    let same : c.self.inside.design_nodes ≡ v.run.design_nodes = c.self.invariant.design_nodes_is
    ∙ ap (λ (x : Recorder). x.shown.view.run.design_nodes) c.self.view_is in
    let e = c.of-event.ensures v.run same in
    c.ticket.ensures v.run c.index.result e.opens_is
    ∙ (ticket_told v c.of-event.result.node c.args.event c.index.result c.args.k
    c.history.result.0.now c.history.result.1.now c.history.ensures c.index.ensures e.node_is
    c.requires).1
