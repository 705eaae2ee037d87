use Rattle.std.proofs.Common.{◌≡◌, ◌∙◌, ◌-◌, ◌+◌, ◌<◌, ◌≤◌, ℕ, ap, arith, length, true}
use Rattle.ds_rule.specs.Run.{Run, events, node_of}
use Rattle.ds_rule.specs.Rule.{holds, tickets}
use Rattle.ds_rule.specs.declared.view.View.{View}
use Rattle.ds_rule.proofs.EventLaws.{events-is, node_below}
use Rattle.ds_runner.specs.Work.{HasFrom, tickets_below}
use Rattle.ds_runner.proofs.FiniteSums.{sum-next}
use Rattle.ds_runner.proofs.TicketCounts.{turns-tickets}
use Rattle.ds_runner.proofs.quota_left.left_of.Goals as goal

-- the node of an event that is there
near : (run : Run) (event nodes design_nodes : ℕ) → run.design_nodes ≤ run.nodes → nodes ≡ run.nodes → design_nodes ≡ run.design_nodes
    → event < nodes + design_nodes → node_of run event < run.nodes
near run event nodes design_nodes among n l low = node_below run event among (omega (arith, events-is run))

pub overflow_cast-node_of : goal.overflow_cast-node_of
overflow_cast-node_of g c = omega (
  arith,
  c.node_of.ensures,
  near c.args.run.now c.events.event c.nodes.result c.design_nodes.result c.requires.sound.among c.nodes.ensures
      c.design_nodes.ensures c.events-test.true,
  c.requires.sound.few,
)

-- a pass that holds all nodes holds that one
is_held : (run : Run) (v : View) (event node nodes design_nodes : ℕ) → v.run ≡ run → HasFrom v 0 → run.design_nodes ≤ run.nodes
    → nodes ≡ run.nodes → design_nodes ≡ run.design_nodes → event < nodes + design_nodes → node ≡ node_of run event → holds v node ≡ true
is_held run v event node nodes design_nodes run-is all among n l low here = all node (omega arith) (omega (
  arith,
  near run event nodes design_nodes among n l low,
  ap (λ (r : Run). r.nodes) run-is,
))

pub fired-fired-requires : goal.fired-fired-requires
fired-fired-requires g c = is_held c.args.run.now c.args.pass.now.view c.events.event c.new.result c.nodes.result
    c.design_nodes.result c.requires.run c.requires.all c.requires.sound.among c.nodes.ensures c.design_nodes.ensures
    c.events-test.true (c.new.ensures ∙ c.node_of.ensures)

pub events-preserved : goal.events-preserved
events-preserved g c = let v : View = c.args.pass.now.view in let run : Run = c.args.run.now in
    let here : c.new.result ≡ node_of run c.events.event = c.new.ensures ∙ c.node_of.ensures in omega (
      arith,
      c.saturating_sub-left.ensures,
      c.turns.ensures,
      c.events.invariant,
      turns-tickets run v c.events.event c.new.result c.fired-fired.result c.requires.run
          c.fired-fired.ensures.counted here
          (is_held run v c.events.event c.new.result c.nodes.result c.design_nodes.result c.requires.run c.requires.all
          c.requires.sound.among c.nodes.ensures c.design_nodes.ensures c.events-test.true here)
          c.fired-fired.ensures.value,
      sum-next (λ e. length (tickets v e)) c.events.event,
    )

pub returns : goal.returns
returns g c = let v : View = c.args.pass.now.view in let all : c.events.event ≡ events v.run = omega (
  arith,
  c.events-test.false,
  c.events.auto.event-end,
  c.nodes.ensures,
  c.design_nodes.ensures,
  events-is c.args.run.now,
  ap events c.requires.run,
) in c.events.invariant ∙ ap (λ (n : ℕ). c.args.quota - tickets_below v n) all
