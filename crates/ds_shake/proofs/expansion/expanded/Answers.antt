use Rattle.std.proofs.Common.{◌≡◌, IsPermutation}
use Rattle.ds_marked.specs.Graph.{Graph}
use Rattle.ds_control.proofs.ListedArcs.{if_both}
use Rattle.ds_shake.specs.Expansion.{IsExpansion}
use Rattle.ds_shake.proofs.HandshakeNodes.{all_low}
use Rattle.ds_shake.proofs.MadeExpansion.{made, made_ends, made_few, made_once}
use Rattle.ds_shake.proofs.expansion.expanded.Goals as goal

pub arcs_of-requires-clause-low : goal.arcs_of-requires-clause-low
arcs_of-requires-clause-low c = all_low c.args.latches.now c.args.all.now c.requires.are c.requires.few

pub new-requires-clause-ends : goal.new-requires-clause-ends
new-requires-clause-ends c =
    made_ends c.args.latches.now c.args.all.now c.requires.are c.in_ok-events.events c.in_ok-arcs.arcs.items c.in_ok-events.ensures c.in_ok-arcs.ensures

pub new-requires-clause-once : goal.new-requires-clause-once
new-requires-clause-once c = made_once c.args.latches.now c.args.all.now c.requires.are c.requires.few c.in_ok-events.events c.in_ok-events.ensures

pub new-requires-clause-few : goal.new-requires-clause-few
new-requires-clause-few c =
    made_few c.args.latches.now c.args.all.now c.requires.are c.requires.few c.in_ok-events.events c.in_ok-arcs.arcs.items c.in_ok-events.ensures c.in_ok-arcs.ensures

pub returns-clause-ok : goal.returns-clause-ok
returns-clause-ok c = if_both c.new.result (λ (g : Graph). g.events ≡ c.in_ok-events.events) (λ (g : Graph). IsPermutation c.in_ok-arcs.arcs.items g.arcs) (IsExpansion c.args.latches.now)
    (made c.args.latches.now c.args.all.now c.requires.are c.requires.few c.in_ok-events.events c.in_ok-arcs.arcs.items c.in_ok-events.ensures c.in_ok-arcs.ensures)
    c.new.ensures.ok_events c.new.ensures.ok_arcs
