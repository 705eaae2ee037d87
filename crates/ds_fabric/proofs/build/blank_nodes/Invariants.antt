use Rattle.std.proofs.Common.{◌≡◌, ◌≤◌, vec_capacity}
use Rattle.ds_fabric.specs.Begun.{first_word_of}
use Rattle.ds_fabric.proofs.FirstPass.{AreLaidOut}
use Rattle.ds_fabric.proofs.build.blank_nodes.Given as goal

abbrev pub invariant-loop-node : goal.invariant-loop-node
invariant-loop-node g l = AreLaidOut l.run l.node l.step l.nodes.items
    × (l.first ≡ first_word_of l.run l.node) × (l.fn.run.nodes ≤ vec_capacity l.nodes)
