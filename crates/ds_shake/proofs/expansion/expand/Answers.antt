use Rattle.std.proofs.Common.{◌≡◌, List, length, ap, arith}
use Rattle.ds_accept.proofs.PlansAcceptable.{plans_are_acceptable_lem}
use Rattle.ds_shake.specs.declared.handshake.Handshake.{Handshake}
use Rattle.ds_shake.proofs.ExpansionIsPlan.{expansion_is_plan}
use Rattle.ds_shake.proofs.Simple.{expansion_is_simple}
use Rattle.ds_shake.proofs.expansion.expand.Goals as goal

pub are_too_many-requires : goal.are_too_many-requires
are_too_many-requires c =
    let all : length c.as_slice.result.now ≡ length c.in_ok-all.all.items = ap (λ (hs : List Handshake). length hs) c.as_slice.ensures.value in
    (omega (c.nodes-nodes.ensures.nodes, c.nodes-nodes.ensures.few, arith), omega (all, c.in_ok-all.ensures.few, arith))

pub returns-clause-ok_simple : goal.returns-clause-ok_simple
returns-clause-ok_simple c = expansion_is_simple c.args.latches.now c.in_ok-expanded.field-0 c.in_ok-expanded.ensures.ok

pub returns-clause-ok_plan : goal.returns-clause-ok_plan
returns-clause-ok_plan c = expansion_is_plan c.args.latches.now c.in_ok-expanded.field-0 c.nodes-nodes.ensures.split c.in_ok-expanded.ensures.ok

pub returns-clause-ok_acceptable : goal.returns-clause-ok_acceptable
returns-clause-ok_acceptable c =
    plans_are_acceptable_lem c.args.latches.now c.in_ok-expanded.field-0
    (expansion_is_plan c.args.latches.now c.in_ok-expanded.field-0 c.nodes-nodes.ensures.split c.in_ok-expanded.ensures.ok)
