use Rattle.ds_shake.proofs.MadeExpansion.{made_events}
use Rattle.ds_shake.proofs.events.events_of.Goals as goal

pub returns : goal.returns
returns c =
    made_events c.args.latches.now c.args.all.now c.in_ok-events.events c.push_handshakes.new.events c.clusters.result.now
    c.in_ok-events.ensures c.clusters.ensures.clusters c.in_ok-push_handshakes.ensures
