-- Logs that are replayed have texts: without slack, open latches show what they hold.
use Rattle.std.proofs.Common.{true, false, ◌++◌, length, refl}
use Rattle.ds_latch.specs.Firing.{held}
use Rattle.ds_latch.proofs.OrderTokens.{accepted_controls}
use Rattle.ds_latch.proofs.TransparentLatches.{transparent_latches}
use Rattle.ds_replay.specs.OpenLines.{open_lines}
use Rattle.ds_table_laws.specs.Texts.{ReplayTextsExist}
use Rattle.ds_table_laws.proofs.StateTextsExist.{plan_runs, state_texts_exist}

-- behind the text of the state, where it is wanted, what its nodes hold
pub replay_texts_exist : ReplayTextsExist
replay_texts_exist p vectors ready false none events legal = state_texts_exist p vectors ready events legal
replay_texts_exist p vectors ready true none events legal =
    let (stored, is_stored) = state_texts_exist p vectors ready events legal in
    let (state, nets, run) = plan_runs p vectors ready in
    let (shows, one) = transparent_latches p.split p.graph (accepted_controls p.split p.graph ready.accepted) (none refl) vectors state nets run events legal is_stored.now is_stored.fires in (
      stored ++ open_lines is_stored.now.count (held p.split is_stored.now) (length p.split.clusters),
      record {
        stored = stored;
        is_stored = is_stored;
        shown = held p.split is_stored.now;
        showing = shows;
        spelt = refl;
      },
    )
