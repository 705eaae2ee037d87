use Rattle.ds_replay.proofs.rooms.wanted_rows.Goals as goal

pub shown_rows-requires-clause-slack : goal.shown_rows-requires-clause-slack
shown_rows-requires-clause-slack c = c.requires.slack c.if-not-transparent.false
