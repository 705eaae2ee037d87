use Rattle.ds_runner.proofs.LastTurns.{splits}
use Rattle.ds_runner.proofs.seat_steps.split.Goals as goal

pub split_seat-requires : goal.split_seat-requires
split_seat-requires c = let (same, words) = c.requires.table in let (live, some) = c.requires.permits in
    (same, words, splits c.args.board.now.key c.args.seat.now.id c.args.seat.now.me.0 live some)
