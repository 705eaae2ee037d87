use Rattle.std.proofs.Common.{rules}
use Rattle.ds_runner.proofs.LastTurns.{joins, observes_permits}
use Rattle.ds_runner.proofs.seat_steps.join.Goals as goal

pub join_seat-requires : goal.join_seat-requires
join_seat-requires c = let (same, alike, words) = c.requires.table in let (live, other, empty) = c.requires.live in (
  same,
  alike,
  empty,
  words,
  joins c.args.board.now.key c.args.seat.now.id c.args.other.id c.args.seat.now.me.0 c.args.other.me.0 live other c.requires.none,
)

pub load-requires : goal.load-requires
load-requires c = (search rules, search rules, observes_permits c.args.board.now.key c.args.board.now.table_id.slots c.join_seat.new.seat.id c.join_seat.new.seat.me)
