-- Counts of faults that are as they were, unless an answer says that a read or a write failed.
use Rattle.std.proofs.Common.{Result, Ok, Err}
use Rattle.ds_stage.specs.declared.stop.Stop.{Stop}
use Rattle.ds_stage.specs.declared.stop.Stop.TheVariants.{Refused, Unread, Unwritten, Memory}
use Rattle.ds_stage.specs.Ends.{UnlessUnread, UnlessUnwritten, UnreadOr, UnwrittenOr}

-- what holds anyway
pub unread_or : {P : Type 0} (stop : Stop) → P → UnreadOr stop P
unread_or (Refused line) is = is
unread_or (Unread line) is = tt
unread_or Unwritten is = is
unread_or Memory is = tt

pub unwritten_or : {P : Type 0} (stop : Stop) → P → UnwrittenOr stop P
unwritten_or (Refused line) is = is
unwritten_or (Unread line) is = is
unwritten_or Unwritten is = tt
unwritten_or Memory is = is

pub well_read : {A P : Type 0} (result : Result A Stop) → P → UnlessUnread result P
well_read (Ok a) is = is
well_read (Err stop) is = unread_or stop is

pub well_written : {A P : Type 0} (result : Result A Stop) → P → UnlessUnwritten result P
well_written (Ok a) is = is
well_written (Err stop) is = unwritten_or stop is

-- what follows
pub unread_or_so : {P Q : Type 0} (stop : Stop) → (P → Q) → UnreadOr stop P → UnreadOr stop Q
unread_or_so (Refused line) so is = so is
unread_or_so (Unread line) so is = tt
unread_or_so Unwritten so is = so is
unread_or_so Memory so is = tt

pub unwritten_or_so : {P Q : Type 0} (stop : Stop) → (P → Q) → UnwrittenOr stop P → UnwrittenOr stop Q
unwritten_or_so (Refused line) so is = so is
unwritten_or_so (Unread line) so is = so is
unwritten_or_so Unwritten so is = tt
unwritten_or_so Memory so is = so is

pub well_read_so : {A P Q : Type 0} (result : Result A Stop) → (P → Q) → UnlessUnread result P → UnlessUnread result Q
well_read_so (Ok a) so is = so is
well_read_so (Err stop) so is = unread_or_so stop so is

pub well_written_so : {A P Q : Type 0} (result : Result A Stop) → (P → Q) → UnlessUnwritten result P → UnlessUnwritten result Q
well_written_so (Ok a) so is = so is
well_written_so (Err stop) so is = unwritten_or_so stop so is
