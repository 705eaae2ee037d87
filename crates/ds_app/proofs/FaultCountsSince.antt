-- Counts of faults since earlier, where they are as they were by then.
use Rattle.std.proofs.Common.{◌≡◌, ◌∙◌, Result, Ok, Err}
use Rattle.ds_stage.specs.declared.stop.Stop.{Stop}
use Rattle.ds_stage.specs.declared.stop.Stop.TheVariants.{Refused, Unread, Unwritten, Memory}
use Rattle.ds_stage.specs.Ends.{UnlessUnread, UnreadOr}

pub unread_since : {T : Type 0} {old mid : T} (new : T) (stop : Stop) → mid ≡ old → UnreadOr stop (new ≡ mid) → UnreadOr stop (new ≡ old)
unread_since new (Refused line) one is = is ∙ one
unread_since new (Unread line) one is = tt
unread_since new Unwritten one is = is ∙ one
unread_since new Memory one is = tt

pub well_read_since : {A T : Type 0} {old mid : T} (new : T) (result : Result A Stop) → mid ≡ old → UnlessUnread result (new ≡ mid) → UnlessUnread result (new ≡ old)
well_read_since new (Ok a) one is = is ∙ one
well_read_since new (Err stop) one is = unread_since new stop one is
