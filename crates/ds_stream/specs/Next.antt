-- What a reader gives of a file.
use Rattle.std.specs.Prelude.{◌≡◌, ◌≤◌, ◌+◌, ℕ, List, Option, None, Some, length}
use Rattle.ds_base.specs.Values.{Row}
use Rattle.ds_outside.specs.Held.{Held, untold, absent, bytes}
use Rattle.ds_stream.specs.Stream.{FitsText, Shown, next_window}
use Rattle.ds_stream.specs.declared.fault.NextFault.{NextFault}
use Rattle.ds_stream.specs.declared.fault.NextFault.TheVariants.{Vector, TooLong, Read, Memory}

-- the numbers of a reader fit what is held, where that is told
abbrev pub FitsHeld : Held → Shown → Type 0
FitsHeld untold shown = Unit {0}
FitsHeld absent shown = Unit {0}
FitsHeld (bytes text) shown = FitsText shown text

-- these are the rows of the next window, and the numbers behind it fit again
pub record IsNext (shown : Shown) (count : ℕ) (text : List ℕ) (after : Shown) (rows : List Row)
    : Type 0 where
  pub window : next_window shown text count
      ≡ record { rows = rows; behind = after.behind; stop = None }
  pub fits : FitsText after text

-- the same of what is held, where that is told; nothing is given of a file that is not there
abbrev pub GivesHeld : Held → Shown → ℕ → Shown → List Row → Type 0
GivesHeld untold shown count after rows = Unit {0}
GivesHeld absent shown count after rows = count ≡ 0
GivesHeld (bytes text) shown count after rows = IsNext shown count text after rows

-- a fault is why the window has no more, unless a read failed or memory was wanted
abbrev pub Refuses : NextFault → Option NextFault → Type 0
Refuses Memory stop = Unit {0}
Refuses Read stop = Unit {0}
Refuses TooLong stop = stop ≡ Some TooLong
Refuses (Vector fault) stop = stop ≡ Some (Vector fault)

-- the same of what is held, where that is told; a file that is not there has no fault
abbrev pub RefusesHeld : Held → Shown → ℕ → NextFault → Type 0
RefusesHeld untold shown count why = Unit {0}
RefusesHeld absent shown count why = Refuses why None
RefusesHeld (bytes text) shown count why = Refuses why (next_window shown text count).stop

-- what a reader shows behind a window that it gave
pub record IsBehind (shown : Shown) (count : ℕ) (after : Shown) (rows : List Row) : Type 0 where
  pub width : after.width ≡ shown.width
  pub most : after.most ≡ shown.most
  pub given : after.given ≡ shown.given + length rows
  pub few : length rows ≤ count
