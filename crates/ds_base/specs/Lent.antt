-- What a row lends to be changed.
use Rattle.std.specs.Prelude.{◌++◌, drop, length, take}
use Rattle.std.specs.Borrow.{Array, Fml, Lends, MutBor}
use Rattle.ds_base.specs.Values.{Row}
use Rattle.ds_base.specs.contracts.row3.Row3.{the_row}
use Rattle.ds_base.specs.contracts.value.Value.{the_row as value_row}

-- the row with these values at its start, as long as it was
abbrev pub with_values : Row → Row → Row
with_values row values = take (length row) (values ++ drop (length values) row)

-- the row ends with the last values behind the result
abbrev pub LendsValues : MutBor Row → MutBor Row → Fml
LendsValues row values = Lends the_row (Array value_row 0) row values (with_values row.now)
