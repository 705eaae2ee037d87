-- What a scratch lends to be changed.
use Rattle.std.specs.Borrow.{Fml, Lends, MutBor}
use Rattle.ds_base.specs.Values.{Row}
use Rattle.ds_base.specs.contracts.row3.Row3.{the_row as row3_row}
use Rattle.ds_base.specs.Scratch.{Kept}
use Rattle.ds_base.specs.contracts.scratch.Scratch.{the_row}

-- the same turns beside this row
abbrev pub with_nets : Kept → Row → Kept
with_nets k nets = record k { nets = nets }

-- the scratch ends with the last row behind the result
abbrev pub LendsNets : MutBor Kept → MutBor Row → Fml
LendsNets scratch nets = Lends the_row row3_row scratch nets (with_nets scratch.now)
