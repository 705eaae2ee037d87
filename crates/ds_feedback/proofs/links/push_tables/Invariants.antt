use Rattle.std.proofs.Common.{◌≡◌, ◌++◌, map, take}
use Rattle.ds_feedback.specs.Links.{link_of_table}
use Rattle.ds_feedback.proofs.links.push_tables.Given as goal

abbrev pub invariant-loop-table : goal.invariant-loop-table
invariant-loop-table l = l.links.items ≡ l.fn.links.items ++ map link_of_table (take l.table-index l.tables)
