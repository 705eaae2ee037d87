use Rattle.std.proofs.Common.{◌≡◌, ◌<◌, ℕ, length}
use mathlib.Core.Option.{some}
use lib.ListN.{get_elem?}
use Rattle.ds_rule.specs.Run.{Run}
use Rattle.ds_fabric.specs.HistoryList.{ticket_in}
use Rattle.ds_fabric.specs.Spread.{IsElsewhereKept}
use Rattle.ds_fabric.proofs.spread.put.Given as goal

-- what was put stands, and what was elsewhere stays
abbrev pub invariant-loop-k : goal.invariant-loop-k
invariant-loop-k l = (length l.out ≡ length l.fn.out)
    × ((run : Run) → l.fn.design_nodes ≡ run.design_nodes → (j : ℕ) → j < l.k
    → get_elem? l.out (ticket_in run l.fn.history l.fn.words l.fn.event j) ≡ some l.fn.event)
    × ((run : Run) → l.fn.design_nodes ≡ run.design_nodes
    → IsElsewhereKept run l.fn.history l.fn.words l.fn.event l.fn.out l.out)
