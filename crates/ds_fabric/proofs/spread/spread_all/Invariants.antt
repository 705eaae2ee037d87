use Rattle.std.proofs.Common.{◌≡◌, ◌<◌, ℕ, length}
use mathlib.Core.Option.{some}
use lib.ListN.{get_elem?}
use Rattle.ds_fabric.specs.HistoryList.{list_of_words}
use Rattle.ds_fabric.specs.Showing.{Showing, IsRecord}
use Rattle.ds_fabric.specs.Spread.{HasSpread}
use Rattle.ds_fabric.specs.declared.history.History.{History}
use Rattle.ds_fabric.proofs.spread.spread_all.Given as goal

abbrev pub invariant-loop-i : goal.invariant-loop-i
invariant-loop-i l = record {
  long : length l.out ≡ length l.fn.out;
  spread : (p : Showing) → IsRecord p l.fn.histories l.fn.design_nodes (length l.fn.out)
      → (i : ℕ) (h : History) → i < l.i → get_elem? l.fn.histories.nodes.items i ≡ some h
      → HasSpread p.view.run h (list_of_words l.fn.histories h) l.out;
}
