-- What a fabric shows, and how its parts fit.
use Rattle.std.specs.Prelude.{◌≡◌, ◌<◌, ◌≤◌, ℕ, true}
use Rattle.atomic_table.specs.Seated.{TableId}
use Rattle.ds_base.specs.Scratch.{Memory}
use Rattle.ds_rule.specs.Run.{Run, next, opens, IsEnabledInRun}
use Rattle.ds_rule.specs.Sound.{IsSound}
use Rattle.ds_rule.specs.Words.{size, width}
use Rattle.ds_rule.specs.Rule.{seen}
use Rattle.ds_rule.specs.Rows.{IsStarts}
use Rattle.ds_rule.specs.declared.view.View.{View}
use Rattle.ds_fabric.specs.Ranged.{AreFirstEdges, AreReadWords}
use Rattle.ds_fabric.specs.declared.index.Index.{Index}

-- a table, its run, and what a scratch remembers in which its rows are computed
pub record Base : Type 0 where
  pub table_id : TableId
  pub run : Run
  pub memory : Memory

-- a table is one of this run
pub record IsOver (id : TableId) (key run : Run) : Type 0 where
  pub keyed : key ≡ run
  pub sized : id.words ≡ size run
  pub sound : IsSound run

-- the table, the run and the index of a fabric fit
pub record IsBuilt (id : TableId) (key run : Run) (index : Index) : Type 0 where
  pub over : IsOver id key run
  pub no_slot : id.slots ≡ 0
  pub started : IsStarts run index.starts.items
  pub ranged : AreFirstEdges run index.firsts.items
  pub reads : AreReadWords run index.reads.items

-- the pass is live and in flight with the node's next event, and no word of it is written
pub record IsAway (run : Run) (v : View) (l : ℕ) : Type 0 where
  pub live : v.live ≡ true
  pub phase : v.phase ≡ 1
  pub node_is : v.node ≡ l
  pub written : v.written ≡ 0
  pub run_is : v.run ≡ run

-- the pass is in flight with the node's next event, behind f firings of the node
pub record IsInFlight (run : Run) (v : View) (l f : ℕ) : Type 0 where
  pub live : v.live ≡ true
  pub phase : v.phase ≡ 1
  pub node_is : v.node ≡ l
  pub run_is : v.run ≡ run
  pub count : f ≡ seen v l
  pub near : l < run.nodes
  pub enabled : IsEnabledInRun run (seen v) (next run l f)

-- where that event is an opening, all words of its row are written
abbrev pub HasWritten : Run → View → ℕ → ℕ → Type 0
HasWritten run v l f = opens run (next run l f) ≡ true → width run l ≤ v.written
