-- For each event, the arcs into it: the last one at its head, and from each arc the one before. A
-- place is one more than an arc's number, and 0 where there is none.
use Rattle.std.specs.Prelude.{◌≡◌, ◌≢◌, ℕ, ◌-◌, ◌<◌, ◌≤◌, List, length, slice_index, slice_index_or}
use Rattle.ds_rule.specs.Run.{Run, events}
use Rattle.ds_marked.specs.declared.marked.Arc.{Arc}
use Rattle.ds_fabric.specs.declared.chain.Chains.{Chains}

-- what stands for an arc where there is none
abbrev pub absent_arc : Arc
absent_arc = record { source = 0; target = 0; tokens = 0 }

-- an arc by its number
abbrev pub arc_numbered : Run → ℕ → Arc
arc_numbered run n = slice_index_or run.arcs n absent_arc

-- h is the place of the last arc into the event among the first n arcs
pub record IsLastArc (run : Run) (event n h : ℕ) : Type 0 where
  pub below : h ≤ n
  pub hit : 0 < h → (arc_numbered run (h - 1)).target ≡ event
  pub none : (k : ℕ) → h ≤ k → k < n → (arc_numbered run k).target ≢ event

-- the first n arcs are chained
pub record IsChained (run : Run) (n : ℕ) (heads links : List ℕ) : Type 0 where
  pub heads_long : length heads ≡ events run
  pub links_long : length links ≡ n
  pub head : (e : ℕ) → e < events run → IsLastArc run e n (slice_index heads e)
  pub link : (k : ℕ) → k < n → IsLastArc run (arc_numbered run k).target k (slice_index links k)

-- all arcs are chained
abbrev pub AreChained : Run → Chains → Type 0
AreChained run chains = IsChained run (length run.arcs) chains.heads.items chains.links.items
