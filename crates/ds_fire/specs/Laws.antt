-- What holds of every state that firings lead to.
use Rattle.std.specs.Prelude.{◌≡◌, ◌↔◌, ℕ, ◌+◌, ◌<◌, List, ◌∷◌, [], ◌++◌, length}
use Rattle.std.specs.List.{flat_map, range_with_len}
use Rattle.ds_base.specs.Values.{Row}
use Rattle.ds_design.specs.Run.{IsRun}
use Rattle.ds_design.specs.Trace.{trace_line, trace_lines}
use Rattle.ds_marked.specs.Progress.{HasFiredAll}
use Rattle.ds_latch.specs.Node.{IsNode, opening, closing}
use Rattle.ds_latch.specs.declared.node.Node.{Node}
use Rattle.ds_latch.specs.declared.node.Node.TheVariants.{Out}
use Rattle.ds_latch.specs.Numbered.{numbered}
use Rattle.ds_latch.specs.Firing.{State, AreRegisters}
use Rattle.ds_latch.specs.Transparent.{IsShowing}
use Rattle.ds_fire.specs.Snapshot.{Snapshot, Shows, split_of, graph_of, limit_of, count_of}
use Rattle.ds_fire.specs.Snapshot.{held_row, stored_values, stored_row}
use Rattle.ds_fire.specs.Fired.{IsReady, IsFired, IsAfter, IsReached, IsSnapshotSound}

-- a run of the vectors from the plan's initial row
abbrev pub IsClockedRunOf : Snapshot → (ℕ → Row) → (ℕ → Row) → Type 0
IsClockedRunOf kept state nets =
    IsRun (split_of kept).circuit (split_of kept).initial kept.vectors state nets

-- value k of a node in the run
abbrev pub run_value : Snapshot → (ℕ → Row) → (ℕ → Row) → Node → ℕ → Row
run_value kept state nets n k = numbered (split_of kept) kept.vectors state nets n k

-- each node holds the value of its last opening, and has stored the values of its closings
pub record IsInRun (kept : Snapshot) (state nets : ℕ → Row) : Type 0 where
  pub held : (n : Node) → IsNode (split_of kept) n
      → held_row kept n ≡ run_value kept state nets n (count_of kept (opening n))
  pub stored : (n : Node) → IsNode (split_of kept) n → stored_values kept n
      ≡ flat_map (run_value kept state nets n) (range_with_len 1 (count_of kept (closing n)))

-- whatever is fired, held and stored rows are those of the clocked run
abbrev pub FiredIsInRun : Type 0
FiredIsInRun = (kept : Snapshot) → IsSnapshotSound kept → IsReached kept
    → (state nets : ℕ → Row) → IsClockedRunOf kept state nets → IsInRun kept state nets

-- every event has fired as often as it may
abbrev pub IsFiredToEnd : Snapshot → Type 0
IsFiredToEnd kept = HasFiredAll (graph_of kept) (limit_of kept) (count_of kept)

-- no event may fire exactly where each has fired as often as it may
abbrev pub FiredToTheEnd : Type 0
FiredToTheEnd = (kept : Snapshot) → IsSnapshotSound kept → IsReached kept
    → ((v : ℕ) → ¬ IsReady kept v) ↔ IsFiredToEnd kept

-- a firing more is a list with one event more
abbrev pub FiredAfter : Type 0
FiredAfter = (old new : Snapshot) (v : ℕ) (events : List ℕ)
    → IsFired old v new → IsAfter old events → IsAfter new (events ++ v ∷ [])

-- at the end the stored rows spell the trace: the outputs are those stored by OUT, and the
-- registers before a turn those stored by the slaves in the turn before, at first the initial ones
abbrev pub StoredSpellTrace : Type 0
StoredSpellTrace = (kept : Snapshot) → IsSnapshotSound kept → IsReached kept → IsFiredToEnd kept
    → (first : ℕ)
    → (state nets : ℕ → Row) → IsClockedRunOf kept state nets
    → (rows : ℕ → Row) → rows 0 ≡ (split_of kept).initial
    → ((k : ℕ) → k < limit_of kept
    → AreRegisters (split_of kept) (λ n. stored_row kept n k) (rows (k + 1)))
    → (flat_map (λ k. trace_line (first + k) (stored_row kept Out k) (rows k))
    (range_with_len 0 (limit_of kept))
    ≡ trace_lines (split_of kept).circuit first (limit_of kept) state nets)
    × (rows (limit_of kept) ≡ state (limit_of kept))

-- without slack there is exactly one way to show, and it is what the nodes hold
abbrev pub HeldIsShown : Type 0
HeldIsShown = (kept : Snapshot) → IsSnapshotSound kept → IsReached kept → (split_of kept).slack ≡ 0
    → (now : State) → Shows kept now
    → IsShowing (split_of kept) kept.vectors now (held_row kept)
    × ((shown : Node → Row) → IsShowing (split_of kept) kept.vectors now shown
    → (n : Node) → IsNode (split_of kept) n → shown n ≡ held_row kept n)
