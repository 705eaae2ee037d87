-- What the counts of firings that the words show allow, and how they come about.
use Rattle.std.specs.Prelude.{◌≡◌, ℕ, ◌<◌, List, length, true}
use mathlib.Core.Option.{some}
use lib.ListN.{get_elem?}
use Rattle.atomic_table.specs.Table.{State}
use Rattle.ds_marked.specs.Graph.{Graph, IsLegal, counts_after}
use Rattle.ds_rule.specs.Run.{Run, count, IsEnabledInRun}
use Rattle.ds_rule.specs.Rule.{firings_shown, event, Lawful}
use Rattle.ds_rule.specs.Progress.{IsRunAccepted}
use Rattle.ds_rule.specs.Laws.{IsGraphOfRun}
use Rattle.ds_rule.specs.declared.view.View.{View}

-- what a pass has in flight is enabled at the counts that the words show
abbrev pub FlightsAreEnabled : Type 0
FlightsAreEnabled = (run : Run) (s : State ℕ View) → Lawful run s → (id : ℕ) (v : View)
    → get_elem? s.views id ≡ some v → v.live ≡ true → 0 < v.phase
    → IsEnabledInRun run (firings_shown s.words) (event run v)

-- the counts that the words show are those of a legal list
abbrev pub ShownAreReached : Type 0
ShownAreReached = (g : Graph) (run : Run) → IsGraphOfRun g run → IsRunAccepted run
    → (s : State ℕ View) → Lawful run s
    → (items : List ℕ) × IsLegal g run.limit items
    × ((e : ℕ) → e < length g.events
    → counts_after (λ _. 0) items e ≡ count run (firings_shown s.words) e)
