-- What loads of counts change in a view, and what a search for missing tokens tells.
use Rattle.std.specs.Prelude.{◌≡◌, ℕ, ◌+◌, ◌<◌, ◌≤◌, length, true, All}
use Rattle.ds_rule.specs.Run.{Run, node_of, turns, count}
use Rattle.ds_rule.specs.Rule.{holds, seen}
use Rattle.ds_rule.specs.declared.view.View.{View}
use Rattle.ds_fabric.specs.Chained.{arc_numbered}

-- loads alone: what is seen only rises, and of what is held it stays
pub record LooksOn (v w : View) : Type 0 where
  pub live : w.live ≡ v.live
  pub run : w.run ≡ v.run
  pub holds_same : w.holds ≡ v.holds
  pub tickets_same : w.tickets ≡ v.tickets
  pub drawn : w.drawn ≡ v.drawn
  pub phase : w.phase ≡ v.phase
  pub seen_long : length w.seen ≡ length v.seen
  pub seen_up : (l : ℕ) → seen v l ≤ seen w l
  pub looks_up : v.looks ≤ w.looks
  pub own : (l : ℕ) → holds v l ≡ true → seen w l ≡ seen v l

-- what was seen is enough for this turn of the event, on all arcs into it
abbrev pub Enough : Run → View → ℕ → ℕ → Type 0
Enough run w event turn =
    All (λ a. a.target ≡ event → turn ≤ count run (seen w) a.source + a.tokens) run.arcs

-- the arc enters the event, the last load was of its source and gave the count n, and that is not
-- enough
pub record IsSeenLacking (run : Run) (v w : View) (event turn arc n : ℕ) : Type 0 where
  pub inside : arc < length run.arcs
  pub enters : (arc_numbered run arc).target ≡ event
  pub looked : v.looks < w.looks
  pub last : w.last_node ≡ node_of run (arc_numbered run arc).source
  pub gave : n ≡ turns run (arc_numbered run arc).source w.last_seen
  pub short : n + (arc_numbered run arc).tokens < turn
  pub at_least : count run (seen v) (arc_numbered run arc).source ≤ n
  pub own : holds v (node_of run (arc_numbered run arc).source) ≡ true
      → n ≡ count run (seen v) (arc_numbered run arc).source
