-- What the workers keep, and what a step of the caller does.
use Rattle.std.specs.Prelude.{◌≡◌, ℕ, ◌<◌, ◌≤◌, ◌+◌, ◌-◌, ◌*◌, true, false, Bool, List}
use Rattle.std.specs.Prelude.{All, [], length, vec_capacity, Option, None, Some}
use mathlib.Core.Option.{some}
use lib.ListN.{get_elem?}
use Rattle.ds_base.specs.Scratch.{Memory, Remembers}
use Rattle.ds_rule.specs.Run.{Run, events}
use Rattle.ds_rule.specs.Rule.{holds, seen, tickets}
use Rattle.ds_rule.specs.Progress.{Stuck}
use Rattle.ds_rule.specs.declared.view.View.{View}
use Rattle.ds_fabric.specs.Base.{Base}
use Rattle.ds_fabric.specs.Showing.{Showing, Belongs}
use Rattle.ds_runner.specs.TurnstileRule.{Alone, HasNone, fabric_of, run_of, base, sum_below}
use Rattle.ds_runner.specs.Shown.{Stile, IsTurnOf}
use Rattle.ds_runner.specs.declared.budget.Budget.{Budget}
use Rattle.ds_runner.specs.declared.worker_pool.WorkerPool.{WorkerPool}
use Rattle.ds_runner.specs.declared.fired.Fired.{Fired}
use Rattle.ds_runner.specs.declared.worker.Worker.{Worker}

-- how many tickets a pass has of the events below n: one for each firing of its own
abbrev pub tickets_below : View → ℕ → ℕ
tickets_below v n = sum_below (λ e. length (tickets v e)) n

-- and of all events
abbrev pub all_tickets : View → ℕ
all_tickets v = tickets_below v (events v.run)

-- the pass has seen no firing
abbrev pub IsUnfired : View → Type 0
IsUnfired v = (l : ℕ) → seen v l ≡ 0

-- the pass holds the nodes from one up to but not including another
abbrev pub HasBetween : View → ℕ → ℕ → Type 0
HasBetween v first end = (l : ℕ) → first ≤ l → l < end → holds v l ≡ true

-- the pass holds all nodes from one on
abbrev pub HasFrom : View → ℕ → Type 0
HasFrom v first = HasBetween v first v.run.nodes

-- a pass after steps: it holds what it held, no node has fired less often, and its scratch
-- remembers this, if it did before
pub record Moved (m : Memory) (p q : Showing) : Type 0 where
  pub table : q.table_id ≡ p.table_id
  pub many : q.many ≡ p.many
  pub room : q.room ≡ p.room
  pub remembers : Remembers m p.scratch → Remembers m q.scratch
  pub run : q.view.run ≡ p.view.run
  pub holds_same : q.view.holds ≡ p.view.holds
  pub up : (l : ℕ) → seen p.view l ≤ seen q.view l

-- bare passes of the fabric, the l-th of which holds node l alone
abbrev pub AreSingle : Base → List Showing → Type 0
AreSingle b ps = (l : ℕ) (p : Showing) → get_elem? ps l ≡ some p → Alone b.table_id b.run l p

-- the turnstile has a pass of the fabric for each node
pub record HasPassOfEach (b : Base) (s : Stile) : Type 0 where
  pub fabric_is : fabric_of s.given ≡ b.table_id
  pub run_is : run_of s.given ≡ b.run
  pub long : length s.given ≡ b.run.nodes

-- a worker between two visits: it has one permit and no node out, and a scratch that remembers
pub record IsWorker (b : Base) (s : Stile) (w : Worker) : Type 0 where
  pub belongs : IsTurnOf s w.turn
  pub none : HasNone w.turn.view
  pub one : w.turn.view.permits ≡ 1
  pub remembers : Remembers b.memory w.scratch

-- the same, and it has fired at most so often
pub record IsWithin (b : Base) (s : Stile) (most : ℕ) (w : Worker) : Type 0 where
  pub worker : IsWorker b s w
  pub few : w.turn.view.made ≤ most

-- how often a worker has fired
abbrev pub made_of : Worker → ℕ
made_of w = w.turn.view.made

-- workers who together with the turn that is left have all permits, and no node is out; the passes
-- were given before anything fired
pub record IsWorkerPool (b : Base) (c : WorkerPool) : Type 0 where
  pub fits : HasPassOfEach b c.scheduler.stile
  pub belongs : IsTurnOf c.scheduler.stile c.turn
  pub none : HasNone c.turn.view
  pub made : c.turn.view.made ≡ 0
  pub unfired : base 0 c.scheduler.stile.given ≡ 0
  pub permits : c.turn.view.permits + length c.workers.items ≡ c.scheduler.stile.all_permits
  pub are : All (IsWorker b c.scheduler.stile) c.workers.items
  pub some_workers : 0 < length c.workers.items
  pub empty : c.passes.items ≡ []
  pub room : length c.scheduler.stile.given ≤ vec_capacity c.passes

-- one for an event that is there
abbrev pub one_of : Option ℕ → ℕ
one_of None = 0
one_of (Some event) = 1

-- how many events a visit fired
abbrev pub fired_count : Fired → ℕ
fired_count f = one_of f.first + one_of f.second

-- fewer looks are left, and as many takes and firings
abbrev pub Waits : Budget → Budget → Type 0
Waits old new = (new.looks < old.looks) × (new.takes ≡ old.takes) × (new.firings ≡ old.firings)

-- what is left of a pass from which nodes were dealt, before anything fired
pub record IsLent (b : Base) (old : Showing) (first end_ : ℕ) (p : Showing) : Type 0 where
  pub fits : Belongs b p
  pub has : HasFrom p.view end_
  pub many : p.many + end_ ≡ old.many + first
  pub room : p.room ≡ old.room
  pub unfired : IsUnfired p.view

-- how often a worker fires at most: without a quota more often than a run has firings
abbrev pub quota_of : Option ℕ → ℕ
quota_of None = 18446744073709551615
quota_of (Some quota) = quota

-- how often the caller may fire, once so many firings are there
abbrev pub IsRest : Option ℕ → ℕ → ℕ → Type 0
IsRest None fired n = n ≡ 18446744073709551615
IsRest (Some quota) fired n = n ≡ quota - fired

-- at least the firings that are left
abbrev pub left : Run → View → ℕ
left run v = sum_below (λ l. 2 * run.limit - seen v l) run.nodes

-- one firing less is left; or nothing fired, and the node is stuck
abbrev pub Advances : Run → View → ℕ → View → Bool → Type 0
Advances run v l w true = left run w < left run v
Advances run v l w false = ((x : ℕ) → x < run.nodes → seen w x ≡ seen v x) × Stuck run (seen v) l

-- a firing less is left; or nothing fired, and each node below n is stuck
abbrev pub AdvancesBelow : Run → View → ℕ → View → Bool → Type 0
AdvancesBelow run v n w true = left run w < left run v
AdvancesBelow run v n w false =
    ((x : ℕ) → x < run.nodes → seen w x ≡ seen v x) × ((l : ℕ) → l < n → Stuck run (seen v) l)
