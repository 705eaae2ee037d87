-- What a call of `step` says.
use Rattle.std.specs.Prelude.{◌≡◌, ◌≢◌, ◌↔◌, ℕ, ◌+◌, ◌<◌, ◌≤◌, [], ◌∷◌, ◌++◌, cond, ◌==◌}
use Rattle.std.specs.Prelude.{Bool, true, false}
use Rattle.ds_rule.specs.Run.{Run, next, turns, IsEnabledInRun}
use Rattle.ds_rule.specs.Rule.{holds, tickets, seen}
use Rattle.ds_rule.specs.declared.view.View.{View}
use Rattle.ds_fabric.specs.declared.step.Step.{Step}
use Rattle.ds_fabric.specs.declared.step.Step.TheVariants.{Fired, NotYet, Done}
use Rattle.ds_fabric.specs.Looks.{LooksOn, IsSeenLacking}

-- the count of the event that the node fires next, before it fires
abbrev pub done : Run → View → ℕ → ℕ
done run v l = turns run (next run l (seen v l)) (seen v l)

-- what was seen when the node departed, of a pass that showed v before the step and w after it:
-- the firing is not yet counted
abbrev pub seen_at_departure : View → View → ℕ → ℕ → ℕ
seen_at_departure v w l x = cond (x == l) (seen v l) (seen w x)

-- the next event of the node was enabled at departure and fired, and nothing else that is held
-- changed
pub record FiresNext (run : Run) (v w : View) (l event turn ticket : ℕ) : Type 0 where
  pub event_is : event ≡ next run l (seen v l)
  pub turn_is : turn ≡ done run v l + 1
  pub within : turn ≤ run.limit
  pub enabled : IsEnabledInRun run (seen_at_departure v w l) event
  pub fresh : v.drawn ≤ ticket
  pub drawn : w.drawn ≡ ticket + 1
  pub once_more : seen w l ≡ seen v l + 1
  pub no_other : (x : ℕ) → x ≢ l → holds v x ≡ true → seen w x ≡ seen v x
  pub one_more : tickets w event ≡ tickets v event ++ ticket ∷ []
  pub others : (e : ℕ) → e ≢ event → tickets w e ≡ tickets v e
  pub run_same : w.run ≡ v.run
  pub holds_same : w.holds ≡ v.holds
  pub seen_up : (x : ℕ) → seen v x ≤ seen w x
  pub looks_up : v.looks ≤ w.looks

-- the next event of the node fired, with this ticket
abbrev pub FiresWith : Run → View → View → ℕ → ℕ → Type 0
FiresWith run v w l ticket =
    FiresNext run v w l (next run l (seen v l)) (done run v l + 1) ticket

-- what a call of `step` says of the pass before and after it: it has not fired yet where a source
-- has not fired often enough and the event is below its limit, and all is done where it is not
abbrev pub Stepped : Run → View → ℕ → Step → View → Type 0
Stepped run v l (Fired event turn ticket) w = FiresNext run v w l event turn ticket
Stepped run v l (NotYet arc n) w = LooksOn v w
    × IsSeenLacking run v w (next run l (seen v l)) (done run v l + 1) arc n
    × (done run v l < run.limit)
Stepped run v l Done w = (w ≡ v) × (run.limit ≤ done run v l)

-- the step fired an event
abbrev pub has_fired : Step → Bool
has_fired (Fired event turn ticket) = true
has_fired (NotYet arc n) = false
has_fired Done = false

-- where the pass holds all nodes, the step fires exactly where the next event of the node is
-- enabled
abbrev pub FiresIfEnabled : Run → View → ℕ → Step → Type 0
FiresIfEnabled run v l step = ((x : ℕ) → x < run.nodes → holds v x ≡ true)
    → (has_fired step ≡ true) ↔ IsEnabledInRun run (seen v) (next run l (seen v l))
