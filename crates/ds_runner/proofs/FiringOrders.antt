-- Firings in an order: which event is due, and what its firing changes.
use Rattle.std.proofs.Common.{◌≡◌, ℕ, ◌+◌, ◌*◌, ◌%◌, ◌<◌, ◌≤◌, ◌≢◌, Bool, List, true, false, get_or, length, All}
use Rattle.std.proofs.Common.{sym, refl, ap, ◌∙◌, subst, arith, le_refl}
use mathlib.Core.Logic.{dite}
use native.Mathlib.Decide.{ℕ_discrete, dec_lt}
use Rattle.ds_base.specs.Scratch.{Memory}
use Rattle.ds_marked.specs.declared.marked.Arc.{Arc}
use Rattle.ds_rule.specs.Run.{Run, node_of, next, turns, count, IsEnabledInRun}
use Rattle.ds_rule.specs.Sound.{IsSound}
use Rattle.ds_rule.specs.Rule.{holds, seen}
use Rattle.ds_rule.specs.declared.view.View.{View}
use Rattle.ds_rule.proofs.EventLaws.{event_below, events-is, next-high, next-low, node-high, node-low}
use Rattle.ds_rule.proofs.EventLaws.{turns-low, turns-next, turns-none, turns-other}
use Rattle.ds_rule.proofs.GraphLaws.{event_there}
use Rattle.ds_fabric.specs.Showing.{Showing}
use Rattle.ds_fabric.specs.Stepped.{FiresWith, done}
use Rattle.ds_fabric.specs.declared.step.Step.TheVariants.{Fired}
use Rattle.ds_runner.specs.Work.{HasFrom, Moved, all_tickets}
use Rattle.ds_runner.specs.FiringOrder.{IsDue, IsFiringOrder, StandsAt}
use Rattle.ds_runner.proofs.TicketCounts.{tickets-step}

-- a pass that moved on has the nodes that it had
pub still_has : (m : Memory) (p q : Showing) → HasFrom p.view 0 → Moved m p q → HasFrom q.view 0
still_has m p q all moved l low near = ap (λ (hs : List Bool). get_or hs l false) moved.holds_same
    ∙ all l low (omega (arith, near, ap (λ (r : Run). r.nodes) moved.run))

-- a pass that has not moved
pub unmoved : (m : Memory) (p : Showing) → Moved m p p
unmoved m p = record {
  table = refl;
  many = refl;
  room = refl;
  remembers = λ x. x;
  run = refl;
  holds_same = refl;
  up = λ l. le_refl (seen p.view l);
}

-- an event that is there has a number below that of all events
pub small : (run : Run) (e : ℕ) → IsSound run → node_of run e < run.nodes → e < run.nodes + run.design_nodes
small run e sound near = omega (arith, event_below run e sound.among near, events-is run)

module _ (run : Run) (v : View) (order : List ℕ) (i turn : ℕ) (sound : IsSound run)
    (o : IsFiringOrder run order) (at : StandsAt run v order i turn) where
  -- the place of an event
  abbrev place : ℕ → ℕ
  place e = get_or o.places e 0

  -- an event before this place has fired once more
  before : (e : ℕ) → node_of run e < run.nodes → place e < i → count run (seen v) e ≡ turn + 1
  before e near low = let s = o.all e (small run e sound near) in
      ap (count run (seen v)) (sym s.1) ∙ at.fired (place e) low

  -- and another has not
  behind : (e : ℕ) → node_of run e < run.nodes → i ≤ place e → count run (seen v) e ≡ turn
  behind e near high = let s = o.all e (small run e sound near) in
      ap (count run (seen v)) (sym s.1) ∙ at.waits (place e) high s.0

  -- the counts of both events of a latch tell which fires next
  next_low : (e : ℕ) → e < 2 * run.design_nodes → node_of run e < run.nodes → place e ≡ i
      → next run (node_of run e) (seen v (node_of run e)) ≡ e
  next_low e low near here =
      let l : ℕ = node_of run e in let f : ℕ = seen v l in let is = node-low run e low in
      let low-l : l < run.design_nodes = omega (arith, is) in
      let first-low : 2 * l < 2 * run.design_nodes = omega arith in
      let second-low : 2 * l + 1 < 2 * run.design_nodes = omega arith in
      let opens : node_of run (2 * l) ≡ l = omega (arith, node-low run (2 * l) first-low) in
      let closes : node_of run (2 * l + 1) ≡ l = omega (arith, node-low run (2 * l + 1) second-low) in
      let rise = o.close l low-l in let own = behind e near (omega (arith, here)) in
      let whole = turns-low run e f low in let first-is = turns-low run (2 * l) f first-low in
      let second-is = turns-low run (2 * l + 1) f second-low in
      let first-at = ap (λ (x : ℕ). turns run (2 * l) (seen v x)) opens in
      let second-at = ap (λ (x : ℕ). turns run (2 * l + 1) (seen v x)) closes in
      let next-is = next-low run l f low-l in dite (ℕ_discrete (e % 2) 0)
      (λ even. let this : 2 * l ≡ e = omega (arith, is) in
      let other = behind (2 * l + 1) (omega (arith, closes, near))
      (omega (arith, rise, ap place this, here)) in
      omega (arith, whole, own, second-is, second-at, other, next-is, this))
      (λ odd. let this : 2 * l + 1 ≡ e = omega (arith, is) in
      let other = before (2 * l) (omega (arith, opens, near))
      (omega (arith, rise, ap place this, here)) in
      omega (arith, whole, own, first-is, first-at, other, next-is, this))

  next_here : (e : ℕ) → node_of run e < run.nodes → place e ≡ i
      → next run (node_of run e) (seen v (node_of run e)) ≡ e
  next_here e near here = dite (dec_lt e (2 * run.design_nodes)) (λ low. next_low e low near here)
      (λ high. let l : ℕ = node_of run e in let is = node-high run e (omega arith) in
      next-high run l (seen v l) (omega (arith, is)) ∙ omega (arith, is))

  -- an arc into the event at this place, from one that is not before it, has a token
  tokened : All (λ a. place a.target ≡ i → (place a.source < i → ⊥) → 0 < a.tokens) run.arcs
  tokened k d inside here high = dite (ℕ_discrete (get_or run.arcs k d).tokens 0)
      (λ empty. absurd (high (omega (arith, o.rise k d inside empty, here)))) (λ filled. omega arith)

  -- the event at this place is due
  pub next_due : i < length order → turn < run.limit → IsDue run v (get_or order i 0)
  next_due near below = let e : ℕ = get_or order i 0 in let s = o.stand i near in
      let own = at.waits i (le_refl i) near in record {
        near = s.0;
        next_is = next_here e s.0 s.1;
        enabled = record {
          event = event_there run e sound.among s.0;
          below = omega (arith, own, below);
          ready = λ k d inside into. let a : Arc = get_or run.arcs k d in
              let source = (sound.named k d inside).0 in
              let here : place a.target ≡ i = ap place into ∙ s.1 in
              dite (dec_lt (place a.source) i)
              (λ low. omega (arith, own, before a.source source low))
              (λ high. omega (
                arith,
                own,
                behind a.source source (omega arith),
                tokened k d inside here high,
              ));
        };
      }

  -- once it has fired, and no other event has, the next place comes
  pub goes_on : (w : View) → i < length order
      → count run (seen w) (get_or order i 0) ≡ count run (seen v) (get_or order i 0) + 1
      → ((x : ℕ) → node_of run x < run.nodes → x ≢ get_or order i 0
      → count run (seen w) x ≡ count run (seen v) x)
      → StandsAt run w order (i + 1) turn
  goes_on w near once others =
      let same : (j : ℕ) → j < length order → j ≢ i
      → count run (seen w) (get_or order j 0) ≡ count run (seen v) (get_or order j 0) =
      λ j inside apart. let s = o.stand j inside in others (get_or order j 0) s.0
      (λ e. apart (sym s.1 ∙ (ap place e ∙ (o.stand i near).1))) in record {
        fired = λ j low. dite (ℕ_discrete j i)
            (λ e. ap (λ (x : ℕ). count run (seen w) (get_or order x 0)) e
            ∙ (once ∙ ap (λ (x : ℕ). x + 1) (at.waits i (le_refl i) near)))
            (λ apart. same j (omega arith) apart ∙ at.fired j (omega arith));
        waits = λ j high inside. same j inside (λ e. omega arith) ∙ at.waits j (omega arith) inside;
      }

-- where all of the order have fired in a turn, the next turn comes
pub next_turn : (run : Run) (v : View) (order : List ℕ) (i turn : ℕ) → i ≡ length order
    → StandsAt run v order i turn → StandsAt run v order 0 (turn + 1)
next_turn run v order i turn all at = record {
  fired = λ j low. absurd (omega arith);
  waits = λ j high inside. at.fired j (omega (arith, inside, all));
}

-- where nothing has fired, the first turn comes
pub first_turn_of : (run : Run) (v : View) (order : List ℕ) → IsFiringOrder run order
    → ((l : ℕ) → l < run.nodes → seen v l ≡ 0) → StandsAt run v order 0 0
first_turn_of run v order o zeros = record {
  fired = λ j low. absurd (omega arith);
  waits = λ j high inside. let e : ℕ = get_or order j 0 in
      ap (turns run e) (zeros (node_of run e) (o.stand j inside).0) ∙ turns-none run e;
}

-- a pass that holds all nodes holds that of an event
pub holds_node : (run : Run) (v : View) (event node : ℕ) → v.run ≡ run → HasFrom v 0 → node ≡ node_of run event
    → node_of run event < run.nodes → holds v node ≡ true
holds_node run v event node run-is all here near =
    all node (omega arith) (omega (arith, here, near, ap (λ (r : Run). r.nodes) run-is))

-- what is due is the next event of its node, and enabled
pub next_of_due : (run : Run) (v : View) (event node : ℕ) → node ≡ node_of run event → IsDue run v event
    → next run node (seen v node) ≡ event
next_of_due run v event node here due =
    subst (λ (l : ℕ). next run l (seen v l) ≡ event) (sym here) due.next_is

pub enabled_of_due : (run : Run) (v : View) (event node : ℕ) → node ≡ node_of run event → IsDue run v event
    → IsEnabledInRun run (seen v) (next run node (seen v node))
enabled_of_due run v event node here due =
    subst (IsEnabledInRun run (seen v)) (sym (next_of_due run v event node here due)) due.enabled

-- the next event of a node that fires is counted once more
pub counted_once : (run : Run) (v w : View) (event node ticket : ℕ) → node ≡ node_of run event
    → next run node (seen v node) ≡ event → FiresWith run v w node ticket
    → count run (seen w) event ≡ count run (seen v) event + 1
counted_once run v w event node ticket here n fires = omega (
  arith,
  ap (λ (x : ℕ). turns run event (seen w x)) here,
  ap (λ (x : ℕ). turns run event (seen v x)) here,
  ap (turns run event) fires.once_more,
  ap (λ (x : ℕ). turns run x (seen v node + 1)) n,
  ap (λ (x : ℕ). turns run x (seen v node)) n,
  turns-next run node (seen v node),
)

-- and no other is, where the pass holds all nodes
pub counted_same : (run : Run) (v w : View) (event node ticket : ℕ) → v.run ≡ run → HasFrom v 0
    → next run node (seen v node) ≡ event → FiresWith run v w node ticket
    → (x : ℕ) → node_of run x < run.nodes → x ≢ event → count run (seen w) x ≡ count run (seen v) x
counted_same run v w event node ticket run-is all n fires x near apart = dite (ℕ_discrete (node_of run x) node)
    (λ same. ap (λ (y : ℕ). turns run x (seen w y)) same ∙ (ap (turns run x) fires.once_more
    ∙ (turns-other run x node (seen v node) same (λ z. apart (z ∙ n))
    ∙ ap (λ (y : ℕ). turns run x (seen v y)) (sym same))))
    (λ other. ap (turns run x) (fires.no_other (node_of run x) other
    (all (node_of run x) (omega arith) (omega (arith, near, ap (λ (r : Run). r.nodes) run-is)))))

-- it has one ticket more
pub one_ticket_more : (run : Run) (v w : View) (node ticket : ℕ) → IsSound run → v.run ≡ run → node < run.nodes
    → FiresWith run v w node ticket → all_tickets w ≡ all_tickets v + 1
one_ticket_more run v w node ticket sound run-is near fires =
    tickets-step run v node (Fired (next run node (seen v node)) (done run v node + 1) ticket) w sound run-is near fires
