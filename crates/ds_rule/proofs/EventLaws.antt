-- The laws of events: all that the steps of the rule use of them.
use Rattle.std.proofs.Common.{◌≡◌, ℕ, ◌+◌, ◌-◌, ◌*◌, ◌/◌, ◌%◌, ◌<◌, ◌≤◌, ◌≢◌, eqb, cond, lt-ltb}
use Rattle.std.proofs.Common.{le-ltb, true, false, ◌&&◌, sym, refl, ap, ◌∙◌, arith, eq-eqb, ne_eqb}
use Rattle.std.proofs.lemmas.Bool.{false≢true}
use mathlib.Core.Logic.{dite}
use native.Mathlib.Decide.{ℕ_discrete, dec_lt}
use Rattle.ds_rule.specs.Run.{Run, events, node_of, next, turns, opens, opening, closing, opened}
use Rattle.ds_rule.specs.Event.{IsNodeEvent}
use Rattle.ds_rule.specs.declared.event_role.EventRole.TheVariants.{Opening, Closing, Alone}

-- what the definitions say of a latch, and of another node
pub node-low : (run : Run) (e : ℕ) → e < 2 * run.design_nodes → node_of run e ≡ e / 2
unfolding node_of
node-low run e h = ap (λ b. cond b (e / 2) (e - run.design_nodes)) (lt-ltb e (2 * run.design_nodes) h)

pub node-high : (run : Run) (e : ℕ) → 2 * run.design_nodes ≤ e → node_of run e ≡ e - run.design_nodes
unfolding node_of
node-high run e h = ap (λ b. cond b (e / 2) (e - run.design_nodes)) (le-ltb e (2 * run.design_nodes) h)

pub next-low : (run : Run) (l f : ℕ) → l < run.design_nodes → next run l f ≡ 2 * l + f % 2
unfolding next
next-low run l f h = ap (λ b. cond b (2 * l + f % 2) (l + run.design_nodes)) (lt-ltb l run.design_nodes h)

pub next-high : (run : Run) (l f : ℕ) → run.design_nodes ≤ l → next run l f ≡ l + run.design_nodes
unfolding next
next-high run l f h = ap (λ b. cond b (2 * l + f % 2) (l + run.design_nodes)) (le-ltb l run.design_nodes h)

pub turns-low : (run : Run) (e f : ℕ) → e < 2 * run.design_nodes → turns run e f ≡ (f + (1 - e % 2)) / 2
unfolding turns
turns-low run e f h = ap (λ b. cond b ((f + (1 - e % 2)) / 2) f) (lt-ltb e (2 * run.design_nodes) h)

pub turns-high : (run : Run) (e f : ℕ) → 2 * run.design_nodes ≤ e → turns run e f ≡ f
unfolding turns
turns-high run e f h = ap (λ b. cond b ((f + (1 - e % 2)) / 2) f) (le-ltb e (2 * run.design_nodes) h)

pub opened-low : (run : Run) (l f : ℕ) → l < run.design_nodes → opened run l f ≡ (f + 1) / 2
unfolding opened
opened-low run l f h = ap (λ b. cond b ((f + 1) / 2) 0) (lt-ltb l run.design_nodes h)

pub opened-high : (run : Run) (l f : ℕ) → run.design_nodes ≤ l → opened run l f ≡ 0
unfolding opened
opened-high run l f h = ap (λ b. cond b ((f + 1) / 2) 0) (le-ltb l run.design_nodes h)

pub opens-low : (run : Run) (e : ℕ) → e < 2 * run.design_nodes → opens run e ≡ eqb (e % 2) 0
unfolding opens
opens-low run e h = ap (λ b. b && eqb (e % 2) 0) (lt-ltb e (2 * run.design_nodes) h)

pub opens-high : (run : Run) (e : ℕ) → 2 * run.design_nodes ≤ e → opens run e ≡ false
unfolding opens
opens-high run e h = ap (λ b. b && eqb (e % 2) 0) (le-ltb e (2 * run.design_nodes) h)

-- an opening is an even event of a latch
pub opens_low : (run : Run) (e : ℕ) → opens run e ≡ true → (e < 2 * run.design_nodes) × (e % 2 ≡ 0)
opens_low run e h = dite (dec_lt e (2 * run.design_nodes))
    (λ low. (
      low,
      dite (ℕ_discrete (e % 2) 0) (λ x. x)
          (λ n. absurd (false≢true (sym (opens-low run e low ∙ ne_eqb (e % 2) 0 n) ∙ h))),
    ))
    (λ high. absurd (false≢true (sym (opens-high run e (omega arith)) ∙ h)))

pub opens_not : (run : Run) (e : ℕ) → opens run e ≡ false → e < 2 * run.design_nodes → e % 2 ≡ 1
opens_not run e h low = dite (ℕ_discrete (e % 2) 0)
    (λ x. absurd (false≢true (sym h ∙ (opens-low run e low ∙ eq-eqb (e % 2) 0 x))))
    (λ n. omega arith)

-- the next event of a node is an event of the node
pub node-next : (run : Run) (l f : ℕ) → node_of run (next run l f) ≡ l
node-next run l f = dite (dec_lt l run.design_nodes)
    (λ low. let n = next-low run l f low in node-low run (next run l f) (omega arith) ∙ omega arith)
    (λ high. let n = next-high run l f (omega arith) in
    node-high run (next run l f) (omega arith) ∙ omega arith)

-- the event that fires is counted once more
pub turns-next : (run : Run) (l f : ℕ) → turns run (next run l f) (f + 1) ≡ turns run
    (next run l f) f + 1
turns-next run l f = dite (dec_lt l run.design_nodes)
    (λ low. let n = next-low run l f low in
    omega (
      arith,
      turns-low run (next run l f) f (omega arith),
      turns-low run (next run l f) (f + 1) (omega arith),
    ))
    (λ high. let n = next-high run l f (omega arith) in
    omega (
      arith,
      turns-high run (next run l f) f (omega arith),
      turns-high run (next run l f) (f + 1) (omega arith),
    ))

-- the other events of the node are not
pub turns-other : (run : Run) (e l f : ℕ) → node_of run e ≡ l → e ≢ next run l f
    → turns run e (f + 1) ≡ turns run e f
turns-other run e l f here other = dite (dec_lt e (2 * run.design_nodes))
    (λ low. let h = node-low run e low in let n = next-low run l f (omega arith) in
    omega (arith, turns-low run e f low, turns-low run e (f + 1) low))
    (λ high. let h = node-high run e (omega arith) in let n = next-high run l f (omega arith) in
    absurd (other (omega arith)))

pub turns_up : (run : Run) (e f g : ℕ) → f ≤ g → turns run e f ≤ turns run e g
turns_up run e f g h = dite (dec_lt e (2 * run.design_nodes))
    (λ low. omega (arith, turns-low run e f low, turns-low run e g low))
    (λ high. omega (arith, turns-high run e f (omega arith), turns-high run e g (omega arith)))

pub turns-none : (run : Run) (e : ℕ) → turns run e 0 ≡ 0
turns-none run e = dite (dec_lt e (2 * run.design_nodes))
    (λ low. omega (arith, turns-low run e 0 low))
    (λ high. omega (arith, turns-high run e 0 (omega arith)))

-- the counts of its events tell the firings of a node
pub turns_apart : (run : Run) (l f g : ℕ)
    → ((e : ℕ) → node_of run e ≡ l → turns run e f ≡ turns run e g) → f ≡ g
turns_apart run l f g same = dite (dec_lt l run.design_nodes)
    (λ low. let a : 2 * l < 2 * run.design_nodes = omega arith in
    let b : 2 * l + 1 < 2 * run.design_nodes = omega arith in
    let p = same (2 * l) (node-low run (2 * l) a ∙ omega arith) in
    let q = same (2 * l + 1) (node-low run (2 * l + 1) b ∙ omega arith) in
    omega (
      arith,
      p,
      q,
      turns-low run (2 * l) f a,
      turns-low run (2 * l) g a,
      turns-low run (2 * l + 1) f b,
      turns-low run (2 * l + 1) g b,
    ))
    (λ high. let a : 2 * run.design_nodes ≤ l + run.design_nodes = omega arith in
    let p = same (l + run.design_nodes) (node-high run (l + run.design_nodes) a ∙ omega arith) in
    omega (arith, p, turns-high run (l + run.design_nodes) f a, turns-high run (l + run.design_nodes) g a))

-- while its next event is below the limit, a node has fired less than twice the limit
pub fired_most : (run : Run) (l f limit : ℕ) → turns run (next run l f) f < limit
    → f + 1 ≤ 2 * limit
fired_most run l f limit h = dite (dec_lt l run.design_nodes)
    (λ low. let n = next-low run l f low in omega (
      arith,
      h,
      turns-low run (next run l f) f (omega arith),
    ))
    (λ high. let n = next-high run l f (omega arith) in
    omega (arith, h, turns-high run (next run l f) f (omega arith)))

-- where its next event is at the limit, each event of the node is
pub all_fired : (run : Run) (e l f limit : ℕ) → node_of run e ≡ l
    → limit ≤ turns run (next run l f) f → limit ≤ turns run e f
all_fired run e l f limit here h = dite (dec_lt e (2 * run.design_nodes))
    (λ low. let m = node-low run e low in let n = next-low run l f (omega arith) in
    omega (arith, h, turns-low run e f low, turns-low run (next run l f) f (omega arith)))
    (λ high. let m = node-high run e (omega arith) in let n = next-high run l f (omega arith) in
    omega (
      arith,
      h,
      turns-high run e f (omega arith),
      turns-high run (next run l f) f (omega arith),
    ))

-- the numbers of the events
pub event_below : (run : Run) (e : ℕ) → run.design_nodes ≤ run.nodes → node_of run e < run.nodes
    → e < events run
unfolding events
event_below run e among h = dite (dec_lt e (2 * run.design_nodes))
    (λ low. omega arith) (λ high. omega (arith, node-high run e (omega arith)))

pub node_below : (run : Run) (e : ℕ) → run.design_nodes ≤ run.nodes → e < events run
    → node_of run e < run.nodes
unfolding events
node_below run e among h = dite (dec_lt e (2 * run.design_nodes))
    (λ low. omega (arith, node-low run e low))
    (λ high. omega (arith, node-high run e (omega arith)))

-- openings
pub opened-opens : (run : Run) (l f : ℕ) → opens run (next run l f) ≡ true
    → opened run l (f + 1) ≡ opened run l f + 1
opened-opens run l f h = let o = opens_low run (next run l f) h in dite (dec_lt l run.design_nodes)
    (λ low. let n = next-low run l f low in omega (
      arith,
      opened-low run l f low,
      opened-low run l (f + 1) low,
    ))
    (λ high. let n = next-high run l f (omega arith) in absurd (omega arith))

pub opened-else : (run : Run) (l f : ℕ) → opens run (next run l f) ≡ false
    → opened run l (f + 1) ≡ opened run l f
opened-else run l f h = dite (dec_lt l run.design_nodes)
    (λ low. let n = next-low run l f low in let o = opens_not run (next run l f) h (omega arith) in
    omega (arith, opened-low run l f low, opened-low run l (f + 1) low))
    (λ high. omega (
      arith,
      opened-high run l f (omega arith),
      opened-high run l (f + 1) (omega arith),
    ))

pub opened-none : (run : Run) (l : ℕ) → opened run l 0 ≡ 0
opened-none run l = dite (dec_lt l run.design_nodes)
    (λ low. omega (arith, opened-low run l 0 low)) (λ high. opened-high run l 0 (omega arith))

pub next-opens : (run : Run) (l f : ℕ) → opens run (next run l f) ≡ true → next run l f ≡ opening l
unfolding opening
next-opens run l f h = let o = opens_low run (next run l f) h in dite (dec_lt l run.design_nodes)
    (λ low. let n = next-low run l f low in omega arith)
    (λ high. let n = next-high run l f (omega arith) in absurd (omega arith))

pub node-opening : (run : Run) (l : ℕ) → l < run.design_nodes → node_of run (opening l) ≡ l
unfolding opening
node-opening run l h = node-low run (2 * l) (omega arith) ∙ omega arith

pub node-closing : (run : Run) (l : ℕ) → l < run.design_nodes → node_of run (closing l) ≡ l
unfolding closing
node-closing run l h = node-low run (2 * l + 1) (omega arith) ∙ omega arith

pub turns-opening : (run : Run) (l f : ℕ) → l < run.design_nodes
    → turns run (opening l) f ≡ opened run l f
unfolding opening
turns-opening run l f h = omega (arith, turns-low run (2 * l) f (omega arith), opened-low run l f h)

-- before an opening, a latch has closed as often as it opened
pub turns-closing : (run : Run) (l f : ℕ) → l < run.design_nodes → opens run (next run l f) ≡ true
    → turns run (closing l) f ≡ opened run l f
unfolding closing
turns-closing run l f h o = let p = opens_low run (next run l f) o in let n = next-low run l f h in
    omega (arith, turns-low run (2 * l + 1) f (omega arith), opened-low run l f h)

pub opening-is : (l : ℕ) → opening l ≡ 2 * l
unfolding opening
opening-is l = refl

pub closing-is : (l : ℕ) → closing l ≡ 2 * l + 1
unfolding closing
closing-is l = refl

-- the next event is an opening exactly at a latch that has fired an even number of times
pub opens_even : (run : Run) (l f : ℕ) → l < run.design_nodes → f % 2 ≡ 0
    → opens run (next run l f) ≡ true
opens_even run l f low even = let n = next-low run l f low in
    let e : next run l f % 2 ≡ 0 = omega arith in
    opens-low run (next run l f) (omega arith) ∙ eq-eqb (next run l f % 2) 0 e

pub even_opens : (run : Run) (l f : ℕ) → opens run (next run l f) ≡ true → (l < run.design_nodes)
    × (f % 2 ≡ 0)
even_opens run l f h = let o = opens_low run (next run l f) h in dite (dec_lt l run.design_nodes)
    (λ low. let n = next-low run l f low in (low, omega arith)) (λ high. let n =
    next-high run l f (omega arith) in absurd (omega arith))

pub events_of : (run : Run) (l e : ℕ) → node_of run e ≡ l → e ≢ next run l 0 → (l < run.design_nodes)
    × (e ≡ closing l)
events_of run l e here apart = dite (dec_lt e (2 * run.design_nodes))
    (λ low. let h = node-low run e low in let low-l : l < run.design_nodes = omega arith in
    let n = next-low run l 0 low-l in
    (low-l, omega (arith, closing-is l)))
    (λ high. let h = node-high run e (omega arith) in
    absurd (apart (sym (next-high run l 0 (omega arith) ∙ omega arith))))

pub events-is : (run : Run) → events run ≡ run.nodes + run.design_nodes
unfolding events
events-is run = refl

-- the events of a latch, and of another node, as data
pub opening_event : (run : Run) (l e : ℕ) → l < run.design_nodes → e ≡ 2 * l
    → IsNodeEvent run (record { node = l; role = Opening }) e
opening_event run l e near is = let low : e < 2 * run.design_nodes = omega arith in record {
  number_is = is;
  node_is = omega (arith, node-low run e low);
  turns_is = λ f. omega (arith, turns-low run e f low);
  opens_is = opens-low run e low ∙ eq-eqb (e % 2) 0 (omega arith);
}

pub closing_event : (run : Run) (l e : ℕ) → l < run.design_nodes → e ≡ 2 * l + 1
    → IsNodeEvent run (record { node = l; role = Closing }) e
closing_event run l e near is = let low : e < 2 * run.design_nodes = omega arith in record {
  number_is = is;
  node_is = omega (arith, node-low run e low);
  turns_is = λ f. omega (arith, turns-low run e f low);
  opens_is = opens-low run e low ∙ ne_eqb (e % 2) 0 (omega arith);
}

pub alone_event : (run : Run) (l e : ℕ) → run.design_nodes ≤ l → e ≡ l + run.design_nodes
    → IsNodeEvent run (record { node = l; role = Alone }) e
alone_event run l e near is = let high : 2 * run.design_nodes ≤ e = omega arith in record {
  number_is = is;
  node_is = omega (arith, node-high run e high);
  turns_is = λ f. sym (turns-high run e f high);
  opens_is = opens-high run e high;
}
