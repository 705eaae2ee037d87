-- Until every event has fired as often as it may, the next event of some node is enabled.
use Rattle.std.proofs.Common.{◌≡◌, ℕ, zero, suc, ◌+◌, ◌-◌, ◌*◌, ◌/◌, ◌%◌, ◌<◌, ◌≤◌, List, [], ◌∷◌, All}
use Rattle.std.proofs.Common.{get_or, sym, ap, ◌∙◌, subst, arith, inl, inr}
use Rattle.std.proofs.lemmas.Bool.{cases_eq, cases_lt}
use mathlib.Core.Logic.{dite}
use native.Mathlib.Decide.{ℕ_discrete, dec_lt}
use Rattle.ds_marked.specs.Graph.{Graph, Agrees, IsEnabled, IsLegalFrom, counted, counts_after}
use Rattle.ds_marked.proofs.CountLemmas.{agrees_kept, counted-same, counted-other}
use Rattle.ds_marked.proofs.Progress.{reachability}
use Rattle.ds_rule.specs.Run.{Run, graph, node_of, next, turns, opening, closing, count, IsEnabledInRun}
use Rattle.ds_rule.specs.Sound.{IsSound}
use Rattle.ds_rule.specs.Progress.{IsRunAccepted, Stuck}
use Rattle.ds_rule.proofs.EventLaws.{node-low, node-high, next-low, next-high, turns-low}
use Rattle.ds_rule.proofs.EventLaws.{opening-is, closing-is, node-opening, node-closing}
use Rattle.ds_rule.proofs.GraphLaws.{event_there, node_there}

-- the first firing of a legal list that these counts do not have, and the counts before it
record Missing (g : Graph) (limit : ℕ) (count : ℕ → ℕ) : Type 0 where
  event : ℕ
  before : ℕ → ℕ
  agrees : All (Agrees before) g.arcs
  enabled : IsEnabled g limit before event
  most : (e : ℕ) → before e ≤ count e
  last : count event ≤ before event

missing : (g : Graph) (limit : ℕ) (count now : ℕ → ℕ) (events : List ℕ)
    → IsLegalFrom g limit now events → All (Agrees now) g.arcs → ((e : ℕ) → now e ≤ count e)
    → (e : ℕ) → count e < counts_after now events e → Missing g limit count
missing g limit count now [] legal agrees most e less = absurd (omega (arith, most e))
missing g limit count now (v ∷ events) (on, legal) agrees most e less =
    elim (cases_lt (now v) (count v)) [
      | inl low ↦ missing g limit count (counted v now) events legal
          (agrees_kept g limit now v on agrees)
          (λ u. elim (cases_eq u v) [
            | inl here ↦ omega (arith, counted-same v u now here, ap now here, ap count here)
            | inr far ↦ omega (arith, counted-other v u now far, most u)
          ])
          e less
      | inr high ↦ record {
        event = v;
        before = now;
        agrees = agrees;
        enabled = on;
        most = most;
        last = high;
      }
    ]

-- an event is the next of its node where the node closed no less often, and if it is the closing
-- opened once more
own_turn : (run : Run) (fired : ℕ → ℕ) (e : ℕ)
    → (node_of run e < run.design_nodes → count run fired e ≤ count run fired (closing (node_of run e)))
    → (node_of run e < run.design_nodes → e ≡ closing (node_of run e)
    → count run fired e + 1 ≤ count run fired (opening (node_of run e)))
    → e ≡ next run (node_of run e) (fired (node_of run e))
own_turn run fired e closed opened = let l : ℕ = node_of run e in let f : ℕ = fired l in
    dite (dec_lt e (2 * run.design_nodes))
    (λ low. let h = node-low run e low in let low-l : l < run.design_nodes = omega arith in
    let n = next-low run l f low-l in
    let had-o : count run fired (opening l) ≡ turns run (opening l) f =
    ap (λ (x : ℕ). turns run (opening l) (fired x)) (node-opening run l low-l) in
    let had-c : count run fired (closing l) ≡ turns run (closing l) f =
    ap (λ (x : ℕ). turns run (closing l) (fired x)) (node-closing run l low-l) in
    let turns-o = turns-low run (opening l) f (omega (arith, opening-is l)) in
    let turns-c = turns-low run (closing l) f (omega (arith, closing-is l)) in
    let turns-e = turns-low run e f low in
    dite (ℕ_discrete (e % 2) 0)
    (λ even. omega (arith, closed low-l, closing-is l))
    (λ odd. omega (
      arith,
      opened low-l (omega (arith, closing-is l)),
      opening-is l,
    )))
    (λ high. let h = node-high run e (omega arith) in
    omega (arith, next-high run l f (omega arith)))

-- what is enabled and the next event of its node
next_enabled : (run : Run) (fired : ℕ → ℕ) (v : ℕ) → node_of run v < run.nodes
    → v ≡ next run (node_of run v) (fired (node_of run v)) → IsEnabledInRun run fired v
    → (l : ℕ) × (l < run.nodes) × IsEnabledInRun run fired (next run l (fired l))
next_enabled run fired v near is on = (node_of run v, near, subst (IsEnabledInRun run fired) is on)

-- where each event has fired m times, and one of them no more, the next event of some node is
-- enabled: the first one of a legal list of m + 1 turns that has not fired
some_enabled : (run : Run) → IsSound run → IsRunAccepted run → (fired : ℕ → ℕ) (m : ℕ)
    → m < run.limit → ((e : ℕ) → node_of run e < run.nodes → m ≤ count run fired e) → (e : ℕ)
    → node_of run e < run.nodes → count run fired e ≤ m
    → (l : ℕ) × (l < run.nodes) × IsEnabledInRun run fired (next run l (fired l))
some_enabled run sound ok fired m below all e near least =
    let g : Graph = graph run in let counts : ℕ → ℕ = count run fired in
    let (events, legal, full) = reachability g ok.live (m + 1) (λ _. m + 1)
    (record { agrees = λ k d inside. omega arith; within = λ v inside. omega arith }) in
    let f : Missing g (m + 1) counts = missing g (m + 1) counts (λ _. 0) events legal
    (λ k d inside. omega arith) (λ v. omega arith) e
    (omega (arith, full e (event_there run e sound.among near))) in
    let v : ℕ = f.event in let l : ℕ = node_of run v in
    let near-l : l < run.nodes = node_there run v sound.among f.enabled.event in
    let is : counts v ≡ m = omega (arith, f.last, f.enabled.below, all v near-l) in
    let on : IsEnabledInRun run fired v = record {
      event = f.enabled.event;
      below = omega arith;
      ready = λ k d inside into. omega (
        arith,
        f.last,
        f.enabled.ready k d inside into,
        f.most (get_or run.arcs k d).source,
      );
    } in
    let due : v ≡ next run l (fired l) = own_turn run fired v
    (λ low. omega (arith, all (closing l) (omega (arith, node-closing run l low))))
    (λ low closes. omega (
      arith,
      ok.closes l low (counted v f.before) (agrees_kept g (m + 1) f.before v f.enabled f.agrees),
      counted-same v (closing l) f.before (sym closes),
      counted-other v (opening l) f.before
          (λ t. omega (arith, t, closes, opening-is l, closing-is l)),
      ap f.before closes,
      f.last,
      f.most (opening l),
    )) in
    next_enabled run fired v near-l due on

-- where every node is stuck, every event has fired as often as it may
counts_reach : (run : Run) → IsSound run → IsRunAccepted run → (fired : ℕ → ℕ)
    → ((l : ℕ) → l < run.nodes → Stuck run fired l) → (m : ℕ) → m ≤ run.limit
    → (e : ℕ) → node_of run e < run.nodes → m ≤ count run fired e
counts_reach run sound ok fired stuck zero h e near = omega arith
counts_reach run sound ok fired stuck (suc m) h e near =
    elim (cases_lt m (count run fired e)) [
      | inl more ↦ omega arith
      | inr least ↦
          (let (l, near-l, on) = some_enabled run sound ok fired m (omega arith)
          (counts_reach run sound ok fired stuck m (omega arith)) e near least in
          absurd (stuck l near-l on))
    ]

pub all_done : (run : Run) → IsSound run → IsRunAccepted run → (fired : ℕ → ℕ)
    → ((l : ℕ) → l < run.nodes → Stuck run fired l) → (e : ℕ) → node_of run e < run.nodes
    → run.limit ≤ count run fired e
all_done run sound ok fired stuck e near =
    counts_reach run sound ok fired stuck run.limit
    (Rattle.std.proofs.Common.le_refl run.limit) e near
