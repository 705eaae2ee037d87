-- How many tickets passes have, and how many firings a log.
use Rattle.std.proofs.Common.{◌≡◌, ℕ, ◌+◌, ◌*◌, ◌<◌, ◌≤◌, true, List, [], ◌∷◌, length, get_or, ap}
use Rattle.std.proofs.Common.{sym, refl, ◌∙◌, subst, arith, length-append}
use mathlib.Core.Logic.{dite}
use native.Mathlib.Decide.{ℕ_discrete}
use Rattle.ds_rule.specs.Run.{Run, events, node_of, turns}
use Rattle.ds_rule.specs.Sound.{IsSound}
use Rattle.ds_rule.specs.Log.{count_in_log, IsLegalList, InTurn, Recorded}
use Rattle.ds_rule.specs.Rule.{holds, tickets, seen, first_view}
use Rattle.ds_rule.specs.declared.view.View.{View}
use Rattle.ds_rule.proofs.EventLaws.{node-next, event_below, node_below}
use Rattle.ds_rule.proofs.GetElemLemmas.{replicate-default}
use Rattle.ds_rule.proofs.LogCounts.{count_in_log-here, count_in_log-else, length-tickets_in_log}
use Rattle.ds_fabric.specs.Showing.{IsCounted}
use Rattle.ds_fabric.specs.Stepped.{Stepped}
use Rattle.ds_fabric.specs.declared.step.Step.{Step}
use Rattle.ds_fabric.specs.declared.step.Step.TheVariants.{Fired, NotYet, Done}
use Rattle.ds_runner.specs.TurnstileRule.{sum_below}
use Rattle.ds_runner.proofs.TurnstileRuleLemmas.{sum_same}
use Rattle.ds_runner.specs.Work.{tickets_below, all_tickets}
use Rattle.ds_runner.proofs.FiniteSums.{sum_none, sum_up, sum_most}

-- before anything fired there are none
pub blank_first : (run : Run) → all_tickets (first_view run) ≡ 0
blank_first run = sum_none (λ e. length (tickets (first_view run) e)) (events run)
    (λ e near. ap length (replicate-default (events run) e []))

-- how often something fires in a step
abbrev pub fires_in : Step → ℕ
fires_in (Fired event turn ticket) = 1
fires_in (NotYet arc n) = 0
fires_in Done = 0

same_tickets : (v w : View) → w.tickets ≡ v.tickets → w.run ≡ v.run → all_tickets w ≡ all_tickets v
same_tickets v w same run-is =
    ap (λ (ts : List (List ℕ)). sum_below (λ e. length (get_or ts e [])) (events w.run)) same
    ∙ ap (λ (x : Run). tickets_below v (events x)) run-is

pub tickets-step : (run : Run) (v : View) (l : ℕ) (r : Step) (w : View) → IsSound run → v.run ≡ run → l < run.nodes
    → Stepped run v l r w → all_tickets w ≡ all_tickets v + fires_in r
tickets-step run v l (Fired event turn ticket) w sound run-is near s =
    let here : node_of run event ≡ l = ap (node_of run) s.event_is ∙ node-next run l (seen v l) in
    let low : event < events run = event_below run event sound.among (omega (arith, here)) in
    ap (λ (x : Run). tickets_below w (events x)) s.run_same
    ∙ sum_up (λ e. length (tickets w e)) (λ e. length (tickets v e)) (events v.run) event
    (λ e apart. ap length (s.others e apart))
    (omega (arith, ap length s.one_more, length-append (tickets v event) (ticket ∷ [])))
    (omega (arith, low, ap events run-is))
tickets-step run v l (NotYet arc n) w sound run-is near s = omega (arith, same_tickets v w s.0.tickets_same s.0.run)
tickets-step run v l Done w sound run-is near s = omega (arith, ap all_tickets s.0)

-- a log is as long as its events stand in it
sum-count_in_log : (run : Run) (xs : List ℕ) → run.design_nodes ≤ run.nodes → InTurn run xs
    → sum_below (λ e. count_in_log e xs) (events run) ≡ length xs
sum-count_in_log run [] among h = sum_none (λ e. count_in_log e []) (events run) (λ e near. refl)
sum-count_in_log run (x ∷ xs) among h = sum_up (λ e. count_in_log e (x ∷ xs)) (λ e. count_in_log e xs) (events run) x
    (λ e apart. count_in_log-else e x xs (λ t. apart (sym t))) (count_in_log-here x x xs refl)
    (event_below run x among h.1)
    ∙ omega (arith, sum-count_in_log run xs among h.0)

-- no event stands in a legal log more often than it may fire
pub times_most : (run : Run) (e : ℕ) (log : List ℕ) → IsLegalList run log → count_in_log e log ≤ run.limit
times_most run e [] legal = omega arith
times_most run e (x ∷ xs) legal = dite (ℕ_discrete x e)
    (λ here. omega (arith, count_in_log-here e x xs here, legal.1.below, ap (λ v. count_in_log v xs) here))
    (λ away. omega (arith, count_in_log-else e x xs away, times_most run e xs legal.0))

-- a legal log has at most the firings of all events
pub length_most : (run : Run) (log : List ℕ) → run.design_nodes ≤ run.nodes → IsLegalList run log → InTurn run log
    → length log ≤ events run * run.limit
length_most run log among legal turns = omega (
  arith,
  sum-count_in_log run log among turns,
  sum_most (λ e. count_in_log e log) (events run) run.limit (λ e near. times_most run e log legal),
)

-- where the tickets are the places of a log of so many firings, there are as many
pub tickets-many : (run : Run) (v : View) (many : ℕ) → run.design_nodes ≤ run.nodes → v.run ≡ run → Recorded run (tickets v) many
    → all_tickets v ≡ many
tickets-many run v many among run-is recorded = let log : List ℕ = recorded.log in
    ap (λ (x : Run). tickets_below v (events x)) run-is
    ∙ (sum_same (λ e. length (tickets v e)) (λ e. count_in_log e log) (events run)
    (λ e near. ap length (recorded.all e (node_below run e among near)) ∙ length-tickets_in_log e log)
    ∙ (sum-count_in_log run log among recorded.in_turn ∙ sym recorded.long))

-- of an event that a pass holds there are as many tickets as firings
pub turns-tickets : (run : Run) (v : View) (e l f : ℕ) → v.run ≡ run → IsCounted v → l ≡ node_of run e → holds v l ≡ true
    → f ≡ seen v l → turns run e f ≡ length (tickets v e)
turns-tickets run v e l f run-is counted here held fired = ap (turns run e) (fired ∙ ap (seen v) here)
    ∙ subst (λ (x : Run). holds v (node_of x e) ≡ true → turns x e (seen v (node_of x e)) ≡ length (tickets v e))
    run-is (counted e) (subst (λ (m : ℕ). holds v m ≡ true) here held)
