-- The record of a run that went to its end, or stopped before it.
use Rattle.std.proofs.Common.{◌≡◌, ℕ, ◌+◌, ◌-◌, ◌*◌, ◌<◌, ◌≤◌, List, Bool, length, sym, ap, ◌∙◌, subst, arith, true, false, get_or, Option, None, Some}
use Rattle.std.proofs.Common.{mul_left_comm, mul-le-mul_right, one-mul}
use mathlib.Core.Logic.{dite}
use native.Mathlib.Decide.{dec_lt}
use Rattle.ds_rule.specs.Run.{Run, events, node_of, turns, count}
use Rattle.ds_rule.specs.Sound.{IsSound}
use Rattle.ds_rule.specs.Log.{IsLegalList, InTurn, Recorded}
use Rattle.ds_rule.specs.Rule.{holds, seen, tickets}
use Rattle.ds_rule.specs.declared.view.View.{View}
use Rattle.ds_rule.proofs.EventLaws.{node_below}
use Rattle.ds_rule.proofs.LogCounts.{length-tickets_in_log, log_most}
use Rattle.ds_fabric.specs.Base.{Base}
use Rattle.ds_fabric.specs.Showing.{Belongs, Recorder, Showing, IsCounted}
use Rattle.ds_runner.specs.Work.{HasFrom, IsRest, Moved, quota_of, all_tickets, tickets_below}
use Rattle.ds_runner.specs.Whole.{IsWhole}
use Rattle.ds_runner.specs.Stopped.{IsStopped, IsRunRecord, all_firings}
use Rattle.ds_runner.proofs.FiniteSums.{sum_all}
use Rattle.ds_runner.proofs.TicketCounts.{tickets-many, times_most, length_most}

pub whole : (run : Run) (v : View) (r : Recorder) → r.shown.view ≡ v → v.run ≡ run → Recorded run (tickets v) r.many
    → IsCounted v → ((l : ℕ) → l < run.nodes → holds v l ≡ true)
    → ((e : ℕ) → node_of run e < run.nodes → run.limit ≤ count run (seen v) e) → IsWhole run r
whole run v r shown run-is recorded counted all done = record {
  run_is = ap (λ (x : View). x.run) shown ∙ run-is;
  recorded = subst (λ (x : View). Recorded run (tickets x) r.many) (sym shown) recorded;
  all = λ e near. subst (λ (x : View). length (tickets x e) ≡ run.limit) (sym shown) (
      let own : turns run e (seen v (node_of run e)) ≡ length (tickets v e) =
      subst (λ (x : Run). holds v (node_of x e) ≡ true → turns x e (seen v (node_of x e)) ≡ length (tickets v e))
      run-is (counted e) (all (node_of run e) near) in
      omega (
        arith,
        own,
        done e near,
        ap length (recorded.all e near),
        length-tickets_in_log e recorded.log,
        times_most run e recorded.log recorded.legal,
      ));
}

-- the firings of a whole run
whole-many : (run : Run) (r : Recorder) → run.design_nodes ≤ run.nodes → IsWhole run r → all_firings run ≡ r.many
whole-many run r among w = let v : View = r.shown.view in
    sym (sum_all (λ e. length (tickets v e)) (events run) run.limit (λ e near. w.all e (node_below run e among near)))
    ∙ (ap (λ (x : Run). tickets_below v (events x)) (sym w.run_is) ∙ tickets-many run v r.many among w.run_is w.recorded)

-- a legal log is shorter than the count of a run without a quota
not_full : (run : Run) (log : List ℕ) → IsSound run → IsLegalList run log → InTurn run log
    → length log < 18446744073709551615
not_full run log sound legal turns = omega (
  arith,
  log_most run log legal turns,
  sound.narrow,
  mul_left_comm run.nodes 2 run.limit,
)

-- how often so many workers have fired together
pub collected : (before many jobs most quota : ℕ) → before ≤ many * most → many ≤ jobs → most ≡ quota → before ≤ jobs * quota
collected before many jobs most quota low few is = omega (
  arith,
  low,
  mul-le-mul_right most few,
  ap (λ (m : ℕ). jobs * m) is,
)

-- with a quota: the workers have fired so often, and the caller has fired the rest, or all that is left
stopped : (quota jobs : ℕ) (run : Run) (r : Recorder) (before now : ℕ) → IsSound run → 0 < jobs → r.shown.view.run ≡ run
    → Recorded run (tickets r.shown.view) r.many → now ≡ r.many → before ≤ jobs * quota → now ≤ before + (quota - before)
    → (now < before + (quota - before) → IsWhole run r) → IsStopped quota jobs run r
stopped quota jobs run r before now sound some-job run-is recorded is few most done =
    let once : 1 * quota ≤ jobs * quota = mul-le-mul_right quota some-job in
    let all : r.many ≤ all_firings run =
    subst (λ (m : ℕ). m ≤ all_firings run) (sym recorded.long)
    (length_most run recorded.log sound.among recorded.legal recorded.in_turn) in record {
      run_is = run-is;
      recorded = recorded;
      least = dite (dec_lt now (before + (quota - before)))
          (λ short. omega (arith, whole-many run r sound.among (done short)))
          (λ there. omega (arith, there, is));
      most = omega (arith, once, one-mul quota, few, most, is, all);
    }

pub ended : (quota : Option ℕ) (jobs : ℕ) (run : Run) (v : View) (r : Recorder) (before rest : ℕ) → IsSound run → 0 < jobs
    → r.shown.view ≡ v → v.run ≡ run → Recorded run (tickets v) r.many → before ≤ jobs * quota_of quota
    → IsRest quota before rest → all_tickets v ≤ before + rest → (all_tickets v < before + rest → IsWhole run r)
    → IsRunRecord quota jobs run r
ended None jobs run v r before rest sound some-job shown run-is recorded few is most done = done (omega (
  arith,
  is,
  tickets-many run v r.many sound.among run-is recorded,
  recorded.long,
  not_full run recorded.log sound recorded.legal recorded.in_turn,
))
ended (Some quota) jobs run v r before rest sound some-job shown run-is recorded few is most done =
    stopped quota jobs run r before (all_tickets v) sound some-job (ap (λ (x : View). x.run) shown ∙ run-is)
    (subst (λ (x : View). Recorded run (tickets x) r.many) (sym shown) recorded)
    (tickets-many run v r.many sound.among run-is recorded) few
    (subst (λ (n : ℕ). all_tickets v ≤ before + n) is most)
    (subst (λ (n : ℕ). all_tickets v < before + n → IsWhole run r) is done)

-- after steps a pass holds what it held
pub still_holds : (b : Base) (p q : Showing) → Belongs b p → HasFrom p.view 0 → Moved b.memory p q
    → (l : ℕ) → l < b.run.nodes → holds q.view l ≡ true
still_holds b p q fits has moved l near = ap (λ (hs : List Bool). get_or hs l false) moved.holds_same
    ∙ has l (omega arith) (omega (arith, near, ap (λ (r : Run). r.nodes) fits.run))

-- the record of a pass that the caller went on with
pub finished : (quota : Option ℕ) (jobs : ℕ) (b : Base) (p q : Showing) (r : Recorder) (rest : ℕ) → IsSound b.run → 0 < jobs
    → Belongs b p → HasFrom p.view 0 → all_tickets p.view ≤ jobs * quota_of quota → IsRest quota (all_tickets p.view) rest
    → Moved b.memory p q → all_tickets q.view ≤ all_tickets p.view + rest
    → (all_tickets q.view < all_tickets p.view + rest → (e : ℕ) → node_of b.run e < b.run.nodes
    → b.run.limit ≤ count b.run (seen q.view) e)
    → r.shown ≡ q → Recorded b.run (tickets q.view) r.many → IsCounted q.view → IsRunRecord quota jobs b.run r
finished quota jobs b p q r rest sound some-job fits has few is moved most done shown recorded counted =
    let view : r.shown.view ≡ q.view = ap (λ (x : Showing). x.view) shown in
    let same : q.view.run ≡ b.run = moved.run ∙ fits.run in
    ended quota jobs b.run q.view r (all_tickets p.view) rest sound some-job view same recorded few is most
    (λ short. whole b.run q.view r view same recorded counted (still_holds b p q fits has moved) (done short))
