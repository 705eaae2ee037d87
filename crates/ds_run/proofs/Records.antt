-- What a record of firings has, whether its run went to its end or not.
use Rattle.std.proofs.Common.{◌≡◌, ◌∙◌, ℕ, ◌+◌, ◌*◌, ◌<◌, ◌≤◌, List, length, inl, inr, length-append, refl, ap, sym, subst, arith}
use Rattle.std.proofs.lemmas.Bool.{cases_lt}
use mathlib.Core.Option.{some}
use lib.ListN.{get_elem?}
use Rattle.ds_base.specs.Values.{Row}
use Rattle.ds_latch.specs.Node.{IsNode, number_of, nodes}
use Rattle.ds_latch.specs.declared.node.Node.{Node}
use Rattle.ds_latch.specs.Plan.{Planned, split_events}
use Rattle.ds_latch.proofs.OrderTokens.{number_below}
use Rattle.ds_latch.proofs.OrdersRise.{events_long}
use Rattle.ds_rule.specs.Run.{Run, node_of}
use Rattle.ds_rule.specs.Log.{InTurn, firings, tickets_in_log, count_in_log}
use Rattle.ds_rule.specs.Rule.{tickets}
use Rattle.ds_rule.proofs.GetElemLemmas.{at_below}
use Rattle.ds_rule.proofs.LogCounts.{ticket_of_some, length-firings, length-tickets_in_log, node_inside, ticket_below}
use Rattle.ds_fabric.specs.Showing.{IsFiredInOrder, Recorder}
use Rattle.ds_run.specs.Finished.{IsFinished, IsRecordOf}

-- the record of a run that went to its end is one
pub record_played : (p : Planned) (vectors : List Row) (r : Recorder) → IsFinished p vectors r
    → IsRecordOf p vectors r
record_played p vectors r finished_run = record {
  accepted = finished_run.accepted;
  planned = finished_run.planned;
  recorded = finished_run.whole.recorded;
}

-- the firings of its list are those of its tickets
pub record_fired : (p : Planned) (vectors : List Row) (r : Recorder) → IsRecordOf p vectors r
    → (events : List ℕ) × IsFiredInOrder r.shown.view.run (tickets r.shown.view) events
record_fired p vectors r is = (
  firings is.recorded.log,
  record {
    recorded = record {
      log = is.recorded.log;
      long = length-firings is.recorded.log;
      legal = is.recorded.legal;
      in_turn = is.recorded.in_turn;
      all = is.recorded.all;
    };
    is = refl;
  },
)

-- no node that opens and closes is behind the last
pub record_among : (p : Planned) (vectors : List Row) (r : Recorder) → IsRecordOf p vectors r
    → r.shown.view.run.design_nodes ≤ r.shown.view.run.nodes
record_among p vectors r is =
    let long : length (split_events p.split) ≡ 2 * nodes p.split = events_long p.split in
    let all : length p.graph.events ≡ length (split_events p.split) + length is.accepted.extra =
    ap length is.accepted.events ∙ length-append (split_events p.split) is.accepted.extra in
    omega (arith, is.planned.nodes_are, is.planned.latches_are)

pub record_near : (p : Planned) (vectors : List Row) (r : Recorder) → IsRecordOf p vectors r
    → (n : Node) → IsNode p.split n → number_of n < r.shown.view.run.design_nodes
record_near p vectors r is n is_node =
    subst (λ (m : ℕ). number_of n < m) (sym is.planned.latches_are)
    (number_below p.split n is_node)

-- no log is longer than another with the same tickets
no_longer : (run : Run) (xs ys : List ℕ) → InTurn run xs
    → ((e : ℕ) → node_of run e < run.nodes → tickets_in_log e xs ≡ tickets_in_log e ys) → length xs ≤ length ys
no_longer run xs ys turn same =
    elim (cases_lt (length ys) (length xs)) [
      | inl more ↦
          (let (e, k, at) = ticket_of_some xs (length ys) more in
          let inside : k < length (tickets_in_log e xs) = at_below (tickets_in_log e xs) k (length ys) at in
          let there : 0 < count_in_log e xs = omega (arith, inside, length-tickets_in_log e xs) in
          let near : node_of run e < run.nodes = node_inside run xs e turn there in
          let other : get_elem? (tickets_in_log e ys) k ≡ some (length ys)
          = subst (λ (ts : List ℕ). get_elem? ts k ≡ some (length ys)) (same e near) at in
          absurd (omega (arith, ticket_below e ys k (length ys) other)))
      | inr few ↦ few
    ]

-- logs with the same tickets are of one length
pub same_long : (run : Run) (xs ys : List ℕ) → InTurn run xs → InTurn run ys
    → ((e : ℕ) → node_of run e < run.nodes → tickets_in_log e xs ≡ tickets_in_log e ys) → length xs ≡ length ys
same_long run xs ys one two same = omega (
  arith,
  no_longer run xs ys one same,
  no_longer run ys xs two (λ e near. sym (same e near)),
)
