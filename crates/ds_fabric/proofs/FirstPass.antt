-- The histories of a pass before anything has fired: where the words of each node begin.
use Rattle.std.proofs.Common.{◌≡◌, inl, inr, ℕ, zero, suc, ◌+◌, ◌*◌, ◌<◌, ◌≤◌, List, []}
use Rattle.std.proofs.Common.{length, sym, refl, ap, ◌∙◌, subst, arith, cond, true, false, vec_capacity}
use Rattle.std.proofs.lemmas.List.{get_or-replicate, length-replicate}
use mathlib.Core.Logic.{dite}
use mathlib.Core.Option.{some}
use native.Mathlib.Decide.{ℕ_discrete, dec_lt}
use lib.ListN.{get_elem?}
use Rattle.ds_rule.specs.Run.{Run, events, node_of, turns}
use Rattle.ds_rule.specs.Sound.{IsSound}
use Rattle.ds_rule.specs.Words.{width, place}
use Rattle.ds_rule.specs.Rule.{holds, tickets, seen, first_view}
use Rattle.ds_rule.specs.Plays.{Sat}
use Rattle.ds_rule.specs.declared.view.View.{View}
use Rattle.ds_rule.proofs.EventLaws.{turns-none}
use Rattle.ds_rule.proofs.GetElemLemmas.{at_below, there_is, replicate-default, held_inside}
use Rattle.ds_rule.proofs.PlaceLaws.{start-words, start_inside}
use Rattle.ds_fabric.specs.Begun.{AreUnfired, first_word_of}
use Rattle.ds_fabric.specs.HistoryList.{StandByTurn, stride_of, turns_told, list_of_words, list_room}
use Rattle.ds_fabric.specs.Showing.{IsBlank, AreSideBySide, Keeps}
use Rattle.ds_fabric.specs.declared.history.History.{History}
use Rattle.ds_fabric.specs.declared.histories.Histories.{Histories}
use Rattle.ds_fabric.proofs.HistoryLayout.{stride-low, stride-high}

-- the words of the nodes before one are no more than those of the table and two a node
first_few : (run : Run) (n : ℕ) → IsSound run → n ≤ run.nodes
    → first_word_of run n ≤ place run n 0 0 + 2 * n
first_few run zero sound h = omega arith
first_few run (suc n) sound h = let e : n + 1 ≡ suc n = omega arith in
    let wide : stride_of run n ≤ width run n + 2 = dite (dec_lt n run.design_nodes)
    (λ low. omega (arith, stride-low run n low))
    (λ high. omega (arith, stride-high run n (omega arith))) in
    omega (
      arith,
      first_few run n sound (omega arith),
      wide,
      start-words run n (omega (arith, sound.rows_of_all)),
      ap (λ (x : ℕ). place run x 0 0) e,
    )

pub first_small : (run : Run) (n : ℕ) → IsSound run → n ≤ run.nodes
    → first_word_of run n < 18446744073709551616
first_small run n sound h = omega (
  arith,
  first_few run n sound h,
  start_inside run n h,
  sound.sized,
  sound.few,
)

pub first_next : (run : Run) (n : ℕ) → first_word_of run (n + 1) ≡ first_word_of run n + stride_of run n
first_next run n = let e : n + 1 ≡ suc n = omega arith in ap (first_word_of run) e

-- the words of a node end before those of a later one begin
pub first_up : (run : Run) (l m : ℕ) → l < m → first_word_of run l + stride_of run l ≤ first_word_of run m
first_up run l zero h = absurd (omega arith)
first_up run l (suc m) h = dite (ℕ_discrete l m)
    (λ e. omega (arith, ap (λ (x : ℕ). first_word_of run x + stride_of run x) e))
    (λ n. omega (arith, first_up run l m (omega arith)))

-- the histories of the first n nodes, each at its place
pub record AreLaidOut (run : Run) (n step : ℕ) (items : List History) : Type 0 where
  pub long : length items ≡ n
  pub each : (i : ℕ) (h : History) → get_elem? items i ≡ some h
      → IsBlank run i step h × (h.first ≡ first_word_of run i)

pub side_by_side : (run : Run) (n step : ℕ) (items : List History) → AreLaidOut run n step items
    → AreSideBySide items
side_by_side run n step items o i j g h at at' apart = let a = o.each i g at in
    let b = o.each j h at' in (
      a.0.step_is ∙ sym b.0.step_is,
      dite (dec_lt i j)
          (λ y. inl (omega (arith, first_up run i j y, a.1, a.0.stride, b.1)))
          (λ no. inr (omega (arith, first_up run j i (omega arith), b.1, b.0.stride, a.1))),
    )

-- the first pass: all nodes, with no firing
pub first_keeps : (run : Run) (me : Sat) (s : Histories) → IsSound run
    → me ≡ (first_view run, []) → AreUnfired run s → Keeps me s
first_keeps run me s sound is begun =
    let v : View = first_view run in let blank = begun.blank in
    let none : (e : ℕ) → tickets v e ≡ [] = λ e. replicate-default (events run) e [] in
    let zero-seen : (l : ℕ) → seen v l ≡ 0 = λ l. replicate-default {A = ℕ} run.nodes l 0 in
    let inside : (l : ℕ) → holds v l ≡ true → l < run.nodes = λ l h. held_inside run.nodes l h in
    let room : (h : History) → list_room s h ≡ vec_capacity s.together =
    λ h. ap (λ b. cond b (vec_capacity h.own)
    (vec_capacity s.together)) begun.apart in
    let P : Sat → Type 0 = λ m. Keeps m s in
    subst P (sym is) (record {
      no_slot = refl;
      live = refl;
      idle = refl;
      held_long = length-replicate run.nodes true;
      tickets_long = length-replicate (events run) [];
      seen_long = length-replicate run.nodes 0;
      among = sound.among;
      counts = λ e h. ap (turns run e) (zero-seen (node_of run e))
          ∙ (turns-none run e ∙ ap length (sym (none e)));
      listed = λ i h at. let b = blank.each i h at in
          let told : turns_told run (tickets v) h.node (seen v h.node) ≡ [] =
          ap (turns_told run (tickets v) h.node) (zero-seen h.node) in record {
            has = subst (λ (y : ℕ). holds v y ≡ true) (sym b.node)
                (get_or-replicate run.nodes i true false (omega (
                  arith,
                  at_below s.nodes.items i h at,
                  blank.long,
                )));
            fired = b.fired ∙ sym (zero-seen h.node);
            stride = b.stride ∙ ap (stride_of run) (sym b.node);
            turns = subst (StandByTurn (list_of_words s h) h.first h.stride h.step) (sym told) (record {
              inside = omega (arith, b.inside, b.step_is);
              whole = λ k below. absurd (omega arith);
              same = λ k o low below. absurd (omega arith);
            });
            fits = omega (
              arith,
              begun.room,
              room h,
              ap (λ (x : ℕ). run.limit * x) b.step_is,
            );
          };
      found = λ l h. let f = there_is s.nodes.items l (omega (arith, inside l h, blank.long)) in
          (l, f.0, f.1, (blank.each l f.0 f.1).node);
      distinct = λ i j h k p q same. sym (blank.each i h p).node ∙ (same ∙ (blank.each j k q).node);
      beside = λ _. blank.beside;
      all = λ _ l near. get_or-replicate run.nodes l true false near;
    })
