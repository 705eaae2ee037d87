-- What holds of every state that firings lead to.
use Rattle.std.proofs.Common.{◌≡◌, ◌∙◌, ℕ, zero, suc, ◌+◌, ◌-◌, ◌*◌, ◌<◌, ◌≤◌, List, [], ◌∷◌, ◌++◌, length, get_or, map, take, drop, inl, inr, refl, arith, ap, sym}
use Rattle.std.specs.Prelude.{◌↔◌}
use Rattle.std.specs.List.{flat_map, range_with_len}
use Rattle.std.proofs.Math.Nat.{suc-mul, zero-mul}
use Rattle.std.proofs.lemmas.Bool.{cases_lt}
use Rattle.std.proofs.lemmas.List.{length-map, length-append, take_at, drop_at, drop-drop}
use Rattle.std.proofs.lemmas.List.FromFn.{length-map-range_with_len, get_or-map-range_with_len}
use Rattle.ds_base.specs.Values.{Row}
use Rattle.ds_cover.specs.Cover.{value_at}
use Rattle.ds_marked.specs.Graph.{IsLegal, IsConsistent, counts_after}
use Rattle.ds_marked.proofs.Progress.{legal_is_consistent, progress}
use Rattle.ds_design.specs.Circuit.{register_nets}
use Rattle.ds_design.specs.Run.{row_at}
use Rattle.ds_design.proofs.ClockedRuns.{some_run}
use Rattle.ds_design.specs.Trace.{trace_line, trace_lines}
use Rattle.ds_latch.specs.Node.{Split, IsNode, number_of, nodes, opening, closing, place_of, members, nets_of}
use Rattle.ds_latch.specs.declared.node.Node.{Node}
use Rattle.ds_latch.specs.declared.node.Node.TheVariants.{Out, Slave}
use Rattle.ds_latch.specs.Plan.{IsController, split_events}
use Rattle.ds_latch.specs.Firing.{State, first_state, FiresAll, AreRegisters}
use Rattle.ds_latch.specs.Flow.{IsInStep}
use Rattle.ds_latch.proofs.OrderTokens.{accepted_controls, number_below}
use Rattle.ds_latch.proofs.Flow.{flow_equivalence}
use Rattle.ds_latch.proofs.OrdersRise.{events_long}
use Rattle.ds_latch.proofs.Spelt.{range_agree, stored_rows_spell_trace}
use Rattle.ds_fire.specs.Snapshot.{Snapshot, Shows, split_of, graph_of, limit_of, count_of, held_row, stored_values, stored_row, width_of}
use Rattle.ds_fire.specs.Fired.{IsReady, IsReached, IsSnapshotSound}
use Rattle.ds_fire.specs.Laws.{IsFiredToEnd, IsInRun, IsClockedRunOf, run_value}
use Rattle.ds_fire.proofs.OneFiringMore.{kept_counts}
use Rattle.ds_fire.proofs.Settles.{place_low}

flat_of_map : (f : ℕ → Row) (xs : List ℕ) → flat_map (λ (row : Row). row) (map f xs) ≡ flat_map f xs
flat_of_map f [] = refl
flat_of_map f (x ∷ xs) = ap (λ (ys : Row). f x ++ ys) (flat_of_map f xs)

-- of rows of one width, one after the other, each can be taken back
pub chunk : (rows : List Row) (w k a : ℕ) → ((j : ℕ) → j < length rows → length (get_or rows j []) ≡ w) → k < length rows → a ≡ k * w → take w (drop a (flat_map (λ (row : Row). row) rows)) ≡ get_or rows k []
chunk [] w k a widths inside at = absurd (omega arith)
chunk (r ∷ rs) w zero a widths inside at =
    ap (λ (n : ℕ). take w (drop n (r ++ flat_map (λ (row : Row). row) rs))) (at ∙ zero-mul w)
    ∙ take_at r (flat_map (λ (row : Row). row) rs) w (widths 0 (omega arith))
chunk (r ∷ rs) w (suc k) a widths inside at =
    let all : Row = flat_map (λ (row : Row). row) rs in
    let step : suc k * w ≡ k * w + w = suc-mul k w in
    let split : a ≡ w + k * w = omega arith in
    ap (λ (n : ℕ). take w (drop n (r ++ all))) split
    ∙ (ap (λ (xs : Row). take w xs) (sym (drop-drop (k * w) w (r ++ all)))
    ∙ (ap (λ (xs : Row). take w (drop (k * w) xs)) (drop_at r all w (widths 0 (omega arith)))
    ∙ chunk rs w k (k * w) (λ j low. widths (suc j) (omega arith)) (omega arith) refl))

module _ (kept : Snapshot) (sound : IsSnapshotSound kept) (events : List ℕ) (legal : IsLegal (graph_of kept) (limit_of kept) events) (now : State) (all : FiresAll (split_of kept) kept.vectors (first_state (split_of kept)) events now) (shows : Shows kept now) where
  abbrev S : Split
  S = split_of kept

  controller : IsController (split_of kept) (graph_of kept)
  controller = accepted_controls (split_of kept) (graph_of kept) sound.plan

  consistent : IsConsistent (graph_of kept) (limit_of kept) (count_of kept)
  consistent =
      let same : (u : ℕ) → counts_after (λ _. 0) events u ≡ count_of kept u = kept_counts kept events now all shows in
      let is : IsConsistent (graph_of kept) (limit_of kept) (counts_after (λ _. 0) events) = legal_is_consistent (graph_of kept) (limit_of kept) events legal in
      record {
        agrees = λ k d inside.
            let target : counts_after (λ _. 0) events (get_or (graph_of kept).arcs k d).target ≡ count_of kept (get_or (graph_of kept).arcs k d).target = same (get_or (graph_of kept).arcs k d).target in
            let source : counts_after (λ _. 0) events (get_or (graph_of kept).arcs k d).source ≡ count_of kept (get_or (graph_of kept).arcs k d).source = same (get_or (graph_of kept).arcs k d).source in
            let low : counts_after (λ _. 0) events (get_or (graph_of kept).arcs k d).target ≤ counts_after (λ _. 0) events (get_or (graph_of kept).arcs k d).source + (get_or (graph_of kept).arcs k d).tokens = is.agrees k d inside in
            omega arith;
        within = λ v inside. (let here : counts_after (λ _. 0) events v ≡ count_of kept v = same v in let low : counts_after (λ _. 0) events v ≤ limit_of kept = is.within v inside in omega arith);
      }

  to_the_end : ((v : ℕ) → ¬ IsReady kept v) ↔ IsFiredToEnd kept
  to_the_end = (
    λ none v inside. elim (cases_lt (count_of kept v) (limit_of kept)) [
      | inl below ↦ absurd (let (u, ready) = progress (graph_of kept) controller.live (limit_of kept) (count_of kept) consistent v inside below in none u ready)
      | inr past ↦ (let low : count_of kept v ≤ limit_of kept = consistent.within v inside in omega arith)
    ],
    λ done v ready. (let full : count_of kept v ≡ limit_of kept = done v ready.event in let low : count_of kept v < limit_of kept = ready.below in absurd (omega arith)),
  )

  module _ (state nets : ℕ → Row) (run : IsClockedRunOf kept state nets) where
    step : IsInStep (split_of kept) kept.vectors state nets now
    step = flow_equivalence (split_of kept) (graph_of kept) controller kept.vectors state nets run events legal now all

    held_is : (n : Node) → IsNode S n → held_row kept n ≡ run_value kept state nets n (count_of kept (opening n))
    held_is n is_node =
        let count : now.count (opening n) ≡ count_of kept (opening n) = shows.counts (opening n) in
        sym (shows.rows n is_node (place_of S (count_of kept (opening n))) (place_low S (count_of kept (opening n))))
        ∙ step.kept n is_node (count_of kept (opening n)) (omega arith) (omega arith)

    stored_is : (n : Node) → IsNode S n → stored_values kept n ≡ flat_map (run_value kept state nets n) (range_with_len 1 (count_of kept (closing n)))
    stored_is n is_node =
        sym (shows.stored n is_node)
        ∙ (ap (λ (rows : List Row). flat_map (λ (row : Row). row) rows) (step.stored n is_node)
        ∙ (flat_of_map (run_value kept state nets n) (range_with_len 1 (now.count (closing n)))
        ∙ ap (λ (k : ℕ). flat_map (run_value kept state nets n) (range_with_len 1 k)) (shows.counts (closing n))))

    stored_wide : (i : ℕ) → i < length S.clusters → (j : ℕ) → j < length (now.stored (Slave i)) → length (get_or (now.stored (Slave i)) j []) ≡ length (members S i)
    stored_wide i is_node j inside =
        let rows : now.stored (Slave i) ≡ map (run_value kept state nets (Slave i)) (range_with_len 1 (now.count (closing (Slave i)))) = step.stored (Slave i) is_node in
        let long : length (now.stored (Slave i)) ≡ now.count (closing (Slave i)) = ap length rows ∙ length-map-range_with_len (run_value kept state nets (Slave i)) 1 (now.count (closing (Slave i))) in
        ap (λ (rs : List Row). length (get_or rs j [])) rows
        ∙ (ap length (get_or-map-range_with_len (run_value kept state nets (Slave i)) 1 (now.count (closing (Slave i))) j (suc j) [] (omega arith) (omega arith))
        ∙ length-map (members S i) (value_at (state (suc j))))

    in_run : IsInRun kept state nets
    in_run = record { held = held_is; stored = stored_is }

    module _ (done : IsFiredToEnd kept) where
      full : (n : Node) → IsNode S n → now.count (closing n) ≡ limit_of kept
      full n is_node =
          let long : length (split_events S) ≡ 2 * nodes S = events_long S in
          let events_are : length (graph_of kept).events ≡ length (split_events S) + length sound.plan.extra = ap length sound.plan.events ∙ length-append (split_events S) sound.plan.extra in
          let below : number_of n < nodes S = number_below S n is_node in
          shows.counts (closing n) ∙ done (closing n) (omega arith)

      stored_long : (n : Node) → IsNode S n → length (now.stored n) ≡ limit_of kept
      stored_long n is_node = ap length (step.stored n is_node) ∙ (length-map-range_with_len (run_value kept state nets n) 1 (now.count (closing n)) ∙ full n is_node)

      stored_at : (n : Node) → IsNode S n → (k : ℕ) → k < limit_of kept → get_or (now.stored n) k [] ≡ run_value kept state nets n (suc k)
      stored_at n is_node k below =
          let count : now.count (closing n) ≡ limit_of kept = full n is_node in
          ap (λ (rows : List Row). get_or rows k []) (step.stored n is_node)
          ∙ get_or-map-range_with_len (run_value kept state nets n) 1 (now.count (closing n)) k (suc k) [] (omega arith) (omega arith)

      row_stored : (n : Node) → IsNode S n → ((k : ℕ) → length (run_value kept state nets n (suc k)) ≡ width_of kept n) → (k : ℕ) → k < limit_of kept → stored_row kept n k ≡ row_at (now.stored n) k
      row_stored n is_node widths k below =
          let long : length (now.stored n) ≡ limit_of kept = stored_long n is_node in
          let size : k * width_of kept n + width_of kept n - k * width_of kept n ≡ width_of kept n = omega arith in
          ap (λ (m : ℕ). take m (drop (k * width_of kept n) (stored_values kept n))) size
          ∙ (ap (λ (values : Row). take (width_of kept n) (drop (k * width_of kept n) values)) (sym (shows.stored n is_node))
          ∙ chunk (now.stored n) (width_of kept n) k (k * width_of kept n) (λ j low. ap length (stored_at n is_node j (omega arith)) ∙ widths j) (omega arith) refl)

      out_row : (k : ℕ) → k < limit_of kept → stored_row kept Out k ≡ row_at (now.stored Out) k
      out_row k below = row_stored Out tt (λ j. length-map (nets_of S Out) (value_at (nets j))) k below

      slave_row : (i : ℕ) → i < length S.clusters → (k : ℕ) → k < limit_of kept → stored_row kept (Slave i) k ≡ row_at (now.stored (Slave i)) k
      slave_row i is_node k below =
          row_stored (Slave i) is_node (λ j. length-map (members S i) (value_at (state (suc j))) ∙ sym (length-map (members S i) (λ r. get_or (register_nets S.circuit) r 0))) k below

      module _ (first : ℕ) (rows : ℕ → Row) (start : rows 0 ≡ S.initial) (after : (k : ℕ) → k < limit_of kept → AreRegisters S (λ n. stored_row kept n k) (rows (k + 1))) where
        registers_after : (k : ℕ) → k < limit_of kept → AreRegisters S (λ n. row_at (now.stored n) k) (rows (k + 1))
        registers_after k below = ((after k below).0, λ i inside. (after k below).1 i inside ∙ slave_row i inside k below)

        spells : (flat_map (λ k. trace_line (first + k) (stored_row kept Out k) (rows k)) (range_with_len 0 (limit_of kept)) ≡ trace_lines S.circuit first (limit_of kept) state nets) × (rows (limit_of kept) ≡ state (limit_of kept))
        spells =
            let (lines, last) = stored_rows_spell_trace S sound.plan.split first kept.vectors state nets run now step full rows start registers_after in (
              range_agree (λ k. trace_line (first + k) (stored_row kept Out k) (rows k)) (λ k. trace_line (first + k) (row_at (now.stored Out) k) (rows k)) 0 (limit_of kept)
                  (λ k below. ap (λ (row : Row). trace_line (first + k) row (rows k)) (out_row k (omega arith)))
                  ∙ lines,
              last,
            )

pub fired_is_in_run : (kept : Snapshot) → IsSnapshotSound kept → IsReached kept → (state nets : ℕ → Row) → IsClockedRunOf kept state nets → IsInRun kept state nets
fired_is_in_run kept sound (events, legal, (now, all, shows)) state nets run = in_run kept sound events legal now all shows state nets run

pub fired_to_the_end : (kept : Snapshot) → IsSnapshotSound kept → IsReached kept → ((v : ℕ) → ¬ IsReady kept v) ↔ IsFiredToEnd kept
fired_to_the_end kept sound (events, legal, (now, all, shows)) = to_the_end kept sound events legal now all shows

pub stored_spell_trace : (kept : Snapshot) → IsSnapshotSound kept → IsReached kept → IsFiredToEnd kept → (first : ℕ) → (state nets : ℕ → Row) → IsClockedRunOf kept state nets → (rows : ℕ → Row) → rows 0 ≡ (split_of kept).initial → ((k : ℕ) → k < limit_of kept → AreRegisters (split_of kept) (λ n. stored_row kept n k) (rows (k + 1))) → (flat_map (λ k. trace_line (first + k) (stored_row kept Out k) (rows k)) (range_with_len 0 (limit_of kept)) ≡ trace_lines (split_of kept).circuit first (limit_of kept) state nets) × (rows (limit_of kept) ≡ state (limit_of kept))
stored_spell_trace kept sound (events, legal, (now, all, shows)) done first state nets run rows start after = spells kept sound events legal now all shows state nets run done first rows start after

-- the rows that a slave has stored are as wide as its cluster
pub slave_wide : (kept : Snapshot) → IsSnapshotSound kept → (events : List ℕ) → IsLegal (graph_of kept) (limit_of kept) events → (now : State) → FiresAll (split_of kept) kept.vectors (first_state (split_of kept)) events now → Shows kept now
    → (i : ℕ) → i < length (split_of kept).clusters → (j : ℕ) → j < length (now.stored (Slave i)) → length (get_or (now.stored (Slave i)) j []) ≡ length (members (split_of kept) i)
slave_wide kept sound events legal now all shows i inside j low =
    let (state, nets, run) = some_run (split_of kept).circuit sound.in_range sound.plan.split.accepted (split_of kept).initial kept.vectors sound.plan.split.one_value_each sound.vectors in
    stored_wide kept sound events legal now all shows state nets run i inside j low
