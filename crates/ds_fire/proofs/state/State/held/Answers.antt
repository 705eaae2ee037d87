use Rattle.std.proofs.Common.{◌≡◌, ◌∙◌, ◌<◌, ◌≤◌, ◌+◌, ◌*◌, ◌^◌, ℕ, List, [], length, get_or, ap, sym, subst, arith}
use Rattle.std.proofs.lemmas.List.{get_or_default}
use Rattle.ds_base.specs.Values.{Row}
use Rattle.ds_latch.specs.Node.{Split, number_of, nodes, opening, place_of}
use Rattle.ds_latch.specs.declared.node.Node.{Node}
use Rattle.ds_fire.specs.Inside.{snapshot_seen}
use Rattle.ds_fire.specs.Turn.{AreTurnPlaces}
use Rattle.ds_fire.specs.Snapshot.{Snapshot, split_of, count_of, held_row, rows_of}
use Rattle.ds_fire.proofs.Settles.{place_low}
use Rattle.ds_fire.proofs.Turning.{are_rows, count_low, events_enough}
use Rattle.ds_fire.proofs.RowsAfterOpening.{same_row, same_inside}
use Rattle.ds_fire.proofs.state.State.held.Goals as goal

pub overflow_mul-number : goal.overflow_mul-number
overflow_mul-number c =
    let old : Snapshot = snapshot_seen c.self.inside.plan.now c.self.inside.vectors.now c.self.inside.counts c.self.inside.kept in
    let below : c.args.latch < nodes c.self.inside.plan.now.split = subst (λ (k : Snapshot). c.args.latch < nodes (split_of k)) (sym c.self.view_is) c.requires in
    let enough : 2 * nodes c.self.inside.plan.now.split ≤ length c.self.inside.plan.now.graph.events = events_enough old c.self.invariant.sound in
    let few : length c.self.inside.plan.now.graph.events < 2 ^ 32 = c.self.invariant.sound.few in
    let is : c.number.result ≡ c.args.latch = c.number.ensures in
    omega arith

pub at-opened-requires : goal.at-opened-requires
at-opened-requires c =
    let old : Snapshot = snapshot_seen c.self.inside.plan.now c.self.inside.vectors.now c.self.inside.counts c.self.inside.kept in
    let below : c.args.latch < nodes c.self.inside.plan.now.split = subst (λ (k : Snapshot). c.args.latch < nodes (split_of k)) (sym c.self.view_is) c.requires in
    let enough : 2 * nodes c.self.inside.plan.now.split ≤ length c.self.inside.plan.now.graph.events = events_enough old c.self.invariant.sound in
    let long : length c.self.inside.counts ≡ length c.self.inside.plan.now.graph.events = c.self.invariant.sound.counts in
    let is : c.number.result ≡ c.args.latch = c.number.ensures in
    omega (arith, c.new.ensures)

pub of-places-requires : goal.of-places-requires
of-places-requires c =
    let old : Snapshot = snapshot_seen c.self.inside.plan.now c.self.inside.vectors.now c.self.inside.counts c.self.inside.kept in
    let below : c.args.latch < nodes c.self.inside.plan.now.split = subst (λ (k : Snapshot). c.args.latch < nodes (split_of k)) (sym c.self.view_is) c.requires in
    let enough : 2 * nodes c.self.inside.plan.now.split ≤ length c.self.inside.plan.now.graph.events = events_enough old c.self.invariant.sound in
    let is : c.new.result ≡ 2 * c.args.latch = c.new.ensures ∙ ap (λ (k : ℕ). 2 * k) c.number.ensures in
    let low : get_or c.self.inside.counts c.new.result 0 ≤ length c.self.inside.vectors.now.rows = count_low old c.self.invariant.reached c.new.result (omega arith) in
    let few : length c.self.inside.vectors.now.rows ≤ 65536 = c.self.invariant.few in
    let count : c.at-opened.result ≡ get_or c.self.inside.counts c.new.result 0 = c.at-opened.ensures in
    omega arith

pub index-requires-2 : goal.index-requires-2
index-requires-2 c =
    let old : Snapshot = snapshot_seen c.self.inside.plan.now c.self.inside.vectors.now c.self.inside.counts c.self.inside.kept in
    let below : c.args.latch < nodes c.self.inside.plan.now.split = subst (λ (k : Snapshot). c.args.latch < nodes (split_of k)) (sym c.self.view_is) c.requires in
    let places : AreTurnPlaces c.self.inside.plan.now.split c.at-opened.result c.of-places.result = subst (λ (s : Split). AreTurnPlaces s c.at-opened.result c.of-places.result) c.latches.ensures c.of-places.ensures in
    let inside : c.args.latch * c.of-places.result.each + c.of-places.result.same < length c.self.inside.kept.rows.items =
    same_inside c.self.inside.plan.now.split c.self.inside.kept.rows.items (are_rows old c.self.invariant.sound) c.at-opened.result c.of-places.result places c.args.latch below in
    let here : c.index.result * c.of-places.result.each + c.of-places.result.same < length c.self.inside.kept.rows.items =
    subst (λ (k : ℕ). k * c.of-places.result.each + c.of-places.result.same < length c.self.inside.kept.rows.items) (sym c.index.ensures) inside in
    omega (arith, c.self.inside.kept.rows.ok.0)

module _ (c : goal.After-index-2) (n : Node) (e : number_of n ≡ c.args.latch) where
  row_is : c.index-2.result.now ≡ held_row (snapshot_seen c.self.inside.plan.now c.self.inside.vectors.now c.self.inside.counts c.self.inside.kept) n
  row_is =
      let old : Snapshot = snapshot_seen c.self.inside.plan.now c.self.inside.vectors.now c.self.inside.counts c.self.inside.kept in
      let s : Split = c.self.inside.plan.now.split in
      let rows : List Row = c.self.inside.kept.rows.items in
      let below : c.args.latch < nodes c.self.inside.plan.now.split = subst (λ (k : Snapshot). c.args.latch < nodes (split_of k)) (sym c.self.view_is) c.requires in
      let places : AreTurnPlaces c.self.inside.plan.now.split c.at-opened.result c.of-places.result = subst (λ (s : Split). AreTurnPlaces s c.at-opened.result c.of-places.result) c.latches.ensures c.of-places.ensures in
      let inside : c.args.latch * c.of-places.result.each + c.of-places.result.same < length c.self.inside.kept.rows.items =
      same_inside s rows (are_rows old c.self.invariant.sound) c.at-opened.result c.of-places.result places c.args.latch below in
      let at : ℕ = c.args.latch * c.of-places.result.each + c.of-places.result.same in
      let opened : c.at-opened.result ≡ get_or c.self.inside.counts (opening n) 0 =
      c.at-opened.ensures ∙ ap (λ (k : ℕ). get_or c.self.inside.counts k 0) (c.new.ensures ∙ (ap (λ (k : ℕ). 2 * k) (c.number.ensures ∙ sym e))) in
      c.index-2.ensures
      ∙ (ap (λ (k : ℕ). get_or rows (k * c.of-places.result.each + c.of-places.result.same) c.index-2.result.now) c.index.ensures
      ∙ (get_or_default rows at c.index-2.result.now [] inside
      ∙ (same_row s rows c.at-opened.result c.of-places.result places c.args.latch n e
      ∙ ap (λ (k : ℕ). rows_of s rows n (place_of s k)) opened)))

pub returns-clause-value : goal.returns-clause-value
returns-clause-value c n is_node e = subst (λ (k : Snapshot). c.index-2.result.now ≡ held_row k n) c.self.view_is (row_is c n e)

pub returns-clause-shown : goal.returns-clause-shown
returns-clause-shown c n is_node e now shows =
    let seen_now : Snapshot = c.args.self.now in
    let place : ℕ = place_of (split_of c.args.self.now) (count_of c.args.self.now (opening n)) in
    subst (λ (k : Snapshot). c.index-2.result.now ≡ held_row k n) c.self.view_is (row_is c n e)
    ∙ (sym (shows.rows n is_node place (place_low (split_of c.args.self.now) (count_of c.args.self.now (opening n))))
    ∙ ap (λ (k : ℕ). now.rows n (place_of (split_of c.args.self.now) k)) (sym (shows.counts (opening n))))
