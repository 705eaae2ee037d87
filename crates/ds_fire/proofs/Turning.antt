-- From what a turn leaves to a firing.
use Rattle.std.proofs.Common.{◌≡◌, ◌∙◌, ℕ, suc, ◌+◌, ◌-◌, ◌*◌, ◌^◌, ◌<◌, ◌≤◌, List, [], length, get_or, refl, arith, ap, sym, subst}
use Rattle.std.proofs.Math.ListN.{set}
use Rattle.std.proofs.Math.Nat.{mul-le-mul_right, suc-mul}
use Rattle.std.proofs.lemmas.List.{get_or-map, length-append, length-map}
use Rattle.ds_base.specs.Values.{Row}
use Rattle.ds_design.specs.Circuit.{columns}
use Rattle.ds_design.specs.InRange.{IsInRange}
use Rattle.ds_marked.proofs.Progress.{legal_is_consistent}
use Rattle.ds_latch.specs.Node.{Split, IsNode, number_of, nodes, nets_of, closing}
use Rattle.ds_latch.specs.declared.node.Node.{Node}
use Rattle.ds_latch.specs.Plan.{IsSplit, split_events}
use Rattle.ds_latch.proofs.OrderTokens.{number_below}
use Rattle.ds_latch.proofs.EventNodes.{IsEvent, is_opening, is_closing, is_extra, event_of}
use Rattle.ds_latch.proofs.OrdersRise.{events_long}
use Rattle.ds_fire.specs.StoredRows.{Stored}
use Rattle.ds_fire.specs.Snapshot.{Snapshot, split_of, graph_of, limit_of, count_of, stored_values, width_of}
use Rattle.ds_fire.specs.Fired.{IsFired, IsReached, IsReady, IsSnapshotSound}
use Rattle.ds_fire.specs.Turn.{AreRows, HasRowRoom, IsTurned, rooms_of, values_of}
use Rattle.ds_fire.specs.declared.kept.Kept.{Kept}
use Rattle.ds_latch.specs.Plan.{Planned}
use Rattle.ds_design.specs.Rows.{Rows}
use Rattle.ds_fire.specs.Inside.{IsRunning, snapshot_seen}
use Rattle.ds_fire.specs.declared.feeds.Feeds.{Feeds}
use Rattle.ds_fire.specs.Feeds.{AreFeeds}
use Rattle.ds_fire.proofs.OneFiringMore.{kept_counts, reached_after}
use Rattle.ds_fire.proofs.Shown.{Turned, fired, kept_next}

-- what a turn leaves, as lists
turned : (s : Split) (vectors : List Row) (v count : ℕ) (old new : Kept) → IsTurned s vectors v count old new → Turned s vectors v count old.rows.items new.rows.items (values_of old.stored.items) (values_of new.stored.items)
turned s vectors v count old new is = record {
  opened = λ n is_node e. ((is.opens n is_node e).0, ap values_of (is.opens n is_node e).1);
  closed = λ n is_node e. ((is.closes n is_node e).0, (is.closes n is_node e).1.values);
  passed = λ e same. ((is.passes e same).0, ap values_of (is.passes e same).1);
}

pub turn_fires : (old : Snapshot) (kept kept' : Kept) → IsSnapshotSound old → old.rows ≡ kept.rows.items → old.stored ≡ values_of kept.stored.items → (v : ℕ) → IsReady old v → IsTurned (split_of old) old.vectors v (count_of old v) kept kept' → IsFired old v (kept_next old v kept'.rows.items (values_of kept'.stored.items)) × IsSnapshotSound (kept_next old v kept'.rows.items (values_of kept'.stored.items))
turn_fires old kept kept' sound rows stored v ready is =
    let all : Turned (split_of old) old.vectors v (count_of old v) kept.rows.items kept'.rows.items (values_of kept.stored.items) (values_of kept'.stored.items) = turned (split_of old) old.vectors v (count_of old v) kept kept' is in
    let here : Turned (split_of old) old.vectors v (count_of old v) old.rows kept'.rows.items old.stored (values_of kept'.stored.items) =
    subst (λ (rs : List Row). Turned (split_of old) old.vectors v (count_of old v) rs kept'.rows.items old.stored (values_of kept'.stored.items)) (sym rows)
    (subst (λ (st : List Row). Turned (split_of old) old.vectors v (count_of old v) kept.rows.items kept'.rows.items st (values_of kept'.stored.items)) (sym stored) all) in
    fired old sound v ready kept'.rows.items (values_of kept'.stored.items) here (event_of (split_of old) v)

pub are_rows : (kept : Snapshot) → IsSnapshotSound kept → AreRows (split_of kept) kept.rows
are_rows kept sound = record { one_each = sound.rows; widths = sound.widths }

-- the events of the nodes come first
pub events_enough : (kept : Snapshot) → IsSnapshotSound kept → 2 * nodes (split_of kept) ≤ length (graph_of kept).events
events_enough kept sound =
    let long : length (split_events (split_of kept)) ≡ 2 * nodes (split_of kept) = events_long (split_of kept) in
    let events_are : length (graph_of kept).events ≡ length (split_events (split_of kept)) + length sound.plan.extra = ap length sound.plan.events ∙ length-append (split_events (split_of kept)) sound.plan.extra in
    omega arith

-- no count is above the limit
pub count_low : (kept : Snapshot) → IsReached kept → (v : ℕ) → v < length (graph_of kept).events → count_of kept v ≤ limit_of kept
count_low kept (events, legal, (now, all, shows)) v inside =
    let low = (legal_is_consistent (graph_of kept) (limit_of kept) events legal).within v inside in
    let same = kept_counts kept events now all shows v in
    omega arith

rooms_at : (s : Split) (vectors : List Row) (v count : ℕ) (old new : Kept) → IsTurned s vectors v count old new → IsEvent s v → rooms_of new.stored.items ≡ rooms_of old.stored.items
rooms_at s vectors _ count old new is (is_opening n is_node) = ap rooms_of (is.opens n is_node refl).1
rooms_at s vectors _ count old new is (is_closing n is_node) = (is.closes n is_node refl).1.rooms
rooms_at s vectors _ count old new is (is_extra e) = ap rooms_of (is.passes e refl).1

-- rooms stay
pub rooms_kept : (s : Split) (vectors : List Row) (v count : ℕ) (old new : Kept) → IsTurned s vectors v count old new → rooms_of new.stored.items ≡ rooms_of old.stored.items
rooms_kept s vectors v count old new is = rooms_at s vectors v count old new is (event_of s v)

-- an event that closes has room for one row more
pub room_more : (kept : Snapshot) (parts : Kept) → IsSnapshotSound kept → kept.stored ≡ values_of parts.stored.items → ((n : Node) → IsNode (split_of kept) n → limit_of kept * width_of kept n ≤ get_or (rooms_of parts.stored.items) (number_of n) 0) → (n : Node) → IsNode (split_of kept) n → IsReady kept (closing n) → HasRowRoom (split_of kept) n parts.stored.items
room_more kept parts sound stored room n is_node ready d =
    let inside : number_of n < length parts.stored.items =
    (let below : number_of n < nodes (split_of kept) = number_below (split_of kept) n is_node in
    let long : length (values_of parts.stored.items) ≡ length parts.stored.items = length-map parts.stored.items (λ (h : Stored). h.values) in
    let same : length kept.stored ≡ length (values_of parts.stored.items) = ap length stored in
    let all : length kept.stored ≡ nodes (split_of kept) = sound.stored in
    omega arith) in
    let value : get_or (values_of parts.stored.items) (number_of n) [] ≡ (get_or parts.stored.items (number_of n) d).values = get_or-map (λ (h : Stored). h.values) parts.stored.items (number_of n) d [] inside in
    let has : get_or (rooms_of parts.stored.items) (number_of n) 0 ≡ (get_or parts.stored.items (number_of n) d).room = get_or-map (λ (h : Stored). h.room) parts.stored.items (number_of n) d 0 inside in
    let long : length (stored_values kept n) ≡ count_of kept (closing n) * width_of kept n = sound.lengths n is_node in
    let here : length (get_or parts.stored.items (number_of n) d).values ≡ count_of kept (closing n) * width_of kept n =
    ap length (sym value) ∙ (ap (λ (rs : List Row). length (get_or rs (number_of n) [])) (sym stored) ∙ long) in
    let below : count_of kept (closing n) < limit_of kept = ready.below in
    let step : suc (count_of kept (closing n)) * width_of kept n ≤ limit_of kept * width_of kept n = mul-le-mul_right (width_of kept n) (omega arith) in
    let more : suc (count_of kept (closing n)) * width_of kept n ≡ count_of kept (closing n) * width_of kept n + width_of kept n = suc-mul (count_of kept (closing n)) (width_of kept n) in
    let limit : limit_of kept * width_of kept n ≤ get_or (rooms_of parts.stored.items) (number_of n) 0 = room n is_node in
    omega arith

-- one step, from parts to parts
pub stepped : (planned : Planned) (vectors : Rows) (counts counts' : List ℕ) (kept kept' : Kept) (feeds : Feeds) (v : ℕ)
    → IsRunning (snapshot_seen planned vectors counts kept) vectors kept feeds → IsReady (snapshot_seen planned vectors counts kept) v
    → counts' ≡ set counts v (get_or counts v 0 + 1) → IsTurned planned.split vectors.rows v (get_or counts v 0) kept kept'
    → IsFired (snapshot_seen planned vectors counts kept) v (snapshot_seen planned vectors counts' kept') × IsRunning (snapshot_seen planned vectors counts' kept') vectors kept' feeds
stepped planned vectors counts counts' kept kept' feeds v run may is turned =
    let old : Snapshot = snapshot_seen planned vectors counts kept in
    let new : Snapshot = snapshot_seen planned vectors counts' kept' in
    let both : IsFired old v new × IsSnapshotSound new =
    subst (λ (cs : List ℕ). IsFired old v (snapshot_seen planned vectors cs kept') × IsSnapshotSound (snapshot_seen planned vectors cs kept')) (sym is)
    (turn_fires old kept kept' run.sound refl refl v may turned) in (
      both.0,
      record {
        sound = both.1;
        reached = reached_after old new v both.0 run.reached;
        width = run.width;
        low = run.low;
        few = run.few;
        room = λ n is_node. subst (λ (rooms : List ℕ). length vectors.rows * length (nets_of planned.split n) ≤ get_or rooms (number_of n) 0) (sym (rooms_kept planned.split vectors.rows v (get_or counts v 0) kept kept' turned)) (run.room n is_node);
        nets = turned.nets ∙ run.nets;
        fed = run.fed;
      },
    )

-- what a turn asks for, of the split design as it is lent
module _ (planned : Planned) (vectors : Rows) (counts : List ℕ) (kept : Kept) (feeds : Feeds)
    (run : IsRunning (snapshot_seen planned vectors counts kept) vectors kept feeds) (s : Split) (is : s ≡ planned.split) where
  pub design_there : IsInRange s.circuit × IsSplit s
  design_there = subst (λ (t : Split). IsInRange t.circuit × IsSplit t) (sym is) (run.sound.in_range, run.sound.plan.split)

  pub width_there : vectors.width ≡ length (columns s.circuit)
  width_there = subst (λ (t : Split). vectors.width ≡ length (columns t.circuit)) (sym is) run.width

  pub feeds_there : AreFeeds s feeds
  feeds_there = subst (λ (t : Split). AreFeeds t feeds) (sym is) run.fed

  pub rows_there : AreRows s kept.rows.items
  rows_there = subst (λ (t : Split). AreRows t kept.rows.items) (sym is) (are_rows (snapshot_seen planned vectors counts kept) run.sound)

  pub nets_there : length kept.nets ≡ length s.circuit.nets
  nets_there = subst (λ (t : Split). length kept.nets ≡ length t.circuit.nets) (sym is) run.nets

  pub stored_there : length kept.stored.items ≡ nodes s
  stored_there = subst (λ (t : Split). length kept.stored.items ≡ nodes t) (sym is)
      (sym (length-map kept.stored.items (λ (h : Stored). h.values)) ∙ run.sound.stored)

  -- an event that may fire is there, and has not fired too often
  module _ (v count : ℕ) (may : IsReady (snapshot_seen planned vectors counts kept) v) where
    pub counted : v < length counts
    counted = (let inside = may.event in omega (arith, inside, run.sound.counts))

    pub in_reach : count ≡ get_or counts v 0 → count < length vectors.rows
    in_reach e = subst (λ (n : ℕ). n < length vectors.rows) (sym e) may.below

    pub few_firings : count ≡ get_or counts v 0 → count < 2 ^ 32
    few_firings e = (let below = in_reach e in omega (arith, below, run.few))

    pub may_count : get_or counts v 0 < 2 ^ 64 - 1
    may_count = (let below = may.below in omega (arith, below, run.few))
