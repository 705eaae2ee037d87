-- The next event of a node: what is known of it, and what its flight asks.
use Rattle.std.proofs.Common.{◌≡◌, ℕ, ◌+◌, ◌<◌, ◌≤◌, true, List, length}
use Rattle.std.proofs.Common.{sym, refl, ap, ◌∙◌, subst, arith, cond, ◌-◌, vec_capacity}
use Rattle.std.proofs.Math.Nat.{mul-le-mul_right}
use mathlib.Core.Option.{none, some}
use lib.ListN.{get_elem?}
use Rattle.atomic_table.specs.Table.{step, Allows}
use Rattle.ds_rule.specs.Run.{Run, count, events, next, opens, turns, IsEnabledInRun}
use Rattle.ds_rule.specs.Words.{width}
use Rattle.ds_rule.specs.Sound.{IsSound}
use Rattle.ds_rule.specs.Rule.{Lawful, holds, tickets, seen}
use Rattle.ds_rule.specs.Plays.{Sat, after_draw, published}
use Rattle.ds_rule.specs.declared.view.View.{View}
use Rattle.ds_rule.specs.declared.event_role.EventRole.{EventRole}
use Rattle.ds_rule.proofs.GetElemLemmas.{by_bool}
use Rattle.ds_rule.proofs.EventLaws.{node-next, fired_most}
use Rattle.ds_rule.proofs.GraphLaws.{event_there}
use Rattle.ds_rule.proofs.Publishes.{publishes}
use Rattle.ds_fabric.specs.Base.{IsInFlight, HasWritten}
use Rattle.ds_fabric.specs.declared.history.History.{History}
use Rattle.ds_fabric.specs.declared.histories.Histories.{Histories}
use Rattle.ds_fabric.specs.Noted.{IsArmed}
use Rattle.ds_fabric.specs.Flight.{HasRoomFor, HasSameRoom}
use Rattle.ds_fabric.specs.Noted.{IsNextRole, HasRoomToNote}
use Rattle.ds_fabric.specs.declared.buffers.Buffers.{Buffers}
use Rattle.ds_fabric.specs.Looks.{LooksOn, Enough}
use Rattle.ds_fabric.specs.HistoryList.{end_of_turn, next_turn_of, offset_of, list_of_words, list_room}
use Rattle.ds_fabric.specs.HistoryList.{stride_of, new_row}
use Rattle.ds_fabric.specs.Showing.{Tells, Keeps}
use Rattle.ds_fabric.specs.Stepped.{done}
use Rattle.ds_fabric.proofs.HistoryLayout.{stride_above, told_place}
use Rattle.ds_fabric.proofs.PassMemory.{looks_keep, near-node, next_below}

-- a node that is held is one of the run
pub near_run : (run : Run) (me : Sat) (s : Histories) (l : ℕ) → me.0.run ≡ run → Keeps me s
    → holds me.0 l ≡ true → l < run.nodes
near_run run me s l run_is k has = omega (
  arith,
  near-node me s l k has,
  ap (λ (r : Run). r.nodes) run_is,
)

-- what is known of the event that a node fires next, and of how often it fired
pub record Coming (run : Run) (v : View) (l event before : ℕ) : Type 0 where
  pub event_is : event ≡ next run l (seen v l)
  pub before_is : before ≡ done run v l
  pub below : event < events run

pub coming : (run : Run) (me : Sat) (s : Histories) (i : ℕ) (h : History) (event before : ℕ)
    → me.0.run ≡ run → IsSound run → Keeps me s → get_elem? s.nodes.items i ≡ some h
    → event ≡ next run h.node h.fired → before ≡ turns run event h.fired
    → Coming run me.0 h.node event before
coming run me s i h event before run_is sound k at e n =
    let v : View = me.0 in let l : ℕ = h.node in let t = k.listed i h at in
    let event_is : event ≡ next run l (seen v l) = e ∙ ap (next run l) t.fired in record {
      event_is = event_is;
      before_is = n ∙ (ap (turns run event) t.fired
          ∙ ap (λ (x : ℕ). turns run x (seen v l)) event_is);
      below = subst (λ (x : ℕ). x < events run) (sym event_is)
          (next_below run l (seen v l) sound.among (near_run run me s l run_is k t.has));
    }

-- the next event of a node is enabled at what was seen, where that is enough
is_ready : (run : Run) (u : View) (l event turn : ℕ) → run.design_nodes ≤ run.nodes → l < run.nodes
    → event ≡ next run l (seen u l)
    → turn ≡ turns run event (seen u l) + 1 → turn ≤ run.limit → Enough run u event turn
    → IsEnabledInRun run (seen u) (next run l (seen u l))
is_ready run u l event turn among near event_is turn_is within enough =
    let E : ℕ = next run l (seen u l) in let n : count run (seen u) E ≡ turns run E (seen u l) =
    ap (λ (x : ℕ). turns run E (seen u x)) (node-next run l (seen u l)) in
    let same : turns run event (seen u l) ≡ turns run E (seen u l) =
    ap (λ (x : ℕ). turns run x (seen u l)) event_is in record {
      event = event_there run E among (omega (arith, node-next run l (seen u l)));
      below = omega (arith, n, same, turn_is, within);
      ready = λ k d inside into.
          omega (arith, n, same, turn_is, enough k d inside (into ∙ sym event_is));
    }

-- the turn of the next event ends where there is room
room_next : (v : View) (h : History) (words : List ℕ) (room : ℕ) → Tells v h words room
    → turns v.run (next v.run h.node (seen v h.node)) (seen v h.node) < v.run.limit
    → end_of_turn v.run h ≤ room
room_next v h words room t below = let k : ℕ = next_turn_of v.run h in
    let less : k + 1 ≤ v.run.limit = omega (
      arith,
      below,
      ap (λ (f : ℕ). turns v.run (next v.run h.node f) f) t.fired,
    ) in
    omega (
      arith,
      mul-le-mul_right {m = k + 1} {n = v.run.limit} h.step less,
      t.fits,
    )

-- what is enabled at what was seen arms the flight
pub arms_enabled : (run : Run) (me : Sat) (s : Histories) (i : ℕ) (h : History)
    → me.0.run ≡ run → Keeps me s → HasRoomFor me.0.run h.node s.buffers
    → get_elem? s.nodes.items i ≡ some h
    → IsEnabledInRun run (seen me.0) (next run h.node (seen me.0 h.node))
    → IsArmed run me.0 s i h
arms_enabled run me s i h run_is k buffers at on =
    let u : View = me.0 in let l : ℕ = h.node in let t = k.listed i h at in
    let P : Run → Type 0 = λ r. IsEnabledInRun r (seen u) (next r l (seen u l))
    → IsArmed r u s i h in
    subst P run_is (λ on. let R : Run = u.run in let E : ℕ = next R l (seen u l) in
    let below : turns R E (seen u l) < R.limit = omega (
      arith,
      on.below,
      ap (λ (x : ℕ). turns R E (seen u x)) (node-next R l (seen u l)),
    ) in record {
      there = at;
      live = k.live;
      idle = k.idle;
      run_is = refl;
      held = t.has;
      near = near-node me s l k t.has;
      fired = t.fired;
      ready = subst (λ (f : ℕ). IsEnabledInRun R (seen u) (next R l f)) (sym t.fired) on;
      room = record {
        stride = t.stride;
        inside = t.turns.inside;
        room = room_next u h (list_of_words s h) (list_room s h) t below;
        buffers = buffers;
      };
    }) on

-- loads that showed enough arm the flight
pub arms : (run : Run) (me me' : Sat) (s : Histories) (i : ℕ) (h : History)
    (event before : ℕ) → me.0.run ≡ run → Keeps me s → HasRoomFor me.0.run h.node s.buffers
    → get_elem? s.nodes.items i ≡ some h → run.design_nodes ≤ run.nodes
    → event ≡ next run h.node h.fired → before ≡ turns run event h.fired → before < run.limit
    → LooksOn me.0 me'.0 → me'.1 ≡ me.1 → Enough run me'.0 event (before + 1)
    → IsArmed run me'.0 s i h
arms run me me' s i h event before run_is k buffers at among e n below looks slots enough =
    let k' = looks_keep me me' s k looks slots in let u : View = me'.0 in let l : ℕ = h.node in
    let t = k'.listed i h at in let run_is' = looks.run ∙ run_is in
    let event_is : event ≡ next run l (seen u l) = e ∙ ap (next run l) t.fired in
    let turn_is : before + 1 ≡ turns run event (seen u l) + 1 =
    ap (λ (x : ℕ). x + 1) (n ∙ ap (turns run event) t.fired) in
    arms_enabled run me' s i h run_is' k'
    (subst (λ (r : Run). HasRoomFor r l s.buffers) (sym looks.run) buffers) at
    (is_ready run u l event (before + 1) among (near_run run me' s l run_is' k' t.has)
    event_is turn_is (omega (arith, below)) enough)

-- the firings of the node stay far below 64 bits
pub few : (run : Run) (v : View) (l f : ℕ) → run.limit < 4611686018427387904 → f ≡ seen v l
    → IsEnabledInRun run (seen v) (next run l f) → f + 1 < 9223372036854775808
few run v l f short is on = let n = node-next run l f in
    let below : turns run (next run l f) f < run.limit =
    omega (
      arith,
      on.below,
      ap (λ (x : ℕ). turns run (next run l f) (seen v x)) n,
      ap (turns run (next run l f)) is,
    ) in
    omega (arith, fired_most run l f run.limit below)

-- what is in flight may be published once its words are written
pub lands : (run : Run) (n id : ℕ) (m : Sat) (l f t : ℕ) → IsInFlight run m.0 l f
    → HasWritten run m.0 l f
    → Allows (Lawful run) n id (after_draw m.0 t, m.1) (l + 1) (λ _. f + 1)
    (λ _. published (step n (l + 1) (f + 1) 0 none) (after_draw m.0 t, m.1) (f + 1))
lands run n id m l f t q written = let v : View = m.0 in
    let P : ℕ → Type 0 = λ x. opens run (next run x (seen v x)) ≡ true → width run x ≤ v.written in
    publishes run n id (after_draw v t, m.1) (l + 1) (f + 1)
    (ap (λ (x : ℕ). x + 1) (sym q.node_is))
    (ap (λ (x : ℕ). x + 1) (q.count ∙ ap (seen v) (sym q.node_is))) q.live refl
    (subst P (sym q.node_is) (λ h. written (ap (λ (x : ℕ). opens run (next run l x)) q.count ∙ h)))

-- writing keeps a flight, whose node has as many firings
pub still_flies : (run : Run) (v : View) (l l' f f' n : ℕ) → IsInFlight run v l f → l' ≡ l → f' ≡ f
    → IsInFlight run (record v { written = n }) l' f'
still_flies run v l l' f f' n q node fired =
    subst (λ (x : ℕ). IsInFlight run (record v { written = n }) x f') (sym node)
    (subst (IsInFlight run (record v { written = n }) l) (sym fired) (record {
      live = q.live;
      phase = q.phase;
      node_is = q.node_is;
      run_is = q.run_is;
      count = q.count;
      near = q.near;
      enabled = q.enabled;
    }))

-- what is enabled of a node is enabled of the node of its history, in the run of the table
pub enabled_by : (run at : Run) (v : View) (l : ℕ) (h : History) → at ≡ run → h.node ≡ l
    → IsEnabledInRun run (seen v) (next run l (seen v l))
    → IsEnabledInRun at (seen v) (next at h.node (seen v h.node))
enabled_by run at v l h run_is node on =
    subst (λ (r : Run). IsEnabledInRun r (seen v) (next r h.node (seen v h.node))) (sym run_is)
    (subst (λ (x : ℕ). IsEnabledInRun run (seen v) (next run x (seen v x))) (sym node) on)

-- what the event told has room in its buffer and in its list
pub can_note : (run : Run) (v : View) (s : Histories) (b : Buffers) (at : ℕ) (h : History)
    (role : EventRole) → IsSound run → IsArmed run v s at h
    → b.told.items ≡ new_row run h.node h.fired → HasSameRoom s.buffers b
    → IsNextRole run h.node h.fired role → HasRoomToNote run (record s { buffers = b }) at role
can_note run v s b at h role sound a told room next-is =
    let l : ℕ = h.node in let f : ℕ = h.fired in let r = a.room in
    let place = told_place run (tickets v) l f in
    let long : length b.told.items ≡ length (new_row run l f) = ap (λ (xs : List ℕ). length xs) told in
    let offset : offset_of run h ≡ cond (opens run (next run l f)) 0 (stride_of run l - 1) =
    ap (λ (x : ℕ). cond (opens run (next run l f)) 0 (x - 1)) r.stride in record {
      history = h;
      there = a.there;
      role_is = next-is;
      few = omega (arith, few run v l f sound.short a.fired a.ready);
      span = record {
        wide = omega (arith, r.stride, stride_above run l);
        inside = r.inside;
        small = by_bool (end_of_turn run h < 18446744073709551616) s.apart
            (λ own. omega (
              arith,
              r.room,
              ap (λ x. cond x (vec_capacity h.own) (vec_capacity s.together)) own,
              h.own.small,
            ))
            (λ one. omega (
              arith,
              r.room,
              ap (λ x. cond x (vec_capacity h.own) (vec_capacity s.together)) one,
              s.together.small,
            ));
      };
      fits = omega (arith, place.1, long, offset, r.stride);
      room = r.room;
    }
