use Rattle.std.proofs.Common.{◌≡◌, ◌<◌, ◌∷◌, [], ◌∙◌, ℕ, List, Bool, false, Some, ap, sym, arith, subst, length, get_or, set, length-append, get_or-set_same, get_or-set_other}
use Rattle.std.specs.Mem.Slots.{slots_items, slots_len, slots_filled, slots_counts}
use mathlib.Core.Logic.{dite}
use mathlib.Core.Option.{some, some-injective}
use native.Mathlib.Decide.{ℕ_discrete}
use lib.ListN.{get_elem?}
use Rattle.ds_rule.specs.Rule.{seen}
use Rattle.ds_rule.proofs.GetElemLemmas.{each_snoc, at_below}
use Rattle.ds_fabric.specs.Showing.{Showing}
use Rattle.ds_runner.specs.TurnstileRule.{Slot, Alone, Turning, HasNone, has_out, nodes_of_key, fabric, run}
use Rattle.ds_runner.specs.Shown.{Stile, Turned, IsTurnstileClosed}
use Rattle.ds_runner.specs.declared.turn_view.TurnView.{TurnView}
use Rattle.ds_runner.specs.declared.plays.Key.{Key}
use Rattle.ds_runner.proofs.TurnstileRuleLemmas.{St}
use Rattle.ds_runner.proofs.LastTurns.{every_pass_free, made_more}
use Rattle.ds_runner.proofs.SlotLemmas.{InSlot}
use Rattle.ds_runner.proofs.turnstile.Turnstile.close.Goals as goal

-- what a turn that shows so much must have
all_of : (k : Key) (v : TurnView) (id ids : Rattle.atomic_table.specs.Seated.TableId) (s : Stile) (t : Turned) → ◌≡◌ {A = Stile} (record { table_id = ids; given = k.passes.value.items; all_permits = k.all_permits }) s
    → ◌≡◌ {A = Turned} (record { table_id = id; view = v }) t → t.view.permits ≡ s.all_permits → HasNone t.view → (v.permits ≡ k.all_permits) × HasNone v
all_of k v id ids s t self-is turn-is whole none = (
  ap (λ (x : Turned). x.view.permits) turn-is ∙ (whole ∙ sym (ap (λ (x : Stile). x.all_permits) self-is)),
  λ l. ap (λ (x : Turned). has_out x.view l) turn-is ∙ none l,
)

pub unreachable-requires : goal.unreachable-requires
unreachable-requires c = let (_, _, f) = c.close_with-closed.ensures.values in let (_, slots) = c.close_with-closed.ensures.counts in let k = c.self.inside.table.shared.key in let i : ℕ = c.loop-i.i in let xs : List Slot = slots_items c.close_with-closed.result.slots in
    let v : TurnView = c.turn.inside.seat.me.0 in let q = all_of k v _ _ c.args.self c.args.turn c.self.view_is c.turn.view_is c.requires.whole c.requires.none in
    let r = every_pass_free k f.0 f.1.0 c.turn.inside.seat.id v f.1.1 c.turn.invariant.live q.0 q.1 xs f.3 f.4 i
    (omega (arith, c.loop-i-test.true, c.slot_count-i-end.ensures, slots, c.self.invariant.slots)) in
    let is : c.take.result ≡ Some r.0 = some-injective c.take.result (Some r.0) (sym c.take.ensures.value ∙ (ap (λ (ys : List Slot). get_elem? ys i) c.loop-i.invariant.items ∙ r.1)) in
    c.in_default.not-Some r.0 is

pub push_reserved-requires : goal.push_reserved-requires
push_reserved-requires c = let (_, slots) = c.close_with-closed.ensures.counts in let (_, room) = c.requires.room in omega (
  arith,
  c.loop-i-test.true,
  c.slot_count-i-end.ensures,
  slots,
  c.self.invariant.slots,
  room,
  ap (λ (s : Stile). length s.given) c.self.view_is,
  c.loop-i.invariant.moved,
  c.loop-i.invariant.room,
)

pub loop-i-preserved : goal.loop-i-preserved
loop-i-preserved c = let i : ℕ = c.loop-i.i in let xs : List Slot = slots_items c.close_with-closed.result.slots in
    let near : i < slots_len c.close_with-closed.result.slots = omega (arith, c.loop-i-test.true, c.slot_count-i-end.ensures) in
    let inv = c.loop-i.invariant in let o = c.take.ensures.others in
    let fs : List Bool = slots_filled c.loop-i.closed.slots in let p : Showing = c.in-Some.pass in
    let found : get_elem? xs i ≡ some (Some p) = ap (λ (ys : List Slot). get_elem? ys i) (sym inv.items) ∙ (c.take.ensures.value ∙ ap (λ (x : Slot). some x) c.in-Some.is) in
    let wide : i < length fs = omega (arith, near, inv.size, (slots_counts c.loop-i.closed.slots).1) in record {
      items = o.0 ∙ inv.items;
      size = o.2 ∙ inv.size;
      later = λ j b. ap (λ (gs : List Bool). get_or gs j false) o.1 ∙ (get_or-set_other fs i j false false (λ e. omega arith) ∙ inv.later j (omega arith));
      emptied = λ j b. ap (λ (gs : List Bool). get_or gs j false) o.1 ∙ dite (ℕ_discrete j i)
          (λ e. ap (λ (x : ℕ). get_or (set fs i false) x false) e ∙ get_or-set_same fs i false false wide)
          (λ n. get_or-set_other fs i j false false n ∙ inv.emptied j (omega arith));
      moved = ap (λ (ps : List Showing). length ps) c.push_reserved.ensures.items ∙ omega (arith, length-append c.loop-i.into.items (p ∷ []), inv.moved);
      room = c.push_reserved.ensures.capacity ∙ inv.room;
      given = subst (λ (ps : List Showing). (j : ℕ) (q : Showing) → get_elem? ps j ≡ some q → get_elem? xs j ≡ some (Some q)) (sym c.push_reserved.ensures.items)
          (each_snoc c.loop-i.into.items p i (λ j q. get_elem? xs j ≡ some (Some q)) inv.moved found inv.given);
    }

-- a pass in order, and its firings
abbrev Back : (k : Key) (s : St) → Turning k s → ℕ → Showing → Type 0
Back k s o l p = Alone (fabric k) (run k) l p × (seen p.view l ≡ o.fires l)

pub returns : goal.returns
returns c = let (_, _, f) = c.close_with-closed.ensures.values in let (_, slots) = c.close_with-closed.ensures.counts in let k = c.self.inside.table.shared.key in let xs : List Slot = slots_items c.close_with-closed.result.slots in
    let v : TurnView = c.turn.inside.seat.me.0 in let q = all_of k v _ _ c.args.self c.args.turn c.self.view_is c.turn.view_is c.requires.whole c.requires.none in
    let ps : List Showing = c.loop-i.into.items in
    let long : length ps ≡ nodes_of_key k = omega (arith, c.loop-i-test.false, c.loop-i.auto.i-end, c.slot_count-i-end.ensures, slots, c.self.invariant.slots, c.loop-i.invariant.moved) in
    let back : (l : ℕ) (p : Showing) → get_elem? ps l ≡ some p → Back k f.0 f.1.0 l p = λ l p at.
    let r = every_pass_free k f.0 f.1.0 c.turn.inside.seat.id v f.1.1 c.turn.invariant.live q.0 q.1 xs f.3 f.4 l (omega (arith, at_below ps l p at, long)) in
    subst (InSlot (Back k f.0 f.1.0 l)) (some-injective (Some r.0) (Some p) (sym r.1 ∙ c.loop-i.invariant.given l p at)) (r.2, r.3) in
    let made-is : v.made ≡ c.args.turn.view.made = ap (λ (x : Turned). x.view.made) c.turn.view_is in
    subst (λ (m : ℕ). IsTurnstileClosed c.args.self m ps) made-is (subst (λ (s : Stile). IsTurnstileClosed s v.made ps) c.self.view_is (record {
      long = long;
      each = λ l p at. (back l p at).0;
      sum = made_more k f.0 f.1.0 c.turn.inside.seat.id v f.1.1 q.0 ps long (λ l p at. (back l p at).1);
    }))
