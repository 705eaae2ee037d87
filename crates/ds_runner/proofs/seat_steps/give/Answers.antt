use Rattle.std.proofs.Common.{rules, ◌≡◌, ◌∙◌, ◌+◌, ◌∷◌, [], ℕ, List, Some, None, ap, refl, sym, subst}
use mathlib.Core.Option.{none}
use Rattle.atomic_table.specs.Table.{step, Allows, rest}
use Rattle.ds_fabric.specs.Showing.{Showing}
use Rattle.ds_rule.specs.Rule.{seen}
use Rattle.ds_runner.specs.TurnstileRule.{TurnSeat, Slot, Turning, fetched, gave, after_give}
use Rattle.ds_runner.specs.declared.turn_view.TurnView.{TurnView}
use Rattle.ds_runner.proofs.TurnstileRuleLemmas.{fetches, gives_pass}
use Rattle.ds_runner.proofs.seat_steps.give.Goals as goal

front : List (ℕ × Slot) → Slot
front [] = None
front (x ∷ xs) = x.1

pub load-requires : goal.load-requires
load-requires c = let (empty, live, free) = c.requires.idle in let (out, _, _) = c.requires.out in
    let me : TurnSeat = c.args.seat.now.me in let is : me ≡ (me.0, []) = ap (λ (cs : List (ℕ × Slot)). (me.0, cs)) empty in let n : ℕ = c.args.board.now.table_id.slots in
    let P : TurnSeat → Type 0 = λ m. Allows (Turning c.args.board.now.key) n c.args.seat.now.id m c.args.node (λ y. y) (fetched (step n c.args.node 0 0 none) m) in
    (search rules, search rules, subst P (sym is) (fetches c.args.board.now.key n c.args.seat.now.id me.0 c.args.node live free out))

pub exchange-empty-requires : goal.exchange-empty-requires
exchange-empty-requires c = let (_, _, me) = c.load.ensures in let e = ap (λ (m : TurnSeat). m.1) me in (search rules, (None, e ∙ ap (λ (r : List (ℕ × Slot)). (c.args.node, None) ∷ r) (sym (ap rest e))))

pub store-requires : goal.store-requires
store-requires c = let (_, live, _) = c.requires.idle in let (out, alone, up) = c.requires.out in let (_, _, me) = c.load.ensures in let (_, _, _, after) = c.exchange-empty.ensures in
    let v : TurnView = c.args.seat.now.me.0 in let node : ℕ = c.args.node in let p : Showing = c.args.pass in let n : ℕ = c.args.board.now.table_id.slots in let w : TurnView = record v { busy = node + 1 } in
    let is : c.exchange-empty.new.seat.me ≡ (w, (node, Some p) ∷ []) = after ∙ ap (λ (m : TurnSeat). (m.0, (node, Some p) ∷ rest m.1)) me in
    let P : TurnSeat → Type 0 = λ m. Allows (Turning c.args.board.now.key) n c.exchange-empty.new.seat.id m node (λ _. 0) (λ _. gave (step n node 0 0 none) m 0) in
    (search rules, search rules, subst P (sym is) (gives_pass c.args.board.now.key n c.exchange-empty.new.seat.id w node p live refl out alone up))

pub returns : goal.returns
returns c = let (same, _, me) = c.load.ensures in let (alike, _, _, after) = c.exchange-empty.ensures in let (also, _, given) = c.store.ensures in
    let v : TurnView = c.args.seat.now.me.0 in let node : ℕ = c.args.node in let p : Showing = c.args.pass in let w : TurnView = record v { busy = node + 1 } in
    let is : c.exchange-empty.new.seat.me ≡ (w, (node, Some p) ∷ []) = after ∙ ap (λ (m : TurnSeat). (m.0, (node, Some p) ∷ rest m.1)) me in record {
      table = also ∙ (alike ∙ same);
      me = given p (ap (λ (m : TurnSeat). m.1) is) ∙ ap (λ (m : TurnSeat). (after_give m.0 node (seen p.view node), [])) is;
    }
