use Rattle.std.proofs.Common.{rules, ◌≡◌, ◌≢◌, ◌∙◌, ◌∷◌, [], ℕ, List, Some, None, ap, refl, sym, arith, subst, eqb, true, false, MatchOption, get_or-set_same}
use mathlib.Core.Option.{none}
use prog.Atomic.{either}
use Rattle.atomic_table.specs.Table.{step, Allows, rest}
use Rattle.ds_fabric.specs.Showing.{Showing}
use Rattle.ds_rule.specs.Rule.{seen}
use Rattle.ds_runner.specs.TurnstileRule.{TurnSeat, Slot, Turning, took, rested, rests_now, after_won_take, after_miss, Alone}
use Rattle.ds_runner.specs.declared.turn_view.TurnView.{TurnView}
use Rattle.ds_runner.proofs.TurnstileRuleLemmas.{takes_pass, rests}
use Rattle.ds_runner.proofs.seat_steps.take.Goals as goal

front : List (ℕ × Slot) → Slot
front [] = None
front (x ∷ xs) = x.1

pub compare_exchange-requires : goal.compare_exchange-requires
compare_exchange-requires c = let (empty, live, free) = c.requires.idle in let (_, words, nodes) = c.requires.table in
    let me : TurnSeat = c.args.seat.now.me in let is : me ≡ (me.0, []) = ap (λ (cs : List (ℕ × Slot)). (me.0, cs)) empty in let n : ℕ = c.args.board.now.table_id.slots in
    let P : TurnSeat → Type 0 = λ m. Allows (Turning c.args.board.now.key) n c.args.seat.now.id m c.args.node (λ y. either (eqb y 0) 1 y) (took (step n c.args.node 0 1 none) m) in
    (search rules, search rules, subst P (sym is) (takes_pass c.args.board.now.key n c.args.seat.now.id me.0 c.args.node none live free c.requires.free (omega (arith, words, nodes))))

pub exchange-pass-requires : goal.exchange-pass-requires
exchange-pass-requires c = let h = c.compare_exchange.ensures.2.0 c.if-compare_exchange-ne0.false in
    let e : c.compare_exchange.new.seat.me.1 ≡ (c.args.node, Some h.0) ∷ c.args.seat.now.me.1 = ap (λ (m : TurnSeat). m.1) h.3 in
    (search rules, (Some h.0, e ∙ ap (λ (r : List (ℕ × Slot)). (c.args.node, Some h.0) ∷ r) (sym (ap rest e))))

pub load-requires : goal.load-requires
load-requires c = let (empty, live, _) = c.requires.idle in let (_, _, _, after) = c.exchange-pass.ensures in
    let h = c.compare_exchange.ensures.2.0 c.if-compare_exchange-ne0.false in let p : Showing = h.0 in let node : ℕ = c.args.node in let v : TurnView = c.args.seat.now.me.0 in
    let w : TurnView = after_won_take v node (seen p.view node) in let n : ℕ = c.args.board.now.table_id.slots in
    let is : c.exchange-pass.new.seat.me ≡ (w, (node, None) ∷ []) =
    after ∙ (ap (λ (m : TurnSeat). (m.0, (node, None) ∷ rest m.1)) h.3 ∙ ap (λ (cs : List (ℕ × Slot)). (w, (node, None) ∷ cs)) empty) in
    let P : TurnSeat → Type 0 = λ m. Allows (Turning c.args.board.now.key) n c.exchange-pass.new.seat.id m node (λ y. y) (rests_now (step n node 0 0 none) m) in
    (search rules, search rules, subst P (sym is) (rests c.args.board.now.key n c.exchange-pass.new.seat.id w node live refl (get_or-set_same v.out node true false h.2)))

pub returns : goal.returns
unfolding front
returns c = let (empty, _, _) = c.requires.idle in let (same, _, rest_is) = c.load.ensures in let (alike, _, taken, after) = c.exchange-pass.ensures in let (also, _, _) = c.compare_exchange.ensures in
    let h = c.compare_exchange.ensures.2.0 c.if-compare_exchange-ne0.false in let p : Showing = h.0 in let node : ℕ = c.args.node in let v : TurnView = c.args.seat.now.me.0 in
    let w : TurnView = after_won_take v node (seen p.view node) in
    let x : c.exchange-pass.new.seat.me ≡ (w, (node, None) ∷ []) =
    after ∙ (ap (λ (m : TurnSeat). (m.0, (node, None) ∷ rest m.1)) h.3 ∙ ap (λ (cs : List (ℕ × Slot)). (w, (node, None) ∷ cs)) empty) in
    let is : c.load.new.seat.me ≡ (record w { busy = 0 }, []) = rest_is ∙ ap (λ (m : TurnSeat). (record m.0 { busy = 0 }, [])) x in
    let found : Some p ≡ c.exchange-pass.result = ap front (sym (ap (λ (m : TurnSeat). m.1) h.3) ∙ taken) in
    let P : Slot → Type 0 = λ r. MatchOption r ((c.load.new.seat.me.0 ≡ after_miss v node) × (v.permits ≢ v.all_permits))
    (λ q. Alone v.fabric v.run node q × (c.load.new.seat.me.0 ≡ rested (after_won_take v node (seen q.view node)))) in record {
      table = same ∙ (alike ∙ also);
      idle = ap (λ (m : TurnSeat). m.1) is;
      told = subst P found (h.1, ap (λ (m : TurnSeat). m.0) is);
    }
