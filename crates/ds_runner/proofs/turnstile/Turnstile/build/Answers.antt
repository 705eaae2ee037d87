use Rattle.std.proofs.Common.{◌≡◌, ◌∙◌, ℕ, ◌<◌, Bool, List, Some, false, map, replicate, length, ap, sym, subst, arith}
use Rattle.atomic_table.specs.Seated.{TableId}
use Rattle.atomic_table.specs.Table.{opening}
use Rattle.ds_rule.proofs.GetElemLemmas.{replicate-default}
use Rattle.ds_fabric.specs.Showing.{Showing}
use Rattle.ds_runner.specs.TurnstileRule.{Slot, TurnSeat, Turning, fabric_of, first_turn, has_out, nodes_of_key, run_of}
use Rattle.ds_runner.specs.Shown.{AreAlone, IsTurnstileOpened}
use Rattle.ds_runner.specs.declared.turn_view.TurnView.{TurnView}
use Rattle.ds_runner.specs.declared.plays.Key.{Key}
use Rattle.ds_runner.proofs.TurnstileAtStart.{turning_starts}
use Rattle.ds_runner.proofs.turnstile.Turnstile.build.Goals as goal

-- the rule at the start, of words and slots that are as they should
begun : (k : Key) (ps : List Showing) (n : ℕ) (ws zs : List ℕ) (xs : List Slot) → k.passes.value.items ≡ ps → 0 < k.all_permits → k.all_permits < 4294967296
    → AreAlone ps → n ≡ length ps → ws ≡ zs → zs ≡ replicate n 0 → xs ≡ map Some ps → Turning k (opening ws xs (first_turn k))
begun k ps n ws zs xs given some-turns few each count lent words slots =
    let start = turning_starts k some-turns few (subst AreAlone (sym given) each) in
    let words-is : replicate (nodes_of_key k) 0 ≡ ws = sym (lent ∙ (words ∙ ap (λ (m : ℕ). replicate m 0) (count ∙ ap (λ (qs : List Showing). length qs) (sym given)))) in
    let slots-is : map Some k.passes.value.items ≡ xs = ap (λ (qs : List Showing). map Some qs) given ∙ sym slots in
    subst (λ (us : List ℕ). Turning k (opening us xs (first_turn k))) words-is
    (subst (λ (ys : List Slot). Turning k (opening (replicate (nodes_of_key k) 0) ys (first_turn k))) slots-is start)

pub new-requires : goal.new-requires
new-requires c = begun (record { passes = c.of.result; all_permits = c.args.all_permits }) c.args.passes.now.items c.len.result c.as_slice.result.now c.in_ok-words.words.items c.fill_slots.new.slots.items
    (ap (λ v. v.items) c.of.ensures) c.requires.all_permits (omega (arith, c.ranges.all_permits.fits)) c.requires.alone (omega (arith, c.len.ensures)) c.as_slice.ensures.value c.in_ok-words.ensures.words c.fill_slots.ensures.moved

-- what a turnstile shows that is made of a key, and its first turn
opened : (k key : Key) (ps : List Showing) (id id' : TableId) (v : TurnView) → key ≡ k → k.passes.value.items ≡ ps → id' ≡ id
    → v ≡ first_turn k
    → IsTurnstileOpened ps k.all_permits (record { table_id = id; given = key.passes.value.items; all_permits = key.all_permits }) (record { table_id = id'; view = v })
opened k key ps id id' v same given table first =
    let given-is : key.passes.value.items ≡ k.passes.value.items = ap (λ (x : Key). x.passes.value.items) same in record {
      given_is = given-is ∙ given;
      all_permits_is = ap (λ (x : Key). x.all_permits) same;
      belongs = record {
        table = table;
        fabric_is = ap (λ (x : TurnView). x.fabric) first ∙ ap fabric_of (sym given-is);
        run_is = ap (λ (x : TurnView). x.run) first ∙ ap run_of (sym given-is);
        all_permits_is = ap (λ (x : TurnView). x.all_permits) first ∙ ap (λ (x : Key). x.all_permits) (sym same);
      };
      permits = ap (λ (x : TurnView). x.permits) first;
      none = λ l. ap (λ (x : TurnView). has_out x l) first ∙ replicate-default {A = Bool} (nodes_of_key k) l false;
      made = ap (λ (x : TurnView). x.made) first;
      missed = ap (λ (x : TurnView). x.missed) first;
      won = ap (λ (x : TurnView). x.won) first;
    }

pub returns-in-Ok-clause-ok : goal.returns-in-Ok-clause-ok
returns-in-Ok-clause-ok c = let made = c.in-Ok.ensures.ok in
    opened (record { passes = c.of.result; all_permits = c.args.all_permits }) c.in-Ok.table.shared.key c.args.passes.now.items
    c.in-Ok.table.shared.table_id c.in-Ok.seat.table_id c.in-Ok.seat.me.0 made.5 (ap (λ v. v.items) c.of.ensures) made.2
    (ap (λ (m : TurnSeat). m.0) made.4)
