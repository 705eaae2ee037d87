use Rattle.std.proofs.Common.{◌<◌, ◌≤◌, ◌*◌, ◌^◌, ◌∙◌, ℕ, List, length, subst, sym, arith}
use Rattle.std.proofs.lemmas.Result.{err_from_is_err_and}
use Rattle.std.proofs.Math.Nat.{mul-le-mul}
use Rattle.ds_fire.proofs.InitialRows.{AreEmptyBelow, all_empty, more_empty, none_empty}
use Rattle.ds_fire.proofs.kept.histories.Goals as goal

-- the product is small
small : (a b : ℕ) → a ≤ 4294967295 → b ≤ 4294967295 → a * b ≤ 4294967295 * 4294967295
small a b one two = mul-le-mul one two

pub overflow_mul-room : goal.overflow_mul-room
overflow_mul-room c =
    let few : length c.as_slice.result.now < 2 ^ 32 =
    subst (λ (nets : List ℕ). length nets < 2 ^ 32) (sym (c.as_slice.ensures ∙ c.these-item.is))
    (c.bits-bits.ensures.few c.loop-these.these-index c.these-item.result c.loop-these-test.true) in
    let product = small c.args.limit (length c.as_slice.result.now) (omega arith) (omega arith) in
    omega (arith, product)

pub returns-in_err-stored : goal.returns-in_err-stored
returns-in_err-stored c =
    let p = err_from_is_err_and c.from_residual.result c.from_residual.ensures.1 in rw p.1 tt

pub loop-these-init : goal.loop-these-init
loop-these-init c =
    let none = none_empty c.args.limit c.bits-bits.result.now c.in_ok-stored.stored.items c.in_ok-stored.ensures.items in
    record { one_each = none.one_each; none = none.none; room = none.room }

pub returns-in_err-with_room : goal.returns-in_err-with_room
returns-in_err-with_room c =
    let p = err_from_is_err_and c.from_residual-in_err-with_room.result c.from_residual-in_err-with_room.ensures.1 in rw p.1 tt

pub returns-in_err-push : goal.returns-in_err-push
returns-in_err-push c =
    let p = err_from_is_err_and c.from_residual-in_err-push.result c.from_residual-in_err-push.ensures.1 in rw p.1 tt

pub loop-these-preserved : goal.loop-these-preserved
loop-these-preserved c =
    let i = c.loop-these.invariant in
    let before : AreEmptyBelow c.args.limit c.loop-these.these-index c.bits-bits.result.now c.loop-these.stored.items =
    record { one_each = i.one_each; none = i.none; room = i.room } in
    let more = more_empty c.args.limit c.loop-these.these-index c.bits-bits.result.now c.loop-these.stored.items c.push.new.self.items
    c.in_ok-with_room.field-0 c.as_slice.result.now c.these-item.result before c.in_ok-push.ensures.items c.in_ok-with_room.ensures
    (c.as_slice.ensures ∙ c.these-item.is) c.loop-these-test.true in
    record { one_each = more.one_each; none = more.none; room = more.room }

pub returns : goal.returns
returns c =
    let i = c.loop-these.invariant in
    let all : AreEmptyBelow c.args.limit c.loop-these.these-index c.bits-bits.result.now c.loop-these.stored.items =
    record { one_each = i.one_each; none = i.none; room = i.room } in
    all_empty c.args.latches.now c.args.limit c.loop-these.these-index c.bits-bits.result.now c.loop-these.stored.items all
    (omega (arith, c.loop-these-test.false)) c.bits-bits.ensures.one_each c.bits-bits.ensures.nets
