use Rattle.std.proofs.Common.{◌≡◌, ◌∙◌, ◌<◌, ◌+◌, ℕ, length, get_or, set, subst, sym, arith}
use Rattle.std.proofs.lemmas.List.{get_or_default}
use Rattle.ds_split.specs.Nets.{AreMarked}
use Rattle.ds_split.proofs.Marks.{mark_all, mark_more}
use Rattle.ds_split.proofs.Searching.{IsFirst}
use Rattle.ds_split.proofs.holders.hold.Goals as goal

pub loop-register-preserved : goal.loop-register-preserved
loop-register-preserved c =
    let at : c.index.result ≡ get_or c.args.registers.now c.loop-register.register-index 0 =
    c.index.ensures ∙ (c.register-item.is ∙ get_or_default c.args.registers.now c.loop-register.register-index c.register-item.result 0 c.loop-register-test.true) in
    let low : get_or c.args.registers.now c.loop-register.register-index 0 < length c.args.holders.now.items = c.requires c.loop-register.register-index 0 c.loop-register-test.true in
    subst (λ (k : ℕ). AreMarked (IsFirst c.args.registers.now (c.loop-register.register-index + 1)) c.args.mark c.args.holders.now.items (set c.loop-register.holders.items k c.args.mark)) (sym at)
    (mark_more c.args.registers.now c.loop-register.register-index c.args.mark c.args.holders.now.items c.loop-register.holders.items
    (subst (λ (k : ℕ). get_or c.args.registers.now c.loop-register.register-index 0 < k) (sym c.loop-register.invariant.same_length) low) c.loop-register.invariant)

pub returns : goal.returns
returns c = mark_all c.args.registers.now c.loop-register.register-index c.args.mark c.args.holders.now.items c.loop-register.holders.items (omega arith) c.loop-register.invariant
