use Rattle.std.proofs.Common.{◌++◌, ◌∷◌, [], ◌∙◌, ℕ, List, ap, arith, sym, replicate}
use Rattle.std.proofs.lemmas.List.{append_assoc, append-nil, replicate_more}
use Rattle.ds_fabric.proofs.build.pad.Goals as goal

pub loop-i-init : goal.loop-i-init
loop-i-init c = sym (append-nil c.args.words.now.items)

pub loop-i-preserved : goal.loop-i-preserved
loop-i-preserved c = let old : List ℕ = c.args.words.now.items in let i : ℕ = c.loop-i.i in
    c.in_ok-push.ensures.items ∙ (ap (λ (xs : List ℕ). xs ++ 0 ∷ []) c.loop-i.invariant
    ∙ (append_assoc old (replicate i 0) (0 ∷ [])
    ∙ ap (λ (ys : List ℕ). old ++ ys) (replicate_more i 0)))

pub returns : goal.returns
returns c = c.loop-i.invariant ∙ ap (λ (n : ℕ). c.args.words.now.items ++ replicate n 0)
    (omega (arith, c.loop-i-test.false, c.loop-i.auto.i-end))
