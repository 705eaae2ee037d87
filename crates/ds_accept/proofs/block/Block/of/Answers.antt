use Rattle.std.proofs.Common.{ℕ, List, ◌≡◌, ◌<◌, ◌+◌, ◌-◌, ◌∙◌, [], ◌∷◌, ◌++◌, length, arith, get_or, length-append, sym, ap, subst, Vec, Global}
use Rattle.std.proofs.lemmas.List.Elements.{at_read}
use Rattle.ds_marked.specs.declared.marked.Arc.{Arc}
use Rattle.ds_accept.proofs.Blocks.{IsGrowing, grow_same, grow_new}
use Rattle.ds_accept.proofs.block.Block.of.Goals as goal
use Rattle.ds_accept.proofs.block.Block.of.Goals.{then-not-ends_with+else-as_slice-eq64+in_ok-push, else-not-ends_with}

pub loop-place-preserved : goal.loop-place-preserved
loop-place-preserved c =
    let asked : List Arc = c.args.asked.now in
    let place : ℕ = c.loop-place.place in
    let source : ℕ = (get_or asked place c.index-asked-place.result).source in
    let its : c.index-asked-place.result.source ≡ source = ap (λ (arc : Arc). arc.source) c.index-asked-place.is in
    let old : List ℕ = c.loop-place.sources.items in
    let bits : List ℕ = c.loop-place.bits.items in
    let bit : ℕ = length c.as_slice-in-loop-place.result.now - 1 in
    let pushed : c.push-in-loop-place.new.self.items ≡ bits ++ bit ∷ [] = c.in_ok-push-2.ensures.items in
    elim c.if-not-ends_with.branch [
      | then-not-ends_with+else-as_slice-eq64+in_ok-push w ↦
          let sources : c.if-not-ends_with.sources.items ≡ old ++ source ∷ [] = ap (λ (v : Vec ℕ Global). v.items) w.sources-is ∙ w.in_ok-push.ensures.items in
          subst (λ (s : List ℕ). IsGrowing asked c.args.from (place + 1) s c.push-in-loop-place.new.self.items) (sym sources)
          (subst (λ (b : List ℕ). IsGrowing asked c.args.from (place + 1) (old ++ source ∷ []) b) (sym pushed)
          (grow_new asked c.args.from place old bits c.loop-place.invariant c.loop-place-test.true source bit (omega (arith, c.loop-place.invariant.few, ap (λ (s : List ℕ). length s) w.as_slice-then-not-ends_with.ensures.value))
          (omega (arith, ap (λ (s : List ℕ). length s) (c.as_slice-in-loop-place.ensures.value ∙ sources), length-append old (source ∷ [])))
          (at_read asked (λ order. order.source ≡ source) place c.index-asked-place.result c.loop-place-test.true c.index-asked-place.is its)))
      | else-not-ends_with w ↦
          let sources : c.if-not-ends_with.sources.items ≡ old = ap (λ (v : Vec ℕ Global). v.items) w.sources-is in
          let last = subst (λ (s : List ℕ). (0 < length s) × (get_or s (length s - 1) 0 ≡ source)) c.as_slice.ensures.value (c.ends_with.ensures w.if-not-ends_with.false) in
          let len : length c.as_slice-in-loop-place.result.now ≡ length old = ap (λ (s : List ℕ). length s) (c.as_slice-in-loop-place.ensures.value ∙ sources) in
          let at_end : length old - 1 ≡ bit = omega arith in
          subst (λ (s : List ℕ). IsGrowing asked c.args.from (place + 1) s c.push-in-loop-place.new.self.items) (sym sources)
          (subst (λ (b : List ℕ). IsGrowing asked c.args.from (place + 1) old b) (sym pushed)
          (grow_same asked c.args.from place old bits c.loop-place.invariant c.loop-place-test.true bit (omega (arith, last.0))
          (at_read asked (λ order. get_or old bit 0 ≡ order.source) place c.index-asked-place.result c.loop-place-test.true c.index-asked-place.is
          (subst (λ (b : ℕ). get_or old b 0 ≡ source) at_end last.1 ∙ sym its))))
    ]
