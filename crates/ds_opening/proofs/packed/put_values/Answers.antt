use Rattle.std.proofs.Common.{◌≡◌, ◌∙◌, ap, length, subst, sym}
use Rattle.ds_base.specs.Lent.{with_values}
use Rattle.ds_base.specs.Values.{Row}
use Rattle.ds_cover.proofs.LentRows.{with-all}
use Rattle.ds_opening.specs.Packed.{Learns}
use Rattle.ds_opening.proofs.packed.put_values.Goals as goal

pub returns-clause-value : goal.returns-clause-value
returns-clause-value c foreseen is =
    let old : Row = c.args.nets.now in
    let new : Row = c.put_words.new.nets in
    let base : c.values_mut.result.now ≡ old = c.values_mut.ensures.value in
    let all : with_values old new ≡ new =
    with-all old new (c.put_words.ensures.same ∙ ap (λ (r : Row). length r) base) in
    subst (λ (r : Row). Learns foreseen c.args.these.now old r) (sym all)
    (subst (λ (r : Row). Learns foreseen c.args.these.now r new) base
    (c.put_words.ensures.value foreseen is))
