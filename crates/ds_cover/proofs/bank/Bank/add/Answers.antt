use Rattle.std.proofs.Common.{◌≡◌, ◌∙◌, ◌++◌, [], ◌∷◌, List, map, ap, sym, subst}
use Rattle.std.proofs.lemmas.Result.{err_from_is_err_and}
use Rattle.ds_cover.specs.Bank.{Driven, IsMore}
use Rattle.ds_cover.specs.Kept.{AreKept, driven_in}
use Rattle.ds_cover.specs.declared.entry.Quick.{Quick}
use Rattle.ds_cover.specs.declared.entry.TableSpan.{TableSpan}
use Rattle.ds_cover.proofs.StoredTables.{are_more, are_still, is_more, spans_stay}
use Rattle.ds_cover.proofs.bank.Bank.add.Goals as goal

pub invariant_of-self-in_err-span : goal.invariant_of-self-in_err-span
invariant_of-self-in_err-span c =
    subst (λ (ss : List TableSpan). AreKept c.add_parts.new.inputs.items c.add_parts.new.masks.items ss c.reserve-2.new.self.items) (sym c.reserve.ensures.items)
    (subst (λ (qs : List Quick). AreKept c.add_parts.new.inputs.items c.add_parts.new.masks.items c.self.inside.spans.items qs) (sym c.reserve-2.ensures.items)
    (are_still c.self.inside.inputs.items c.self.inside.masks.items c.self.inside.spans.items c.self.inside.quicks.items c.self.invariant
    c.add_parts.new.inputs.items c.add_parts.new.masks.items c.in_err-span.ensures.inputs c.in_err-span.ensures.masks))

pub returns-in_err-span-clause-same : goal.returns-in_err-span-clause-same
returns-in_err-span-clause-same c =
    let view : c.args.self.now ≡ map (driven_in c.self.inside.inputs.items c.self.inside.masks.items) c.self.inside.spans.items = search in
    let same : map (driven_in c.add_parts.new.inputs.items c.add_parts.new.masks.items) c.reserve.new.self.items ≡ c.args.self.now =
    ap (λ (ss : List TableSpan). map (driven_in c.add_parts.new.inputs.items c.add_parts.new.masks.items) ss) c.reserve.ensures.items
    ∙ (spans_stay c.self.inside.inputs.items c.self.inside.masks.items c.self.inside.spans.items c.self.inside.quicks.items c.self.invariant
    c.add_parts.new.inputs.items c.add_parts.new.masks.items c.in_err-span.ensures.inputs c.in_err-span.ensures.masks ∙ sym view) in
    let (_, error) = c.from_residual-in_err-span.ensures in let (_, refused, _) = err_from_is_err_and c.from_residual-in_err-span.result error in
    rw refused same

pub invariant_of-self-2 : goal.invariant_of-self-2
invariant_of-self-2 c =
    let spans : c.push_reserved.new.self.items ≡ c.self.inside.spans.items ++ c.in_ok-span.span ∷ [] =
    c.push_reserved.ensures.items ∙ ap (λ (ss : List TableSpan). ss ++ c.in_ok-span.span ∷ []) c.reserve.ensures.items in
    let quicks : c.push_reserved-2.new.self.items ≡ c.self.inside.quicks.items ++ c.in_ok-span.quick ∷ [] =
    c.push_reserved-2.ensures.items ∙ ap (λ (qs : List Quick). qs ++ c.in_ok-span.quick ∷ []) c.reserve-2.ensures.items in
    subst (λ (ss : List TableSpan). AreKept c.add_parts.new.inputs.items c.add_parts.new.masks.items ss c.push_reserved-2.new.self.items) (sym spans)
    (subst (λ (qs : List Quick). AreKept c.add_parts.new.inputs.items c.add_parts.new.masks.items (c.self.inside.spans.items ++ c.in_ok-span.span ∷ []) qs) (sym quicks)
    (are_more c.self.inside.inputs.items c.self.inside.masks.items c.self.inside.spans.items c.self.inside.quicks.items c.self.invariant
    c.args.table.now c.args.output c.add_parts.new.inputs.items c.add_parts.new.masks.items c.in_ok-span.span c.in_ok-span.quick c.in_ok-span.ensures.ok))

pub returns-clause-ok : goal.returns-clause-ok
returns-clause-ok c =
    let view : c.args.self.now ≡ map (driven_in c.self.inside.inputs.items c.self.inside.masks.items) c.self.inside.spans.items = search in
    let spans : c.push_reserved.new.self.items ≡ c.self.inside.spans.items ++ c.in_ok-span.span ∷ [] =
    c.push_reserved.ensures.items ∙ ap (λ (ss : List TableSpan). ss ++ c.in_ok-span.span ∷ []) c.reserve.ensures.items in
    subst (λ (ds : List Driven). IsMore ds c.args.table.now c.args.output (map (driven_in c.add_parts.new.inputs.items c.add_parts.new.masks.items) c.push_reserved.new.self.items)) (sym view)
    (subst (λ (ss : List TableSpan). IsMore (map (driven_in c.self.inside.inputs.items c.self.inside.masks.items) c.self.inside.spans.items) c.args.table.now c.args.output
    (map (driven_in c.add_parts.new.inputs.items c.add_parts.new.masks.items) ss)) (sym spans)
    (is_more c.self.inside.inputs.items c.self.inside.masks.items c.self.inside.spans.items c.self.inside.quicks.items c.self.invariant
    c.args.table.now c.args.output c.add_parts.new.inputs.items c.add_parts.new.masks.items c.in_ok-span.span c.in_ok-span.quick c.in_ok-span.ensures.ok))
