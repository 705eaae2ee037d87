use Rattle.std.proofs.Common.{◌≡◌, ◌∙◌, ◌+◌, ◌<◌, ◌++◌, List, ℕ, ap, arith, length, length-append, subst, sym}
use Rattle.std.specs.Prelude.{All}
use Rattle.std.proofs.lemmas.List.Elements.{All-append}
use Rattle.ds_cover.specs.Series.{AreAdded, in_table_order, shelves_of}
use Rattle.ds_cover.proofs.selections.add_list.Goals as goal

pub add_from-requires-clause-places : goal.add_from-requires-clause-places
add_from-requires-clause-places c =
    let order : c.as_slice.result.now ≡ c.args.order.now.items ++ c.args.list.now = c.as_slice.ensures.value ∙ c.in_ok-extend_from_slice.ensures.items in
    subst (λ (ns : List ℕ). All (λ k. k < length c.args.bank.now) ns) (sym order)
    (All-append (λ k. k < length c.args.bank.now) c.args.order.now.items c.args.list.now c.requires.places c.requires.within)

pub add_from-requires-clause-start : goal.add_from-requires-clause-start
add_from-requires-clause-start c =
    let order : c.as_slice.result.now ≡ c.args.order.now.items ++ c.args.list.now = c.as_slice.ensures.value ∙ c.in_ok-extend_from_slice.ensures.items in
    let size : length c.as_slice.result.now ≡ length c.args.order.now.items + length c.args.list.now = ap length order ∙ length-append c.args.order.now.items c.args.list.now in
    omega (size, c.len-start.ensures, c.args.order.now.ok.0, arith)

pub returns-clause-ok_added : goal.returns-clause-ok_added
returns-clause-ok_added c =
    let start : c.len-start.result ≡ length c.args.order.now.items = omega (c.len-start.ensures, c.args.order.now.ok.0, arith) in
    subst (λ (m : ℕ). AreAdded (shelves_of c.args.kinds.now) (shelves_of c.add_from.new.lists) (in_table_order c.args.bank.now c.extend_from_slice.new.self.items) m c.args.runs.now.items c.add_from.new.runs.items) start
    (subst (λ (ns : List ℕ). AreAdded (shelves_of c.args.kinds.now) (shelves_of c.add_from.new.lists) (in_table_order c.args.bank.now ns) c.len-start.result c.args.runs.now.items c.add_from.new.runs.items) c.as_slice.ensures.value c.in_ok-add_from.ensures)
