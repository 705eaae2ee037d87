use Rattle.std.proofs.Common.{◌≡◌, List, length, subst, sym, ap, ◌∙◌}
use Rattle.std.proofs.lemmas.List.Sorted.{length_permutation}
use Rattle.ds_marked.specs.Graph.{AreEnds, IsKept}
use Rattle.ds_marked.specs.Into.{AreChains}
use Rattle.ds_marked.specs.declared.marked.Arc.{Arc}
use Rattle.ds_marked.specs.declared.marked.Event.{Event}
use Rattle.ds_marked.proofs.Enabling.{ends_permuted, kept_sorted}
use Rattle.ds_marked.proofs.marked.Marked.new.Goals as goal

pub of-requires-clause-ends : goal.of-requires-clause-ends
of-requires-clause-ends c =
    subst (λ (events : List Event). AreEnds (length events) c.as_slice-2.result.now) (sym c.as_slice.ensures)
    (subst (AreEnds (length c.args.events)) (sym c.as_slice-2.ensures.value)
    (ends_permuted (length c.args.events) c.args.arcs.items c.sort_arcs.new.arcs.items c.in_ok-sort_arcs.ensures.same c.requires.ends))

pub of-requires-clause-few : goal.of-requires-clause-few
of-requires-clause-few c =
    let same : length c.as_slice-2.result.now ≡ length c.args.arcs.items =
    ap (λ (arcs : List Arc). length arcs) c.as_slice-2.ensures.value ∙ length_permutation c.args.arcs.items c.sort_arcs.new.arcs.items c.in_ok-sort_arcs.ensures.same in
    rw same c.requires.few.1

pub invariant_of-result : goal.invariant_of-result
invariant_of-result c =
    subst (λ (arcs : List Arc). IsKept (record { events = c.args.events; arcs = arcs }) × AreChains (length c.args.events) arcs 0 c.in_ok-into.into.first.items c.in_ok-into.into.next.items)
    (sym c.of-2.ensures) (
      kept_sorted c.args.events c.args.arcs.items c.sort_arcs.new.arcs.items c.requires.once c.requires.few.0 c.requires.few.1 c.in_ok-sort_arcs.ensures.same c.requires.ends c.in_ok-sort_arcs.ensures.ok,
      subst (λ (events : List Event). AreChains (length events) c.sort_arcs.new.arcs.items 0 c.in_ok-into.into.first.items c.in_ok-into.into.next.items) c.as_slice.ensures
          (subst (λ (arcs : List Arc). AreChains (length c.as_slice.result.now) arcs 0 c.in_ok-into.into.first.items c.in_ok-into.into.next.items) c.as_slice-2.ensures.value c.in_ok-into.ensures),
    )

pub returns-clause-ok_kept : goal.returns-clause-ok_kept
returns-clause-ok_kept c =
    subst (λ (arcs : List Arc). IsKept (record { events = c.args.events; arcs = arcs })) (sym c.of-2.ensures)
    (kept_sorted c.args.events c.args.arcs.items c.sort_arcs.new.arcs.items c.requires.once c.requires.few.0 c.requires.few.1 c.in_ok-sort_arcs.ensures.same c.requires.ends c.in_ok-sort_arcs.ensures.ok)
