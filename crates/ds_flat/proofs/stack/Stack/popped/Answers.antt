use Rattle.std.proofs.Common.{◌-◌, ◌∙◌, ap, sym, subst, ℕ, length, arith, reverse, List, length-set, refl}
use Rattle.std.proofs.lemmas.List.{get_or_default}
use Rattle.ds_flat.specs.Stack.{AreCounts, put_on}
use Rattle.ds_flat.proofs.WaitingCopies.{counts_pop, counts_top, counts_positive}
use Rattle.ds_flat.proofs.Frames.{places_of, places_push, stacked_push, stacked}
use Rattle.ds_flat.proofs.stack.Stack.popped.Goals as goal

pub index_mut-requires : goal.index_mut-requires
index_mut-requires c =
    omega (
      arith,
      c.self.inside.counts.ok,
      counts_top c.self.inside.counts.items (places_of (reverse c.pop.new.self.items)) c.in-Some.top.model
          (subst (λ (ps : List ℕ). AreCounts c.self.inside.counts.items ps)
          (sym (places_push c.pop.new.self.items c.self.inside.frames.items c.in-Some.top
          c.in-Some.ensures.items)) c.self.invariant),
    )

pub overflow_sub-index_mut : goal.overflow_sub-index_mut
overflow_sub-index_mut c =
    let are = subst (λ (ps : List ℕ). AreCounts c.self.inside.counts.items ps)
    (sym (places_push c.pop.new.self.items c.self.inside.frames.items c.in-Some.top
    c.in-Some.ensures.items)) c.self.invariant in
    let inside = counts_top c.self.inside.counts.items (places_of (reverse c.pop.new.self.items))
    c.in-Some.top.model are in
    let e = counts_positive c.self.inside.counts.items (places_of (reverse c.pop.new.self.items))
    c.in-Some.top.model are in
    let f = c.index_mut.ensures.value ∙ get_or_default c.self.inside.counts.items
    c.in-Some.top.model c.index_mut.result.now 0 inside in
    omega arith

pub invariant_of-result : goal.invariant_of-result
invariant_of-result c =
    let are = subst (λ (ps : List ℕ). AreCounts c.self.inside.counts.items ps)
    (sym (places_push c.pop.new.self.items c.self.inside.frames.items c.in-Some.top
    c.in-Some.ensures.items)) c.self.invariant in
    let inside = counts_top c.self.inside.counts.items (places_of (reverse c.pop.new.self.items))
    c.in-Some.top.model are in
    let f = c.index_mut.ensures.value ∙ get_or_default c.self.inside.counts.items
    c.in-Some.top.model c.index_mut.result.now 0 inside in
    counts_pop c.self.inside.counts.items (places_of (reverse c.pop.new.self.items)) _
    c.in-Some.top.model (c.index_mut.result.now - 1) are (ap (λ n. n - 1) f) refl

pub returns-in-Some-clause-some : goal.returns-in-Some-clause-some
returns-in-Some-clause-some c =
    sym c.self.view_is
    ∙ (stacked_push c.pop.new.self.items c.self.inside.frames.items c.in-Some.top
    (length c.self.inside.counts.items) c.in-Some.ensures.items
    ∙ ap (λ n. put_on c.in-Some.top (stacked c.pop.new.self.items n))
    (sym (length-set c.self.inside.counts.items c.in-Some.top.model (c.index_mut.result.now - 1))))
