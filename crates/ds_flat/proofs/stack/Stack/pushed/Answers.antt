use Rattle.std.proofs.Common.{◌<◌, ◌+◌, ◌^◌, ◌∙◌, ap, sym, subst, ℕ, length, arith, reverse, List, set, length-set, refl}
use Rattle.std.proofs.lemmas.List.{get_or_default}
use Rattle.ds_flat.specs.Stack.{Stacked, AreCounts, put_on}
use Rattle.ds_flat.proofs.WaitingCopies.{counts_push, counts_few}
use Rattle.ds_flat.proofs.Frames.{places_of, places_push, stacked_push, stacked}
use Rattle.ds_flat.proofs.stack.Stack.pushed.Goals as goal

pub overflow_add-index_mut : goal.overflow_add-index_mut
overflow_add-index_mut c =
    let inside : c.args.top.model < length c.self.inside.counts.items =
    subst (λ (s : Stacked). c.args.top.model < s.models) (sym c.self.view_is) c.requires.known in
    let few : length (places_of (reverse c.self.inside.frames.items)) < 2 ^ 32 =
    subst (λ (s : Stacked). length s.places < 2 ^ 32) (sym c.self.view_is) c.requires.few in
    let e = counts_few c.self.inside.counts.items (places_of (reverse c.self.inside.frames.items))
    c.args.top.model c.self.invariant inside in
    let f = c.index_mut.ensures.value ∙ get_or_default c.self.inside.counts.items c.args.top.model
    c.index_mut.result.now 0 inside in
    omega arith

pub invariant_of-result : goal.invariant_of-result
invariant_of-result c =
    let inside : c.args.top.model < length c.self.inside.counts.items =
    subst (λ (s : Stacked). c.args.top.model < s.models) (sym c.self.view_is) c.requires.known in
    let f = c.index_mut.ensures.value ∙ get_or_default c.self.inside.counts.items c.args.top.model
    c.index_mut.result.now 0 inside in
    subst (λ (ps : List ℕ). AreCounts (set c.self.inside.counts.items c.args.top.model
    (c.index_mut.result.now + 1)) ps)
    (places_push c.self.inside.frames.items c.push.new.self.items c.args.top
    c.in_ok-push.ensures.items)
    (counts_push c.self.inside.counts.items (places_of (reverse c.self.inside.frames.items)) _
    c.args.top.model (c.index_mut.result.now + 1) c.self.invariant inside
    (ap (λ n. n + 1) f) refl)

pub returns : goal.returns
returns c =
    ap (stacked c.push.new.self.items) (length-set c.self.inside.counts.items c.args.top.model
    (c.index_mut.result.now + 1))
    ∙ (stacked_push c.self.inside.frames.items c.push.new.self.items c.args.top
    (length c.self.inside.counts.items) c.in_ok-push.ensures.items
    ∙ ap (put_on c.args.top) c.self.view_is)
