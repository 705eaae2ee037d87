use Rattle.std.proofs.Common.{◌<◌, ◌==◌, ◌∙◌, ap, sym, subst, length, nat_lt}
use Rattle.std.proofs.lemmas.List.{get_or_default}
use Rattle.std.specs.List.{list_any}
use Rattle.ds_flat.specs.Stack.{Stacked}
use Rattle.ds_flat.proofs.WaitingCopies.{counts_has}
use Rattle.ds_flat.proofs.stack.Stack.has.Goals as goal

pub returns : goal.returns
returns c =
    let inside : c.args.place < length c.self.inside.counts.items =
    subst (λ (s : Stacked). c.args.place < s.models) (sym c.self.view_is) c.requires in
    ap (λ n. nat_lt 0 n) (c.index.ensures ∙ get_or_default c.self.inside.counts.items c.args.place
    c.index.result.now 0 inside)
    ∙ (counts_has c.self.inside.counts.items _ c.args.place c.self.invariant inside
    ∙ ap (λ (s : Stacked). list_any (λ other. other == c.args.place) s.places) c.self.view_is)
