use Rattle.std.proofs.Common.{◌<◌, ◌∙◌, arith, length, subst, sym}
use Rattle.std.proofs.lemmas.List.{get_or_default}
use Rattle.ds_accept.specs.Steps.{IsArcWithin}
use Rattle.ds_accept.proofs.Merged.{given_here, gives_any}
use Rattle.ds_accept.proofs.orders.is_given.Goals as goal

pub returns : goal.returns
returns c = let (gives, given) = c.gives.ensures in
    let low : c.args.place < length c.args.arcs.now = omega (arith, c.if-place-arcs.false) in (
      λ t. gives_any c.args.arcs.now c.args.arcs.now c.requires.arcs c.requires.arcs c.args.place c.args.order.now c.index-arcs-place.result low c.index-arcs-place.is
          (gives t),
      λ by. given (subst (IsArcWithin c.args.order.now.source c.args.order.now.target c.args.order.now.tokens)
          (get_or_default c.args.arcs.now c.args.place c.args.order.now c.index-arcs-place.result low ∙ sym c.index-arcs-place.is)
          (given_here c.args.arcs.now c.args.arcs.now c.requires.arcs c.requires.arcs c.args.place c.args.order.now c.requires.before low (c.requires.behind low) by)),
    )
