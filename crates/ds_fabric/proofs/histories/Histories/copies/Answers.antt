use Rattle.std.proofs.Common.{◌∙◌, ℕ, List, [], ◌∷◌, length, ap, subst, arith, refl}
use Rattle.std.proofs.Common.{vec_capacity, length-append}
use Rattle.atomic_table.proofs.Lists.{at_index}
use Rattle.ds_fabric.specs.Separated.{IsOwn}
use Rattle.ds_fabric.proofs.Dealing.{copied_more}
use Rattle.ds_fabric.specs.declared.history.History.{History}
use Rattle.ds_fabric.proofs.histories.Histories.copies.Goals as goal

pub own_words-requires : goal.own_words-requires
own_words-requires c = record {
  wide = c.requires.wide c.loop-i.i c.index-history.result.now
      (at_index c.args.self.now.nodes.items c.loop-i.i c.index-history.result.now
      (omega (arith, c.loop-i-test.true, c.len-i-end.ensures)) c.index-history.ensures);
}

pub loop-i-preserved : goal.loop-i-preserved
loop-i-preserved c = let ns : List History = c.loop-i.nodes.items in let inv = c.loop-i.invariant in
    let g : History = c.index-history.result.now in let e = c.in_ok-push.ensures in
    let h : History = record {
      node = g.node;
      fired = g.fired;
      stride = g.stride;
      first = 0;
      step = g.stride;
      own = c.in_ok-own.own;
    } in
    record {
      long = ap (λ (xs : List History). length xs) e.items
          ∙ omega (arith, length-append ns (h ∷ []), inv.long);
      each = copied_more c.args.limit c.loop-i.i c.args.self.now.together.items
          c.args.self.now.nodes.items ns c.push.new.self.items g h inv.long inv.each
          (at_index c.args.self.now.nodes.items c.loop-i.i g
          (omega (arith, c.loop-i-test.true, c.len-i-end.ensures)) c.index-history.ensures)
          (record {
            node = refl;
            fired = refl;
            stride = refl;
            first = refl;
            step = refl;
            own = subst (λ (ws : List ℕ). IsOwn c.args.limit g ws c.in_ok-own.own.items
                (vec_capacity c.in_ok-own.own)) c.as_slice.ensures.value c.in_ok-own.ensures;
          })
          e.items;
      room = omega (arith, inv.room, e.lower_bound);
    }
