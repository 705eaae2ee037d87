use Rattle.std.proofs.Common.{◌++◌, ◌∷◌, [], ◌∙◌, ℕ, List, ap}
use Rattle.ds_fabric.proofs.IncomingArcs.{into_none}
use Rattle.ds_fabric.proofs.incoming.Incoming.room.Goals as goal

pub returns : goal.returns
returns g c =
    into_none c.args.run.now c.push_reserved.new.self.items c.in_ok-numbers.numbers.items
    c.in_ok-arcs.arcs.items (c.push_reserved.ensures.items
    ∙ ap (λ (xs : List ℕ). xs ++ 0 ∷ []) c.in_ok-starts.ensures.items)
    c.in_ok-numbers.ensures.items c.in_ok-arcs.ensures.items
