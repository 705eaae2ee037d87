use Rattle.std.proofs.Common.{ℕ, ◌∷◌, [], arith, subst, refl}
use Rattle.ds_fabric.specs.Indexed.{IsIndexed}
use Rattle.ds_fabric.proofs.build.room_for.Goals as goal

pub returns : goal.returns
returns g c = record {
  nodes = c.in_ok-nodes.ensures.items;
  nodes_room = omega (arith, c.in_ok-nodes.ensures.capacity);
  places = λ h e. subst (λ (n : ℕ). IsIndexed n c.args.room 1 (h ∷ []) c.in_ok-places.places.items)
      c.nodes.ensures (c.in_ok-places.ensures h e);
  apart = refl;
  buffers = record {
    from = omega (arith, c.requires.reads, c.in_ok-from.ensures.capacity);
    told = omega (arith, c.stride_of.ensures, c.in_ok-told.ensures.capacity);
  };
}
