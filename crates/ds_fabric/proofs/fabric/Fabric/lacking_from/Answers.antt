use Rattle.std.proofs.Common.{◌≡◌, ◌<◌, ◌≤◌, ◌+◌, ℕ, ap, arith, get_or, le_refl, slice_index_or}
use Rattle.atomic_table.specs.Seated.{TableId}
use Rattle.ds_rule.specs.Run.{Run, events}
use Rattle.ds_rule.proofs.EventLaws.{events-is}
use Rattle.ds_fabric.specs.Base.{Base, IsOver}
use Rattle.ds_fabric.specs.Into.{AreInto}
use Rattle.ds_fabric.specs.declared.incoming.Incoming.{Incoming}
use Rattle.ds_fabric.proofs.IncomingArcs.{ends_read}
use Rattle.ds_fabric.proofs.fabric.Fabric.lacking_from.Given
use Rattle.ds_fabric.proofs.fabric.Fabric.lacking_from.Goals as goal
use Rattle.ds_fabric.proofs.fabric.Fabric.lacking_from.Goals.{After-self}

-- the event is one of the run
near : (g : Given.Over) (c : After-self g) → c.args.event < events c.self.inside.run.now
near g c = let (_, inside) = c.requires in omega (arith, inside, ap (λ (x : Base). events x.run) c.self.view_is)

pub index-start-requires : goal.index-start-requires
index-start-requires g c = let (_, _, incoming) = c.self.invariant in
    omega (arith, near g c, incoming.starts_long)

pub overflow_add-event : goal.overflow_add-event
overflow_add-event g c = let (built, _, _) = c.self.invariant in omega (
  arith,
  near g (goal.at.overflow_add-event g c).After-self,
  events-is c.self.inside.run.now,
  built.over.sound.few,
)

pub index-end-requires : goal.index-end-requires
index-end-requires g c = let (_, _, incoming) = c.self.invariant in
    omega (arith, near g (goal.at.index-end-requires g c).After-self, incoming.starts_long)

pub place_in-middle-requires : goal.place_in-middle-requires
place_in-middle-requires g c = let (_, _, incoming) = c.self.invariant in
    (ends_read c.self.inside.run.now c.args.event c.index-start.result.now c.index-end.result.now
    c.self.inside.incoming.starts.items c.self.inside.incoming.numbers.items
    c.self.inside.incoming.arcs.items
    (near g (goal.at.place_in-middle-requires g c).After-self) incoming
    c.index-start.ensures c.index-end.ensures).2

-- what looks between two places of the part of an event ask
asked : (run : Run) (x : Incoming) (id : TableId) (key : Run) (event a b first end : ℕ)
    → IsOver id key run → AreInto run x → event < events run
    → a ≡ slice_index_or x.starts.items event a → b ≡ slice_index_or x.starts.items (event + 1) b
    → a ≤ first → end ≤ b
    → (r : Run) × (e : ℕ) × IsOver id key r × AreInto r x × (e < events r)
    × (get_or x.starts.items e 0 ≤ first) × (end ≤ get_or x.starts.items (e + 1) 0)
asked run x id key event a b first end over into near a-is b-is from to =
    let e = ends_read run event a b x.starts.items x.numbers.items x.arcs.items near into a-is b-is in
    (run, event, over, into, near, omega (arith, e.0, from), omega (arith, e.1, to))

pub lacking_between-ahead-requires-clause-inside : goal.lacking_between-ahead-requires-clause-inside
lacking_between-ahead-requires-clause-inside g c = let (built, _, incoming) = c.self.invariant in let (from, _) = c.place_in-middle.ensures in
    asked c.self.inside.run.now c.self.inside.incoming _ _ c.args.event c.index-start.result.now
    c.index-end.result.now _ _ built.over incoming
    (near g (goal.at.lacking_between-ahead-requires-clause-inside g c).After-self)
    c.index-start.ensures c.index-end.ensures from (le_refl _)

pub lacking_between-ahead-requires-clause-few : goal.lacking_between-ahead-requires-clause-few
lacking_between-ahead-requires-clause-few g c = let (few, _) = c.requires in few

pub lacking_between-found-requires-clause-inside : goal.lacking_between-found-requires-clause-inside
lacking_between-found-requires-clause-inside g c = let (built, _, incoming) = c.self.invariant in let (_, to) = c.place_in-middle.ensures in
    asked c.self.inside.run.now c.self.inside.incoming _ _ c.args.event c.index-start.result.now
    c.index-end.result.now _ _ built.over incoming
    (near g (goal.at.lacking_between-found-requires-clause-inside g c).After-self)
    c.index-start.ensures c.index-end.ensures (le_refl _) to

pub lacking_between-found-requires-clause-few : goal.lacking_between-found-requires-clause-few
lacking_between-found-requires-clause-few g c = let (few, _) = c.requires in few
