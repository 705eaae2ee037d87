use Rattle.std.proofs.Common.{◌≡◌, ◌<◌, ◌≤◌, ◌+◌, ◌-◌, ◌++◌, ◌∷◌, ◌∙◌, ℕ, List, ap, arith, sym, subst, length}
use Rattle.std.proofs.Common.{slice_index_or, vec_capacity, length-append, refl, Bool, true, false}
use Rattle.ds_rule.specs.Run.{Run}
use Rattle.ds_rule.specs.Plays.{Sat}
use Rattle.ds_rule.specs.Rows.{row, supply_but, IsOpening}
use Rattle.ds_rule.specs.declared.table_run.DataEdge.{DataEdge}
use Rattle.ds_rule.proofs.RowLaws.{reads_up, length-row, length-supply_but}
use Rattle.ds_fabric.proofs.EdgeRanges.{from_read, in_order, edge_of, grows, passes, before_range}
use Rattle.ds_fabric.proofs.EdgeRanges.{behind_range, EdgeOf}
use Rattle.ds_fabric.proofs.rows.read_rows.Given
use Rattle.ds_fabric.proofs.rows.read_rows.Goals as goal
use Rattle.ds_fabric.proofs.rows.read_rows.Goals.{After-index-edges-i}

-- the edge that is read is one of the node
edge_is : (g : Given.Over) (c : After-index-edges-i g)
    → EdgeOf c.args.context.now.run.now c.args.node c.loop-i.i c.index-edges-i.result
edge_is g c = let (o, _) = c.requires.flight in edge_of c.args.context.now.run.now c.args.context.now.index.now.firsts.items
    c.edges-edges.result.now c.args.node c.index-first.result.now c.index-end.result.now c.loop-i.i
    c.index-edges-i.result c.args.context.now.built.ranged o.near
    c.index-first.ensures c.index-end.ensures c.edges-edges.ensures c.loop-i.invariant.from
    c.loop-i-test.true c.index-edges-i.is

pub index-first-requires : goal.index-first-requires
index-first-requires g c = let (o, _) = c.requires.flight in let q = c.args.context.now.built.ranged in
    omega (arith, q.long, o.near)

pub overflow_add-node : goal.overflow_add-node
overflow_add-node g c = let (o, _) = c.requires.flight in omega (arith, o.near, c.args.context.now.built.over.sound.few)

pub index-end-requires : goal.index-end-requires
index-end-requires g c = let (o, _) = c.requires.flight in let q = c.args.context.now.built.ranged in
    omega (arith, q.long, o.near)

pub loop-i-init : goal.loop-i-init
loop-i-init g c = let run : Run = c.args.context.now.run.now in let q = c.args.context.now.built in
    let (o, _) = c.requires.flight in let (no_item, _) = c.requires.room in let l : ℕ = c.args.node in
    let k : ℕ = c.args.learnt.now.turn in
    let learnt : ℕ → Bool = λ p. g.C.Compute.has_learnt c.args.context.now.openings.now
    c.args.learnt.now.scratch.now p k in
    let p = from_read run c.args.context.now.index.now.firsts.items l c.index-first.result.now q.ranged (omega (arith, o.near)) c.index-first.ensures in record {
      table = refl;
      id = refl;
      me = refl;
      items = no_item ∙ sym (before_range run learnt l k c.index-first.result.now p);
      room = refl;
      from = Rattle.std.proofs.Common.le_refl _;
    }

pub bounds-edges-i : goal.bounds-edges-i
bounds-edges-i g c = let (o, _) = c.requires.flight in let run : Run = c.args.context.now.run.now in
    let end = from_read run c.args.context.now.index.now.firsts.items (c.args.node + 1)
    c.index-end.result.now c.args.context.now.built.ranged (omega (arith, o.near))
    c.index-end.ensures in
    omega (
      arith,
      end.near,
      c.loop-i-test.true,
      ap (λ (xs : List DataEdge). length xs) c.edges-edges.ensures,
    )

pub has_learnt-requires-clause-producer : goal.has_learnt-requires-clause-producer
has_learnt-requires-clause-producer g c =
    let h = edge_is g (goal.at.has_learnt-requires-clause-producer g c).After-index-edges-i in
    let d = c.args.context.now.built.over.sound.orders c.loop-i.i c.index-edges-i.result h.at in
    omega (arith, d.from, ap (λ (x : Run). x.design_nodes) c.args.context.now.computes)

pub read_row-requires-clause-table : goal.read_row-requires-clause-table
read_row-requires-clause-table g c = c.loop-i.invariant.table ∙ c.requires.table

pub read_row-requires-clause-flight : goal.read_row-requires-clause-flight
read_row-requires-clause-flight g c = let run : Run = c.args.context.now.run.now in
    let h = edge_is g (goal.at.read_row-requires-clause-flight g c).After-index-edges-i in
    let P : Sat → ℕ → Type 0 = λ m l. IsOpening run m.0 l c.args.learnt.now.turn
    × (m.0.run ≡ run) in
    subst (λ (m : Sat). P m c.index-edges-i.result.consumer) (sym c.loop-i.invariant.me)
    (subst (P c.args.seat.now.me) (sym h.into) c.requires.flight)

pub read_row-requires-clause-edge : goal.read_row-requires-clause-edge
read_row-requires-clause-edge g c =
    let h = edge_is g (goal.at.read_row-requires-clause-edge g c).After-index-edges-i in
    (c.loop-i.i, h.at)

pub read_row-requires-clause-room : goal.read_row-requires-clause-room
read_row-requires-clause-room g c = let (_, room) = c.requires.room in let run : Run = c.args.context.now.run.now in
    let h = edge_is g (goal.at.read_row-requires-clause-room g c).After-index-edges-i in
    let inv = c.loop-i.invariant in let i : ℕ = c.loop-i.i in
    let l : ℕ = c.args.node in let k : ℕ = c.args.learnt.now.turn in
    let e : DataEdge = c.index-edges-i.result in
    let learnt : ℕ → Bool = λ p. g.C.Compute.has_learnt c.args.context.now.openings.now
    c.args.learnt.now.scratch.now p k in
    let more = grows run learnt l k i e h (sym c.if-has_learnt.ensures) in
    omega (
      arith,
      ap (λ (xs : List ℕ). length xs) inv.items,
      ap (λ (xs : List ℕ). length xs) more,
      length-append (supply_but run learnt l k i) (e.producer ∷ row run e.producer (k - e.tokens)),
      length-row run e.producer (k - e.tokens),
      length-supply_but run learnt l k (i + 1),
      reads_up run l (i + 1) (length run.edges) (omega (arith, h.near)),
      inv.room,
      room,
    )

pub loop-i-preserved : goal.loop-i-preserved
loop-i-preserved g c = let run : Run = c.args.context.now.run.now in
    let h = edge_is g (goal.at.loop-i-preserved g c).After-index-edges-i in
    let l : ℕ = c.args.node in let k : ℕ = c.args.learnt.now.turn in let i : ℕ = c.loop-i.i in
    let e : DataEdge = c.index-edges-i.result in let inv = c.loop-i.invariant in
    let learnt : ℕ → Bool = λ p. g.C.Compute.has_learnt c.args.context.now.openings.now
    c.args.learnt.now.scratch.now p k in
    let r = c.read_row.ensures in record {
      table = r.seat.0 ∙ inv.table;
      id = r.seat.1 ∙ inv.id;
      me = r.seat.2 ∙ inv.me;
      items = r.value ∙ (ap (λ (xs : List ℕ). xs ++ e.producer ∷ row run e.producer (k - e.tokens)) inv.items
          ∙ sym (grows run learnt l k i e h (sym c.if-has_learnt.ensures)));
      room = r.room ∙ inv.room;
      from = omega (arith, inv.from);
    }

pub loop-i-preserved-then-has_learnt : goal.loop-i-preserved-then-has_learnt
loop-i-preserved-then-has_learnt g c =
    let h = edge_is g (goal.at.loop-i-preserved-then-has_learnt g c).After-index-edges-i in
    let inv = c.loop-i.invariant in let k : ℕ = c.args.learnt.now.turn in
    let learnt : ℕ → Bool = λ p. g.C.Compute.has_learnt c.args.context.now.openings.now
    c.args.learnt.now.scratch.now p k in record {
      table = inv.table;
      id = inv.id;
      me = inv.me;
      items = inv.items ∙ sym (passes c.args.context.now.run.now learnt c.args.node k c.loop-i.i
          c.index-edges-i.result h (sym c.if-has_learnt.ensures));
      room = inv.room;
      from = omega (arith, inv.from);
    }

pub returns-clause-seat : goal.returns-clause-seat
returns-clause-seat g c = let inv = c.loop-i.invariant in (inv.table, inv.id, inv.me)

pub returns-clause-room : goal.returns-clause-room
returns-clause-room g c = c.loop-i.invariant.room

pub returns-clause-value : goal.returns-clause-value
returns-clause-value g c = let run : Run = c.args.context.now.run.now in let q = c.args.context.now.built in
    let (o, _) = c.requires.flight in let l : ℕ = c.args.node in
    let k : ℕ = c.args.learnt.now.turn in
    let learnt : ℕ → Bool = λ p. g.C.Compute.has_learnt c.args.context.now.openings.now
    c.args.learnt.now.scratch.now p k in
    let from = from_read run c.args.context.now.index.now.firsts.items l c.index-first.result.now q.ranged
    (omega (arith, o.near)) c.index-first.ensures in
    let to = from_read run c.args.context.now.index.now.firsts.items (l + 1) c.index-end.result.now q.ranged
    (omega (arith, o.near)) c.index-end.ensures in
    let e : c.loop-i.i ≡ c.index-end.result.now =
    omega (
      arith,
      c.loop-i-test.false,
      c.loop-i.auto.i-end,
      c.loop-i.invariant.from,
      in_order run l c.index-first.result.now c.index-end.result.now from to,
    ) in
    c.loop-i.invariant.items ∙ (ap (supply_but run learnt l k) e
    ∙ sym (behind_range run learnt l k c.index-end.result.now to))
