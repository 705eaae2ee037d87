use Rattle.std.proofs.Common.{◌≡◌, ◌<◌, ◌+◌, ◌-◌, ◌++◌, ◌∷◌, [], ◌∙◌, ℕ, List, ap, arith, sym}
use Rattle.std.proofs.Common.{subst, refl, length, length-append}
use Rattle.std.proofs.lemmas.List.{append_assoc}
use mathlib.Core.Option.{none, some}
use lib.ListN.{get_elem?}
use Rattle.atomic_table.specs.Table.{step, Allows}
use Rattle.ds_rule.specs.Run.{Run, opened}
use Rattle.ds_rule.specs.Words.{width, place, value}
use Rattle.ds_rule.specs.Sound.{IsSound}
use Rattle.ds_rule.specs.Rule.{Lawful, seen}
use Rattle.ds_rule.specs.Plays.{Sat, read, listed}
use Rattle.ds_rule.specs.declared.table_run.DataEdge.{DataEdge}
use Rattle.ds_rule.proofs.ValueSteps.{reads}
use Rattle.ds_rule.proofs.GetElemLemmas.{length-listed}
use Rattle.ds_rule.proofs.RowLaws.{listed-next, told}
use Rattle.ds_rule.proofs.PlaceLaws.{place-word, row_ends}
use Rattle.ds_fabric.proofs.rows.read_row.Given
use Rattle.ds_fabric.proofs.rows.read_row.Goals as goal
use Rattle.ds_fabric.proofs.rows.read_row.Goals.{After-place_of-at}

-- the producer of an edge is a node
producer_near : (run : Run) (sound : IsSound run) (e : DataEdge)
    → (k : ℕ) × (get_elem? run.edges k ≡ some e) → e.producer < run.nodes
producer_near run sound e h = omega (arith, (sound.orders h.0 e h.1).from, sound.among)

-- where the row stands
at_is : (g : Given.Over) (c : After-place_of-at g)
    → c.place_of-at.result ≡ place c.args.context.now.run.now c.args.edge.producer
    (c.args.turn - c.args.edge.tokens) 0
at_is g c = c.place_of-at.ensures ∙ ap (λ (p : ℕ). place c.args.context.now.run.now p
    (c.args.turn - c.args.edge.tokens) 0) c.index-producer.ensures

pub overflow_sub-before : goal.overflow_sub-before
overflow_sub-before g c = let (opening, _) = c.requires.flight in let h = c.requires.edge in
    let d = c.args.context.now.built.over.sound.orders h.0 c.args.edge h.1 in
    omega (arith, d.tokens_few, opening.number)

pub place_of-at-requires-clause-near : goal.place_of-at-requires-clause-near
place_of-at-requires-clause-near g c = let q = c.args.context.now.built.over in
    omega (
      arith,
      producer_near c.args.context.now.run.now q.sound c.args.edge c.requires.edge,
      c.index-producer.ensures,
    )

pub width-i-end-requires : goal.width-i-end-requires
width-i-end-requires g c = let q = c.args.context.now.built.over in let h = c.requires.edge in
    omega (
      arith,
      producer_near c.args.context.now.run.now q.sound c.args.edge h,
      q.sound.rows_of_all,
      c.index-producer.ensures,
    )

pub overflow_add-at : goal.overflow_add-at
overflow_add-at g c = let q = c.args.context.now.built.over in let h = c.requires.edge in
    let run : Run = c.args.context.now.run.now in
    omega (
      arith,
      row_ends run c.args.edge.producer (c.args.turn - c.args.edge.tokens)
          (producer_near run q.sound c.args.edge h),
      at_is g (goal.at.overflow_add-at g c).After-place_of-at,
      q.sound.sized,
      c.loop-i-test.true,
      c.loop-i.auto.i-end,
      (c.width-i-end.ensures
          ∙ ap (width c.args.context.now.run.now) c.index-producer.ensures),
    )

pub load-requires : goal.load-requires
load-requires g c = let (o, _) = c.requires.flight in let q = c.args.context.now.built.over in let run : Run = c.args.context.now.run.now in
    let n : ℕ = c.args.context.now.board.now.table_id.slots in let j : ℕ = c.place_of-at.result + c.loop-i.i in
    let h = c.requires.edge in
    let P : Run → Sat → Type 0 = λ r m. Allows (Lawful r) n c.loop-i.seat.id m j (λ y. y)
    (read (step n j 0 0 none) m) in (
      c.loop-i.invariant.table ∙ c.requires.table,
      omega (
        arith,
        row_ends run c.args.edge.producer (c.args.turn - c.args.edge.tokens)
            (producer_near run q.sound c.args.edge h),
        at_is g (goal.at.load-requires g c).After-place_of-at,
        q.sized,
        c.loop-i-test.true,
        c.loop-i.auto.i-end,
        (c.width-i-end.ensures
            ∙ ap (width c.args.context.now.run.now) c.index-producer.ensures),
      ),
      subst (λ r. P r c.loop-i.seat.me) (sym q.keyed) (subst (P run) (sym c.loop-i.invariant.me)
          (reads run n c.loop-i.seat.id c.args.seat.now.me j o.live
          (omega (arith, o.phase)) o.begins)),
    )

pub push_reserved-requires : goal.push_reserved-requires
push_reserved-requires g c = omega (arith, c.requires.room)

pub loop-i-init : goal.loop-i-init
loop-i-init g c = record {
  table = refl;
  id = refl;
  me = refl;
  items = c.push_reserved.ensures.items
      ∙ ap (λ (x : ℕ). c.args.into.now.items ++ x ∷ []) c.index-producer.ensures;
  room = c.push_reserved.ensures.capacity;
}

pub push_reserved-requires-in-loop-i : goal.push_reserved-requires-in-loop-i
push_reserved-requires-in-loop-i g c = let inv = c.loop-i.invariant in
    let f : ℕ → ℕ = value c.args.context.now.run.now c.args.edge.producer
    (c.args.turn - c.args.edge.tokens) in
    omega (
      arith,
      ap length inv.items,
      length-append c.args.into.now.items (c.args.edge.producer ∷ listed f c.loop-i.i),
      length-listed f c.loop-i.i,
      inv.room,
      c.requires.room,
      c.loop-i-test.true,
      c.loop-i.auto.i-end,
      (c.width-i-end.ensures ∙ ap (width c.args.context.now.run.now) c.index-producer.ensures),
    )

pub loop-i-preserved : goal.loop-i-preserved
loop-i-preserved g c = let (o, away) = c.requires.flight in let inv = c.loop-i.invariant in let e = c.load.ensures in
    let run : Run = c.args.context.now.run.now in let h = c.requires.edge in
    let k : ℕ = c.args.turn - c.args.edge.tokens in
    let f : ℕ → ℕ = value run c.args.edge.producer k in let i : ℕ = c.loop-i.i in
    let r : ℕ = c.load.result in let p : ℕ = c.args.edge.producer in let j : ℕ = c.place_of-at.result + i in
    let T : Sat → Type 0 = λ m. (n : ℕ) (e : DataEdge) (i : ℕ) → get_elem? m.0.run.edges n ≡ some e
    → e.consumer ≡ m.0.node → i < width m.0.run e.producer
    → j ≡ place m.0.run e.producer (opened m.0.run m.0.node (seen m.0 m.0.node) + 1 - e.tokens) i
    → r ≡ value m.0.run e.producer (opened m.0.run m.0.node (seen m.0 m.0.node) + 1 - e.tokens) i in
    let fact : T c.args.seat.now.me = subst T inv.me e.2.1 in
    let is : r ≡ f i = told run c.args.seat.now.me.0 c.args.edge.consumer c.args.turn o away j r fact h.0 c.args.edge i h.1 refl
    (omega (
      arith,
      c.loop-i-test.true,
      c.loop-i.auto.i-end,
      (c.width-i-end.ensures ∙ ap (width c.args.context.now.run.now) c.index-producer.ensures),
    ))
    (omega (arith, at_is g (goal.at.loop-i-preserved g c).After-place_of-at, place-word run c.args.edge.producer k i)) in record {
      table = e.0 ∙ inv.table;
      id = e.1 ∙ inv.id;
      me = e.2.0 ∙ inv.me;
      items = c.push_reserved-in-loop-i.ensures.items ∙ (ap (λ (xs : List ℕ). xs ++ r ∷ []) inv.items
          ∙ (append_assoc c.args.into.now.items (p ∷ listed f i) (r ∷ [])
          ∙ ap (λ (xs : List ℕ). c.args.into.now.items
          ++ p ∷ xs) (ap (λ (x : ℕ). listed f i ++ x ∷ []) is ∙ sym (listed-next f i))));
      room = c.push_reserved-in-loop-i.ensures.capacity ∙ inv.room;
    }

pub returns-clause-value : goal.returns-clause-value
returns-clause-value g c = let p : ℕ = c.args.edge.producer in
    let f : ℕ → ℕ = value c.args.context.now.run.now p (c.args.turn - c.args.edge.tokens) in
    let end : c.loop-i.i ≡ width c.args.context.now.run.now p = omega (
      arith,
      c.loop-i-test.false,
      c.loop-i.auto.i-end,
      (c.width-i-end.ensures ∙ ap (width c.args.context.now.run.now) c.index-producer.ensures),
    ) in
    c.loop-i.invariant.items ∙ ap (λ (n : ℕ). c.args.into.now.items ++ p ∷ listed f n) end
