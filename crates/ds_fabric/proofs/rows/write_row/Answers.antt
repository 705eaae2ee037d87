use Rattle.std.proofs.Common.{◌≡◌, ◌<◌, ◌+◌, ◌∙◌, ℕ, List, ap, arith, sym, subst, refl, slice_index}
use Rattle.std.proofs.Common.{length, get_or}
use mathlib.Core.Option.{none}
use Rattle.atomic_table.specs.Table.{step, Allows}
use Rattle.ds_rule.specs.Run.{Run}
use Rattle.ds_rule.specs.Words.{width}
use Rattle.ds_rule.specs.Rule.{Lawful}
use Rattle.ds_rule.specs.Rows.{row}
use Rattle.ds_rule.specs.Plays.{Sat, wrote}
use Rattle.ds_rule.specs.declared.view.View.{View}
use Rattle.ds_rule.proofs.ValueSteps.{writes}
use Rattle.ds_rule.proofs.RowLaws.{length-row, get-row, goes, value-own}
use Rattle.ds_rule.proofs.PlaceLaws.{row_ends}
use Rattle.ds_fabric.proofs.rows.write_row.Goals as goal

-- how many words there are
many : (run : Run) (l k : ℕ) (ws : List ℕ) → ws ≡ row run l k → length ws ≡ width run l
many run l k ws is = ap (λ (xs : List ℕ). length xs) is ∙ length-row run l k

pub loop-i-init : goal.loop-i-init
loop-i-init g c = let (_, unwritten) = c.requires.flight in record {
  table = refl;
  id = refl;
  me = ap (λ (w : ℕ). (record c.args.seat.now.me.0 { written = w }, c.args.seat.now.me.1)) unwritten;
}

pub overflow_add-at : goal.overflow_add-at
overflow_add-at g c = let q = c.args.context.now.built.over in let (o, _) = c.requires.flight in
    let run : Run = c.args.context.now.run.now in
    omega (
      arith,
      row_ends run c.args.node c.args.turn o.near,
      c.place_of-at.ensures,
      q.sound.sized,
      c.loop-i-test.true,
      many run c.args.node c.args.turn c.args.words.now c.requires.words,
    )

pub store-requires : goal.store-requires
store-requires g c = let q = c.args.context.now.built.over in let (o, _) = c.requires.flight in
    let run : Run = c.args.context.now.run.now in let n : ℕ = c.args.context.now.board.now.table_id.slots in
    let i : ℕ = c.loop-i.i in let j : ℕ = c.place_of-at.result + i in
    let new : ℕ = slice_index c.args.words.now i in let v : View = c.args.seat.now.me.0 in
    let wide = many run c.args.node c.args.turn c.args.words.now c.requires.words in
    let small : i < width run c.args.node = omega (arith, wide, c.loop-i-test.true) in
    let P : Run → Sat → Type 0 = λ r m. Allows (Lawful r) n c.loop-i.seat.id m j (λ _. new)
    (λ _. wrote (step n j new 0 none) m new) in (
      c.loop-i.invariant.table ∙ c.requires.table,
      omega (arith, row_ends run c.args.node c.args.turn o.near, c.place_of-at.ensures, q.sized),
      subst (λ r. P r c.loop-i.seat.me) (sym q.keyed) (subst (P run) (sym c.loop-i.invariant.me)
          (writes run n c.loop-i.seat.id (
            record v { written = i },
            c.args.seat.now.me.1,
          ) j new o.live (omega (arith, o.phase)) o.begins
          (omega (arith, ap (width run) o.node_is))
          (goes run v c.args.node c.args.turn o c.place_of-at.result i c.place_of-at.ensures)
          (ap (λ (ws : List ℕ). get_or ws i 0) c.requires.words
          ∙ (get-row run c.args.node c.args.turn i small
          ∙ value-own run v c.args.node c.args.turn o i)))),
    )

pub loop-i-preserved : goal.loop-i-preserved
loop-i-preserved g c = let inv = c.loop-i.invariant in let e = c.store.ensures in record {
  table = e.0 ∙ inv.table;
  id = e.1 ∙ inv.id;
  me = e.2 ∙ ap (λ (m : Sat). (record m.0 { written = m.0.written + 1 }, m.1)) inv.me;
}

pub returns-clause-me : goal.returns-clause-me
returns-clause-me g c = let wide =
    many c.args.context.now.run.now c.args.node c.args.turn c.args.words.now c.requires.words in
    let e : c.loop-i.i ≡ width c.args.context.now.run.now c.args.node =
    omega (arith, c.loop-i-test.false, c.loop-i.auto.i-end) in
    c.loop-i.invariant.me ∙ ap (λ (w : ℕ). (
      record c.args.seat.now.me.0 { written = w },
      c.args.seat.now.me.1,
    )) e
