use Rattle.std.proofs.Common.{◌≡◌, ◌∙◌, ℕ, Vec, Global, true, false, ◌++◌, ◌∷◌, [], get_or, ap, sym}
use Rattle.std.proofs.lemmas.Bool.{false≢true}
use Rattle.std.proofs.lemmas.List.{get_or_default}
use Rattle.ds_base.specs.declared.number.EventId.{EventId}
use Rattle.ds_rows.proofs.FirstPlaces.{firsts_more}
use Rattle.ds_rows.proofs.lookup.Lookup.of.Goals.{then-is_new+in_ok-push, else-is_new}
use Rattle.ds_rows.proofs.lookup.Lookup.of.Goals as goal

pub loop-i-preserved : goal.loop-i-preserved
loop-i-preserved c =
    let text : c.as_slice.result.now ≡ get_or c.args.texts.now c.loop-i.i [] =
    c.as_slice.ensures ∙ (c.index-texts-i.is ∙ get_or_default c.args.texts.now c.loop-i.i c.index-texts-i.result [] c.loop-i-test.true) in
    let pushed : c.in_ok-is_new.is_new ≡ true → c.if-is_new.firsts.items ≡ c.loop-i.firsts.items ++ c.loop-i.i ∷ [] = λ e.
    elim c.if-is_new.branch [
      | then-is_new+in_ok-push w ↦ ap (λ (v : Vec EventId Global). v.items) w.firsts-is ∙ (w.in_ok-push.ensures.items ∙ ap (λ (k : ℕ). c.loop-i.firsts.items ++ k ∷ []) w.new.ensures)
      | else-is_new w ↦ absurd (false≢true (sym w.if-is_new.false ∙ e))
    ] in
    let kept : c.in_ok-is_new.is_new ≡ false → c.if-is_new.firsts.items ≡ c.loop-i.firsts.items = λ e.
    elim c.if-is_new.branch [
      | then-is_new+in_ok-push w ↦ absurd (false≢true (sym e ∙ w.if-is_new.true))
      | else-is_new w ↦ ap (λ (v : Vec EventId Global). v.items) w.firsts-is
    ] in
    firsts_more c.args.texts.now c.loop-i.names c.insert.new.self c.loop-i.firsts.items c.if-is_new.firsts.items c.as_slice.result.now c.loop-i.i c.in_ok-is_new.is_new c.loop-i-test.true text c.loop-i.invariant c.in_ok-is_new.ensures.ok c.in_ok-is_new.ensures.added pushed kept
