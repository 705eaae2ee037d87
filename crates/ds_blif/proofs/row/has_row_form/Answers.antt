use Rattle.std.proofs.Common.{◌≡◌, ◌∙◌, ◌==◌, ℕ, List, length, ap, sym, arith}
use Rattle.std.specs.List.{list_all}
use Rattle.std.proofs.lemmas.Bool.{both_ways, eqb-true, ne_eqb}
use Rattle.ds_lines.specs.Words.{texts}
use Rattle.ds_blif.specs.Form.{is_plane_byte}
use Rattle.ds_blif.proofs.Forms.{count, row_output, row_none, row_plane}
use Rattle.ds_blif.proofs.Forms.{row_few, row_narrow, row_wild}
use Rattle.ds_blif.proofs.row.has_row_form.Goals.{then-words-eq2, else-words-eq2}
use Rattle.ds_blif.proofs.row.has_row_form.Goals.{then-word-width, else-word-width}
use Rattle.ds_blif.proofs.row.has_row_form.Goals as goal

pub word-requires : goal.word-requires
word-requires c = omega (arith, c.if-words-eq1.true)

pub word-requires-then-words-eq2 : goal.word-requires-then-words-eq2
word-requires-then-words-eq2 c = omega (arith, c.if-words-eq2.true)

pub word-requires-then-word-width : goal.word-requires-then-word-width
word-requires-then-word-width c = elim c.if-words-eq2.branch [
  | then-words-eq2 two ↦ omega (arith, two.if-words-eq2.true)
  | else-words-eq2 other ↦ omega (
    arith,
    eqb-true (length c.args.words.now) 2 (sym other.value-is ∙ c.if-word-width.true),
  )
]

pub word-requires-then-is_plane : goal.word-requires-then-is_plane
word-requires-then-is_plane c = elim c.if-word-width.branch [
  | then-word-width wide ↦ elim c.if-words-eq2.branch [
    | then-words-eq2 two ↦ omega (arith, two.if-words-eq2.true)
    | else-words-eq2 other ↦ omega (
      arith,
      eqb-true (length c.args.words.now) 2 (sym other.value-is ∙ wide.if-word-width.true),
    )
  ]
  | else-word-width narrow ↦ absurd (both_ways c.if-word-width.value
      (narrow.value-is ∙ narrow.if-word-width.false) c.if-is_plane.true)
]

pub returns-then-words-eq1 : goal.returns-then-words-eq1
returns-then-words-eq1 c =
    let long : length (texts c.args.words.now) ≡ length c.args.words.now = count c.args.words.now in
    row_output c.args.width (texts c.args.words.now) c.word.result.now c.is_output.result
    c.if-width-eq0.true (omega (arith, c.if-words-eq1.true)) c.word.ensures c.is_output.ensures

pub returns-else-words-eq1 : goal.returns-else-words-eq1
returns-else-words-eq1 c =
    let long : length (texts c.args.words.now) ≡ length c.args.words.now = count c.args.words.now in
    row_none c.args.width (texts c.args.words.now) _ c.if-width-eq0.true
    (λ e. absurd (omega (arith, c.if-words-eq1.false)))
    (ne_eqb (length c.args.words.now) 1 c.if-words-eq1.false)

pub returns-then-is_plane : goal.returns-then-is_plane
returns-then-is_plane c = elim c.if-word-width.branch [
  | then-word-width wide ↦ elim c.if-words-eq2.branch [
    | then-words-eq2 two ↦ row_plane c.args.width (texts c.args.words.now)
        c.word-then-is_plane.result.now c.is_output-then-is_plane.result c.if-width-eq0.false
        (count c.args.words.now ∙ two.if-words-eq2.true)
        (ap (λ (w : List ℕ). length w == c.args.width) (sym two.word-then-words-eq2.ensures)
        ∙ (sym two.value-is ∙ wide.if-word-width.true))
        (ap (list_all is_plane_byte) (sym wide.word-then-word-width.ensures)
        ∙ (sym wide.is_plane.ensures ∙ (sym wide.value-is ∙ c.if-is_plane.true)))
        c.word-then-is_plane.ensures c.is_output-then-is_plane.ensures
    | else-words-eq2 other ↦ absurd (other.if-words-eq2.false
        (eqb-true (length c.args.words.now) 2 (sym other.value-is ∙ wide.if-word-width.true)))
  ]
  | else-word-width narrow ↦ absurd (both_ways c.if-word-width.value
      (narrow.value-is ∙ narrow.if-word-width.false) c.if-is_plane.true)
]

pub returns-else-is_plane : goal.returns-else-is_plane
returns-else-is_plane c = c.if-is_plane.false ∙ elim c.if-word-width.branch [
  | then-word-width wide ↦ elim c.if-words-eq2.branch [
    | then-words-eq2 two ↦ row_wild c.args.width (texts c.args.words.now) c.if-width-eq0.false
        (count c.args.words.now ∙ two.if-words-eq2.true)
        (ap (λ (w : List ℕ). length w == c.args.width) (sym two.word-then-words-eq2.ensures)
        ∙ (sym two.value-is ∙ wide.if-word-width.true))
        (ap (list_all is_plane_byte) (sym wide.word-then-word-width.ensures)
        ∙ (sym wide.is_plane.ensures ∙ (sym wide.value-is ∙ c.if-is_plane.false)))
    | else-words-eq2 other ↦ absurd (other.if-words-eq2.false
        (eqb-true (length c.args.words.now) 2 (sym other.value-is ∙ wide.if-word-width.true)))
  ]
  | else-word-width narrow ↦ elim c.if-words-eq2.branch [
    | then-words-eq2 two ↦ row_narrow c.args.width (texts c.args.words.now) c.if-width-eq0.false
        (count c.args.words.now ∙ two.if-words-eq2.true)
        (ap (λ (w : List ℕ). length w == c.args.width) (sym two.word-then-words-eq2.ensures)
        ∙ (sym two.value-is ∙ narrow.if-word-width.false))
    | else-words-eq2 other ↦ row_few c.args.width (texts c.args.words.now) c.if-width-eq0.false
        (λ e. other.if-words-eq2.false (sym (count c.args.words.now) ∙ e))
  ]
]
