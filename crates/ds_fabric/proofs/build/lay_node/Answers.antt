use Rattle.std.proofs.Common.{◌≡◌, ◌+◌, ◌++◌, ◌*◌, ◌∙◌, ℕ, List, ap, arith, sym, replicate}
use Rattle.ds_rule.specs.Run.{Run}
use Rattle.ds_rule.specs.Words.{width}
use Rattle.ds_rule.specs.Rows.{row}
use Rattle.ds_rule.proofs.PlaceLaws.{start-words, start_inside}
use Rattle.ds_fabric.proofs.build.lay_node.Goals as goal

pub first_row-requires-clause-near : goal.first_row-requires-clause-near
first_row-requires-clause-near g c = (
  omega (arith, c.requires.near, ap (λ (r : Run). r.nodes) c.requires.openings),
  omega (arith, c.requires.near, c.requires.sound.few),
)

pub first_row-requires-clause-count : goal.first_row-requires-clause-count
first_row-requires-clause-count g c = c.width-width.ensures
    ∙ ap (λ (r : Run). width r c.args.node) (sym c.requires.openings)

size-of : (run : Run) (s w l : ℕ) → s ≡ run.slack → w ≡ width run l
    → s * w ≡ run.slack * width run l
size-of run s w l p q = ap (λ (x : ℕ). x * w) p ∙ ap (λ (x : ℕ). run.slack * x) q

pub overflow_mul-slack : goal.overflow_mul-slack
overflow_mul-slack g c = let run : Run = c.args.run.now in let n : ℕ = c.args.node in
    let q = c.requires.sound in
    omega (
      arith,
      size-of run c.slack.result c.width-width.result n c.slack.ensures c.width-width.ensures,
      start-words run n (omega (arith, c.requires.near, q.rows_of_all)),
      start_inside run (n + 1) (omega (arith, c.requires.near)),
      q.sized,
    )

pub returns : goal.returns
returns g c = let run : Run = c.args.run.now in let n : ℕ = c.args.node in
    let words : List ℕ = c.args.words.now.items in c.in_ok-pad.ensures
    ∙ (ap (λ (xs : List ℕ). xs ++ replicate (c.slack.result * c.width-width.result) 0)
    (c.in_ok-first_row.ensures ∙ ap (λ (r : Run). words ++ row r n 0) c.requires.openings)
    ∙ ap (λ (k : ℕ). (words ++ row run n 0) ++ replicate k 0)
    (size-of run c.slack.result c.width-width.result n c.slack.ensures c.width-width.ensures))
