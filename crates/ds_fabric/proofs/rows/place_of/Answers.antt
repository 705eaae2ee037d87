use Rattle.std.proofs.Common.{◌≡◌, ◌+◌, ◌*◌, ◌%◌, ◌≤◌, ◌∙◌, ℕ, ap, arith, zero-mul}
use Rattle.ds_rule.specs.Run.{Run}
use Rattle.ds_rule.specs.Words.{place, size, width}
use Rattle.ds_rule.proofs.PlaceLaws.{place-turn, row_ends}
use Rattle.ds_fabric.proofs.rows.place_of.Given
use Rattle.ds_fabric.proofs.rows.place_of.Goals as goal
use Rattle.ds_fabric.proofs.rows.place_of.Goals.{After-width}

product : (run : Run) (t s w l : ℕ) → s ≡ run.slack → w ≡ width run l
    → t % (s + 1) * w ≡ t % (run.slack + 1) * width run l
product run t s w l p q = ap (λ (x : ℕ). t % (x + 1) * w) p
    ∙ ap (λ (y : ℕ). t % (run.slack + 1) * y) q

-- with no slack, one row of a node is kept
one_alone : (t s w : ℕ) → s ≡ 0 → t % (s + 1) * w ≡ 0
one_alone t s w none = let rest : t % (s + 1) ≡ 0 =
    ap (λ (x : ℕ). t % (x + 1)) none ∙ omega arith in
    ap (λ (x : ℕ). x * w) rest ∙ zero-mul w

-- where the row of the turn stands, which ends in the table
stands : (g : Given.Over) (c : After-width g)
    → (place c.args.run.now c.args.node c.args.turn 0 ≡ place c.args.run.now c.args.node 0 0
    + c.args.turn % (c.slack-slack.result + 1) * c.width.result)
    × (place c.args.run.now c.args.node c.args.turn 0 ≤ size c.args.run.now)
stands g c = let run : Run = c.args.run.now in let l : ℕ = c.args.node in
    let t : ℕ = c.args.turn in (
      omega (
        arith,
        product run t c.slack-slack.result c.width.result l c.slack-slack.ensures c.width.ensures,
        place-turn run l t,
      ),
      omega (arith, row_ends run l t c.requires.near),
    )

pub returns-then-slack-eq0 : goal.returns-then-slack-eq0
returns-then-slack-eq0 g c = let (_, (_, started)) = c.requires.sound in let run : Run = c.args.run.now in let l : ℕ = c.args.node in
    omega (
      arith,
      one_alone c.args.turn run.slack (width run l)
          (omega (arith, c.if-slack-eq0.true, c.slack-slack.ensures)),
      place-turn run l c.args.turn,
      started l c.requires.near,
    )

pub overflow_mul-result : goal.overflow_mul-result
overflow_mul-result g c = let (sound, _) = c.requires.sound in let s = stands g (goal.at.overflow_mul-result g c).After-width in
    omega (arith, s.0, s.1, sound.sized)

pub overflow_add-result : goal.overflow_add-result
overflow_add-result g c = let (sound, (_, started)) = c.requires.sound in let s = stands g (goal.at.overflow_add-result g c).After-width in
    let first = started c.args.node c.requires.near in
    omega (arith, s.0, s.1, sound.sized, first)

pub returns : goal.returns
returns g c = let (_, (_, started)) = c.requires.sound in let s = stands g (goal.at.returns g c).After-width in
    omega (arith, s.0, started c.args.node c.requires.near)
