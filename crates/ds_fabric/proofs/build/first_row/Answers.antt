use Rattle.std.proofs.Common.{◌≡◌, ◌+◌, ◌++◌, ◌∷◌, [], ◌∙◌, ℕ, List, ap, arith, sym}
use Rattle.std.proofs.lemmas.List.{append_assoc, append-nil}
use Rattle.ds_rule.specs.Run.{Run}
use Rattle.ds_rule.specs.Plays.{listed}
use Rattle.ds_rule.specs.Words.{value, width}
use Rattle.ds_rule.proofs.RowLaws.{listed-next}
use Rattle.ds_fabric.proofs.build.first_row.Goals as goal

pub loop-i-init : goal.loop-i-init
loop-i-init g c = sym (append-nil c.args.words.now.items)

pub first-requires-clause-node : goal.first-requires-clause-node
first-requires-clause-node g c = let (node, _) = c.requires.near in omega (arith, c.new.ensures, node)

pub first-requires-clause-word : goal.first-requires-clause-word
first-requires-clause-word g c =
    let run : Run = g.C.Compute.run c.args.openings.now in omega (
      arith,
      c.loop-i-test.true,
      c.requires.count,
      ap (λ (l : ℕ). width run l) c.new.ensures,
    )

-- one word more
one_more : (f : ℕ → ℕ) (old xs ys : List ℕ) (i y : ℕ) → xs ≡ old ++ listed f i → y ≡ f i
    → ys ≡ xs ++ y ∷ [] → ys ≡ old ++ listed f (i + 1)
one_more f old xs ys i y q e more =
    more ∙ (ap (λ (zs : List ℕ). zs ++ y ∷ []) q ∙ (append_assoc old (listed f i) (y ∷ [])
    ∙ ap (λ (zs : List ℕ). old ++ zs)
    (ap (λ (x : ℕ). listed f i ++ x ∷ []) e ∙ sym (listed-next f i))))

pub loop-i-preserved : goal.loop-i-preserved
loop-i-preserved g c =
    let run : Run = g.C.Compute.run c.args.openings.now in
    one_more (value run c.args.node 0) c.args.words.now.items c.loop-i.words.items
    c.push.new.self.items c.loop-i.i c.first.result c.loop-i.invariant
    (c.first.ensures ∙ ap (λ (l : ℕ). value run l 0 c.loop-i.i) c.new.ensures)
    c.in_ok-push.ensures.items

pub returns : goal.returns
returns g c =
    let run : Run = g.C.Compute.run c.args.openings.now in
    let end : c.loop-i.i ≡ width run c.args.node =
    omega (arith, c.loop-i-test.false, c.loop-i.auto.i-end, c.requires.count) in
    c.loop-i.invariant
    ∙ ap (λ (n : ℕ). c.args.words.now.items ++ listed (value run c.args.node 0) n) end
