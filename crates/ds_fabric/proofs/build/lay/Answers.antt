use Rattle.std.proofs.Common.{◌≡◌, ◌<◌, ◌+◌, ◌++◌, ◌∷◌, [], ℕ, ap, arith, sym, subst, length, ◌*◌, ◌∙◌}
use Rattle.std.proofs.Common.{refl, replicate}
use Rattle.ds_rule.specs.Run.{Run}
use Rattle.ds_rule.specs.Words.{width}
use Rattle.ds_rule.specs.Rows.{row}
use Rattle.std.proofs.lemmas.List.{length-replicate}
use Rattle.ds_fabric.specs.Laid.{LaidBelow}
use Rattle.ds_fabric.proofs.Laying.{laid_none, laid_next}
use Rattle.ds_fabric.proofs.build.lay.Goals as goal

pub loop-node-init : goal.loop-node-init
loop-node-init g c = let run : Run = c.args.run.now in
    subst (LaidBelow run 0 c.in_ok-words.words.items) (sym c.new-starts.ensures.items)
    (laid_none run c.in_ok-words.words.items (c.in_ok-words.ensures
    ∙ ap (λ (n : ℕ). replicate (n + 1) 0) c.nodes.ensures))

pub lay_node-requires-clause-near : goal.lay_node-requires-clause-near
lay_node-requires-clause-near g c =
    omega (arith, c.loop-node-test.true, c.loop-node.auto.node-end, c.nodes-node-end.ensures)

pub loop-node-preserved : goal.loop-node-preserved
loop-node-preserved g c = let run : Run = c.args.run.now in let n : ℕ = c.loop-node.node in
    let near : n < run.nodes =
    omega (arith, c.loop-node-test.true, c.loop-node.auto.node-end, c.nodes-node-end.ensures) in
    let k : c.len.result ≡ length c.loop-node.words.items = omega (arith, c.len.ensures) in
    laid_next run n c.loop-node.words.items c.loop-node.starts.items c.lay_node.new.words.items
    c.push.new.self.items (c.loop-node.words.items ++ row run n 0)
    (replicate (run.slack * width run n) 0) c.requires.sound near c.loop-node.invariant refl
    c.in_ok-lay_node.ensures (length-replicate (run.slack * width run n) 0)
    (c.in_ok-push.ensures.items ∙ ap (λ (x : ℕ). c.loop-node.starts.items ++ x ∷ []) k)

pub returns : goal.returns
returns g c = let run : Run = c.args.run.now in
    let end : c.loop-node.node ≡ run.nodes = omega (
      arith,
      c.loop-node-test.false,
      c.loop-node.auto.node-end,
      c.nodes-node-end.ensures,
    ) in
    subst (λ (n : ℕ). LaidBelow run n c.loop-node.words.items c.loop-node.starts.items) end
    c.loop-node.invariant
