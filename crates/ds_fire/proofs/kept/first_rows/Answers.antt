use Rattle.std.proofs.Common.{◌≡◌, ◌∙◌, ◌<◌, ◌≤◌, ◌+◌, ℕ, List, [], ◌∷◌, ◌++◌, length, ap, sym, subst, arith}
use Rattle.std.proofs.lemmas.List.{length_push}
use Rattle.ds_base.specs.Values.{Row}
use Rattle.ds_latch.specs.Node.{IsNode, number_of}
use Rattle.ds_latch.specs.declared.node.Node.{Node}
use Rattle.ds_fire.specs.Snapshot.{row_index, rows_of}
use Rattle.ds_fire.proofs.InitialRows.{first_all, first_more, the_first}
use Rattle.ds_fire.proofs.kept.first_rows.Goals as goal

pub loop-k-preserved : goal.loop-k-preserved
loop-k-preserved c =
    let rows : List Row = c.loop-k.rows.items in
    let row : Row = c.in_ok-first_row.field-0 in
    let items : c.push.new.self.items ≡ c.loop-k.rows.items ++ c.in_ok-first_row.field-0 ∷ [] = c.in_ok-push.ensures.items in
    record {
      one_each = ap length items ∙ (length_push rows row ∙ ap (λ (n : ℕ). n + 1) c.loop-k.invariant.one_each);
      each = subst (λ (rs : List Row). (n : Node) → IsNode c.args.latches.now n → (place : ℕ) → place ≤ c.args.latches.now.slack → row_index c.args.latches.now (number_of n) place < c.loop-k.k + 1 → rows_of c.args.latches.now rs n place ≡ the_first c.args.latches.now n place) (sym items)
          (first_more c.args.latches.now rows c.loop-k.k (c.slack.result + 1) row (ap (λ (n : ℕ). n + 1) c.slack.ensures.slack) c.loop-k.invariant.one_each c.loop-k.invariant.each c.in_ok-first_row.ensures);
    }

pub returns : goal.returns
returns c =
    first_all c.args.latches.now c.loop-k.rows.items c.loop-k.k (c.slack.result + 1) c.nodes-nodes.result (ap (λ (n : ℕ). n + 1) c.slack.ensures.slack) c.nodes-nodes.ensures.nodes c.loop-k.invariant.one_each (omega arith) c.loop-k.invariant.each
