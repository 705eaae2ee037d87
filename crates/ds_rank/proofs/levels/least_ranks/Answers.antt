use Rattle.std.proofs.Common.{length, ℕ, List, subst, sym, arith, ◌+◌, ◌<◌, ◌≢◌, get_or, below_more, [], ◌∙◌, ◌≡◌}
use Rattle.std.specs.List.{slice_index}
use Rattle.ds_base.specs.Greatest.{greatest}
use Rattle.ds_rank.specs.Order.{HasEdge, IsRanks}
use Rattle.ds_rank.specs.Search.{IsSearch, State}
use Rattle.ds_rank.proofs.SearchBeginAndEnd.{ended, ended_few, met_done}
use Rattle.ds_rank.proofs.levels.least_ranks.Goals as goal
use Rattle.ds_rank.proofs.levels.least_ranks.Goals.{then-color_of-eq2+in_ok-visit, else-color_of-eq2}

pub returns-clause-ok : goal.returns-clause-ok
returns-clause-ok c =
    let h = c.loop-node.invariant in
    subst (λ (r : List ℕ). IsRanks (HasEdge c.args.edges.now) (length c.args.floors.now) (slice_index c.args.floors.now) r) (sym c.into_ranks.ensures)
    (ended c.args.edges.now c.args.floors.now c.loop-node.search h.kept (λ k lt. (c.requires.ends k lt).1)
    (λ v lt. h.done v (omega arith)))

pub returns-clause-few : goal.returns-clause-few
returns-clause-few c =
    let h = c.loop-node.invariant in
    subst (λ (r : List ℕ). (v : ℕ) → v < length c.args.floors.now → slice_index r v < length c.args.floors.now + greatest c.args.floors.now)
    (sym c.into_ranks.ensures)
    (ended_few c.args.edges.now c.args.floors.now c.loop-node.search h.kept (λ v lt. h.done v (omega arith)))

pub loop-node-preserved : goal.loop-node-preserved
loop-node-preserved c =
    let i = c.loop-node.invariant in
    let keeps : State → Type 0 = λ s. record {
      kept : IsSearch c.args.edges.now c.args.floors.now s;
      empty : s.path ≡ [];
      done : (v : ℕ) → v < c.loop-node.node + 1 → get_or s.color v 0 ≡ 0;
    } in
    elim c.if-color_of-eq2.branch [
      | then-color_of-eq2+in_ok-visit w ↦
          let e = w.in_ok-visit.ensures.ok in
          subst keeps (sym w.search-is) (record {
            kept = e.kept;
            empty = e.empty;
            done = below_more _ _ (λ v lt. let low = e.lower v in let zero = i.done v lt in omega arith) e.done;
          })
      | else-color_of-eq2 w ↦
          let apart : get_or c.loop-node.search.color c.loop-node.node 0 ≢ 2 = λ two. w.if-color_of-eq2.false (c.color_of.ensures ∙ two) in
          subst keeps (sym w.search-is) (record {
            kept = i.kept;
            empty = i.empty;
            done = below_more _ _ i.done
                (met_done c.args.edges.now c.args.floors.now c.loop-node.search i.kept i.empty c.loop-node.node c.loop-node-test.true apart);
          })
    ]
