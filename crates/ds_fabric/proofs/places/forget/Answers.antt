use Rattle.std.proofs.Common.{◌≡◌, ◌<◌, ◌+◌, ℕ, List, length}
use Rattle.std.proofs.Common.{set, sym, subst, arith, slice_index_or}
use mathlib.Core.Option.{some}
use lib.ListN.{get_elem?}
use Rattle.ds_rule.proofs.GetElemLemmas.{at_or}
use Rattle.ds_fabric.specs.declared.history.History.{History}
use Rattle.ds_fabric.specs.Indexed.{IsIndexed}
use Rattle.ds_fabric.proofs.Standing.{taken_inside, taken_last, taken_none, inside_old, inside_new}
use Rattle.ds_fabric.proofs.places.forget.Goals as goal
use Rattle.ds_fabric.proofs.places.forget.Goals.{After-index-nodes-at, Else-len-eq0}

pub returns-then-len-eq0 : goal.returns-then-len-eq0
returns-then-len-eq0 c m r old l o =
    taken_none m r c.args.at old c.args.nodes.now c.args.places.now.items l.without o
    (omega (arith, c.if-len-eq0.true, c.len.ensures))

-- there are places
full : (c : Else-len-eq0) → length c.args.places.now.items ≡ 0 → ⊥
full c none = c.if-len-eq0.false (omega (arith, none, c.len.ensures))

-- the history that came to the place
came : (c : After-index-nodes-at) → get_elem? c.args.nodes.now c.args.at
    ≡ some (slice_index_or c.args.nodes.now c.args.at c.index-nodes-at.result)
came c = at_or c.args.nodes.now c.args.at c.index-nodes-at.result
    (omega (arith, c.if-at-nodes.true))

pub index_mut-requires : goal.index_mut-requires
index_mut-requires c = let q = c.requires in
    omega (
      arith,
      inside_old q.0 q.1 c.args.at c.args.node q.2 c.args.nodes.now
          c.args.places.now.items q.3 q.4 (full (goal.at.index_mut-requires c).Else-len-eq0),
    )

pub index_mut-requires-then-at-nodes : goal.index_mut-requires-then-at-nodes
index_mut-requires-then-at-nodes c = let q = c.requires in
    let some-there = full (goal.at.index_mut-requires-then-at-nodes c).Else-len-eq0 in
    let e = came (goal.at.index_mut-requires-then-at-nodes c).After-index-nodes-at in
    omega (
      arith,
      inside_new q.0 q.1 c.args.at c.args.node q.2 c.args.nodes.now
          c.args.places.now.items _ q.3 q.4 some-there e,
    )

pub returns-then-at-nodes : goal.returns-then-at-nodes
returns-then-at-nodes c m r o l i =
    let ps : List ℕ = c.args.places.now.items in let ns : List History = c.args.nodes.now in
    let some-there = full (goal.at.returns-then-at-nodes c).Else-len-eq0 in
    let y : History = slice_index_or ns c.args.at c.index-nodes-at.result in
    let e = came (goal.at.returns-then-at-nodes c).After-index-nodes-at in let z = l.node_is in
    subst (λ (n : ℕ). IsIndexed m r (length ns) ns (set (set ps n 0) y.node (c.args.at + 1))) z
    (taken_inside m r c.args.at o ns ps l.history y l.distinct l.without i l.there some-there e
    (subst (λ (n : ℕ). n < length ps) (sym z)
    (inside_old m r c.args.at c.args.node o ns ps l i some-there))
    (inside_new m r c.args.at c.args.node o ns ps y l i some-there e))

pub returns-else-at-nodes : goal.returns-else-at-nodes
returns-else-at-nodes c m r o l i =
    let ps : List ℕ = c.args.places.now.items in let ns : List History = c.args.nodes.now in
    let some-there = full (goal.at.returns-else-at-nodes c).Else-len-eq0 in
    let z = l.node_is in
    subst (λ (n : ℕ). IsIndexed m r (length ns) ns (set ps n 0)) z
    (taken_last m r c.args.at o ns ps l.history l.distinct l.without i l.there some-there
    (λ less. omega (arith, less, c.if-at-nodes.false))
    (subst (λ (n : ℕ). n < length ps) (sym z)
    (inside_old m r c.args.at c.args.node o ns ps l i some-there)))
