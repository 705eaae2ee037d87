use Rattle.std.proofs.Common.{◌≡◌, ℕ, List, length, get_or}
use Rattle.std.proofs.Common.{arith, refl}
use Rattle.std.proofs.lemmas.Bool.{false≢true}
use Rattle.ds_rule.proofs.GetElemLemmas.{at_below, at_or}
use Rattle.ds_fabric.specs.declared.history.History.{History}
use Rattle.ds_fabric.specs.Indexed.{IsHistoryAt}
use Rattle.ds_fabric.proofs.Standing.{found_placed}
use Rattle.ds_fabric.proofs.places.has.Goals as goal

pub returns-then-nodes-eq0 : goal.returns-then-nodes-eq0
returns-then-nodes-eq0 c = (
  (λ t. absurd (false≢true t)),
  (λ f. absurd (omega (arith, at_below c.args.nodes.now f.0 f.1.0 f.1.1, c.if-nodes-eq0.true))),
)

-- the first history
at-first : (ns : List History) (d : History) (node : ℕ) → (length ns ≡ 0 → ⊥)
    → (get_or ns 0 d).node ≡ node → (i : ℕ) × IsHistoryAt ns i node
at-first ns d node n is = (0, (get_or ns 0 d, at_or ns 0 d (omega (arith, n)), is))

pub returns-then-nodes-node : goal.returns-then-nodes-node
returns-then-nodes-node c = (
  (λ _. at-first c.args.nodes.now _ c.args.node c.if-nodes-eq0.false c.if-nodes-node.true),
  (λ _. refl),
)

pub returns-else-places-node-gt0 : goal.returns-else-places-node-gt0
returns-else-places-node-gt0 c = let q = c.requires in (
  (λ t. absurd (false≢true t)),
  (λ f.
      let p = found_placed q.0 q.1 c.args.nodes.now c.args.places.now f.0 c.args.node q.2 c.if-places-eq0.false f.1 in
      absurd (omega (arith, p.0, c.if-places-node-gt0.false))),
)
