use Rattle.std.proofs.Common.{◌≡◌, ◌≢◌, ◌∙◌, ◌<◌, ◌+◌, ◌-◌, ℕ, List, length, get_or}
use Rattle.std.proofs.Common.{ap, sym, subst, arith, refl}
use mathlib.Core.Option.{some}
use lib.ListN.{get_elem?}
use Rattle.atomic_table.proofs.Lists.{at_index}
use Rattle.ds_fabric.specs.declared.history.History.{History}
use Rattle.ds_fabric.specs.Indexed.{IsOneEach, IsIndexed, IsWithout}
use Rattle.ds_fabric.specs.Indexed.{IsTakenOut}
use Rattle.ds_fabric.proofs.Standing.{removed}
use Rattle.ds_fabric.proofs.places.take_out.Goals as goal

-- what is left, from the clauses of `swap_remove`
left : (xs ys : List History) (n m at : ℕ) → n ≡ length xs → m ≡ length ys → m + 1 ≡ n → at < n
    → ((d : History) → at + 1 < n → get_or ys at d ≡ get_or xs (n - 1) d)
    → ((k : ℕ) (d : History) → k ≢ at → k + 1 < n → get_or ys k d ≡ get_or xs k d)
    → IsWithout xs ys at
left xs ys n m at n-is m-is long near moved same =
    removed xs ys at (omega arith) (omega arith)
    (λ d h. let z : n - 1 ≡ length ys = omega arith in
    moved d (omega arith) ∙ ap (λ (x : ℕ). get_or xs x d) z)
    (λ k d n h. same k d n (omega arith))

pub returns-clause-value : goal.returns-clause-value
returns-clause-value c = at_index c.args.nodes.now.items c.args.at c.swap_remove-history.result
    (omega (arith, c.requires.near)) c.swap_remove-history.ensures.value

pub returns-clause-without : goal.returns-clause-without
returns-clause-without c = let e = c.swap_remove-history.ensures in
    left c.args.nodes.now.items c.swap_remove-history.new.self.items _ _ c.args.at (omega arith)
    (omega arith) e.len c.requires.near e.by_index.0 e.by_index.1

-- the history was taken out
leaves : (xs ys zs : List History) (at : ℕ) (h : History) → IsOneEach xs → IsWithout xs ys at
    → get_elem? xs at ≡ some h → zs ≡ ys
    → IsTakenOut xs zs at h.node
leaves xs ys zs at h distinct w there is = record {
  distinct = distinct;
  without = subst (λ (l : List History). IsWithout xs l at) (sym is) w;
  history = h;
  there = there;
  node_is = refl;
}

pub forget-requires : goal.forget-requires
forget-requires c = let q = c.requires.indexed in let e = c.swap_remove-history.ensures in
    let xs : List History = c.args.nodes.now.items in
    let ys : List History = c.swap_remove-history.new.self.items in
    let h : History = c.swap_remove-history.result in
    let w = left xs ys _ _ c.args.at (omega arith)
    (omega arith) e.len c.requires.near e.by_index.0 e.by_index.1 in (
      q.0,
      q.1,
      xs,
      leaves xs ys c.as_slice.result.now c.args.at h c.requires.distinct w
          (at_index xs c.args.at h (omega (arith, c.requires.near)) e.value) c.as_slice.ensures.value,
      q.2,
    )

pub returns-clause-indexed : goal.returns-clause-indexed
returns-clause-indexed c m r o = let e = c.swap_remove-history.ensures in
    let xs : List History = c.args.nodes.now.items in
    let ys : List History = c.swap_remove-history.new.self.items in
    let h : History = c.swap_remove-history.result in
    let w = left xs ys _ _ c.args.at (omega arith)
    (omega arith) e.len c.requires.near e.by_index.0 e.by_index.1 in
    let f = c.forget.ensures m r xs
    (leaves xs ys c.as_slice.result.now c.args.at h c.requires.distinct w
    (at_index xs c.args.at h
    (omega (arith, c.requires.near)) e.value) c.as_slice.ensures.value) o in
    subst (λ (l : List History). IsIndexed m r
    (length l) l c.forget.new.places.items) c.as_slice.ensures.value f
