-- The producers of nets, as they are marked.
use Rattle.std.proofs.Common.{◌≡◌, ◌≢◌, ◌⊎◌, inl, inr, ℕ, zero, suc, ◌+◌, ◌*◌, ◌<◌, ◌≤◌, List, length, get_or, set, replicate, refl, sym, ◌∙◌, ap, subst, arith}
use Rattle.std.specs.Prelude.{Contains}
use Rattle.std.proofs.lemmas.Bool.{cases_eq}
use Rattle.std.proofs.lemmas.List.{get_or_default, length-set, length-replicate}
use Rattle.ds_base.proofs.ListLemmas.{cases_Contains}
use Rattle.ds_design.specs.Accepted.{IsAccepted}
use Rattle.ds_latch.specs.Node.{Split, IsNode, number_of, nodes, nets_of}
use Rattle.ds_latch.specs.declared.node.Node.{Node}
use Rattle.ds_latch.specs.declared.node.Node.TheVariants.{In, Out, Master, Slave}
use Rattle.ds_latch.specs.Order.{IsSource}
use Rattle.ds_latch.proofs.OrderTokens.{number_below}
use Rattle.ds_split.specs.Cluster.{HasEachOnce}
use Rattle.ds_split.specs.Nets.{AreProducersBelow, AreNetProducers, AreMarked}
use Rattle.ds_split.proofs.Searching.{IsFirst, seen_set}
use Rattle.ds_split.proofs.Sources.{one_producer}

-- one net more
pub mark_more : (nets : List ℕ) (i mark : ℕ) (old now : List ℕ) → get_or nets i 0 < length now
    → AreMarked (IsFirst nets i) mark old now → AreMarked (IsFirst nets (i + 1)) mark old (set now (get_or nets i 0) mark)
mark_more nets i mark old now inside are = record {
  same_length = length-set now (get_or nets i 0) mark ∙ are.same_length;
  marked = λ net means. elim (seen_set now (get_or nets i 0) mark net inside) [
    | inl (here, is) ↦ is
    | inr (other, is) ↦ is ∙ are.marked net (let (k, low, at) = means in
        let differs : k ≢ i = λ e. other (sym at ∙ ap (λ j. get_or nets j 0) e) in (k, omega arith, at))
  ];
  others = λ net not_first. elim (seen_set now (get_or nets i 0) mark net inside) [
    | inl (here, is) ↦ absurd (not_first (i, omega arith, sym here))
    | inr (other, is) ↦ is ∙ are.others net (λ means. not_first (let (k, low, at) = means in (k, omega arith, at)))
  ];
}

-- all nets
pub mark_all : (nets : List ℕ) (i mark : ℕ) (old new : List ℕ) → i ≡ length nets
    → AreMarked (IsFirst nets i) mark old new → AreMarked (Contains nets) mark old new
mark_all nets i mark old new all are = record {
  same_length = are.same_length;
  marked = λ net is. are.marked net (let (k, inside, at) = is in (k, omega arith, get_or_default nets k 0 net inside ∙ at));
  others = λ net other. are.others net (λ means. other (let (k, low, is) = means in
      let inside : k < length nets = omega arith in (k, inside, get_or_default nets k net 0 inside ∙ is)));
}

-- a list of zeros
pub zeros-at : (n k : ℕ) → get_or {A = ℕ} (replicate n 0) k 0 ≡ 0
zeros-at zero k = refl
zeros-at (suc n) zero = refl
zeros-at (suc n) (suc k) = zeros-at n k

module _ (s : Split) (accepted : IsAccepted s.circuit) (each : HasEachOnce (length s.circuit.registers) s.clusters) where
  -- no net has a producer yet
  pub producers_none : AreProducersBelow s 0 (replicate (length s.circuit.nets) 0)
  producers_none = record {
    one_each = length-replicate (length s.circuit.nets) 0;
    known = λ p net is low. absurd (omega arith);
    from = λ net m label. absurd (let h = zeros-at (length s.circuit.nets) net in omega (arith, h, label));
  }

  -- one producer more
  pub producers_more : (n : Node) (most later : ℕ) (old new : List ℕ) → IsSource n → IsNode s n
      → most ≤ later → number_of n < later → ((p : Node) → IsSource p → number_of p < later → (number_of p < most) ⊎ (p ≡ n))
      → AreProducersBelow s most old → AreMarked (Contains (nets_of s n)) (number_of n + 1) old new → AreProducersBelow s later new
  producers_more n most later old new source node grows low cover are mark = record {
    one_each = mark.same_length ∙ are.one_each;
    known = λ p net is below. elim (cases_Contains (nets_of s n) net) [
      | inl here ↦ mark.marked net here ∙ ap (λ k. k + 1) (one_producer s accepted each n p net (source, node, here) is)
      | inr other ↦ elim (cover p is.0 below) [
        | inl before ↦ mark.others net other ∙ are.known p net is before
        | inr same ↦ absurd (other (subst (λ (q : Node). Contains (nets_of s q) net) same is.2))
      ]
    ];
    from = λ net m label. elim (cases_Contains (nets_of s n) net) [
      | inl here ↦ (
          let e : number_of n + 1 ≡ m + 1 = sym (mark.marked net here) ∙ label in
          (n, (source, node, here), omega arith, omega arith))
      | inr other ↦ (
          let (p, is, number, below) = are.from net m (sym (mark.others net other) ∙ label) in
          (p, is, number, omega arith))
    ];
  }

  covers_in : (p : Node) → IsSource p → number_of p < 3 → (number_of p < 0) ⊎ (p ≡ In)
  covers_in In source low = inr refl
  covers_in Out source low = absurd source
  covers_in (Master i) source low = absurd source
  covers_in (Slave i) source low = absurd (omega arith)

  pub producers_in : (old new : List ℕ) → AreProducersBelow s 0 old → AreMarked (Contains (nets_of s In)) 1 old new → AreProducersBelow s 3 new
  producers_in old new are mark = producers_more In 0 3 old new tt tt (omega arith) (omega arith) covers_in are mark

  covers_slave : (i : ℕ) (p : Node) → IsSource p → number_of p < 2 * i + 5 → (number_of p < 2 * i + 3) ⊎ (p ≡ Slave i)
  covers_slave i In source low = inl (omega arith)
  covers_slave i Out source low = absurd source
  covers_slave i (Master j) source low = absurd source
  covers_slave i (Slave j) source low = elim (cases_eq j i) [
    | inl e ↦ inr (ap Slave e)
    | inr other ↦ inl (omega arith)
  ]

  pub producers_slave : (i : ℕ) (old new : List ℕ) → i < length s.clusters → AreProducersBelow s (2 * i + 3) old
      → AreMarked (Contains (nets_of s (Slave i))) (2 * i + 3 + 1) old new → AreProducersBelow s (2 * (i + 1) + 3) new
  producers_slave i old new inside are mark =
      let e : 2 * (i + 1) + 3 ≡ 2 * i + 5 = omega arith in
      subst (λ (k : ℕ). AreProducersBelow s k new) (sym e)
      (producers_more (Slave i) (2 * i + 3) (2 * i + 5) old new tt inside (omega arith) (omega arith) (covers_slave i) are mark)

  -- all producers
  pub producers_all : (producers : List ℕ) → AreProducersBelow s (2 * length s.clusters + 3) producers → AreNetProducers s producers
  producers_all producers are = record {
    one_each = are.one_each;
    known = λ p net is low. are.known p net is (omega arith);
    from = λ net m label. let (p, is, number, low) = are.from net m label in
        let below : number_of p < nodes s = number_below s p is.1 in
        (p, is, number, omega arith);
  }
