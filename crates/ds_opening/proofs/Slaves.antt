-- What the opening of a slave takes.
use Rattle.std.proofs.Common.{◌≡◌, ◌≢◌, ◌∙◌, ℕ, suc, ◌-◌, ◌<◌, Bool, false, cond, List, [], ◌∷◌, ◌++◌, length, get_or, take, drop, ◌≤◌, refl, arith, ap, sym, subst}
use Rattle.std.specs.Prelude.{All, AllPairs, Contains}
use Rattle.std.proofs.lemmas.List.{append-nil, length-map}
use Rattle.std.proofs.lemmas.List.Elements.{All-head, All-tail, All-weaker}
use Rattle.ds_base.specs.Word.{count_of_words}
use Rattle.ds_base.specs.Values.{Row}
use Rattle.ds_cover.specs.Cover.{value_at}
use Rattle.ds_design.specs.Circuit.{register_nets}
use Rattle.ds_latch.specs.Node.{Split, IsNode, number_of, members, nets_of}
use Rattle.ds_latch.specs.declared.node.Node.{Node}
use Rattle.ds_latch.specs.declared.node.Node.TheVariants.{Master, Slave}
use Rattle.ds_latch.proofs.OrderTokens.{same_node}
use Rattle.ds_latch.specs.Numbered.{numbered}
use Rattle.ds_latch.specs.Order.{IsDataEdge, to_slave}
use Rattle.ds_opening.specs.Packed.{packed}
use Rattle.ds_opening.specs.TurnOfOpenings.{IsFed, IsOpeningOf, Turn, read_of, value_taken, woven}
use Rattle.ds_opening.proofs.RowsOfNodes.{behind_first, length-packed}

-- a slave reads its master alone
master_only : (s : Split) (p : Node) (i : ℕ) → IsDataEdge s p (Slave i) → p ≡ Master i
master_only s _ _ (to_slave inside) = refl

only_one : (xs : List Node) (m : Node) → All (λ p. p ≡ m) xs → AllPairs (λ p q. p ≢ q) xs → Contains xs m → xs ≡ m ∷ []
only_one [] m all once (k, inside, is) = absurd (let h : k < 0 = inside in omega arith)
only_one (x ∷ []) m all once has = ap (λ y. y ∷ []) (All-head (λ p. p ≡ m) x [] all)
only_one (x ∷ y ∷ xs) m all once has =
    absurd (once 0 1 m (omega arith) (omega arith) (All-head (λ p. p ≡ m) x (y ∷ xs) all ∙ sym (All-head (λ p. p ≡ m) y xs (All-tail (λ p. p ≡ m) x (y ∷ xs) all))))

-- the number of its master stands before the words
slave_words : (s : Split) (i : ℕ) → IsNode s (Slave i) → (learnt : ℕ → Bool) → learnt (number_of (Master i)) ≡ false
    → (from : List ℕ) (t : Turn) → IsFed s (Slave i) learnt from t → from ≡ number_of (Master i) ∷ packed (value_taken s t (Slave i))
slave_words s i is_node learnt unlearnt from t fed =
    let masters : All (λ p. p ≡ Master i) fed.nodes = All-weaker (λ p. IsNode s p × IsDataEdge s p (Slave i)) (λ p. p ≡ Master i) (λ p both. master_only s p i both.1) fed.nodes fed.producers.each in
    let one : fed.nodes ≡ Master i ∷ [] = only_one fed.nodes (Master i) masters fed.producers.once (fed.producers.all (Master i) (to_slave is_node)) in
    let number : suc t.opened - 0 ≡ suc t.opened = omega arith in
    let row : List ℕ = number_of (Master i) ∷ packed (read_of s t (Master i)) in
    fed.words ∙ (ap (woven learnt (read_of s t)) one ∙ (ap (λ (b : Bool). cond b [] row ++ []) unlearnt ∙ (append-nil row
    ∙ ap (λ (k : ℕ). number_of (Master i) ∷ packed (numbered s t.vectors t.state t.nets (Master i) k)) number)))

module _ (s : Split) (vectors : List Row) (number opened i : ℕ) (slave : number_of (Slave i) ≡ number)
    (learnt : ℕ → Bool) (unlearnt : (i : ℕ) → learnt (number_of (Master i)) ≡ false) (from : List ℕ)
    (n : Node) (t : Turn) (o : IsOpeningOf s vectors number opened learnt from n t) where
  is : n ≡ Slave i
  is = same_node n (Slave i) (o.is ∙ sym slave)

  fed_slave : from ≡ number_of (Master i) ∷ packed (value_taken s t n)
  fed_slave =
      let node : IsNode s (Slave i) = subst (IsNode s) is o.node in
      let fed : IsFed s (Slave i) learnt from t = subst (λ (m : Node). IsFed s m learnt from t) is o.fed in
      slave_words s i node learnt (unlearnt i) from t fed ∙ ap (λ (m : Node). number_of (Master i) ∷ packed (value_taken s t m)) (sym is)

  -- the words that a slave reads behind a number are those of the row that it takes
  pub slave_takes : take (length from - 1) (drop 1 from) ≡ packed (value_taken s t n)
  slave_takes = behind_first (number_of (Master i)) (packed (value_taken s t n)) from fed_slave

  pub slave_reads : 1 ≤ length from
  slave_reads =
      let long : length from ≡ suc (length (packed (value_taken s t n))) = ap (λ (ws : List ℕ). length ws) fed_slave in
      omega (long, arith)

  pub slave_room : length (take (length from - 1) (drop 1 from)) ≡ count_of_words (length (nets_of s n))
  slave_room =
      let size : length (value_taken s t (Slave i)) ≡ length (members s i) = length-map (members s i) (value_at (t.state (suc t.opened))) in
      let nets : length (nets_of s (Slave i)) ≡ length (members s i) = length-map (members s i) (λ r. get_or (register_nets s.circuit) r 0) in
      ap (λ (ws : List ℕ). length ws) slave_takes ∙ (length-packed (value_taken s t n) ∙ (ap (λ (m : Node). count_of_words (length (value_taken s t m))) is
      ∙ (ap count_of_words (size ∙ sym nets) ∙ ap (λ (m : Node). count_of_words (length (nets_of s m))) (sym is))))
