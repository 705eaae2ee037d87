-- The nets of the nodes, as they are listed.
use Rattle.std.proofs.Common.{◌≡◌, inl, inr, ℕ, ◌+◌, ◌*◌, ◌<◌, ◌≤◌, List, [], ◌∷◌, ◌++◌, length, get_or, sym, ◌∙◌, ap, subst, arith, length-append}
use Rattle.std.proofs.lemmas.Bool.{cases_lt}
use Rattle.std.proofs.lemmas.List.{get_or_default}
use Rattle.ds_base.proofs.AppendedPairs.{get_or-left, get_or-right}
use Rattle.ds_latch.specs.Node.{Split, IsNode, number_of, nodes, nets_of}
use Rattle.ds_latch.specs.declared.node.Node.{Node}
use Rattle.ds_latch.specs.declared.node.Node.TheVariants.{In, Out, Master, Slave}
use Rattle.ds_latch.proofs.OrderTokens.{number_below}
use Rattle.ds_split.specs.Nets.{HasNetsBelow, HasNets}

module _ (s : Split) (i : ℕ) (bits one two : List (List ℕ)) (a b : List ℕ)
    (has : HasNetsBelow s (2 * i + 2) bits) (first : one ≡ bits ++ a ∷ []) (second : two ≡ one ++ b ∷ [])
    (master : a ≡ nets_of s (Master i)) (slave : b ≡ nets_of s (Slave i)) where
  length-one : length one ≡ 2 * i + 3
  length-one =
      let h : length bits ≡ 2 * i + 2 = has.0 in
      let n : length one ≡ length bits + 1 = ap length first ∙ length-append bits (a ∷ []) in
      omega arith

  length-two : length two ≡ 2 * i + 4
  length-two =
      let h : length one ≡ 2 * i + 3 = length-one in
      let n : length two ≡ length one + 1 = ap length second ∙ length-append one (b ∷ []) in
      omega arith

  in_one : (j : ℕ) → j < 2 * i + 3 → get_or two j [] ≡ get_or one j []
  in_one j low = ap (λ xs. get_or xs j []) second ∙ get_or-left one (b ∷ []) j [] (let h : length one ≡ 2 * i + 3 = length-one in omega arith)

  in_bits : (j : ℕ) → j < 2 * i + 2 → get_or two j [] ≡ get_or bits j []
  in_bits j low = in_one j (omega arith)
      ∙ (ap (λ xs. get_or xs j []) first ∙ get_or-left bits (a ∷ []) j [] (let h : length bits ≡ 2 * i + 2 = has.0 in omega arith))

  at_master : get_or two (2 * i + 2) [] ≡ a
  at_master = in_one (2 * i + 2) (omega arith)
      ∙ (ap (λ xs. get_or xs (2 * i + 2) []) first ∙ get_or-right bits (a ∷ []) 0 (2 * i + 2) [] (let h : length bits ≡ 2 * i + 2 = has.0 in omega arith))

  at_slave : get_or two (2 * i + 3) [] ≡ b
  at_slave = ap (λ xs. get_or xs (2 * i + 3) []) second
      ∙ get_or-right one (b ∷ []) 0 (2 * i + 3) [] (let h : length one ≡ 2 * i + 3 = length-one in omega arith)

  last : (n : Node) → 2 * i + 2 ≤ number_of n → number_of n < 2 * i + 4 → get_or two (number_of n) [] ≡ nets_of s n
  last In high low = absurd (omega arith)
  last Out high low = absurd (omega arith)
  last (Master j) high low =
      let e : i ≡ j = omega arith in
      subst (λ (k : ℕ). get_or two (2 * k + 2) [] ≡ nets_of s (Master k)) e (at_master ∙ master)
  last (Slave j) high low =
      let e : i ≡ j = omega arith in
      subst (λ (k : ℕ). get_or two (2 * k + 3) [] ≡ nets_of s (Slave k)) e (at_slave ∙ slave)

  pub nets_more : HasNetsBelow s (2 * (i + 1) + 2) two
  nets_more = (
    let h : length two ≡ 2 * i + 4 = length-two in omega arith,
    λ n is low. elim (cases_lt (number_of n) (2 * i + 2)) [
      | inl before ↦ in_bits (number_of n) before ∙ has.1 n is before
      | inr here ↦ last n here (omega arith)
    ],
  )

-- the nets of the node at a place
pub node_at : (s : Split) (nets : List (List ℕ)) → HasNets s nets → (n : Node) → IsNode s n
    → (j : ℕ) → number_of n ≡ j → (x : List ℕ) → x ≡ get_or nets j x → x ≡ nets_of s n
node_at s nets has n is j e x at =
    let low : number_of n < nodes s = number_below s n is in
    let h : length nets ≡ nodes s = has.0 in
    at ∙ (get_or_default nets j x [] (omega arith) ∙ (ap (λ k. get_or nets k []) (sym e) ∙ has.1 n is low))
