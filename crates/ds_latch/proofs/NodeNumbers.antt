-- A node has its number alone.
use Rattle.std.proofs.Common.{◌≡◌, ℕ, arith, ap, refl}
use Rattle.ds_latch.specs.Node.{number_of}
use Rattle.ds_latch.specs.declared.node.Node.{Node}
use Rattle.ds_latch.specs.declared.node.Node.TheVariants.{In, Out, Master, Slave}

pub same_node : (a b : Node) → number_of a ≡ number_of b → a ≡ b
same_node In In e = refl
same_node In Out e = absurd (omega (arith, e))
same_node In (Master j) e = absurd (omega (arith, e))
same_node In (Slave j) e = absurd (omega (arith, e))
same_node Out In e = absurd (omega (arith, e))
same_node Out Out e = refl
same_node Out (Master j) e = absurd (omega (arith, e))
same_node Out (Slave j) e = absurd (omega (arith, e))
same_node (Master i) In e = absurd (omega (arith, e))
same_node (Master i) Out e = absurd (omega (arith, e))
same_node (Master i) (Master j) e = let same : i ≡ j = omega (arith, e) in ap (λ (k : ℕ). Master k) same
same_node (Master i) (Slave j) e = absurd (omega (arith, e))
same_node (Slave i) In e = absurd (omega (arith, e))
same_node (Slave i) Out e = absurd (omega (arith, e))
same_node (Slave i) (Master j) e = absurd (omega (arith, e))
same_node (Slave i) (Slave j) e = let same : i ≡ j = omega (arith, e) in ap (λ (k : ℕ). Slave k) same
