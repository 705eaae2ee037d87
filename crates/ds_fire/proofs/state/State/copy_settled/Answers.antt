use Rattle.std.proofs.Common.{◌≡◌, ◌∙◌, ◌<◌, ℕ, List, [], length, get_or, ap, sym, subst, arith}
use Rattle.std.specs.Prelude.{All}
use Rattle.ds_base.specs.Values.{Row}
use Rattle.ds_cover.specs.Cover.{values_at}
use Rattle.ds_latch.specs.Firing.{IsSettled}
use Rattle.ds_latch.specs.Node.{Split, IsNode, nets_of, nodes, number_of}
use Rattle.ds_latch.specs.declared.node.Node.{Node}
use Rattle.ds_latch.proofs.OrderTokens.{number_below}
use Rattle.ds_split.specs.Cones.{IsSettlingAt}
use Rattle.ds_split.proofs.NodeCones.{nets_within}
use Rattle.ds_fire.specs.Fired.{IsSnapshotSound}
use Rattle.ds_fire.specs.Snapshot.{Snapshot, split_of, held_row}
use Rattle.ds_fire.specs.Turn.{IsSettledOn}
use Rattle.ds_fire.proofs.RowsAfterOpening.{bits_are}
use Rattle.ds_fire.proofs.OpenNodesHold.{settled_held}
use Rattle.ds_fire.proofs.state.State.copy_settled.Goals as goal

-- the nets of the node with the number, as they are lent
module _ (s now : Split) (same : s ≡ now) (bits : List (List ℕ)) (one_each : length bits ≡ nodes s) (lent : (n : Node) → IsNode s n → get_or bits (number_of n) [] ≡ nets_of s n) (number : ℕ) (bit : List ℕ) (is : bit ≡ get_or bits number bit) where
  bit_is : (n : Node) → IsNode now n → number_of n ≡ number → bit ≡ nets_of now n
  bit_is n is_node e =
      let low : number_of n < nodes now = number_below now n is_node in
      let long : length bits ≡ nodes now = one_each ∙ ap nodes same in
      bits_are now bits number bit (omega (arith, low, long, e)) is (subst (λ (t : Split). (n : Node) → IsNode t n → get_or bits (number_of n) [] ≡ nets_of t n) same lent) n is_node e

pub pick_values-requires-clause-within : goal.pick_values-requires-clause-within
pick_values-requires-clause-within c =
    let (m, at, wide) = c.requires.node in
    let sound : IsSnapshotSound c.args.self.now = subst IsSnapshotSound c.self.view_is c.self.invariant.sound in
    let same : c.latches-latches.result.now ≡ split_of c.args.self.now = c.latches-latches.ensures ∙ ap (λ (k : Snapshot). split_of k) c.self.view_is in
    let bit : c.index-bits-index.result ≡ nets_of (split_of c.args.self.now) m =
    bit_is c.latches-latches.result.now (split_of c.args.self.now) same c.bits.result.now c.bits.ensures.one_each c.bits.ensures.nets c.index.result c.index-bits-index.result c.index-bits-index.is m at.node (at.is ∙ sym c.index.ensures) in
    let long : length c.settle.new.nets ≡ length (split_of c.args.self.now).circuit.nets = c.settle.ensures.same ∙ c.requires.nets in
    subst (λ (n : ℕ). All (λ net. net < n) c.as_slice-2.result.now) (sym long)
    (subst (λ (these : List ℕ). All (λ net. net < length (split_of c.args.self.now).circuit.nets) these) (sym (c.as_slice-2.ensures ∙ bit))
    (nets_within (split_of c.args.self.now) sound.plan.split sound.in_range m at.node))

pub returns-clause-settled : goal.returns-clause-settled
returns-clause-settled c n at =
    let nets : Row = c.settle.new.nets in
    let same : c.latches-latches.result.now ≡ split_of c.args.self.now = c.latches-latches.ensures ∙ ap (λ (k : Snapshot). split_of k) c.self.view_is in
    let bit : c.index-bits-index.result ≡ nets_of (split_of c.args.self.now) n =
    bit_is c.latches-latches.result.now (split_of c.args.self.now) same c.bits.result.now c.bits.ensures.one_each c.bits.ensures.nets c.index.result c.index-bits-index.result c.index-bits-index.is n at.node (at.is ∙ sym c.index.ensures) in
    let here : IsSettlingAt c.latches-latches.result.now n c.args.latch = subst (λ (s : Split). IsSettlingAt s n c.args.latch) (sym same) at in
    let lent : IsSettledOn c.latches-latches.result.now c.self.inside.kept.rows.items 0 n c.settle.new.nets =
    subst (λ (rs : List Row). IsSettledOn c.latches-latches.result.now rs 0 n c.settle.new.nets) c.as_slice.ensures.value (c.settle.ensures.settled n here) in
    let inside : IsSettledOn c.self.inside.plan.now.split c.self.inside.kept.rows.items 0 n c.settle.new.nets =
    subst (λ (s : Split). IsSettledOn s c.self.inside.kept.rows.items 0 n c.settle.new.nets) c.latches-latches.ensures lent in
    let on : IsSettledOn (split_of c.args.self.now) c.args.self.now.rows 0 n c.settle.new.nets =
    subst (λ (k : Snapshot). IsSettledOn (split_of k) k.rows 0 n c.settle.new.nets) c.self.view_is inside in
    subst (IsSettled (split_of c.args.self.now) (held_row c.args.self.now) n) (sym (c.pick_values.ensures ∙ ap (λ (these : List ℕ). values_at nets these) (c.as_slice-2.ensures ∙ bit)))
    (settled_held c.args.self.now c.requires.slack 0 n (values_at nets (nets_of (split_of c.args.self.now) n)) on)
