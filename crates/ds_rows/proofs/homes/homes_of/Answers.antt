use Rattle.std.proofs.Common.{◌≡◌, ◌∙◌, ◌<◌, ℕ, List, [], length, get_or, ap, sym, subst, arith}
use Rattle.std.specs.Prelude.{All}
use Rattle.std.proofs.lemmas.List.{get_or_default}
use Rattle.ds_latch.specs.Node.{members}
use Rattle.ds_rows.specs.Homes.{ArePlaced, IsPlacedOrKept, no_home}
use Rattle.ds_rows.proofs.RegisterHomes.{housed_all, housed_more, members_within}
use Rattle.ds_rows.proofs.homes.homes_of.Goals as goal

pub returns : goal.returns
returns c =
    housed_all c.args.latches.now c.clusters-clusters.ensures.split c.loop-i.homes.items c.loop-i.invariant.one_each
    (λ j below. c.loop-i.invariant.housed j (omega (arith, ap length c.clusters-clusters.ensures.clusters)))

pub place-requires : goal.place-requires
place-requires c =
    let low : c.loop-i.i < length c.args.latches.now.clusters = omega (arith, ap length c.clusters-clusters.ensures.clusters) in
    let here : c.as_slice.result.now ≡ members c.args.latches.now c.loop-i.i =
    c.as_slice.ensures ∙ (c.index-clusters-i.is ∙ (ap (λ (cs : List (List ℕ)). get_or cs c.loop-i.i c.index-clusters-i.result) c.clusters-clusters.ensures.clusters ∙ get_or_default c.args.latches.now.clusters c.loop-i.i c.index-clusters-i.result [] low)) in
    subst (λ (n : ℕ). All (λ r. r < n) c.as_slice.result.now) (sym c.loop-i.invariant.one_each)
    (subst (λ (rs : List ℕ). All (λ r. r < length c.args.latches.now.circuit.registers) rs) (sym here) (members_within c.args.latches.now c.clusters-clusters.ensures.split c.loop-i.i low))

pub loop-i-preserved : goal.loop-i-preserved
loop-i-preserved c =
    let low : c.loop-i.i < length c.args.latches.now.clusters = omega (arith, ap length c.clusters-clusters.ensures.clusters) in
    let here : c.as_slice.result.now ≡ members c.args.latches.now c.loop-i.i =
    c.as_slice.ensures ∙ (c.index-clusters-i.is ∙ (ap (λ (cs : List (List ℕ)). get_or cs c.loop-i.i c.index-clusters-i.result) c.clusters-clusters.ensures.clusters ∙ get_or_default c.args.latches.now.clusters c.loop-i.i c.index-clusters-i.result [] low)) in
    record {
      one_each = c.place.ensures.same ∙ c.loop-i.invariant.one_each;
      housed = housed_more c.args.latches.now c.loop-i.i c.loop-i.homes.items c.place.new.homes.items low
          (subst (λ (rs : List ℕ). ArePlaced rs c.loop-i.i c.place.new.homes.items) here c.place.ensures.placed)
          (subst (λ (rs : List ℕ). (r : ℕ) → IsPlacedOrKept rs c.loop-i.i r (get_or c.loop-i.homes.items r no_home) (get_or c.place.new.homes.items r no_home)) here c.place.ensures.kept)
          c.loop-i.invariant.housed;
    }
