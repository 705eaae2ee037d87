use Rattle.std.proofs.Common.{◌≡◌, ◌∙◌, ◌<◌, ℕ, List, length, inl, inr, ap, sym, subst, arith, refl}
use Rattle.std.specs.Prelude.{All}
use Rattle.std.proofs.lemmas.Bool.{cases_eq}
use Rattle.ds_design.specs.Circuit.{Circuit}
use Rattle.ds_latch.specs.Node.{nets_of}
use Rattle.ds_latch.specs.declared.node.Node.TheVariants.{In, Slave}
use Rattle.ds_fire.specs.Feeds.{AreSourceNetsHoused}
use Rattle.ds_fire.proofs.NetHomes.{housed_here, housed_kept, homes_from}
use Rattle.ds_split.proofs.NodeCones.{nets_within}
use Rattle.ds_fire.proofs.RowsAfterOpening.{bits_are}
use Rattle.ds_fire.proofs.homes.homes_of.Goals as goal

pub place-requires : goal.place-requires
place-requires c =
    let long : length c.in_ok-homes.homes.items ≡ length c.args.latches.now.circuit.nets =
    c.in_ok-homes.ensures ∙ ap length (c.nets-nets.ensures ∙ ap (λ (d : Circuit). d.nets) (c.design.ensures.design ∙ c.netlist.ensures.netlist)) in
    let first : c.as_slice.result.now ≡ nets_of c.args.latches.now In =
    c.as_slice.ensures ∙ bits_are c.args.latches.now c.bits-bits.result.now 0 c.index-bits-0.result (omega (arith, c.bits-bits.ensures.one_each)) c.index-bits-0.is c.bits-bits.ensures.nets In tt refl in
    subst (λ (n : ℕ). All (λ net. net < n) c.as_slice.result.now) (sym long)
    (subst (λ (these : List ℕ). All (λ net. net < length c.args.latches.now.circuit.nets) these) (sym first) (nets_within c.args.latches.now c.requires.design.1 c.requires.design.0 In tt))

pub loop-i-init : goal.loop-i-init
loop-i-init c =
    let long : length c.in_ok-homes.homes.items ≡ length c.args.latches.now.circuit.nets =
    c.in_ok-homes.ensures ∙ ap length (c.nets-nets.ensures ∙ ap (λ (d : Circuit). d.nets) (c.design.ensures.design ∙ c.netlist.ensures.netlist)) in
    let first : c.as_slice.result.now ≡ nets_of c.args.latches.now In =
    c.as_slice.ensures ∙ bits_are c.args.latches.now c.bits-bits.result.now 0 c.index-bits-0.result (omega (arith, c.bits-bits.ensures.one_each)) c.index-bits-0.is c.bits-bits.ensures.nets In tt refl in
    record {
      one_each = c.place.ensures.same ∙ long;
      first = housed_here c.args.latches.now In tt tt c.as_slice.result.now first 0 refl c.place.new.homes.items c.place.ensures.placed;
      slaves = λ j below. absurd (omega arith);
    }

pub place-requires-in-loop-i : goal.place-requires-in-loop-i
place-requires-in-loop-i c =
    let low : c.loop-i.i < length c.args.latches.now.clusters = omega (arith, ap length c.clusters-i-end.ensures.clusters) in
    let bit : c.as_slice-in-loop-i.result.now ≡ nets_of c.args.latches.now (Slave c.loop-i.i) =
    c.as_slice-in-loop-i.ensures ∙ bits_are c.args.latches.now c.bits-bits.result.now c.index.result c.index-bits-index.result (omega (arith, low, c.bits-bits.ensures.one_each, c.index.ensures, c.latch-slave.ensures)) c.index-bits-index.is c.bits-bits.ensures.nets (Slave c.loop-i.i) low (sym (c.index.ensures ∙ c.latch-slave.ensures)) in
    subst (λ (n : ℕ). All (λ net. net < n) c.as_slice-in-loop-i.result.now) (sym c.loop-i.invariant.one_each)
    (subst (λ (these : List ℕ). All (λ net. net < length c.args.latches.now.circuit.nets) these) (sym bit) (nets_within c.args.latches.now c.requires.design.1 c.requires.design.0 (Slave c.loop-i.i) low))

pub loop-i-preserved : goal.loop-i-preserved
loop-i-preserved c =
    let low : c.loop-i.i < length c.args.latches.now.clusters = omega (arith, ap length c.clusters-i-end.ensures.clusters) in
    let bit : c.as_slice-in-loop-i.result.now ≡ nets_of c.args.latches.now (Slave c.loop-i.i) =
    c.as_slice-in-loop-i.ensures ∙ bits_are c.args.latches.now c.bits-bits.result.now c.index.result c.index-bits-index.result (omega (arith, low, c.bits-bits.ensures.one_each, c.index.ensures, c.latch-slave.ensures)) c.index-bits-index.is c.bits-bits.ensures.nets (Slave c.loop-i.i) low (sym (c.index.ensures ∙ c.latch-slave.ensures)) in
    record {
      one_each = c.place-in-loop-i.ensures.same ∙ c.loop-i.invariant.one_each;
      first = housed_kept c.args.latches.now (Slave c.loop-i.i) tt low c.as_slice-in-loop-i.result.now bit c.number.result (c.number.ensures ∙ c.latch-slave.ensures) c.loop-i.homes.items c.place-in-loop-i.new.homes.items c.place-in-loop-i.ensures.kept In c.loop-i.invariant.first;
      slaves = λ j below. elim (cases_eq j c.loop-i.i) [
        | inl e ↦ subst (λ (i : ℕ). AreSourceNetsHoused c.args.latches.now c.place-in-loop-i.new.homes.items (Slave i)) (sym e)
            (housed_here c.args.latches.now (Slave c.loop-i.i) tt low c.as_slice-in-loop-i.result.now bit c.number.result (c.number.ensures ∙ c.latch-slave.ensures) c.place-in-loop-i.new.homes.items c.place-in-loop-i.ensures.placed)
        | inr ne ↦ housed_kept c.args.latches.now (Slave c.loop-i.i) tt low c.as_slice-in-loop-i.result.now bit c.number.result (c.number.ensures ∙ c.latch-slave.ensures) c.loop-i.homes.items c.place-in-loop-i.new.homes.items c.place-in-loop-i.ensures.kept (Slave j) (c.loop-i.invariant.slaves j (omega arith))
      ];
    }

pub returns : goal.returns
returns c =
    homes_from c.args.latches.now c.loop-i.homes.items c.loop-i.invariant.one_each c.loop-i.invariant.first
    (λ j below. c.loop-i.invariant.slaves j (omega (arith, ap length c.clusters-i-end.ensures.clusters)))
