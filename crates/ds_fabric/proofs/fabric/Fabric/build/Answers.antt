use Rattle.std.proofs.Common.{◌≡◌, ◌∙◌, ℕ, [], ap, arith, subst, sym, length}
use Rattle.ds_base.specs.Scratch.{Memory, Remembers}
use Rattle.ds_rule.specs.Run.{Run}
use Rattle.ds_rule.specs.Rule.{first_view}
use Rattle.ds_rule.specs.Sound.{IsSound}
use Rattle.ds_rule.specs.Plays.{Sat}
use Rattle.ds_rule.proofs.GetElemLemmas.{at_below}
use Rattle.ds_fabric.specs.Begun.{AreUnfired, first_word_of}
use Rattle.ds_fabric.specs.Flight.{HasRoomFor}
use Rattle.ds_fabric.specs.Indexed.{IsIndexed}
use Rattle.ds_fabric.specs.Showing.{IsPass}
use Rattle.ds_fabric.specs.declared.histories.Histories.{Histories}
use Rattle.ds_fabric.proofs.FirstPass.{first_keeps}
use Rattle.ds_fabric.proofs.Standing.{all_placed}
use Rattle.ds_fabric.proofs.fabric.Fabric.build.Goals as goal

-- the pass of all nodes
begun : (run : Run) (me : Sat) (room : ℕ) (s : Histories) → IsSound run
    → me ≡ (first_view run, []) → AreUnfired run s → room ≡ run.nodes → IsPass me room s
begun run me room s sound is b room-is = let blank = b.blank in
    let runs : run ≡ me.0.run = ap (λ (m : Sat). m.0.run) (sym is) in record {
      keeps = first_keeps run me s sound is b;
      indexed = subst (λ (r : Run). IsIndexed r.nodes room (length s.nodes.items) s.nodes.items
          s.places.items) runs (all_placed run room (first_word_of run run.nodes) s.nodes.items
          s.places.items (omega (arith, sound.few)) room-is blank b.places_long b.places);
      roomy = omega (arith, b.nodes_room);
      few = omega (arith, sound.few);
      buffers = λ i h at. subst (λ (r : Run). HasRoomFor r h.node s.buffers) runs
          (b.buffers h.node (omega (
            arith,
            (blank.each i h at).node,
            at_below s.nodes.items i h at,
            blank.long,
          )));
    }

pub invariant_of-pass : goal.invariant_of-pass
invariant_of-pass g c = begun c.args.run.now c.in_ok-fabric.seat.me c.nodes-room.result
    c.in_ok-histories.histories c.requires.sound c.in_ok-fabric.ensures.first
    c.in_ok-histories.ensures c.nodes-room.ensures

pub returns : goal.returns
returns g c = let s = c.in_ok-fabric.ensures in let b = c.in_ok-histories.ensures.blank in record {
  run_is = s.run_is;
  belongs = record {
    table = s.table;
    run = ap (λ (m : Sat). m.0.run) s.first ∙ sym s.run_is;
    remembers = subst (λ (m : Memory). Remembers m c.in_ok-scratch.scratch) (sym s.memory)
        c.in_ok-scratch.ensures;
  };
  view = ap (λ (m : Sat). m.0) s.first;
  many = omega (arith, b.long);
  room = c.nodes-room.ensures;
}
