-- A pass through loads and firings.
use Rattle.std.proofs.Common.{◌≡◌, ℕ, List, length, set, sym, refl, ap, ◌∙◌, subst}
use Rattle.std.proofs.Common.{arith, length-set, ⊎_elim, vec_len, vec_capacity}
use mathlib.Core.Option.{some}
use lib.ListN.{get_elem?}
use Rattle.atomic_table.proofs.Lists.{at_set}
use Rattle.ds_rule.specs.Run.{Run, next, IsEnabledInRun}
use Rattle.ds_rule.specs.Rule.{seen}
use Rattle.ds_rule.specs.Plays.{Sat}
use Rattle.ds_fabric.specs.Noted.{IsArmed}
use Rattle.ds_fabric.specs.Flight.{HasRoomFor}
use Rattle.ds_fabric.specs.Indexed.{IsIndexed, IsHistoryAt}
use Rattle.ds_fabric.specs.Looks.{LooksOn}
use Rattle.ds_fabric.specs.Noted.{HasFired}
use Rattle.ds_fabric.specs.Showing.{IsPass}
use Rattle.ds_fabric.specs.declared.history.History.{History}
use Rattle.ds_fabric.specs.declared.histories.Histories.{Histories}
use Rattle.ds_fabric.proofs.Flights.{arms_enabled}
use Rattle.ds_fabric.proofs.PassMemory.{landed, looks_keep, fires_keep}
use Rattle.ds_fabric.proofs.Standing.{put_back}

-- loads keep a pass
pub looks_pass : (me me' : Sat) (room : ℕ) (s : Histories) → IsPass me room s
    → LooksOn me.0 me'.0 → me'.1 ≡ me.1 → IsPass me' room s
looks_pass me me' room s p q slots = record {
  keeps = looks_keep me me' s p.keeps q slots;
  indexed = subst (λ (r : Run). IsIndexed r.nodes room (length s.nodes.items) s.nodes.items
      s.places.items) (sym q.run) p.indexed;
  roomy = p.roomy;
  few = p.few;
  buffers = λ i h at. subst (λ (r : Run). HasRoomFor r h.node s.buffers) (sym q.run)
      (p.buffers i h at);
}

-- the room for a node is as large as it was
same_room : (run : Run) (l l' : ℕ) (s t : Histories) → l' ≡ l
    → vec_capacity t.buffers.from ≡ vec_capacity s.buffers.from
    → vec_capacity t.buffers.told ≡ vec_capacity s.buffers.told → HasRoomFor run l s.buffers
    → HasRoomFor run l' t.buffers
same_room run l l' s t node from told r =
    subst (λ (x : ℕ). HasRoomFor run x t.buffers) (sym node) (record {
      from = omega (arith, r.from, from);
      told = omega (arith, r.told, told);
    })

-- a firing keeps a pass
pub fires_pass : (me me' : Sat) (room : ℕ) (s t : Histories) (i ticket : ℕ) (h : History)
    → IsPass me room s → get_elem? s.nodes.items i ≡ some h
    → me' ≡ (landed me.0 h.node ticket, me.1) → HasFired me.0.run s t i ticket h
    → IsPass me' room t
fires_pass me me' room s t i ticket h p at is f =
    let run : me'.0.run ≡ me.0.run = ap (λ (m : Sat). m.0.run) is in
    let R : Run = me.0.run in let h' : History = f.told.new in
    let node : h'.node ≡ h.node = f.told.noted.node ∙ ap (λ (x : History). x.node) f.old_is in
    let nodes : List History = s.nodes.items in
    let P : List History → List ℕ → Run → Type 0 =
    λ ns ps r. IsIndexed r.nodes room (length ns) ns ps in
    record {
      keeps = fires_keep me me' s t i ticket h p.keeps at is f;
      indexed = subst (P t.nodes.items t.places.items) (sym run)
          (subst (λ (ns : List History). P ns t.places.items R) (sym f.told.nodes)
          (subst (λ (ps : List ℕ). P (set nodes i h') ps R)
          (sym (ap (λ v. v.items) f.told.places))
          (put_back R.nodes room i nodes h h' s.places.items p.indexed at node)));
      roomy = omega (arith, p.roomy, f.told.nodes_room);
      few = p.few;
      buffers = λ j g at'. subst (λ (r : Run). HasRoomFor r g.node t.buffers) (sym run)
          (⊎_elim
          (λ e. same_room R h.node g.node s t (ap (λ (x : History). x.node) (sym e.1) ∙ node)
          f.told.from_room f.told.told_room (p.buffers i h at))
          (λ e. same_room R g.node g.node s t refl f.told.from_room f.told.told_room
          (p.buffers j g e.1))
          (at_set nodes i j h' g
          (subst (λ (ns : List History). get_elem? ns j ≡ some g) f.told.nodes at')));
    }

-- it holds as many histories as before
pub fires_many : (run : Run) (s t : Histories) (i ticket : ℕ) (h : History)
    → HasFired run s t i ticket h → vec_len t.nodes ≡ vec_len s.nodes
fires_many run s t i ticket h f = omega (
  arith,
  ap (λ (ns : List History). length ns) f.told.nodes,
  length-set s.nodes.items i f.told.new,
)

-- a node of a pass that is enabled at what was seen is armed
pub pass_arms : (run : Run) (me : Sat) (room : ℕ) (s : Histories) (i l : ℕ) → me.0.run ≡ run
    → IsPass me room s → (there : IsHistoryAt s.nodes.items i l)
    → IsEnabledInRun run (seen me.0) (next run l (seen me.0 l)) → IsArmed run me.0 s i there.0
pass_arms run me room s i l run_is p there on = let (h, at, node) = there in
    arms_enabled run me s i h run_is p.keeps (p.buffers i h at) at
    (subst (λ (x : ℕ). IsEnabledInRun run (seen me.0) (next run x (seen me.0 x))) (sym node) on)
