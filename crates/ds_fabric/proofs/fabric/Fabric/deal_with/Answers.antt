use Rattle.std.proofs.Common.{◌≡◌, ◌∙◌, ◌<◌, ◌++◌, ◌∷◌, [], ℕ, List, true}
use Rattle.std.proofs.Common.{ap, arith, subst, sym, refl}
use Rattle.std.proofs.lemmas.List.{get_or_default}
use mathlib.Core.Option.{some}
use lib.ListN.{get_elem?}
use Rattle.ds_rule.specs.Run.{Run}
use Rattle.ds_rule.specs.Sound.{IsSound}
use Rattle.ds_rule.specs.Rule.{holds}
use Rattle.ds_rule.specs.Plays.{Sat, with_cut, without_cut, only_cut}
use Rattle.ds_rule.proofs.GetElemLemmas.{same_at, at_below}
use Rattle.ds_fabric.specs.Base.{Base}
use Rattle.ds_fabric.specs.Flight.{HasRoomFor}
use Rattle.ds_fabric.specs.Indexed.{IsHistoryAt}
use Rattle.ds_fabric.specs.Showing.{Showing, IsPass}
use Rattle.ds_fabric.specs.declared.history.History.{History}
use Rattle.ds_fabric.specs.declared.histories.Histories.{Histories}
use Rattle.ds_fabric.proofs.Dealing.{separated, wide, still_at, left_pass, dealt_pass}
use Rattle.ds_fabric.proofs.Finds.{indexed_same, stands_same, at_node}
use Rattle.ds_fabric.proofs.PassMemory.{near-node}
use Rattle.ds_fabric.proofs.fabric.Fabric.deal_with.Given
use Rattle.ds_fabric.proofs.fabric.Fabric.deal_with.Goals as goal
use Rattle.ds_fabric.proofs.fabric.Fabric.deal_with.Goals.{After-self, After-deal_seat-seat}

pub find-at-requires-clause-indexed : goal.find-at-requires-clause-indexed
find-at-requires-clause-indexed g c = (
  c.pass.inside.seat.me.0.run.nodes,
  c.pass.inside.room,
  indexed_same c.pass.inside.seat.me.0.run.nodes c.pass.inside.room
      c.pass.inside.histories.nodes.items c.as_slice-held.result.now
      c.pass.inside.histories.places.items c.as_slice.result.now c.as_slice-held.ensures.value
      c.as_slice.ensures.value c.pass.invariant.indexed,
)

pub find-at-requires-clause-there : goal.find-at-requires-clause-there
find-at-requires-clause-there g c =
    stands_same c.pass.inside.histories.nodes.items c.as_slice-held.result.now
    c.index-number.result c.args.node c.as_slice-held.ensures.value c.index-number.ensures
    (c.pass.invariant.keeps.found c.args.node
    (subst (λ (x : Showing). holds x.view c.args.node ≡ true)
    (sym c.pass.view_is) c.requires.held))

-- the run of the pass
run_is : (g : Given.Over) (c : After-self g)
    → c.self.inside.run.now ≡ c.pass.inside.seat.me.0.run
run_is g c = ap (λ (x : Base). x.run) c.self.view_is
    ∙ (sym c.requires.fits.run ∙ sym (ap (λ (x : Showing). x.view.run) c.pass.view_is))

-- the node is one of the run
near : (g : Given.Over) (c : After-self g) → c.index-number.result < c.self.inside.run.now.nodes
near g c = let n = near-node c.pass.inside.seat.me c.pass.inside.histories c.args.node
    c.pass.invariant.keeps
    (subst (λ (x : Showing). holds x.view c.args.node ≡ true)
    (sym c.pass.view_is) c.requires.held) in
    omega (arith, n, ap (λ (r : Run). r.nodes) (run_is g c), c.index-number.ensures)

pub index-reads-requires : goal.index-reads-requires
index-reads-requires g c = let (built, _, _) = c.self.invariant in
    omega (arith, near g c, built.reads.long)

pub room_for-requires-clause-near : goal.room_for-requires-clause-near
room_for-requires-clause-near g c =
    (near g (goal.at.room_for-requires-clause-near g c).After-self, c.requires.room)

pub room_for-requires-clause-reads : goal.room_for-requires-clause-reads
room_for-requires-clause-reads g c = let (built, _, _) = c.self.invariant in
    let n : ℕ = c.index-number.result in let reads : List ℕ = c.self.inside.index.reads.items in
    let low = near g (goal.at.room_for-requires-clause-reads g c).After-self in
    c.index-reads.ensures
    ∙ (get_or_default reads n c.index-reads.result.now 0 (omega (arith, low, built.reads.long))
    ∙ built.reads.each n low)

pub separate-requires : goal.separate-requires
separate-requires g c = let (built, _, _) = c.self.invariant in
    let r = run_is g (goal.at.separate-requires g c).After-self in record {
      wide = wide c.pass.inside.seat.me c.limit.result c.pass.inside.histories
          (c.limit.ensures ∙ ap (λ (x : Run). x.limit) r)
          (subst IsSound r built.over.sound) c.pass.invariant.keeps;
    }

-- the pass with each history in a list of its own, and the one that is dealt
apart : (g : Given.Over) (c : After-deal_seat-seat g)
    → IsPass c.pass.inside.seat.me c.pass.inside.room c.separate.new.self
    × IsHistoryAt c.separate.new.self.nodes.items c.find-at.result c.args.node
apart g c =
    let r : c.self.inside.run.now ≡ c.pass.inside.seat.me.0.run =
    ap (λ (x : Base). x.run) c.self.view_is
    ∙ (sym c.requires.fits.run ∙ sym (ap (λ (x : Showing). x.view.run) c.pass.view_is)) in
    let s : Histories = c.pass.inside.histories in let t : Histories = c.separate.new.self in (
      separated c.pass.inside.seat.me c.pass.inside.room c.limit.result s t
          (c.limit.ensures ∙ ap (λ (x : Run). x.limit) r) c.pass.invariant
          c.in_ok-separate.ensures.ok,
      still_at c.limit.result c.find-at.result c.args.node s t c.in_ok-separate.ensures.ok
          (at_node s.nodes.items c.find-at.result c.index-number.result c.args.node
          c.index-number.ensures
          (subst (λ (l : List History). IsHistoryAt l c.find-at.result c.index-number.result)
          c.as_slice-held.ensures.value c.find-at.ensures)),
    )

pub take_out-history-requires-clause-indexed : goal.take_out-history-requires-clause-indexed
take_out-history-requires-clause-indexed g c =
    let a = apart g (goal.at.take_out-history-requires-clause-indexed g c).After-deal_seat-seat in
    (c.pass.inside.seat.me.0.run.nodes, c.pass.inside.room, a.0.indexed)

pub take_out-history-requires-clause-distinct : goal.take_out-history-requires-clause-distinct
take_out-history-requires-clause-distinct g c =
    let a = apart g (goal.at.take_out-history-requires-clause-distinct g c).After-deal_seat-seat in
    a.0.keeps.distinct

pub take_out-history-requires-clause-near : goal.take_out-history-requires-clause-near
take_out-history-requires-clause-near g c =
    let a = apart g (goal.at.take_out-history-requires-clause-near g c).After-deal_seat-seat in
    omega (arith, at_below c.separate.new.self.nodes.items c.find-at.result a.1.0 a.1.1)

pub invariant_of-pass : goal.invariant_of-pass
invariant_of-pass g c = subst (λ (s : Histories). IsPass c.pass.inside.seat.me c.pass.inside.room s)
    (sym c.in_err-separate.ensures.same) c.pass.invariant

-- the history that was taken out is the node's
taken : (xs : List History) (i node : ℕ) (h : History) → get_elem? xs i ≡ some h
    → IsHistoryAt xs i node → h.node ≡ node
taken xs i node h at f = ap (λ (x : History). x.node) (same_at xs i h f.0 at f.1) ∙ f.2

pub invariant_of-pass-2 : goal.invariant_of-pass-2
invariant_of-pass-2 g c = let (_, lent_me) = c.deal_seat-seat.ensures.lent in
    let a = apart g (goal.at.invariant_of-pass-2 g c).After-deal_seat-seat in
    let at = c.take_out-history.ensures.value in
    let same = taken c.separate.new.self.nodes.items c.find-at.result c.args.node
    c.take_out-history.result at a.1 in
    let me : Sat = c.pass.inside.seat.me in let s : Histories = c.separate.new.self in
    let out = c.take_out-history.ensures in
    let t : Histories = record {
      nodes = c.take_out-history.new.nodes;
      places = c.take_out-history.new.places;
      apart = s.apart;
      together = s.together;
      buffers = s.buffers;
    } in
    left_pass me c.deal_seat-seat.new.seat.me c.pass.inside.room s t c.find-at.result c.args.node
    c.take_out-history.result c.in_ok-separate.ensures.ok.apart c.in_ok-separate.ensures.ok.apart
    a.0 at same
    (lent_me ∙ ap (λ (n : ℕ). (
      without_cut (with_cut me.0 n),
      me.1,
    )) c.index-number.ensures) out.without
    (out.indexed me.0.run.nodes c.pass.inside.room a.0.indexed) out.room refl

pub invariant_of-result : goal.invariant_of-result
invariant_of-result g c = let (_, dealt_me) = c.deal_seat-seat.ensures.new in
    let a = apart g (goal.at.invariant_of-result g c).After-deal_seat-seat in
    let at = c.take_out-history.ensures.value in
    let same = taken c.separate.new.self.nodes.items c.find-at.result c.args.node
    c.take_out-history.result at a.1 in
    let me : Sat = c.pass.inside.seat.me in let s : Histories = c.separate.new.self in
    let made : Histories = c.in_ok-histories.histories in
    let q = c.in_ok-histories.ensures in let h : History = c.take_out-history.result in
    let t : Histories = record {
      nodes = c.push_reserved.new.self;
      places = made.places;
      apart = made.apart;
      together = made.together;
      buffers = made.buffers;
    } in
    dealt_pass me c.deal_seat-seat.result.me c.self.inside.run.now c.args.room s t
    c.find-at.result c.args.node h (run_is g (goal.at.invariant_of-result g c).After-self)
    c.in_ok-separate.ensures.ok.apart q.apart a.0.keeps at same
    (dealt_me ∙ ap (λ (n : ℕ). (
      only_cut (with_cut me.0 n),
      [],
    )) c.index-number.ensures)
    (c.push_reserved.ensures.items ∙ ap (λ (xs : List History). xs ++ h ∷ []) q.nodes)
    (q.places h (same ∙ sym c.index-number.ensures))
    (omega (arith, c.push_reserved.ensures.capacity, q.nodes_room))
    (subst (λ (l : ℕ). HasRoomFor c.self.inside.run.now l made.buffers) c.index-number.ensures
    q.buffers)
