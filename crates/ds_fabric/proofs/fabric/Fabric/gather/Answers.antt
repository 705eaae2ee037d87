use Rattle.std.proofs.Common.{◌≡◌, ◌∙◌, ap, sym, arith}
use Rattle.ds_fabric.specs.Joined.{IsGathering}
use Rattle.ds_fabric.specs.Showing.{Showing}
use Rattle.ds_fabric.proofs.Gathering.{gathered, gathered_pass}
use Rattle.ds_fabric.proofs.fabric.Fabric.gather.Given
use Rattle.ds_fabric.proofs.fabric.Fabric.gather.Goals as goal
use Rattle.ds_fabric.proofs.fabric.Fabric.gather.Goals.{After-gather_seats}

-- both passes are of one run
one_run : (g : Given.Over) (c : After-gather_seats g)
    → c.other.inside.seat.me.0.run ≡ c.pass.inside.seat.me.0.run
one_run g c = ap (λ (x : Showing). x.view.run) c.other.view_is
    ∙ (c.requires.other.run ∙ (sym c.requires.fits.run
    ∙ sym (ap (λ (x : Showing). x.view.run) c.pass.view_is)))

-- the histories of both stand in the places of one
got : (g : Given.Over) (c : After-gather_seats g)
    → IsGathering c.pass.inside.seat.me.0.run.nodes c.pass.inside.room c.pass.inside.histories
    c.other.inside.histories
got g c = gathered c.pass.inside.seat.me c.other.inside.seat.me c.pass.inside.room
    c.pass.inside.histories c.other.inside.histories c.pass.invariant c.other.invariant.keeps
    (one_run g c) c.gather_seats.ensures.distinct (omega (
      arith,
      c.requires.room,
      ap (λ (x : Showing). x.many) c.pass.view_is,
      ap (λ (x : Showing). x.many) c.other.view_is,
      ap (λ (x : Showing). x.room) c.pass.view_is,
    ))

pub take_in-requires : goal.take_in-requires
take_in-requires g c = record {
  fits = (
    c.pass.inside.seat.me.0.run.nodes,
    c.pass.inside.room,
    got g (goal.at.take_in-requires g c).After-gather_seats,
  );
}

pub invariant_of-pass : goal.invariant_of-pass
invariant_of-pass g c =
    let a = (goal.at.invariant_of-pass g c).After-gather_seats in
    let (_, me) = c.gather_seats.ensures.seat in
    gathered_pass c.pass.inside.seat.me c.other.inside.seat.me c.gather_seats.new.seat.me
    c.pass.inside.room c.other.inside.room c.pass.inside.histories c.other.inside.histories
    c.take_in.new.self c.pass.invariant c.other.invariant (one_run g a)
    c.gather_seats.ensures.distinct me c.gather_seats.ensures.counts c.take_in.ensures.joined
    (c.take_in.ensures.indexed c.pass.inside.seat.me.0.run.nodes c.pass.inside.room (got g a))
