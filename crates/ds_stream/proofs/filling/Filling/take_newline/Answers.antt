use Rattle.std.proofs.Common.{◌∙◌, sym, subst, ◌∷◌, []}
use Rattle.ds_stream.specs.Filling.{Filled, TakesBytes}
use Rattle.ds_stream.specs.contracts.filling.Filling.{the_view}
use Rattle.ds_stream.proofs.TakenBytes.{join_takes}
use Rattle.ds_stream.proofs.filling.Filling.take_newline.Goals as goal

pub returns-then-joins-clause-takes : goal.returns-then-joins-clause-takes
returns-then-joins-clause-takes c =
    subst (λ (f : Filled). TakesBytes c.join.result f c.join.new.self (10 ∷ [])) c.self.view_is
    (join_takes c.join.result (the_view c.self.inside) c.join.new.self (sym c.joins.ensures ∙ c.if-joins.true) c.join.ensures.ok c.join.ensures.same)
