use Rattle.std.proofs.Common.{◌≡◌, subst, None, List}
use Rattle.ds_design.specs.declared.blif.BlifModel.{BlifModel}
use Rattle.ds_flat.specs.Copies.{model_named}
use Rattle.ds_flat.specs.Interface.{Finds}
use Rattle.ds_flat.proofs.Models.{finds, finds_none}
use Rattle.ds_flat.proofs.library.Library.find.Goals as goal

pub returns-then-place-models : goal.returns-then-place-models
returns-then-place-models c =
    subst (λ (ms : List BlifModel). Finds ms c.args.name.now c.place-place.result
    c.index-models-place.result c.index.result.now) c.self.view_is
    (finds c.self.inside.models.now c.self.inside.names c.self.inside.ports.items c.self.invariant
    c.args.name.now c.place-place.result c.place-place.ensures.value c.index-models-place.result
    c.index.result.now c.if-place-models.true c.index-models-place.is c.index.ensures)

pub returns-else-place-models : goal.returns-else-place-models
returns-else-place-models c =
    subst (λ (ms : List BlifModel). model_named ms c.args.name.now ≡ None) c.self.view_is
    (finds_none c.self.inside.models.now c.self.inside.names c.self.inside.ports.items
    c.self.invariant c.args.name.now c.place-place.result c.place-place.ensures.value
    c.if-place-models.false)
