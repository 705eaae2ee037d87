use Rattle.std.proofs.Common.{◌≡◌, ◌∙◌, ap, sym, subst, List, map, Result}
use Rattle.ds_base.specs.Refusal.{IsMeant}
use Rattle.ds_design.specs.declared.blif.BlifModel.{BlifModel}
use Rattle.ds_design.specs.Source.{IsBlif}
use Rattle.ds_design.specs.Circuit.{Circuit}
use Rattle.ds_lines.specs.declared.at.At.{At}
use Rattle.ds_flat.specs.Bare.{bare}
use Rattle.ds_flat.specs.Copies.{flat_of}
use Rattle.ds_flat.proofs.Needed.{flat_of-bare, blif_bare}
use Rattle.ds_flat.proofs.flat.flatten.Goals as goal
use Rattle.ds_flat.specs.declared.fault.FlatKind.{FlatKind}

pub flattened-requires : goal.flattened-requires
flattened-requires c =
    let same : c.as_slice.result.now ≡ map bare c.args.blif.now =
    c.as_slice.ensures.value ∙ (c.in-Ok.ensures ∙ ap (map bare) c.models.ensures.value) in
    subst (λ (models : List BlifModel). IsBlif models) (sym same)
    (blif_bare c.args.blif.now c.models.ensures.kept)

pub returns-in-Ok : goal.returns-in-Ok
returns-in-Ok c =
    let same : c.as_slice.result.now ≡ map bare c.args.blif.now =
    c.as_slice.ensures.value ∙ (c.in-Ok.ensures ∙ ap (map bare) c.models.ensures.value) in
    subst (λ (r : Result Circuit (At FlatKind)). IsMeant c.flattened.result r)
    (sym (flat_of-bare c.args.blif.now ∙ ap flat_of (sym same))) c.flattened.ensures
