use Rattle.std.proofs.Common.{◌∙◌, ap, sym, ℕ, nat_lt, length}
use Rattle.ds_astg.specs.Keys.{key_of}
use Rattle.ds_astg.specs.Place.{Places as Kept, key_eq}
use Rattle.std.proofs.lemmas.List.{length-map}
use Rattle.ds_astg.proofs.Choices.{any_place}
use Rattle.ds_astg.proofs.places.Places.has.Goals as goal

pub returns : goal.returns
returns c = ap (λ (n : ℕ). nat_lt n c.len.result) c.number.ensures.value
    ∙ (ap (nat_lt _) (c.len.ensures.len ∙ (sym (length-map c.self.inside.keys.keys key_of) ∙ ap (λ (p : Kept). length p.keys) c.self.view_is))
    ∙ any_place (key_eq (key_of c.args.key)) c.args.self.now.keys)
