use Rattle.std.proofs.Common.{◌∙◌, ap, sym}
use Rattle.ds_lines.proofs.WordKeys.{position_some, position_none}
use Rattle.ds_astg.specs.Keys.{key_of}
use Rattle.ds_astg.specs.Place.{Places as Kept, number_of_place}
use Rattle.ds_astg.proofs.PlaceKeys.{place_key}
use Rattle.ds_astg.proofs.places.Places.number.Goals as goal

pub returns-in-Some-clause-value : goal.returns-in-Some-clause-value
returns-in-Some-clause-value c = position_some _ c.self.inside.keys.keys c.in-Some.number
    (sym c.get_index_of.ensures.index ∙ c.in-Some.is) ∙
    (place_key c.args.key c.self.inside.keys.keys ∙ ap (λ (p : Kept). number_of_place p (key_of c.args.key)) c.self.view_is)

pub returns-in-None-clause-value : goal.returns-in-None-clause-value
returns-in-None-clause-value c = c.len.ensures.len ∙ (position_none _ c.self.inside.keys.keys
    (sym c.get_index_of.ensures.index ∙ c.in-None.is) ∙
    (place_key c.args.key c.self.inside.keys.keys ∙ ap (λ (p : Kept). number_of_place p (key_of c.args.key)) c.self.view_is))
