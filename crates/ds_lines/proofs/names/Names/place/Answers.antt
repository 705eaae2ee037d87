use Rattle.std.proofs.Common.{◌∙◌, ap, sym, List, ℕ}
use Rattle.ds_lines.specs.Names.{place_of_name}
use Rattle.ds_lines.proofs.WordKeys.{place_key, position_some, position_none}
use Rattle.ds_lines.proofs.names.Names.place.Goals as goal

pub returns-in-Some-clause-value : goal.returns-in-Some-clause-value
returns-in-Some-clause-value c = position_some _ c.self.inside.set.keys c.in-Some.place
    (sym c.get_index_of.ensures.index ∙ c.in-Some.is) ∙
    (place_key c.args.word.now c.self.inside.set.keys ∙ ap (λ (names : List
    (List ℕ)). place_of_name names c.args.word.now) c.self.view_is)

pub returns-in-None-clause-value : goal.returns-in-None-clause-value
returns-in-None-clause-value c = c.len.ensures.len ∙ (position_none _ c.self.inside.set.keys
    (sym c.get_index_of.ensures.index ∙ c.in-None.is) ∙
    (place_key c.args.word.now c.self.inside.set.keys ∙ ap (λ (names : List
    (List ℕ)). place_of_name names c.args.word.now) c.self.view_is))
