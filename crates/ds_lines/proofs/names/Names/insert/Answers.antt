use Rattle.std.proofs.Common.{◌∙◌, ap, not, List, ℕ, map}
use Rattle.ds_lines.specs.Names.{has_name, place_of_name, with_name}
use Rattle.ds_lines.proofs.WordKeys.{any_key, place_key, insert_key_words}
use Rattle.ds_lines.proofs.names.Names.insert.Goals as goal

pub returns-clause-place : goal.returns-clause-place
returns-clause-place c = c.in_ok-place.ensures.index
    ∙ place_key c.args.word.now c.self.inside.set.keys ∙ ap
    (λ names. place_of_name names c.args.word.now) c.self.view_is

pub returns-clause-added : goal.returns-clause-added
returns-clause-added c = c.in_ok-place.ensures.added ∙ ap not
    (any_key c.args.word.now c.self.inside.set.keys) ∙ ap (λ names. not
    (has_name names c.args.word.now)) c.self.view_is

pub returns-clause-ok : goal.returns-clause-ok
returns-clause-ok c = ap (λ keys. map (λ k. k.now) keys) c.in_ok-place.ensures.keys
    ∙ insert_key_words c.args.word c.self.inside.set.keys ∙ ap (λ (names : List
    (List ℕ)). with_name names c.args.word.now) c.self.view_is
