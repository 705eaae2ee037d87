use Rattle.std.proofs.Common.{map}
use Rattle.std.specs.List.{before_first}
use Rattle.std.proofs.lemmas.List.{length-map}
use Rattle.ds_lines.specs.Line.{words_of, trimmed}
use Rattle.ds_lines.specs.Draft.{is_stop}
use Rattle.ds_lines.proofs.Spans.{read_more}
use Rattle.ds_lines.proofs.draft.Draft.take_words.Goals as goal

pub returns-clause-read : goal.returns-clause-read
returns-clause-read c = read_more (map (λ w. w.now) c.self.inside.words.items) (words_of
    (trimmed (before_first is_stop c.args.text.now))) _ c.self.inside.spans.items
    c.self.inside.first c.self.inside.start c.self.inside.number _ c.args.self.now c.self.view_is
    c.in_ok-place.ensures.words (length-map c.self.inside.words.items _) c.self.invariant.1
    c.self.invariant.0
