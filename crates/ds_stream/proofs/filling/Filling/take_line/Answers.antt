use Rattle.std.proofs.Common.{◌≡◌, ◌∙◌, ap, subst, ◌+◌, [], true, None, Option, Ok}
use Rattle.ds_base.specs.Values.{Row}
use Rattle.ds_lines.specs.Line.{is_some, words_in}
use Rattle.ds_rows.specs.Vector.{row_of}
use Rattle.ds_stream.specs.Bounded.{fault_under}
use Rattle.ds_stream.specs.Filling.{Filled, on_lines}
use Rattle.ds_stream.specs.Word.{GivesRow}
use Rattle.ds_stream.proofs.TakenLine.{takes_err, takes_with, row-width}
use Rattle.ds_stream.proofs.filling.Filling.take_line.Goals as goal

pub give-requires-clause-width : goal.give-requires-clause-width
give-requires-clause-width c =
    let now = c.args.self.now in
    let given : (is_some (words_in now.line) ≡ true) × (fault_under now.most now.width now.seen (words_in now.line) ≡ None) × (c.in-Ok-Some.row ≡ row_of now.width (words_in now.line)) =
    subst (λ (o : Option Row). GivesRow now.most now.width now.seen now.first (words_in now.line) (Ok o)) c.in-Ok-Some.field-0-is c.in-Ok-Some.ensures in
    row-width now.most now.width now.seen (words_in now.line) c.in-Ok-Some.row given.1 given.2

pub returns-in-Err-clause-takes : goal.returns-in-Err-clause-takes
returns-in-Err-clause-takes c = λ size lines.
    takes_err c.args.self.now c.in-Err.why size lines c.requires.some c.requires.near c.in-Err.ensures

pub returns-in_ok-give-in-Ok-Some-clause-takes : goal.returns-in_ok-give-in-Ok-Some-clause-takes
returns-in_ok-give-in-Ok-Some-clause-takes c = λ size lines.
    let now = c.args.self.now in
    let given : (is_some (words_in now.line) ≡ true) × (fault_under now.most now.width now.seen (words_in now.line) ≡ None) × (c.in-Ok-Some.row ≡ row_of now.width (words_in now.line)) =
    subst (λ (o : Option Row). GivesRow now.most now.width now.seen now.first (words_in now.line) (Ok o)) c.in-Ok-Some.field-0-is c.in-Ok-Some.ensures in
    ap (λ (g : Filled). on_lines g size lines) (c.begin_line-in-Ok-Some.ensures ∙ ap (λ (g : Filled). record g { first = g.lines + 1; line = [] }) c.in_ok-give-in-Ok-Some.ensures)
    ∙ takes_with now c.in-Ok-Some.row size lines c.requires.some c.requires.near given.0 given.1 given.2
