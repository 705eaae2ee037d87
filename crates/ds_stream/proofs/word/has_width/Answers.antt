use Rattle.std.proofs.Common.{◌∙◌, ap, sym}
use Rattle.std.specs.Str.{bytes_eq}
use Rattle.ds_stream.proofs.CutLines.{one_cut, width_none, width_some, wrong_cut}
use Rattle.ds_stream.proofs.word.has_width.Goals as goal

pub returns-then-has_blank-clause-value : goal.returns-then-has_blank-clause-value
returns-then-has_blank-clause-value c =
    sym (wrong_cut c.args.width c.args.line.now c.requires (sym c.has_blank.ensures ∙ c.if-has_blank.true))

pub returns-then-width-eq0-clause-value : goal.returns-then-width-eq0-clause-value
returns-then-width-eq0-clause-value c =
    let line = c.args.line.now in
    let one = one_cut line c.requires (sym c.has_blank.ensures ∙ c.if-has_blank.false) in
    c.eq.ensures ∙ (ap (bytes_eq line) c.as_slice.ensures ∙ sym (width_none c.args.width line c.if-width-eq0.true one))

pub returns-else-width-eq0-clause-value : goal.returns-else-width-eq0-clause-value
returns-else-width-eq0-clause-value c =
    let line = c.args.line.now in
    sym (width_some c.args.width line c.if-width-eq0.false (one_cut line c.requires (sym c.has_blank.ensures ∙ c.if-has_blank.false)))

pub returns-else-width-eq0-clause-one : goal.returns-else-width-eq0-clause-one
returns-else-width-eq0-clause-one c = λ same. one_cut c.args.line.now c.requires (sym c.has_blank.ensures ∙ c.if-has_blank.false)
