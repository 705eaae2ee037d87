use Rattle.std.proofs.Common.{◌≡◌, ◌∙◌, sym, ap, Some, arith}
use Rattle.std.specs.Str.Parse.{digits_value}
use Rattle.ds_cmd.proofs.NumberWords.{no_numeral, inside, below, above, value_read, not_read}
use Rattle.ds_cmd.proofs.number.number.Goals as goal

pub returns-then-not-is_numeral : goal.returns-then-not-is_numeral
returns-then-not-is_numeral c =
    sym (no_numeral _ _ _ (sym c.is_numeral.ensures ∙ c.if-not-is_numeral.true))

pub returns-in-Ok : goal.returns-in-Ok
returns-in-Ok c =
    let is = sym c.is_numeral.ensures ∙ c.if-not-is_numeral.false in
    let (parses, _, _) = c.in-Ok.ensures.value in
    let read : digits_value 10 c.args.word.now ≡ c.in-Ok.value =
    value_read c.args.word.now c.in-Ok.value is parses in
    sym (inside _ _ c.args.word.now is (omega (arith, read, c.if-value-least.true))
    (omega (arith, read, c.if-value-most.true)) ∙ ap Some read)

pub returns-in_default : goal.returns-in_default
returns-in_default c =
    let is = sym c.is_numeral.ensures ∙ c.if-not-is_numeral.false in
    let (parses, _, _) = c.in-Ok.ensures.value in
    let read = value_read c.args.word.now c.in-Ok.value is parses in
    sym (above c.args.least c.args.most c.args.word.now c.in-Ok.value read c.if-value-most.false)

pub returns-in_default-2 : goal.returns-in_default-2
returns-in_default-2 c =
    let is = sym c.is_numeral.ensures ∙ c.if-not-is_numeral.false in
    let (parses, _, _) = c.in-Ok.ensures.value in
    let read = value_read c.args.word.now c.in-Ok.value is parses in
    sym (below c.args.least c.args.most c.args.word.now c.in-Ok.value read c.if-value-least.false)

pub returns-in_default-3 : goal.returns-in_default-3
returns-in_default-3 c =
    let is = sym c.is_numeral.ensures ∙ c.if-not-is_numeral.false in
    let (fails, _, _) = c.in_default.ensures.value in
    sym (not_read c.args.least c.args.most c.args.word.now c.ranges.most.fits is fails)
