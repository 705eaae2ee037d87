use Rattle.std.proofs.Common.{sym, subst, arith, Option}
use Rattle.std.specs.Prelude.{IfNone}
use Rattle.ds_groups.specs.Copy.{IsOfNoCopy}
use Rattle.ds_groups.specs.declared.copy.Copied.{Copied}
use Rattle.ds_groups.proofs.Copies.{copied_digits, copied_low, cut_at}
use Rattle.ds_groups.proofs.copy.copied_in.Goals as goal

pub returns-then-place-word-clause-none : goal.returns-then-place-word-clause-none
returns-then-place-word-clause-none c = λ copy name above few e.
    let low = copied_low c.args.word.now name copy c.place_of-place.result few e c.place_of-place.ensures.value in
    absurd (omega (arith, c.if-place-word.true, low))

pub returns-in_err-copy-clause-none : goal.returns-in_err-copy-clause-none
returns-in_err-copy-clause-none c = subst (λ (o : Option Copied). IfNone o (IsOfNoCopy c.args.word.now)) (sym c.from_residual.ensures)
    (λ copy name above few e. c.in_err-copy.ensures.none copy above few
    (copied_digits c.args.word.now name copy c.place_of-place.result few e c.place_of-place.ensures.value))

pub returns-clause-some : goal.returns-clause-some
returns-clause-some c = let (_, digits) = c.in_ok-copy.ensures.some in
    cut_at c.args.word.now c.in_ok-copy.copy c.place_of-place.result c.place_of-place.ensures.value
    (omega (arith, c.place_of-place.ensures.within, c.if-place-word.false)) digits
