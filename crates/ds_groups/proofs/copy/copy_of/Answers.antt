use Rattle.std.proofs.Common.{◌≡◌, ◌∙◌, ℕ, List, sym, ap, arith, true, Bool, not}
use Rattle.std.specs.Prelude.{decimal}
use Rattle.std.specs.Str.{bytes_eq}
use Rattle.std.proofs.lemmas.Slice.Eq.{bytes_eq-Decides}
use Rattle.std.specs.Str.Parse.{digits_value}
use Rattle.std.proofs.lemmas.Bool.{false≢true}
use Rattle.ds_rows.specs.Number.{is_short_number}
use Rattle.ds_groups.proofs.Copies.{number_value, short_number}
use Rattle.ds_groups.proofs.copy.copy_of.Goals as goal
use Rattle.ds_groups.proofs.copy.copy_of.Goals.{then-value-eq0-via-then-value-eq0, then-value-eq0-via-else-value-eq0+then-value-gt4294967295}

pub returns-then-not-is_short-clause-none : goal.returns-then-not-is_short-clause-none
returns-then-not-is_short-clause-none c = λ copy above few e.
    false≢true (sym c.if-not-is_short.true ∙ (c.is_short.ensures ∙ (ap (λ (w : List ℕ). is_short_number w) e ∙ short_number copy few)))

pub returns-then-value-eq0-clause-none : goal.returns-then-value-eq0-clause-none
returns-then-value-eq0-clause-none c = λ copy above few e.
    let value : c.short_value-value.result ≡ copy = c.short_value-value.ensures ∙ (ap (λ (w : List ℕ). digits_value 10 w) e ∙ number_value copy few) in
    elim c.then-value-eq0.branch [
      | then-value-eq0-via-then-value-eq0 w ↦ absurd (omega (arith, value, w.if-value-eq0.true))
      | then-value-eq0-via-else-value-eq0+then-value-gt4294967295 w ↦ absurd (omega (arith, value, w.if-value-gt4294967295.true))
    ]

pub returns-then-ne-clause-none : goal.returns-then-ne-clause-none
returns-then-ne-clause-none c = λ copy above few e.
    let value : c.short_value-value.result ≡ copy = c.short_value-value.ensures ∙ (ap (λ (w : List ℕ). digits_value 10 w) e ∙ number_value copy few) in
    let same : c.as_bytes.result.now ≡ c.args.digits.now = c.as_bytes.ensures.value ∙ (c.format.ensures.text ∙ (ap (λ (n : ℕ). decimal n) value ∙ sym e)) in
    let told : bytes_eq c.as_bytes.result.now c.args.digits.now ≡ true = (bytes_eq-Decides c.as_bytes.result.now c.args.digits.now).1 same in
    false≢true (sym (c.ne.ensures ∙ ap (λ (b : Bool). not b) told) ∙ c.if-ne.true)
