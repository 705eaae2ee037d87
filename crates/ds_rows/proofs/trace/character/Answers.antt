use Rattle.std.proofs.Common.{◌∙◌, ◌+◌, ◌*◌, ◌/◌, ℕ, ap}
use Rattle.ds_rows.proofs.RowText.{text_of_code}
use Rattle.ds_rows.proofs.trace.character.Goals as goal

pub returns : goal.returns
returns c = ap (λ (n : ℕ). 48 + n + 70 * (n / 2)) c.code-code.ensures.code ∙ text_of_code c.args.value
