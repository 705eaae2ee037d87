use Rattle.std.proofs.Common.{◌∙◌, ap, sym}
use Rattle.ds_control.specs.Orders.{tokens_after}
use Rattle.ds_control.proofs.Required.{tokens_is}
use Rattle.ds_control.proofs.arcs.tokens_after.Goals as goal

pub returns-clause-value : goal.returns-clause-value
returns-clause-value c = c.open_tokens.ensures.value ∙ (sym (tokens_is c.of.result) ∙ ap tokens_after c.of.ensures)
