use Rattle.std.proofs.Common.{◌∙◌, ap, ℕ, nat_lt}
use Rattle.std.specs.Str.{bytes_eq}
use Rattle.ds_lines.specs.Names.{has_name}
use Rattle.ds_astg.specs.Signals.{Declared}
use Rattle.ds_astg.proofs.Choices.{any_place}
use Rattle.ds_astg.proofs.signals.Signals.has.Goals as goal

pub returns : goal.returns
returns c = ap (λ (n : ℕ). nat_lt n c.len.result) c.place.ensures.value
    ∙ (ap (nat_lt _) c.len.ensures ∙ (any_place (bytes_eq c.args.word.now) c.self.inside.names
    ∙ ap (λ (s : Declared). has_name s.names c.args.word.now) c.self.view_is))
