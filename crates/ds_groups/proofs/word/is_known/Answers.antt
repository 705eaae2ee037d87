use Rattle.std.proofs.Common.{◌∙◌, length, arith, sym, ap}
use Rattle.ds_design.specs.declared.design.Net.{Net}
use Rattle.ds_rows.specs.Nets.{net_text}
use Rattle.ds_groups.specs.Latest.{driven_net}
use Rattle.ds_groups.specs.Match.{has_form}
use Rattle.ds_groups.proofs.Takings.{some_none, some_true}
use Rattle.ds_groups.proofs.word.is_known.Goals as goal

pub returns-then-matches : goal.returns-then-matches
returns-then-matches c = sym (some_true (length c.args.named.now) (λ r. has_form c.args.pattern.now (net_text (driven_net c.args.named.now r))) c.loop-i.i
    (omega (arith, c.count-i-end.ensures.value, c.loop-i-test.true))
    (ap (λ (n : Net). has_form c.args.pattern.now (net_text n)) (sym c.net.ensures) ∙ (sym c.matches.ensures ∙ c.if-matches.true)))

pub returns : goal.returns
returns c = sym (some_none (length c.args.named.now) (λ r. has_form c.args.pattern.now (net_text (driven_net c.args.named.now r)))
    (λ r low. c.loop-i.invariant r (omega (arith, c.count-i-end.ensures.value, c.loop-i-test.false))))
