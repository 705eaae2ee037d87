use Rattle.std.proofs.Common.{◌≡◌, ◌∙◌, ◌<◌, ◌≤◌, ℕ, List, length, get_or, sym, ap, subst}
use Rattle.std.proofs.lemmas.List.Elements.{All-get_or}
use Rattle.ds_design.specs.declared.design.Net.{Net}
use Rattle.ds_design.specs.declared.design.Register.{Register}
use Rattle.std.specs.Prelude.{IfSome}
use Rattle.ds_groups.proofs.DrivenNets.{driven}
use Rattle.ds_groups.proofs.named.net_of.Goals as goal

pub returns-clause-net : goal.returns-clause-net
returns-clause-net c =
    let at : c.index-registers-i.result ≡ get_or c.args.design.now.registers c.args.i c.index-registers-i.result =
    c.index-registers-i.is ∙ ap (λ (rs : List Register). get_or rs c.args.i c.index-registers-i.result) c.registers.ensures.registers in
    let number : c.index.result ≡ c.index-registers-i.result.output = c.index.ensures ∙ ap (λ (r : Register). r.output) (sym c.index-registers-i.is) in
    driven c.args.design.now c.args.i c.index.result c.index-registers-i.result c.index-nets-index.result c.requires
    at
    number
    (subst (λ (n : ℕ). n < length c.args.design.now.nets) (sym (number ∙ ap (λ (r : Register). r.output) at))
    (All-get_or (λ (r : Register). (r.data_net < length c.args.design.now.nets) × (r.output < length c.args.design.now.nets) × IfSome r.control (λ net. net < length c.args.design.now.nets) × (r.initial ≤ 3))
    c.args.design.now.registers c.args.i c.index-registers-i.result c.requires c.registers.ensures.in_range.registers).1)
    (c.index-nets-index.is ∙ ap (λ (ns : List Net). get_or ns c.index.result c.index-nets-index.result) c.nets.ensures)
