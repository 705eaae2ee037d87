use Rattle.std.proofs.Common.{◌≡◌, subst, IfOk, ℕ}
use Rattle.ds_design.specs.declared.design.Net.{Net}
use Rattle.ds_flat.specs.Net.{number_of_net}
use Rattle.ds_flat.proofs.numbers.net_number.Goals as goal

pub returns-clause-number : goal.returns-clause-number
returns-clause-number c =
    subst (λ (k : Net). IfOk c.number.result (λ (n : ℕ). n ≡ number_of_net c.args.nets.now k))
    c.net.ensures c.number.ensures.number
