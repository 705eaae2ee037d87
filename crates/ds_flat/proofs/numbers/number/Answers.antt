use Rattle.std.proofs.Common.{◌≡◌, List, subst, IfOk, ℕ}
use Rattle.ds_flat.specs.Net.{net_of_name, number_of_net}
use Rattle.ds_flat.proofs.numbers.number.Goals as goal

pub returns-clause-number : goal.returns-clause-number
returns-clause-number c =
    subst (λ (name : List ℕ). IfOk c.net_number.result
    (λ (n : ℕ). n ≡ number_of_net c.args.nets.now (net_of_name c.args.scope.now name)))
    c.get.ensures c.net_number.ensures.number
