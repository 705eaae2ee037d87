use Rattle.std.proofs.Common.{ℕ, List, length, subst}
use Rattle.ds_split.specs.Grouped.{BelongTogether}
use Rattle.ds_split.specs.Groups.{AreGroups}
use Rattle.ds_split.specs.Keyed.{HaveOneKey}
use Rattle.ds_split.proofs.Keyed.{groups_alike}
use Rattle.ds_split.proofs.grouping.clusters_of.Goals as goal

pub returns : goal.returns
returns c =
    let are : AreGroups (HaveOneKey c.in_ok-keys.keys.items) (length c.args.design.now.registers) c.in_ok-by_keys.field-0.items =
    subst (λ (n : ℕ). AreGroups (HaveOneKey c.in_ok-keys.keys.items) n c.in_ok-by_keys.field-0.items) c.in_ok-keys.ensures.one_each
    (subst (λ (ks : List ℕ). AreGroups (HaveOneKey ks) (length ks) c.in_ok-by_keys.field-0.items) c.deref.ensures.value c.in_ok-by_keys.ensures) in
    groups_alike (BelongTogether c.args.design.now c.args.mode c.args.groups.now) (HaveOneKey c.in_ok-keys.keys.items) (length c.args.design.now.registers) c.in_ok-by_keys.field-0.items
    (λ a b low also. c.in_ok-keys.ensures.same a b low also) are
