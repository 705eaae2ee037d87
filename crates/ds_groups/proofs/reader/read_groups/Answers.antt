use Rattle.std.proofs.Common.{◌≡◌, ◌∙◌, ℕ, List, length, map, sym, ap, subst, Result, Ok}
use Rattle.std.proofs.lemmas.List.{length-map}
use Rattle.ds_design.specs.declared.design.Net.{Net}
use Rattle.ds_lines.specs.declared.at.At.{At}
use Rattle.ds_rows.specs.Nets.{net_text}
use Rattle.ds_groups.specs.Members.{members_by}
use Rattle.ds_groups.specs.Read.{groups_of}
use Rattle.ds_groups.specs.declared.fault.GroupKind.{GroupKind}
use Rattle.ds_groups.proofs.Disjoint.{disjoint_of}
use Rattle.ds_groups.proofs.Membered.{groups_are}
use Rattle.ds_groups.proofs.reader.read_groups.Goals as goal

pub returns-clause-ok_disjoint : goal.returns-clause-ok_disjoint
returns-clause-ok_disjoint c =
    let size : length (map net_text c.in_ok-named.named) ≡ c.count.result = length-map c.in_ok-named.named net_text ∙ sym c.count.ensures.value in
    let held : length c.take_lines.new.holders ≡ c.count.result = c.in_ok-take_lines.ensures.size ∙ sym c.count.ensures.value in
    let members : c.of-2.result ≡ members_by c.take_lines.new.holders (length c.args.lines.now) =
    c.of-2.ensures ∙ (c.in_ok-members.ensures ∙ ap (λ (n : ℕ). members_by c.take_lines.new.holders n) c.count-2.ensures) in
    let meant : groups_of (map net_text c.in_ok-named.named) c.args.lines.now ≡ Ok c.of-2.result =
    groups_are (map net_text c.in_ok-named.named) c.args.lines.now c.count.result c.in_ok-holders.holders c.take_lines.new.holders size c.in_ok-holders.ensures held c.in_ok-take_lines.ensures.value
    ∙ ap (λ (gs : List (List ℕ)). let r : Result (List (List ℕ)) (At GroupKind) = Ok gs in r) (sym members) in
    disjoint_of c.args.design.now c.args.lines.now c.of-2.result c.in_ok-take_lines.ensures.words
    (subst (λ (nets : List Net). groups_of (map net_text nets) c.args.lines.now ≡ Ok c.of-2.result) c.in_ok-named.ensures meant)
