-- The nets that registers drive.
use Rattle.std.proofs.Common.{◌≡◌, ◌∙◌, inl, inr, ℕ, ◌+◌, ◌<◌, ◌≤◌, ◌^◌, List, length, get_or, sym, ap, subst, arith}
use Rattle.std.proofs.lemmas.Bool.{cases_eq, cases_lt}
use Rattle.std.proofs.lemmas.List.{get_or_past, get_or-map, length-map}
use Rattle.ds_base.proofs.ListLemmas.{get_or-default}
use Rattle.ds_design.specs.Circuit.{Circuit, register_nets}
use Rattle.ds_design.specs.declared.design.Net.{Net}
use Rattle.ds_design.specs.declared.design.Register.{Register}
use Rattle.ds_groups.specs.Indexed.{NetIndex, IsIndex}
use Rattle.ds_groups.specs.Latest.{missing_net, driven_net, HaveShortCopies}
use Rattle.ds_groups.specs.Names.{driven_nets, net_at}

pub length-driven : (c : Circuit) → length (driven_nets c) ≡ length c.registers
length-driven c = length-map (register_nets c) (net_at c) ∙ length-map c.registers (λ r. r.output)

pub driven : (c : Circuit) (i number : ℕ) (register : Register) (net : Net) → i < length c.registers → register ≡ get_or c.registers i register
    → number ≡ register.output → number < length c.nets → net ≡ get_or c.nets number net → net ≡ driven_net (driven_nets c) i
driven c i number register net inside is number_is within net_is =
    let n : length (register_nets c) ≡ length c.registers = length-map c.registers (λ r. r.output) in
    let out : get_or (register_nets c) i 0 ≡ number =
    get_or-map (λ (r : Register). r.output) c.registers i register 0 inside
    ∙ (ap (λ (r : Register). r.output) (sym is) ∙ sym number_is) in
    let at : driven_net (driven_nets c) i ≡ net_at c (get_or (register_nets c) i 0) =
    get_or-map (net_at c) (register_nets c) i 0 missing_net (omega arith) in
    net_is ∙ get_or-default c.nets number net missing_net within ∙ sym (at ∙ ap (λ (k : ℕ). net_at c k) out)

pub put_next : (nets : List Net) (i r : ℕ) (net : Net) (old new : NetIndex) → r ≡ i → net ≡ driven_net nets i
    → (driven_net nets r ≡ net → IsIndex nets r old → IsIndex nets (r + 1) new) → IsIndex nets i old → IsIndex nets (i + 1) new
put_next nets i r net old new same is step before =
    subst (λ (n : ℕ). IsIndex nets (n + 1) new) same
    (step (ap (λ (n : ℕ). driven_net nets n) same ∙ sym is) (subst (λ (n : ℕ). IsIndex nets n old) (sym same) before))

pub short_more : (nets : List Net) (i : ℕ) (net : Net) → net ≡ driven_net nets i → net.copy < 2 ^ 32
    → ((r : ℕ) → r < i → (driven_net nets r).copy < 2 ^ 32) → (r : ℕ) → r < i + 1 → (driven_net nets r).copy < 2 ^ 32
short_more nets i net is short before r low = elim (cases_eq r i) [
  | inl here ↦ subst (λ (n : Net). n.copy < 2 ^ 32) (is ∙ ap (λ (k : ℕ). driven_net nets k) (sym here)) short
  | inr other ↦ before r (omega arith)
]

pub short_all : (nets : List Net) (i : ℕ) → length nets ≤ i → ((r : ℕ) → r < i → (driven_net nets r).copy < 2 ^ 32) → HaveShortCopies nets
short_all nets i past each r = elim (cases_lt r (length nets)) [
  | inl low ↦ each r (omega arith)
  | inr high ↦ subst (λ (n : Net). n.copy < 2 ^ 32) (sym (get_or_past nets r missing_net high)) (omega arith)
]
