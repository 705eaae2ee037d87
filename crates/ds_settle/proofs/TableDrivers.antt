-- The drivers of the nets, table by table.
use Rattle.std.proofs.Common.{◌≡◌, ◌≢◌, ◌∙◌, ℕ, ◌+◌, ◌<◌, List, Option, Some, None, length, get_or, sym, arith, inl, inr, subst}
use Rattle.std.proofs.Math.ListN.{replicate, set}
use Rattle.std.proofs.lemmas.Bool.{cases_eq}
use Rattle.std.proofs.lemmas.List.{get_or-replicate, get_or-set_other, get_or-set_same, length-replicate, length-set}
use Rattle.ds_design.specs.Circuit.{Circuit}
use Rattle.ds_settle.specs.Cone.{net_of}
use Rattle.ds_settle.specs.Walk.{AreDrivers, IsDriver}

module _ (c : Circuit) where
  other_driver : (k net : ℕ) (driver : Option ℕ) → net_of c k ≢ net → IsDriver c k net driver → IsDriver c (k + 1) net driver
  other_driver k net None apart free = λ j below. elim (cases_eq j k) [
    | inl e ↦ subst (λ (n : ℕ). net_of c n ≢ net) (sym e) apart
    | inr ne ↦ free j (omega arith)
  ]
  other_driver k net (Some j) apart is = (omega (arith, is.0), is.1)

  -- no table yet
  pub drivers_none : AreDrivers c 0 (replicate {A = Option ℕ} (length c.nets) None)
  drivers_none = record {
    one_each = length-replicate {A = Option ℕ} (length c.nets) None;
    each = λ net low. subst (IsDriver c 0 net) (sym (get_or-replicate {A = Option ℕ} (length c.nets) net None None low)) (λ k below. absurd (omega arith));
  }

  -- one more table
  pub drivers_more : (k net : ℕ) (drivers : List (Option ℕ)) → net_of c k ≡ net → net < length c.nets → AreDrivers c k drivers → AreDrivers c (k + 1) (set drivers net (Some k))
  drivers_more k net drivers is low h = record {
    one_each = length-set drivers net (Some k) ∙ h.one_each;
    each = λ other below. elim (cases_eq other net) [
      | inl e ↦
          (let here : get_or (set drivers net (Some k)) net None ≡ Some k = get_or-set_same drivers net (Some k) None (omega (arith, h.one_each)) in
          let driver : IsDriver c (k + 1) net (Some k) = (omega arith, is) in
          subst (λ (n : ℕ). IsDriver c (k + 1) n (get_or (set drivers net (Some k)) n None)) (sym e) (subst (IsDriver c (k + 1) net) (sym here) driver))
      | inr ne ↦
          subst (IsDriver c (k + 1) other) (sym (get_or-set_other drivers net other (Some k) None ne))
          (other_driver k other (get_or drivers other None) (λ e. ne (sym e ∙ is)) (h.each other below))
    ];
  }
