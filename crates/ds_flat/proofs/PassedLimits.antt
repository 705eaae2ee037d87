-- Designs that have grown, and the limits that they pass.
use Rattle.std.proofs.Common.{◌≡◌, ℕ, ◌≤◌, List, length, Option, None, Some, Ok, refl, sym, ap, ◌∙◌, nat_lt, inl, inr, if◌then◌else◌}
use Rattle.std.proofs.lemmas.Bool.{cases_Bool, ltb-false}
use Rattle.ds_base.specs.declared.number.Limit.{Limit}
use Rattle.ds_base.specs.declared.number.Limit.TheVariants.{Nets, Tables, Registers}
use Rattle.ds_design.specs.declared.design.Net.{Net}
use Rattle.ds_design.specs.declared.design.Gate.{Gate}
use Rattle.ds_design.specs.declared.design.Register.{Register}
use Rattle.ds_design.specs.declared.blif.BlifModel.{BlifModel}
use Rattle.ds_design.specs.declared.blif.Pair.{Pair}
use Rattle.ds_design.specs.declared.blif.UseText.{UseText}
use Rattle.ds_design.specs.Circuit.{Circuit}
use Rattle.ds_flat.specs.declared.fault.FlatKind.TheVariants.{TooMany}
use Rattle.ds_base.specs.declared.refusal.Refusal.{Refusal}
use Rattle.ds_base.specs.Refusal.{RefusesAs}
use Rattle.ds_lines.specs.declared.at.At.{At}
use Rattle.ds_flat.specs.Net.{Scope, numbered_names}
use Rattle.ds_flat.specs.Copies.{Opened, passed_limit, unless_passed, opened_within, next_copy, actuals_in}
use Rattle.ds_flat.specs.Run.{IsFlatRefusal}
use Rattle.ds_flat.proofs.Uses.{refused}
use Rattle.ds_flat.specs.declared.fault.FlatKind.{FlatKind}

-- a design with the nets of a use
pub grown_is : (scope : Scope) (name : List ℕ) (nets : List Net) (inputs outputs clocks : List ℕ)
    (tables : List Gate) (registers : List Register) (d : Circuit) (new : List Net)
    (given pairs : List Pair)
    → record { name = name; nets = nets; inputs = inputs; outputs = outputs; clocks = clocks; tables = tables; registers = registers } ≡ d
    → given ≡ pairs → new ≡ (numbered_names scope nets (actuals_in given)).nets
    → record { name = name; nets = new; inputs = inputs; outputs = outputs; clocks = clocks; tables = tables; registers = registers }
    ≡ record d { nets = (numbered_names scope d.nets (actuals_in pairs)).nets }
grown_is scope name nets inputs outputs clocks tables registers d new given pairs view same is =
    ap (λ (ns : List Net). record { name = name; nets = ns; inputs = inputs; outputs = outputs; clocks = clocks; tables = tables; registers = registers })
    (is ∙ ap (λ (ps : List Pair). (numbered_names scope nets (actuals_in ps)).nets) same)
    ∙ ap (λ (c : Circuit). record c { nets = (numbered_names scope c.nets (actuals_in pairs)).nets })
    view

-- a limit is passed on a line
pub passed_fault : {A : Type 0} (c : Circuit) (line : ℕ) (value : A) (limit : Limit)
    (refusal : Refusal (At FlatKind)) → Some limit ≡ passed_limit c
    → IsFlatRefusal refusal (record { line = line; kind = TooMany limit })
    → RefusesAs refusal (unless_passed (passed_limit c) line value)
passed_fault {A} c line value limit refusal is given =
    refused refusal _ _ given (ap (λ (l : Option Limit). unless_passed l line value) (sym is))

pub limit_fault : (path : List (List ℕ)) (scope : Scope) (call : UseText) (model : BlifModel)
    (copies : ℕ) (design after : Circuit) (line : ℕ) (limit : Limit) (refusal : Refusal (At FlatKind))
    → after ≡ record design { nets = (numbered_names scope design.nets (actuals_in call.pairs)).nets }
    → Some limit ≡ passed_limit after
    → IsFlatRefusal refusal (record { line = line; kind = TooMany limit })
    → RefusesAs refusal (opened_within line (next_copy path scope call model (record { copies = copies; design = design })))
limit_fault path scope call model copies design after line limit refusal grown is given =
    let o : Opened = next_copy path scope call model (record { copies = copies; design = design }) in
    passed_fault o.flat.design line o limit refusal (is ∙ ap passed_limit grown) given

-- what is within the limits is given as it is, and has few nets, tables and registers
pub record WithinLimits (c : Circuit) : Type 0 where
  pub nets : length c.nets ≤ 65536
  pub tables : length c.tables ≤ 65536
  pub registers : length c.registers ≤ 16384

pub none_passed : (c : Circuit) → passed_limit c ≡ None → WithinLimits c
none_passed c is = elim (cases_Bool (nat_lt 65536 (length c.nets))) [
  | inl a ↦ absurd (let e : Some Nets ≡ None = rw a at is in cc)
  | inr a ↦ elim (cases_Bool (nat_lt 65536 (length c.tables))) [
    | inl b ↦ absurd (let e : Some Tables ≡ None = rw (a, b) at is in cc)
    | inr b ↦ elim (cases_Bool (nat_lt 16384 (length c.registers))) [
      | inl d ↦ absurd (let e : Some Registers ≡ None = rw (a, b, d) at is in cc)
      | inr d ↦ record {
        nets = ltb-false 65536 (length c.nets) a;
        tables = ltb-false 65536 (length c.tables) b;
        registers = ltb-false 16384 (length c.registers) d;
      }
    ]
  ]
]

pub passed_by : {A : Type 0} (limit : Option Limit) (line : ℕ) (value given : A)
    → unless_passed limit line value ≡ Ok given → (limit ≡ None) × (given ≡ value)
passed_by None line value given is = (refl, (cc))
passed_by (Some limit) line value given is = absurd (cc)

pub within_given : {A : Type 0} (c : Circuit) (line : ℕ) (value given : A)
    → unless_passed (passed_limit c) line value ≡ Ok given → WithinLimits c × (given ≡ value)
within_given {A} c line value given is =
    let p = passed_by (passed_limit c) line value given is in (none_passed c p.0, p.1)
