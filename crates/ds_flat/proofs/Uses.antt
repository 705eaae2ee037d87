-- What a use opens, case by case.
use Rattle.std.proofs.Common.{◌≡◌, ◌≢◌, ℕ, ◌<◌, ◌≤◌, true, false, List, [], ◌∷◌, map, length}
use Rattle.std.proofs.Common.{Option, None, Some, Result, Err, refl, sym, ap, ◌∙◌, subst, inl, inr, arith, nat_lt, ◌||◌, ◌==◌, eq-eqb}
use Rattle.std.specs.Prelude.{All}
use Rattle.std.specs.List.{list_any}
use Rattle.std.specs.Str.{bytes_eq}
use Rattle.std.proofs.lemmas.Bool.{cases_Bool, eqb-true}
use Rattle.std.proofs.lemmas.Bool.Decides.{Decides-ltb}
use Rattle.std.proofs.lemmas.List.{length-map}
use Rattle.std.proofs.lemmas.List.Elements.{All-head, All-tail}
use Rattle.std.proofs.lemmas.Slice.Eq.{bytes_eq-Decides}
use Rattle.ds_base.specs.declared.number.Limit.TheVariants.{Copies}
use Rattle.ds_lines.specs.Names.{place_of_name}
use Rattle.ds_design.specs.declared.blif.BlifModel.{BlifModel}
use Rattle.ds_design.specs.declared.blif.Pair.{Pair}
use Rattle.ds_design.specs.declared.blif.UseText.{UseText}
use Rattle.ds_lines.specs.declared.at.At.{At}
use Rattle.ds_flat.specs.declared.fault.FlatKind.TheVariants.{UnknownFormal, Recursive, TooMany}
use Rattle.ds_base.specs.declared.refusal.Refusal.{Refusal}
use Rattle.ds_base.specs.declared.refusal.Refusal.TheVariants.{Fault, Memory}
use Rattle.ds_base.specs.Refusal.{RefusesAs}
use Rattle.ds_flat.specs.Net.{Scope}
use Rattle.ds_flat.specs.Copies.{model_named, unknown_formal, ports_of, path_from}
use Rattle.ds_flat.specs.Interface.{names_of_models, ports_by, Finds}
use Rattle.ds_flat.specs.Run.{IsFlatRefusal, CopiesModel, RefusesUse}
use Rattle.ds_flat.proofs.Models.{one_place, unknown-ports_by}
use Rattle.ds_flat.specs.declared.fault.FlatKind.{FlatKind}

-- a refusal with the fault that a text has
pub refused : {A : Type 0} (refusal : Refusal (At FlatKind)) (fault : At FlatKind) (text : Result A (At FlatKind))
    → IsFlatRefusal refusal fault → text ≡ Err fault → RefusesAs refusal text
refused Memory fault text given is = tt
refused {A} (Fault other) fault text given is = is ∙ ap (λ (f : At FlatKind). Err f) (sym given)

-- whether a model is among those that are being copied, by the places of their names
open_at : (names : List (List ℕ)) (name model : List ℕ) → place_of_name names name < length names
    → (place_of_name names model == place_of_name names name) ≡ bytes_eq name model
open_at names name model inside = elim (cases_Bool (bytes_eq name model)) [
  | inl same ↦ rw same (eq-eqb _ _ (ap (place_of_name names) (sym ((bytes_eq-Decides name
      model).0 same))))
  | inr other ↦ elim (cases_Bool (place_of_name names model == place_of_name names name)) [
    | inl at ↦ absurd (
        let e : place_of_name names name ≡ place_of_name names model = sym (eqb-true _ _ at) in
        let f : bytes_eq name model ≡ true = (bytes_eq-Decides name model).1 (one_place names name
        model inside e) in
        let g : true ≡ false = sym f ∙ other in cc)
    | inr apart ↦ apart ∙ sym other
  ]
]

open_among : (names : List (List ℕ)) (name : List ℕ) (path : List (List ℕ))
    → place_of_name names name < length names
    → list_any (λ other. other == place_of_name names name) (map (place_of_name names) path)
    ≡ list_any (bytes_eq name) path
open_among names name [] inside = refl
open_among names name (model ∷ path) inside =
    ap (λ b. b || list_any (λ other. other == place_of_name names name) (map (place_of_name names)
    path)) (open_at names name model inside)
    ∙ ap (λ b. bytes_eq name model || b) (open_among names name path inside)

pub is_open_named : (models : List BlifModel) (name : List ℕ) (place : ℕ) (path : List (List ℕ))
    (places : List ℕ) → place ≡ place_of_name (names_of_models models) name → place < length models
    → places ≡ map (place_of_name (names_of_models models)) path
    → list_any (λ other. other == place) places ≡ list_any (bytes_eq name) path
is_open_named models name place path places at inside known =
    let long : length (names_of_models models) ≡ length models = length-map models (λ (m : BlifModel).
    m.name) in
    let within : place_of_name (names_of_models models) name < length (names_of_models models) =
    omega arith in
    ap (λ ps. list_any (λ other. other == place) ps) known
    ∙ (ap (λ (p : ℕ). list_any (λ other. other == p) (map (place_of_name (names_of_models models))
    path)) at
    ∙ open_among (names_of_models models) name path within)

module _ (models : List BlifModel) (path : List (List ℕ)) (scope : Scope) (line : ℕ) (call : UseText)
    (copies : ℕ) where
  module _ (model : BlifModel) (named : model_named models call.model ≡ Some model) where
    -- the model is being copied
    pub refuses_open : (refusal : Refusal (At FlatKind)) → list_any (bytes_eq call.model) path ≡ true
        → IsFlatRefusal refusal (record { line = line; kind = Recursive (path_from call.model path) })
        → RefusesUse refusal models path scope line call copies
    refuses_open refusal there given design = refused refusal _ _ given (rw (named, there) refl)

    module _ (new : list_any (bytes_eq call.model) path ≡ false) where
      -- there are as many copies as there may be
      pub refuses_copies : (refusal : Refusal (At FlatKind)) → copies ≡ 65536
          → IsFlatRefusal refusal (record { line = line; kind = TooMany Copies })
          → RefusesUse refusal models path scope line call copies
      refuses_copies refusal full given design =
          let e : nat_lt copies 65536 ≡ false = ap (λ n. nat_lt n 65536) full in
          refused refusal _ _ given (rw (named, new, e) refl)

      module _ (few : copies < 65536) where
        less : nat_lt copies 65536 ≡ true
        less = (Decides-ltb copies 65536).1 few

        -- a formal is unknown
        pub refuses_formal : (refusal : Refusal (At FlatKind)) (formal : List ℕ)
            → Some formal ≡ unknown_formal (ports_of model.commands) call.pairs
            → IsFlatRefusal refusal (record { line = line; kind = UnknownFormal formal })
            → RefusesUse refusal models path scope line call copies
        refuses_formal refusal formal unknown given design =
            refused refusal _ _ given (rw (named, new, less, ← unknown) refl)

        -- the model is copied
        pub copies_model : None ≡ unknown_formal (ports_of model.commands) call.pairs
            → CopiesModel models path scope line call copies model
        copies_model known design = rw (named, new, less, ← known) refl

-- the name of the model of a name
pub named_name : (models : List BlifModel) (name : List ℕ) (model : BlifModel)
    → model_named models name ≡ Some model → model.name ≡ name
named_name [] name model is = absurd (cc)
named_name (first ∷ models) name model is = elim (cases_Bool (bytes_eq name first.name)) [
  | inl here ↦ (let e : Some first ≡ Some model = rw here at is in
      let same : first ≡ model = cc in
      ap (λ (m : BlifModel). m.name) (sym same) ∙ sym ((bytes_eq-Decides name first.name).0 here))
  | inr other ↦ named_name models name model (rw other at is)
]

-- what holds of each model holds of the model of a name
pub named_all : (P : BlifModel → Type 0) (models : List BlifModel) (name : List ℕ)
    (model : BlifModel) → All P models → model_named models name ≡ Some model → P model
named_all P [] name model all is = absurd (cc)
named_all P (first ∷ models) name model all is = elim (cases_Bool (bytes_eq name first.name)) [
  | inl here ↦ (let e : Some first ≡ Some model = rw here at is in
      let same : first ≡ model = cc in subst P same (All-head P first models all))
  | inr other ↦ named_all P models name model (All-tail P first models all) (rw other at is)
]

pub few_copies : (copies : ℕ) → copies ≤ 65536 → copies ≢ 65536 → copies < 65536
few_copies copies most other = omega arith

-- a model is found by the same name
pub found_as : (models : List BlifModel) (given name : List ℕ) (place : ℕ) (model : BlifModel)
    (ports : List (List ℕ)) → given ≡ name → Finds models given place model ports
    → Finds models name place model ports
found_as models given name place model ports same found =
    subst (λ (n : List ℕ). Finds models n place model ports) same found

-- the unknown formal, by the names of the interface as they are written
pub formal_as : (model : BlifModel) (ports : List (List ℕ)) (given pairs : List Pair)
    (result : Option (List ℕ)) → ports ≡ ports_by model → given ≡ pairs
    → result ≡ unknown_formal ports given → result ≡ unknown_formal (ports_of model.commands) pairs
formal_as model ports given pairs result own same is =
    is ∙ (ap (λ (ps : List (List ℕ)). unknown_formal ps given) own
    ∙ (ap (unknown_formal (ports_by model)) same ∙ unknown-ports_by model pairs))
