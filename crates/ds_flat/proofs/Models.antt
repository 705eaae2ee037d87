-- Models by the places of their names, and the names of interfaces.
use Rattle.std.proofs.Common.{◌≡◌, ◌≢◌, ℕ, zero, suc, ◌+◌, ◌<◌, ◌≤◌, Bool, true, false, List, [], ◌∷◌, ◌++◌}
use Rattle.std.proofs.Common.{map, length, None, Some, get_or, refl, sym, ap, ◌∙◌, subst, arith, inl, inr, ◌||◌, take, if◌then◌else◌}
use Rattle.std.specs.Prelude.{AllPairs}
use Rattle.std.specs.Str.{bytes_eq}
use Rattle.std.proofs.Math.Bool.{or-false, or-true, or_assoc}
use Rattle.std.proofs.lemmas.Bool.{cases_Bool}
use Rattle.std.proofs.lemmas.List.{map-append, map_more, take_more}
use Rattle.std.proofs.lemmas.List.Folds.{list_any-append}
use Rattle.std.proofs.lemmas.Slice.Eq.{bytes_eq-Decides}
use Rattle.ds_lines.specs.Names.{has_name, place_of_name, with_name}
use Rattle.ds_design.specs.declared.blif.BlifModel.{BlifModel}
use Rattle.ds_design.specs.declared.blif.Command.{Command}
use Rattle.ds_design.specs.declared.blif.Pair.{Pair}
use Rattle.ds_flat.specs.Copies.{model_named, ports_in, ports_of, unknown_formal}
use Rattle.ds_flat.specs.Interface.{names_of_models, with_names, with_ports_of, ports_by, IsLibrary, Finds}

named_some : (models : List BlifModel) (name : List ℕ) (d : BlifModel)
    → place_of_name (names_of_models models) name < length models
    → model_named models name ≡ Some (get_or models (place_of_name (names_of_models models) name) d)
named_some [] name d less = absurd (omega arith)
named_some (model ∷ models) name d less = elim (cases_Bool (bytes_eq name model.name)) [
  | inl here ↦ rw here refl
  | inr other ↦ (
      let e : place_of_name (names_of_models (model ∷ models)) name ≡ suc (place_of_name
      (names_of_models models) name) =
      (let f : place_of_name (names_of_models (model ∷ models)) name ≡ 1 + place_of_name
      (names_of_models models) name = rw other refl in omega arith) in
      let behind : place_of_name (names_of_models models) name < length models = omega arith in
      rw (e, other) (named_some models name d behind))
]

named_none : (models : List BlifModel) (name : List ℕ)
    → length models ≤ place_of_name (names_of_models models) name → model_named models name ≡ None
named_none [] name long = refl
named_none (model ∷ models) name long = elim (cases_Bool (bytes_eq name model.name)) [
  | inl here ↦ absurd (let e : place_of_name (names_of_models (model ∷ models)) name ≡ 0 =
      rw here refl in omega arith)
  | inr other ↦ (
      let e : place_of_name (names_of_models (model ∷ models)) name ≡ 1 + place_of_name
      (names_of_models models) name = rw other refl in
      let behind : length models ≤ place_of_name (names_of_models models) name = omega arith in
      rw other (named_none models name behind))
]

-- the names of an interface, where those of each model stand at its place
ports_at : (models : List BlifModel) (k : ℕ) (d : BlifModel) (e : List (List ℕ)) → k < length models
    → get_or (map ports_by models) k e ≡ ports_by (get_or models k d)
ports_at [] k d e inside = absurd (omega arith)
ports_at (model ∷ models) zero d e inside = refl
ports_at (model ∷ models) (suc k) d e inside = ports_at models k d e (omega arith)

module _ (models : List BlifModel) (names : List (List ℕ)) (ports : List (List (List ℕ)))
    (is : IsLibrary models names ports) (name : List ℕ) (place : ℕ)
    (at : place ≡ place_of_name names name) where
  at_models : place ≡ place_of_name (names_of_models models) name
  at_models = at ∙ ap (λ (ns : List (List ℕ)). place_of_name ns name) is.names

  pub finds : (model : BlifModel) (own : List (List ℕ)) → place < length models
      → model ≡ get_or models place model → own ≡ get_or ports place own
      → Finds models name place model own
  finds model own less first second = record {
    place = at_models;
    within = less;
    named = named_some models name model (subst (λ k. k < length models) at_models less)
        ∙ ap Some (ap (λ k. get_or models k model) (sym at_models) ∙ sym first);
    ports = second ∙ (ap (λ (ps : List (List (List ℕ))). get_or ps place own) is.ports
        ∙ (ports_at models place model own less ∙ ap ports_by (sym first)));
  }

  pub finds_none : length models ≤ place → model_named models name ≡ None
  finds_none long = named_none models name (subst (λ k. length models ≤ k) at_models long)

-- a name is among names with one more where it is among the old or the new one
has-with_name : (names : List (List ℕ)) (name word : List ℕ) → has_name (with_name names name) word
    ≡ (has_name names word || bytes_eq word name)
has-with_name names name word = elim (cases_Bool (has_name names name)) [
  | inl here ↦ rw here (elim (cases_Bool (bytes_eq word name)) [
    | inl same ↦ (let e : has_name names word ≡ true =
        ap (has_name names) ((bytes_eq-Decides word name).0 same) ∙ here in
        rw same (e ∙ sym (or-true (has_name names word))))
    | inr other ↦ rw other (sym (or-false (has_name names word)))
  ])
  | inr new ↦ rw new (list_any-append (bytes_eq word) names (name ∷ [])
      ∙ ap (λ b. has_name names word || b) (or-false (bytes_eq word name)))
]

has-with_names : (names more : List (List ℕ)) (word : List ℕ) → has_name (with_names names more) word
    ≡ (has_name names word || has_name more word)
has-with_names names [] word = sym (or-false (has_name names word))
has-with_names names (name ∷ more) word = has-with_names (with_name names name) more word
    ∙ (ap (λ b. b || has_name more word) (has-with_name names name word)
    ∙ or_assoc (has_name names word) (bytes_eq word name) (has_name more word))

has-with_ports : (names : List (List ℕ)) (commands : List Command) (word : List ℕ)
    → has_name (with_ports_of names commands) word
    ≡ (has_name names word || has_name (ports_of commands) word)
has-with_ports names [] word = sym (or-false (has_name names word))
has-with_ports names (command ∷ commands) word =
    has-with_ports (with_names names (ports_in command.part)) commands word
    ∙ (ap (λ b. b || has_name (ports_of commands) word) (has-with_names names (ports_in command.part)
    word)
    ∙ (or_assoc (has_name names word) (has_name (ports_in command.part) word)
    (has_name (ports_of commands) word)
    ∙ ap (λ b. has_name names word || b) (sym (list_any-append (bytes_eq word)
    (ports_in command.part) (ports_of commands)))))

unknown_same : (ports other : List (List ℕ)) (pairs : List Pair)
    → ((word : List ℕ) → has_name ports word ≡ has_name other word)
    → unknown_formal ports pairs ≡ unknown_formal other pairs
unknown_same ports other [] same = refl
unknown_same ports other (pair ∷ pairs) same =
    ap (λ b. if b then unknown_formal ports pairs else Some pair.formal) (same pair.formal)
    ∙ ap (λ r. if has_name other pair.formal then r else Some pair.formal)
    (unknown_same ports other pairs same)

-- the first unknown formal is the same where the names of an interface stand once
pub unknown-ports_by : (model : BlifModel) (pairs : List Pair) → unknown_formal (ports_by model) pairs
    ≡ unknown_formal (ports_of model.commands) pairs
unknown-ports_by model pairs = unknown_same (ports_by model) (ports_of model.commands) pairs
    (λ word. has-with_ports [] model.commands word)

pairs_tail : (model : BlifModel) (models : List BlifModel)
    → AllPairs (λ one other. one.name ≢ other.name) (model ∷ models)
    → AllPairs (λ one other. one.name ≢ other.name) models
pairs_tail model models pairs i j d below inside = pairs (suc i) (suc j) d (omega arith) (omega arith)

-- the name of a model is none of those before it
fresh_name : (models : List BlifModel) (i : ℕ) (d : BlifModel)
    → AllPairs (λ one other. one.name ≢ other.name) models → i < length models
    → has_name (names_of_models (take i models)) (get_or models i d).name ≡ false
fresh_name [] i d pairs inside = absurd (omega arith)
fresh_name (model ∷ models) zero d pairs inside = refl
fresh_name (model ∷ models) (suc i) d pairs inside =
    let rest = fresh_name models i d (pairs_tail model models pairs) (omega arith) in
    elim (cases_Bool (bytes_eq (get_or models i d).name model.name)) [
      | inl same ↦ absurd (pairs 0 (suc i) d (omega arith) (omega arith) (sym
          ((bytes_eq-Decides (get_or models i d).name model.name).0 same)))
      | inr other ↦ rw (other, rest) refl
    ]

-- the names of models, one more
pub names_more : (models : List BlifModel) (i : ℕ) (model : BlifModel) (names more : List (List ℕ))
    → AllPairs (λ one other. one.name ≢ other.name) models → i < length models
    → model ≡ get_or models i model → names ≡ names_of_models (take i models)
    → more ≡ with_name names model.name → more ≡ names_of_models (take (i + 1) models)
names_more models i model names more pairs inside at so_far added =
    let new : has_name (names_of_models (take i models)) model.name ≡ false =
    ap (λ (m : BlifModel). has_name (names_of_models (take i models)) m.name) at
    ∙ fresh_name models i model pairs inside in
    let longer : names_of_models (take (i + 1) models) ≡ names_of_models (take i models)
    ++ (get_or models i model).name ∷ [] = ap names_of_models (take_more models i model inside)
    ∙ map-append (λ (m : BlifModel). m.name) (take i models) (get_or models i model ∷ []) in
    added ∙ (ap (λ (ns : List (List ℕ)). with_name ns model.name) so_far
    ∙ (rw new (ap (λ (m : BlifModel). names_of_models (take i models) ++ m.name ∷ []) at)
    ∙ sym longer))

-- a name is missing where its place is the number of the names
pub missing : (names : List (List ℕ)) (word : List ℕ)
    → place_of_name names word ≡ length names → has_name names word ≡ false
missing [] word at = refl
missing (name ∷ names) word at = elim (cases_Bool (bytes_eq word name)) [
  | inl here ↦ absurd (let e : place_of_name (name ∷ names) word ≡ 0 = rw here refl in omega arith)
  | inr other ↦ (let e : place_of_name (name ∷ names) word ≡ 1 + place_of_name names word =
      rw other refl in
      let behind : place_of_name names word ≡ length names = omega arith in
      rw other (missing names word behind))
]

pub present : (names : List (List ℕ)) (word : List ℕ)
    → place_of_name names word ≢ length names → has_name names word ≡ true
present [] word at = absurd (at refl)
present (name ∷ names) word at = elim (cases_Bool (bytes_eq word name)) [
  | inl here ↦ rw here refl
  | inr other ↦ (let e : place_of_name (name ∷ names) word ≡ 1 + place_of_name names word =
      rw other refl in
      rw other (present names word (λ same. at (omega arith))))
]

-- names that have one place are one
pub one_place : (names : List (List ℕ)) (one other : List ℕ)
    → place_of_name names one < length names
    → place_of_name names one ≡ place_of_name names other → one ≡ other
one_place [] one other inside same = absurd (omega arith)
one_place (name ∷ names) one other inside same =
    elim (cases_Bool (bytes_eq one name)) [
      | inl here ↦ elim (cases_Bool (bytes_eq other name)) [
        | inl there ↦ (bytes_eq-Decides one name).0 here ∙ sym ((bytes_eq-Decides other name).0 there)
        | inr not_there ↦ absurd (
            let e : place_of_name (name ∷ names) one ≡ 0 = rw here refl in
            let f : place_of_name (name ∷ names) other ≡ 1 + place_of_name names other =
            rw not_there refl in omega arith)
      ]
      | inr not_here ↦ elim (cases_Bool (bytes_eq other name)) [
        | inl there ↦ absurd (
            let e : place_of_name (name ∷ names) other ≡ 0 = rw there refl in
            let f : place_of_name (name ∷ names) one ≡ 1 + place_of_name names one =
            rw not_here refl in omega arith)
        | inr not_there ↦ (
            let e : place_of_name (name ∷ names) other ≡ 1 + place_of_name names other =
            rw not_there refl in
            let f : place_of_name (name ∷ names) one ≡ 1 + place_of_name names one =
            rw not_here refl in
            one_place names one other (omega arith) (omega arith))
      ]
    ]

module _ (ports : List (List ℕ)) (pairs all rest : List Pair) (pair : Pair) (place : ℕ)
    (first : pairs ≡ pair ∷ rest) (so_far : unknown_formal ports pairs ≡ unknown_formal ports all)
    (at : place ≡ place_of_name ports pair.formal) where
  -- the formal of the first pair is unknown
  pub unknown_first : place ≡ length ports → Some pair.formal ≡ unknown_formal ports all
  unknown_first last =
      let none : has_name ports pair.formal ≡ false = missing ports pair.formal (sym at ∙ last) in
      let e : Some pair.formal ≡ unknown_formal ports (pair ∷ rest) = rw none refl in
      e ∙ (ap (unknown_formal ports) (sym first) ∙ so_far)

  -- the formal of the first pair is known
  pub unknown_next : place ≢ length ports → unknown_formal ports rest ≡ unknown_formal ports all
  unknown_next not_last =
      let some : has_name ports pair.formal ≡ true =
      present ports pair.formal (λ e. not_last (at ∙ e)) in
      let e : unknown_formal ports rest ≡ unknown_formal ports (pair ∷ rest) = rw some refl in
      e ∙ (ap (unknown_formal ports) (sym first) ∙ so_far)

-- the interfaces of models, one more
pub ports_more : (models : List BlifModel) (i : ℕ) (model : BlifModel)
    (ports more : List (List (List ℕ))) (own : List (List ℕ)) → i < length models
    → model ≡ get_or models i model → ports ≡ map ports_by (take i models)
    → own ≡ ports_by model → more ≡ ports ++ own ∷ []
    → more ≡ map ports_by (take (i + 1) models)
ports_more models i model ports more own inside at so_far is pushed =
    pushed ∙ (ap (λ (ps : List (List (List ℕ))). ps ++ own ∷ []) so_far
    ∙ (ap (λ (o : List (List ℕ)). map ports_by (take i models) ++ o ∷ []) (is ∙ ap ports_by at)
    ∙ sym (map_more ports_by models i model inside)))
