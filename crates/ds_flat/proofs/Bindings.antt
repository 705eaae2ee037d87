-- Connected formals, as a map keeps them.
use Rattle.std.proofs.Common.{◌≡◌, ℕ, Bool, true, false, List, [], ◌∷◌, ◌++◌, map, refl, ap, length, arith}
use Rattle.std.proofs.Common.{◌∙◌, inl, inr, Some, None, Bor}
use Rattle.std.specs.Str.{bytes_eq}
use Rattle.std.specs.Map.{lookup}
use Rattle.std.proofs.lemmas.Bool.{cases_Bool}
use Rattle.std.proofs.lemmas.List.{map-append}
use Rattle.indexmap.specs.IndexMap.{insert_entry}
use Rattle.ds_flat.specs.declared.nets.NetKey.{NetKey}
use Rattle.ds_flat.specs.Net.{Scope, net_in, net_of_name}
use Rattle.ds_flat.specs.Keys.{net_key, binding_of, has_formal, with_binding}

-- entries of a map from formals to nets
abbrev pub Entries : Type 0
Entries = List (Bor (List ℕ) × NetKey)

-- whether two formals are one
abbrev pub same_formal : Bor (List ℕ) → Bor (List ℕ) → Bool
same_formal formal other = bytes_eq formal.now other.now

bound_some : (copy : ℕ) (name : Bor (List ℕ)) (entries : Entries) (net : NetKey)
    → Some net ≡ lookup (same_formal name) entries
    → net_key net ≡ net_in copy (map binding_of entries) name.now
bound_some copy name [] net is = absurd (cc)
bound_some copy name (entry ∷ entries) net is = elim (cases_Bool (same_formal name entry.0)) [
  | inl here ↦ (let e : Some net ≡ Some entry.1 = rw here at is in
      let same : net ≡ entry.1 = cc in rw here (ap net_key same))
  | inr other ↦ rw other (bound_some copy name entries net (rw other at is))
]

bound_none : (copy : ℕ) (name : Bor (List ℕ)) (entries : Entries)
    → None ≡ lookup (same_formal name) entries
    → record { copy = copy; name = name.now } ≡ net_in copy (map binding_of entries) name.now
bound_none copy name [] is = refl
bound_none copy name (entry ∷ entries) is = elim (cases_Bool (same_formal name entry.0)) [
  | inl here ↦ absurd (let e : None ≡ Some entry.1 = rw here at is in cc)
  | inr other ↦ rw other (bound_none copy name entries (rw other at is))
]

-- the scope of a copy with these entries
abbrev pub scope_of : ℕ → Entries → Scope
scope_of copy entries = record { copy = copy; bound = map binding_of entries }

pub scope_some : (copy : ℕ) (name : Bor (List ℕ)) (entries : Entries) (scope : Scope) (net : NetKey)
    → scope_of copy entries ≡ scope → Some net ≡ lookup (same_formal name) entries
    → net_key net ≡ net_of_name scope name.now
scope_some copy name entries scope net view is = bound_some copy name entries net is
    ∙ ap (λ (s : Scope). net_of_name s name.now) view

pub scope_none : (copy : ℕ) (name : Bor (List ℕ)) (entries : Entries) (scope : Scope)
    → scope_of copy entries ≡ scope → None ≡ lookup (same_formal name) entries
    → net_key (record { copy = copy; name = name }) ≡ net_of_name scope name.now
scope_none copy name entries scope view is = bound_none copy name entries is
    ∙ ap (λ (s : Scope). net_of_name s name.now) view

-- a copy without connected formals has its own nets alone
pub scope_empty : (copy : ℕ) (name : Bor (List ℕ)) (entries : Entries) (scope : Scope)
    → scope_of copy entries ≡ scope → length entries ≡ 0
    → net_key (record { copy = copy; name = name }) ≡ net_of_name scope name.now
scope_empty copy name [] scope view none = ap (λ (s : Scope). net_of_name s name.now) view
scope_empty copy name (entry ∷ entries) scope view none = absurd (omega (arith, none))

inserted_new : (formal : Bor (List ℕ)) (net : NetKey) (entries : Entries)
    → has_formal (map binding_of entries) formal.now ≡ false
    → insert_entry same_formal entries formal net ≡ entries ++ (formal, net) ∷ []
inserted_new formal net [] new = refl
inserted_new formal net (entry ∷ entries) new = elim (cases_Bool (same_formal formal entry.0)) [
  | inl here ↦ absurd (let e : true ≡ false = rw here at new in cc)
  | inr other ↦ rw other (ap (λ es. entry ∷ es) (inserted_new formal net entries (rw other at new)))
]

pub scope_bind : (copy : ℕ) (formal : Bor (List ℕ)) (net : NetKey) (entries all : Entries)
    (scope : Scope) → scope_of copy entries ≡ scope
    → has_formal scope.bound formal.now ≡ false
    → all ≡ insert_entry same_formal entries formal net
    → scope_of copy all ≡ with_binding scope formal.now (net_key net)
scope_bind copy formal net entries all scope view new is =
    let fresh : has_formal (map binding_of entries) formal.now ≡ false =
    ap (λ (s : Scope). has_formal s.bound formal.now) view ∙ new in
    ap (scope_of copy) (is ∙ inserted_new formal net entries fresh)
    ∙ (ap (λ bound. record { copy = copy; bound = bound }) (map-append binding_of entries
    ((formal, net) ∷ []))
    ∙ ap (λ (s : Scope). with_binding s formal.now (net_key net)) view)
