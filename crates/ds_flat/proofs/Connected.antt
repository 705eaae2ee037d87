-- Connected formals, pair by pair.
use Rattle.std.proofs.Common.{◌≡◌, ◌≢◌, ℕ, zero, suc, ◌+◌, ◌<◌, ◌≤◌, false, List, [], ◌∷◌, ◌++◌, map, length}
use Rattle.std.proofs.Common.{refl, sym, ap, ◌∙◌, inl, inr, arith, subst, get_or, take, nat_lt}
use Rattle.std.specs.Prelude.{AllPairs}
use Rattle.std.specs.Str.{bytes_eq}
use Rattle.std.proofs.lemmas.Bool.{cases_Bool}
use Rattle.std.proofs.lemmas.List.{take_more}
use Rattle.std.proofs.lemmas.Slice.Eq.{bytes_eq-Decides}
use Rattle.ds_design.specs.declared.design.Net.{Net}
use Rattle.ds_design.specs.declared.blif.Pair.{Pair}
use Rattle.ds_flat.specs.declared.fault.NoNumber.{NoNumber}
use Rattle.ds_flat.specs.Net.{Binding, Scope, net_of_name, with_net, numbered_names}
use Rattle.ds_flat.specs.Copies.{actuals_in, bindings_in}
use Rattle.ds_flat.specs.Keys.{IsNoNumber, has_formal}
use Rattle.ds_flat.proofs.NetNumberLemmas.{length-numbered, stop_grows}

-- the nets with those of the actuals of pairs
abbrev pub nets_after : Scope → List Net → List Pair → List Net
nets_after scope nets pairs = (numbered_names scope nets (actuals_in pairs)).nets

actuals_one : (pair : Pair) (rest : List Pair) → actuals_in (pair ∷ rest)
    ≡ actuals_in (pair ∷ []) ++ actuals_in rest
actuals_one pair rest = elim (cases_Bool (nat_lt 0 (length pair.actual))) [
  | inl some ↦ rw some refl
  | inr none ↦ rw none refl
]

names_append : (scope : Scope) (nets : List Net) (names more : List (List ℕ))
    → (numbered_names scope nets (names ++ more)).nets
    ≡ (numbered_names scope (numbered_names scope nets names).nets more).nets
names_append scope nets [] more = refl
names_append scope nets (name ∷ names) more =
    names_append scope (with_net nets (net_of_name scope name)) names more

after_one : (scope : Scope) (nets : List Net) (pair : Pair) (rest : List Pair)
    → nets_after scope (nets_after scope nets (pair ∷ [])) rest ≡ nets_after scope nets (pair ∷ rest)
after_one scope nets pair rest =
    sym (ap (λ (names : List (List ℕ)). (numbered_names scope nets names).nets)
    (actuals_one pair rest)
    ∙ names_append scope nets (actuals_in (pair ∷ [])) (actuals_in rest))

pub actual_step : (scope : Scope) (nets next all : List Net) (pair : Pair) (rest pairs : List Pair)
    → pairs ≡ pair ∷ rest → nets_after scope nets pairs ≡ all
    → next ≡ nets_after scope nets (pair ∷ []) → nets_after scope next rest ≡ all
actual_step scope nets next all pair rest pairs first so_far is =
    ap (λ ns. nets_after scope ns rest) is
    ∙ (after_one scope nets pair rest ∙ (ap (nets_after scope nets) (sym first) ∙ so_far))

pub actual_stop : (stop : NoNumber) (scope : Scope) (nets all : List Net) (pair : Pair)
    (rest pairs : List Pair) → pairs ≡ pair ∷ rest → nets_after scope nets pairs ≡ all
    → IsNoNumber stop (nets_after scope nets (pair ∷ [])) → IsNoNumber stop all
actual_stop stop scope nets all pair rest pairs first so_far is =
    let one : List Net = nets_after scope nets (pair ∷ []) in
    let last : nets_after scope one rest ≡ all = actual_step scope nets one all pair rest pairs first
    so_far refl in
    let longer : length one ≤ length (nets_after scope one rest) =
    length-numbered one (map (net_of_name scope) (actuals_in rest)) in
    subst (λ (ns : List Net). IsNoNumber stop ns) last (stop_grows stop one (nets_after scope one rest)
    longer is)

bindings-append : (scope : Scope) (pairs more : List Pair) → bindings_in scope (pairs ++ more)
    ≡ bindings_in scope pairs ++ bindings_in scope more
bindings-append scope [] more = refl
bindings-append scope (pair ∷ pairs) more = elim (cases_Bool (nat_lt 0 (length pair.actual))) [
  | inl some ↦ rw some (ap (λ bs. record { formal = pair.formal; net = net_of_name scope pair.actual } ∷ bs)
      (bindings-append scope pairs more))
  | inr none ↦ rw none (bindings-append scope pairs more)
]

pub bindings_more : (scope : Scope) (pairs : List Pair) (i : ℕ) (pair : Pair) (bound : List Binding)
    → i < length pairs → pair ≡ get_or pairs i pair → bound ≡ bindings_in scope (take i pairs)
    → bound ++ bindings_in scope (pair ∷ []) ≡ bindings_in scope (take (i + 1) pairs)
bindings_more scope pairs i pair bound inside at so_far =
    ap (λ bs. bs ++ bindings_in scope (pair ∷ [])) so_far
    ∙ (sym (bindings-append scope (take i pairs) (pair ∷ []))
    ∙ (ap (λ (p : Pair). bindings_in scope (take i pairs ++ p ∷ [])) at
    ∙ ap (bindings_in scope) (sym (take_more pairs i pair inside))))

pairs_tail : (pair : Pair) (pairs : List Pair)
    → AllPairs (λ one other. one.formal ≢ other.formal) (pair ∷ pairs)
    → AllPairs (λ one other. one.formal ≢ other.formal) pairs
pairs_tail pair pairs all i j d below inside = all (suc i) (suc j) d (omega arith) (omega arith)

fresh_at : (scope : Scope) (pairs : List Pair) (i : ℕ) (d : Pair)
    → AllPairs (λ one other. one.formal ≢ other.formal) pairs → i < length pairs
    → has_formal (bindings_in scope (take i pairs)) (get_or pairs i d).formal ≡ false
fresh_at scope [] i d all inside = absurd (omega arith)
fresh_at scope (pair ∷ pairs) zero d all inside = refl
fresh_at scope (pair ∷ pairs) (suc i) d all inside =
    let rest = fresh_at scope pairs i d (pairs_tail pair pairs all) (omega arith) in
    elim (cases_Bool (nat_lt 0 (length pair.actual))) [
      | inl some ↦ elim (cases_Bool (bytes_eq (get_or pairs i d).formal pair.formal)) [
        | inl same ↦ absurd (all 0 (suc i) d (omega arith) (omega arith) (sym
            ((bytes_eq-Decides (get_or pairs i d).formal pair.formal).0 same)))
        | inr other ↦ rw (some, other, rest) refl
      ]
      | inr none ↦ rw none rest
    ]

-- the formal of a pair is none of those before it
pub fresh_formal : (scope : Scope) (pairs : List Pair) (i : ℕ) (pair : Pair) (bound : List Binding)
    → AllPairs (λ one other. one.formal ≢ other.formal) pairs → i < length pairs
    → pair ≡ get_or pairs i pair → bound ≡ bindings_in scope (take i pairs)
    → has_formal bound pair.formal ≡ false
fresh_formal scope pairs i pair bound all inside at so_far =
    ap (λ bs. has_formal bs pair.formal) so_far
    ∙ (ap (λ (p : Pair). has_formal (bindings_in scope (take i pairs)) p.formal) at
    ∙ fresh_at scope pairs i pair all inside)
