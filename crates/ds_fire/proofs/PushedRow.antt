-- The values of a row, one after the other at the end of others.
use Rattle.std.proofs.Common.{◌≡◌, ◌∙◌, ◌+◌, ◌<◌, ◌≤◌, ℕ, [], ◌∷◌, ◌++◌, Result, Ok, Err, if◌then◌else◌, length, get_or, take, ap, arith, sym}
use Rattle.std.specs.Prelude.{IsOk}
use Rattle.std.specs.Result.{is_ok}
use Rattle.std.proofs.lemmas.List.{append_assoc, append-nil, length-append, length-take-le, take_all, take_more}
use Rattle.ds_base.specs.Values.{Row}
use Rattle.ds_base.specs.declared.value.Value.{Value}
use Rattle.ds_base.specs.declared.value.Value.TheVariants.{Zero}

-- what a push leaves that succeeds
pub pushed : {T E : Type 0} (values new : Row) (x : Value) (r : Result T E) → IsOk r
    → new ≡ (if is_ok r then values ++ x ∷ [] else values) → new ≡ values ++ x ∷ []
pushed values new x (Ok y) ok is = is
pushed values new x (Err y) ok is = absurd (cc)

-- no value of the row yet
pub none_pushed : (old row : Row) → old ≡ old ++ take 0 row
none_pushed old row = sym (append-nil old)

-- one value of the row more
pub one_pushed : (old values new row : Row) (i : ℕ) (x : Value) → values ≡ old ++ take i row → i < length row
    → x ≡ get_or row i Zero → new ≡ values ++ x ∷ [] → new ≡ old ++ take (i + 1) row
one_pushed old values new row i x before inside x_is is =
    is ∙ (ap (λ (xs : Row). xs ++ x ∷ []) before
    ∙ (append_assoc old (take i row) (x ∷ [])
    ∙ ap (λ (xs : Row). old ++ xs) (ap (λ (y : Value). take i row ++ y ∷ []) x_is ∙ sym (take_more row i Zero inside))))

-- all values of the row
pub all_pushed : (old values row : Row) (i : ℕ) → values ≡ old ++ take i row → length row ≤ i → values ≡ old ++ row
all_pushed old values row i before end = before ∙ ap (λ (xs : Row). old ++ xs) (take_all i row end)

-- there is room for one value more
pub room_left : (old values row : Row) (i first len room cap : ℕ) → values ≡ old ++ take i row → i < length row
    → length old ≡ first → length values ≡ len → first + length row ≤ room → room ≤ cap → len < cap
room_left old values row i first len room cap before inside first_is len_is has up =
    let long : length values ≡ length old + length (take i row) = ap (λ (xs : Row). length xs) before ∙ length-append old (take i row) in
    let front : length (take i row) ≡ i = length-take-le i row (omega arith) in
    omega arith

pub room_up : (a b c : ℕ) → a ≤ b → b ≤ c → a ≤ c
room_up a b c one two = omega arith

pub room_same : (a : ℕ) → a ≤ a
room_same a = omega arith
