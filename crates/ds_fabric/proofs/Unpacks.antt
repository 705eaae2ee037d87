-- The values of a word, one after the other.
use Rattle.std.proofs.Common.{◌≡◌, ◌∙◌, ◌<◌, ◌≤◌, ◌+◌, ◌*◌, ◌/◌, ◌%◌, ℕ, zero, suc, List}
use Rattle.std.proofs.Common.{[], ◌∷◌, length, get_or, set, take, drop}
use Rattle.std.proofs.Common.{ap, sym, arith, refl, get_or-set_same}
use Rattle.std.proofs.Common.{get_or-set_other}
use mathlib.Core.Logic.{dite}
use native.Mathlib.Decide.{ℕ_discrete}
use Rattle.ds_base.specs.Word.{code_of, number_of_values}
use Rattle.ds_base.specs.declared.value.Value.{Value}
use Rattle.ds_base.specs.declared.value.Value.TheVariants.{Zero, One, Unknown}

-- a code is two bits
pub code_small : (v : Value) → code_of v ≤ 2
code_small Zero = omega arith
code_small One = omega arith
code_small Unknown = omega arith

-- the first value of a list that goes on
pub drop-step : (vs : List Value) (j : ℕ) → j < length vs
    → drop j vs ≡ get_or vs j Zero ∷ drop (j + 1) vs
drop-step [] j h = absurd (omega arith)
drop-step (v ∷ vs) zero h = refl
drop-step (v ∷ vs) (suc j) h = let e : suc j + 1 ≡ suc (j + 1) = omega arith in
    drop-step vs j (omega arith) ∙ ap (λ (x : ℕ). get_or vs j Zero ∷ drop x (v ∷ vs)) (sym e)

-- the lowest value of a number, and the number of the others
pub lowest : (vs : List Value) (j rest : ℕ) → j < length vs → rest ≡ number_of_values (drop j vs)
    → (rest % 4 ≡ code_of (get_or vs j Zero)) × (rest / 4 ≡ number_of_values (drop (j + 1) vs))
lowest vs j rest h is =
    let e : rest ≡ code_of (get_or vs j Zero) + 4 * number_of_values (drop (j + 1) vs) = is
    ∙ ap number_of_values (drop-step vs j h) in (
      omega (arith, e, code_small (get_or vs j Zero)),
      omega (arith, e, code_small (get_or vs j Zero)),
    )

-- what stands in a part of a list
pub in_part : {A : Type 0} (n a : ℕ) (vs : List A) (j : ℕ) (d : A) → j < n
    → get_or (take n (drop a vs)) j d ≡ get_or vs (a + j) d
in_part zero a vs j d h = absurd (omega arith)
in_part (suc n) zero [] j d h = refl
in_part (suc n) zero (v ∷ vs) zero d h = refl
in_part (suc n) zero (v ∷ vs) (suc j) d h = in_part n zero vs j d (omega arith)
    ∙ (let e : 0 + j ≡ j = omega arith in let e' : 0 + suc j ≡ suc j = omega arith in
    ap (λ (x : ℕ). get_or vs x d) e ∙ ap (λ (x : ℕ). get_or (v ∷ vs) x d) (sym e'))
in_part (suc n) (suc a) [] j d h = refl
in_part (suc n) (suc a) (v ∷ vs) j d h = in_part (suc n) a vs j d h
    ∙ (let e : suc a + j ≡ suc (a + j) = omega arith in
    ap (λ (x : ℕ). get_or (v ∷ vs) x d) (sym e))

pub length-part : {A : Type 0} (n a : ℕ) (vs : List A) (j : ℕ) → j < n → a + j < length vs
    → j < length (take n (drop a vs))
length-part zero a vs j h h' = absurd (omega arith)
length-part (suc n) zero [] j h h' = absurd (omega arith)
length-part (suc n) zero (v ∷ vs) zero h h' = omega arith
length-part (suc n) zero (v ∷ vs) (suc j) h h' =
    omega (arith, length-part n zero vs j (omega arith) (omega arith))
length-part (suc n) (suc a) [] j h h' = absurd (omega arith)
length-part (suc n) (suc a) (v ∷ vs) j h h' = length-part (suc n) a vs j h (omega arith)

-- one value more was set
pub one_set : (vs row row' : List Value) (a j rest : ℕ) (v : Value) → a + j < length vs → j < 32
    → length row ≡ length vs
    → row' ≡ set row (a + j) v → ((w : Value) → rest % 4 ≡ code_of w → v ≡ w)
    → rest ≡ number_of_values (drop j (take 32 (drop a vs)))
    → ((k : ℕ) → a ≤ k → k < a + j → get_or row k Zero ≡ get_or vs k Zero)
    → (rest / 4 ≡ number_of_values (drop (j + 1) (take 32 (drop a vs))))
    × ((k : ℕ) → a ≤ k → k < a + (j + 1) → get_or row' k Zero ≡ get_or vs k Zero)
one_set vs row row' a j rest v near low long is code rest-is before =
    let part : List Value = take 32 (drop a vs) in
    let w = lowest part j rest (length-part 32 a vs j low near) rest-is in
    let v-is : v ≡ get_or vs (a + j) Zero = code (get_or part j Zero) w.0
    ∙ in_part 32 a vs j Zero low in (
      w.1,
      λ k from to. ap (λ (xs : List Value). get_or xs k Zero) is ∙ dite (ℕ_discrete k (a + j))
          (λ e. ap (λ (x : ℕ). get_or (set row (a + j) v) x Zero) e
          ∙ (get_or-set_same row (a + j) v Zero (omega arith)
          ∙ (v-is ∙ ap (λ (x : ℕ). get_or vs x Zero) (sym e))))
          (λ n. get_or-set_other row (a + j) k v Zero n ∙ before k from (omega arith)),
    )
