-- Lists that are made place by place.
use Rattle.std.proofs.Common.{◌≡◌, ◌≢◌, ◌==◌, ℕ, Bool, append-nil, inl, inr, ◌+◌, List, [], ◌∷◌}
use Rattle.std.proofs.Common.{◌++◌, refl, sym, ◌∙◌, ap, arith, map, append_assoc}
use Rattle.std.proofs.lemmas.Bool.Decides.{eqb_tells}
use Rattle.std.specs.List.{filter, range_with_len}
use Rattle.std.proofs.lemmas.List.{map-id, map-append}
use Rattle.std.proofs.lemmas.List.Elements.{filter-append}
use Rattle.std.proofs.lemmas.List.FromFn.{map-range_with_len_more}

-- one place more
pub one_more : {X : Type 0} (f : ℕ → X) (i : ℕ) (made new : List X) (x : X)
    → made ≡ map f (range_with_len 0 i) → x ≡ f i → new ≡ made ++ x ∷ []
    → new ≡ map f (range_with_len 0 (i + 1))
one_more f i made new x so_far is pushed =
    let more : map f (range_with_len 0 (i + 1)) ≡ map f (range_with_len 0 i) ++ f i ∷ [] =
    map-range_with_len_more f 0 i i (omega arith) in
    cc

-- one place more, after others
pub one_more_after : {X : Type 0} (f : ℕ → X) (i : ℕ) (first made new : List X) (x : X)
    → made ≡ first ++ map f (range_with_len 0 i) → x ≡ f i → new ≡ made ++ x ∷ []
    → new ≡ first ++ map f (range_with_len 0 (i + 1))
one_more_after f i first made new x so_far is pushed =
    let more : map f (range_with_len 0 (i + 1)) ≡ map f (range_with_len 0 i) ++ f i ∷ [] =
    map-range_with_len_more f 0 i i (omega arith) in
    let apart : (first ++ map f (range_with_len 0 i)) ++ f i ∷ []
    ≡ first ++ (map f (range_with_len 0 i) ++ f i ∷ []) =
    append_assoc first (map f (range_with_len 0 i)) (f i ∷ []) in
    cc

range_more : (i : ℕ) → range_with_len 0 (i + 1) ≡ range_with_len 0 i ++ i ∷ []
range_more i = sym (map-id (range_with_len 0 (i + 1)))
    ∙ (map-range_with_len_more (λ n. n) 0 i i (omega arith)
    ∙ ap (λ (l : List ℕ). l ++ i ∷ []) (map-id (range_with_len 0 i)))

-- one number more, where the test takes it or leaves it
pub filtered_more : {X : Type 0} (p : ℕ → Bool) (f : ℕ → X) (i : ℕ)
    → map f (filter p (range_with_len 0 (i + 1)))
    ≡ map f (filter p (range_with_len 0 i)) ++ map f (filter p (i ∷ []))
filtered_more p f i = ap (λ (l : List ℕ). map f (filter p l)) (range_more i)
    ∙ (ap (map f) (filter-append p (range_with_len 0 i) (i ∷ []))
    ∙ map-append f (filter p (range_with_len 0 i)) (filter p (i ∷ [])))

-- a number that the test takes
pub filter_takes : {X : Type 0} (t : ℕ → ℕ) (f : ℕ → X) (i : ℕ) (made new : List X) (x : X)
    → made ≡ map f (filter (λ n. t n == 1) (range_with_len 0 i)) → t i ≡ 1 → x ≡ f i
    → new ≡ made ++ x ∷ [] → new ≡ map f (filter (λ n. t n == 1) (range_with_len 0 (i + 1)))
filter_takes t f i made new x so_far takes is pushed =
    let one : map f (filter (λ n. t n == 1) (i ∷ [])) ≡ f i ∷ [] =
    elim (eqb_tells (t i) 1) [
      | inl (yes_is, e) ↦ rw yes_is refl
      | inr (no_is, ne) ↦ absurd (ne takes)
    ] in
    let more = filtered_more (λ n. t n == 1) f i in
    cc

-- a number that the test leaves
pub filter_leaves : {X : Type 0} (t : ℕ → ℕ) (f : ℕ → X) (i : ℕ) (made new : List X)
    → made ≡ map f (filter (λ n. t n == 1) (range_with_len 0 i)) → t i ≢ 1 → new ≡ made
    → new ≡ map f (filter (λ n. t n == 1) (range_with_len 0 (i + 1)))
filter_leaves {X = X} t f i made new so_far leaves same =
    let none : map f (filter (λ n. t n == 1) (i ∷ [])) ≡ [] =
    elim (eqb_tells (t i) 1) [
      | inl (yes_is, e) ↦ absurd (leaves e)
      | inr (no_is, ne) ↦ rw no_is refl
    ] in
    let before : List X = map f (filter (λ n. t n == 1) (range_with_len 0 i)) in
    same ∙ (so_far ∙ (sym (append-nil before) ∙ (ap (λ (l : List X). before ++ l) (sym none)
    ∙ sym (filtered_more (λ n. t n == 1) f i))))
