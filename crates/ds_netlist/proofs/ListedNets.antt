-- Lists of nets, element by element.
use Rattle.std.proofs.Common.{◌≡◌, ◌∙◌, ℕ, ◌+◌, ◌<◌, List, [], ◌∷◌, ◌++◌, length, map, take, get_or}
use Rattle.std.proofs.Common.{ap, sym}
use Rattle.std.specs.List.{flat_map}
use Rattle.std.proofs.lemmas.Grind.{flat_map-append}
use Rattle.std.proofs.lemmas.List.{append_assoc, append-nil, map-append, take_more}

-- the first elements, up to and with this one
next : {X : Type 0} (xs : List X) (i : ℕ) (x : X) → i < length xs → x ≡ get_or xs i x
    → take (i + 1) xs ≡ take i xs ++ x ∷ []
next xs i x less is = take_more xs i x less ∙ ap (λ y. take i xs ++ y ∷ []) (sym is)

-- one net more, behind some nets
pub listed_more : {X : Type 0} (f : X → ℕ) (front : List ℕ) (xs : List X) (i : ℕ) (x : X)
    (old more : List ℕ) → i < length xs → x ≡ get_or xs i x → old ≡ front ++ map f (take i xs)
    → more ≡ old ++ f x ∷ [] → more ≡ front ++ map f (take (i + 1) xs)
listed_more f front xs i x old more less is so_far more_is =
    more_is ∙ (ap (λ (ns : List ℕ). ns ++ f x ∷ []) so_far
    ∙ (append_assoc front (map f (take i xs)) (f x ∷ [])
    ∙ ap (λ (ns : List ℕ). front ++ ns)
    (sym (ap (map f) (next xs i x less is) ∙ map-append f (take i xs) (x ∷ [])))))

-- some nets more
pub flat_more : {X : Type 0} (f : X → List ℕ) (xs : List X) (i : ℕ) (x : X) (old more : List ℕ)
    → i < length xs → x ≡ get_or xs i x → old ≡ flat_map f (take i xs) → more ≡ old ++ f x
    → more ≡ flat_map f (take (i + 1) xs)
flat_more f xs i x old more less is so_far more_is =
    more_is ∙ (ap (λ (ns : List ℕ). ns ++ f x) so_far
    ∙ sym (ap (flat_map f) (next xs i x less is) ∙ (flat_map-append f (take i xs) (x ∷ [])
    ∙ ap (λ (ns : List ℕ). flat_map f (take i xs) ++ ns) (append-nil (f x)))))
