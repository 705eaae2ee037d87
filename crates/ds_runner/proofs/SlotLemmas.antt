-- Passes in slots.
use Rattle.std.proofs.Common.{◌≡◌, ◌++◌, List, [], ◌∷◌, length, map, reverse, Some, None, refl, sym, ap, ◌∙◌, arith}
use Rattle.std.proofs.lemmas.List.{append-nil, reverse-append}
use Rattle.ds_fabric.specs.Showing.{Showing}
use Rattle.ds_runner.specs.TurnstileRule.{Slot}

-- the slot has a pass of which this holds
abbrev pub InSlot : (Showing → Type 0) → Slot → Type 0
InSlot P (Some p) = P p
InSlot P None = ⊥

-- the passes of the slots that have one
passes_of : List Slot → List Showing
passes_of [] = []
passes_of (Some p ∷ xs) = p ∷ passes_of xs
passes_of (None ∷ xs) = passes_of xs

passes-map : (ps : List Showing) → passes_of (map Some ps) ≡ ps
unfolding passes_of
passes-map [] = refl
passes-map (p ∷ ps) = ap (λ (qs : List Showing). p ∷ qs) (passes-map ps)

first : List Slot → Slot
first [] = None
first (x ∷ xs) = x

rest : List Slot → List Slot
rest [] = []
rest (x ∷ xs) = xs

at_seam : (ps qs : List Showing) (y : Slot) (ys : List Slot) → map Some qs ++ y ∷ ys ≡ map Some ps → (p : Showing) × (y ≡ Some p)
unfolding first rest
at_seam [] [] y ys e = absurd (omega (arith, ap (λ (xs : List Slot). length xs) e))
at_seam [] (q ∷ qs) y ys e = absurd (omega (arith, ap (λ (xs : List Slot). length xs) e))
at_seam (p ∷ ps) [] y ys e = (p, ap first e)
at_seam (p ∷ ps) (q ∷ qs) y ys e = at_seam ps qs y ys (ap rest e)

-- the next slot that comes back has a pass
pub next_back : (ps qs : List Showing) (xs zs : List Slot) (y : Slot) → xs ≡ zs ++ y ∷ [] → map Some qs ++ reverse xs ≡ map Some ps → (p : Showing) × (y ≡ Some p)
next_back ps qs xs zs y popped e = at_seam ps qs y (reverse zs)
    (ap (λ (ws : List Slot). map Some qs ++ ws) (sym (ap (λ (ws : List Slot). reverse ws) popped ∙ reverse-append zs (y ∷ []))) ∙ e)

-- where no slot is left, all passes are back
pub all_back : (ps qs : List Showing) (xs : List Slot) → length xs ≡ 0 → map Some qs ++ reverse xs ≡ map Some ps → qs ≡ ps
all_back ps qs [] h e = sym (passes-map qs) ∙ (ap passes_of (sym (append-nil (map Some qs)) ∙ e) ∙ passes-map ps)
all_back ps qs (x ∷ xs) h e = absurd (omega (arith, h))
