-- Marks as numbers, of which one is the stamp of the present walk.
use Rattle.std.proofs.Common.{◌≡◌, ◌≢◌, ◌<◌, ℕ, Bool, true, false, List, [], ◌∷◌, length, refl, ap, ◌∙◌, arith, inl, inr, map, ◌==◌}
use Rattle.std.specs.Prelude.{All}
use Rattle.std.proofs.Math.ListN.{replicate}
use Rattle.std.proofs.lemmas.Bool.Decides.{eqb_tells}
use Rattle.std.proofs.lemmas.List.Elements.{All-head, All-tail}

pub same_stamp : (stamp : ℕ) → (stamp == stamp) ≡ true
same_stamp stamp = elim (eqb_tells stamp stamp) [ inl (is, e) ↦ is | inr (is, ne) ↦ absurd (ne refl) ]

other_stamp : (mark stamp : ℕ) → mark ≢ stamp → (mark == stamp) ≡ false
other_stamp mark stamp apart = elim (eqb_tells mark stamp) [ inl (is, e) ↦ absurd (apart e) | inr (is, ne) ↦ is ]

-- no mark is a stamp that is above all marks
pub none_marked : (marks : List ℕ) (stamp : ℕ) → All (λ mark. mark < stamp) marks → map (λ mark. mark == stamp) marks ≡ replicate (length marks) false
none_marked [] stamp low = refl
none_marked (mark ∷ marks) stamp low =
    let below : mark < stamp = All-head (λ mark. mark < stamp) mark marks low in
    ap (λ (b : Bool). b ∷ map (λ mark. mark == stamp) marks) (other_stamp mark stamp (λ e. absurd (omega arith)))
    ∙ ap (λ (bs : List Bool). false ∷ bs) (none_marked marks stamp (All-tail (λ mark. mark < stamp) mark marks low))
