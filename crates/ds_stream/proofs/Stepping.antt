-- Bytes that are taken piece by piece.
use Rattle.std.proofs.Common.{◌≡◌, ◌∙◌, ℕ, ◌+◌, List, ◌++◌, Ok, take, drop, refl, ap, sym, arith, append_assoc}
use Rattle.std.proofs.lemmas.List.{drop-drop, take-append-drop}
use Rattle.ds_stream.specs.Filling.{Filled, IsLater, TakesBytes, on_text}

-- a front is taken of what is left
pub on_behind : (f g i : Filled) (bytes : List ℕ) (done n size : ℕ) (rest : List ℕ) → TakesBytes (Ok tt) f g (take n (drop done bytes))
    → on_text f size (drop done bytes ++ rest) ≡ on_text i size (bytes ++ rest)
    → on_text g size (drop (done + n) bytes ++ rest) ≡ on_text i size (bytes ++ rest)
on_behind f g i bytes done n size rest takes so_far =
    let left = drop done bytes in
    let back = drop (done + n) bytes in
    let whole : take n left ++ back ≡ left = ap (λ (l : List ℕ). take n left ++ l) (sym (drop-drop n done bytes)) ∙ take-append-drop n left in
    takes size (back ++ rest) ∙ (ap (on_text f size) (sym (append_assoc (take n left) back rest) ∙ ap (λ (l : List ℕ). l ++ rest) whole) ∙ so_far)

-- where no vector is missing the rest is not looked at
pub any_rest : (f : Filled) (size : ℕ) (a b : List ℕ) → f.missing ≡ 0 → on_text f size a ≡ on_text f size b
any_rest f size a b none = rw none refl

-- later, and later again
pub later_next : (f g h : Filled) → IsLater f g → IsLater g h → IsLater f h
later_next f g h one two = record {
  width = two.width ∙ one.width;
  most = two.most ∙ one.most;
  seen = two.seen ∙ one.seen;
  grows = omega (arith, one.grows, two.grows);
  rows = omega (arith, one.rows, two.rows);
}
