-- Which tables the same cones have, cone by cone.
use Rattle.std.proofs.Common.{◌≡◌, ◌∙◌, ℕ, List, [], ◌∷◌, ◌++◌, length}
use Rattle.std.proofs.Common.{arith, subst, ◌+◌}
use Rattle.std.specs.Prelude.{All}
use Rattle.std.proofs.lemmas.List.{get_or-append-add, get_or_append_left}
use Rattle.std.proofs.lemmas.List.Elements.{All-push}
use Rattle.std.proofs.Common.{length-append}
use Rattle.ds_settle.specs.Cone.{Parts as Cone}
use Rattle.ds_opening.specs.Classes.{AreBoth, AreClasses, IsSplitBy}
use Rattle.ds_opening.specs.Numbers.{AreRenumbered}

all_front : {X : Type 0} (P : X → Type 0) (xs : List X) (x : X) → All P (xs ++ x ∷ []) → All P xs
all_front P xs x all k d inside =
    subst P (get_or_append_left xs (x ∷ []) d k inside)
    (all k d (omega (inside, length-append xs (x ∷ []), arith)))

all_last : {X : Type 0} (P : X → Type 0) (xs : List X) (x : X) → All P (xs ++ x ∷ []) → P x
all_last P xs x all =
    subst P (get_or-append-add xs (x ∷ []) 0 x)
    (all (length xs + 0) x (omega (length-append xs (x ∷ []), arith)))

-- one cone more
pub classes_more : (cones : List Cone) (cone : Cone) (count : ℕ) (old new : List ℕ)
    → AreClasses cones count old → length new ≡ length old → IsSplitBy cone.tables old new
    → AreClasses (cones ++ cone ∷ []) count new
classes_more cones cone count old new are size split = record {
  one_each = size ∙ are.one_each;
  same = λ a b low_a low_b.
      let long : length old ≡ count = are.one_each in
      let s = split a b (omega (low_a, long, arith)) (omega (low_b, long, arith)) in
      let before = are.same a b low_a low_b in (
        λ e. All-push (λ (c : Cone). AreBoth c.tables a b) cones cone (before.0 (s.0 e).0) (s.0 e).1,
        λ all. s.1 (
          before.1 (all_front (λ (c : Cone). AreBoth c.tables a b) cones cone all),
          all_last (λ (c : Cone). AreBoth c.tables a b) cones cone all,
        ),
      );
}

-- with numbers in place of the classes
pub classes_numbered : (cones : List Cone) (count most : ℕ) (order old new : List ℕ)
    → AreClasses cones count old → AreRenumbered order old most new → AreClasses cones count new
classes_numbered cones count most order old new are is = record {
  one_each = is.one_each ∙ are.one_each;
  same = λ a b low_a low_b.
      let long : length old ≡ count = are.one_each in
      let n = is.same a b (omega (low_a, long, arith)) (omega (low_b, long, arith)) in
      let before = are.same a b low_a low_b in
      (λ e. before.0 (n.0 e), λ all. n.1 (before.1 all));
}
