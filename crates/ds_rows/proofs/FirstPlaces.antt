-- The first places of texts.
use Rattle.std.proofs.Common.{◌≡◌, ◌≢◌, ◌∙◌, ◌||◌, ℕ, ◌+◌, ◌<◌, ◌≤◌, Bool, true, false, List, [], ◌∷◌, ◌++◌, length, take, get_or, not, inl, inr, refl, arith, ap, sym, subst, if◌then◌else◌, length-append}
use Rattle.std.specs.List.{list_any, position_or_len}
use Rattle.std.specs.Str.{bytes_eq}
use Rattle.std.proofs.lemmas.Bool.{cases_Bool, cases_lt, false≢true}
use Rattle.std.proofs.lemmas.Bool.Decides.{eqb_tells}
use Rattle.std.proofs.lemmas.List.Folds.{position_or_len_push}
use Rattle.std.proofs.lemmas.List.{get_or_push, length-take-le, take_more}
use Rattle.std.proofs.Math.ListN.{get_or-append}
use Rattle.std.proofs.lemmas.Slice.Eq.{bytes_eq-Decides}
use Rattle.ds_lines.specs.Names.{has_name, place_of_name, with_name}
use Rattle.ds_rows.specs.Lookup.{AreFirsts}

-- the place that is found is inside, or just past the end
place_within : {X : Type 0} (p : X → Bool) (xs : List X) → position_or_len p xs ≤ length xs
place_within p [] = omega arith
place_within p (x ∷ xs) = elim (cases_Bool (p x)) [
  | inl is ↦ rw is (omega arith)
  | inr fails ↦ rw fails (let rest : position_or_len p xs ≤ length xs = place_within p xs in omega arith)
]

pub place_some : {X : Type 0} (p : X → Bool) (xs : List X) → list_any p xs ≡ true → position_or_len p xs < length xs
place_some p [] e = absurd (false≢true e)
place_some p (x ∷ xs) e = elim (cases_Bool (p x)) [
  | inl is ↦ rw is (omega arith)
  | inr fails ↦
      (let any : list_any p xs ≡ true = sym (ap (λ (b : Bool). b || list_any p xs) fails) ∙ e in
      rw fails (let rest : position_or_len p xs < length xs = place_some p xs any in omega arith))
]

-- the place of a word, where one is added
push_kept : (xs : List (List ℕ)) (w t : List ℕ) → place_of_name xs w < length xs → place_of_name (xs ++ t ∷ []) w ≡ place_of_name xs w
push_kept xs w t inside = elim (eqb_tells (place_of_name xs w) (length xs)) [
  | inl (is, e) ↦ absurd (omega arith)
  | inr (is, ne) ↦ position_or_len_push (bytes_eq w) xs t ∙ rw is refl
]

push_other : (xs : List (List ℕ)) (w t : List ℕ) → length xs ≤ place_of_name xs w → w ≢ t → place_of_name (xs ++ t ∷ []) w ≡ length xs + 1
push_other xs w t past other = elim (eqb_tells (place_of_name xs w) (length xs)) [
  | inl (is, e) ↦
      elim (cases_Bool (bytes_eq w t)) [
        | inl same ↦ absurd (other ((bytes_eq-Decides w t).0 same))
        | inr differs ↦ position_or_len_push (bytes_eq w) xs t ∙ rw (is, differs) refl
      ]
  | inr (is, ne) ↦ (let within : place_of_name xs w ≤ length xs = place_within (bytes_eq w) xs in absurd (ne (omega arith)))
]

push_here : (xs : List (List ℕ)) (w t : List ℕ) → length xs ≤ place_of_name xs w → w ≡ t → place_of_name (xs ++ t ∷ []) w ≡ length xs
push_here xs w t past same = elim (eqb_tells (place_of_name xs w) (length xs)) [
  | inl (is, e) ↦ (let eq : bytes_eq w t ≡ true = (bytes_eq-Decides w t).1 same in position_or_len_push (bytes_eq w) xs t ∙ (rw (is, eq) (omega arith)))
  | inr (is, ne) ↦ (let within : place_of_name xs w ≤ length xs = place_within (bytes_eq w) xs in absurd (ne (omega arith)))
]

-- a text more that is there
pub first_again : (texts names : List (List ℕ)) (firsts : List ℕ) (t : List ℕ) → AreFirsts texts names firsts → has_name names t ≡ true → AreFirsts (texts ++ t ∷ []) names firsts
first_again texts names firsts t are there =
    let long : length (texts ++ t ∷ []) ≡ length texts + 1 = length-append texts (t ∷ []) in
    let some : place_of_name names t < length names = place_some (bytes_eq t) names there in
    record {
      one_each = are.one_each;
      found = λ w inside.
          let (at, low) = are.found w inside in
          let kept : place_of_name (texts ++ t ∷ []) w ≡ place_of_name texts w = push_kept texts w t low in
          (at ∙ sym kept, omega (arith, kept, low, long));
      missing = λ w past.
          let none : length texts ≤ place_of_name texts w = are.missing w past in
          let other : w ≢ t = λ same. (let here : place_of_name names w ≡ place_of_name names t = ap (place_of_name names) same in omega arith) in
          let moved : place_of_name (texts ++ t ∷ []) w ≡ length texts + 1 = push_other texts w t none other in
          omega arith;
    }

-- a new text
pub first_new : (texts names : List (List ℕ)) (firsts : List ℕ) (t : List ℕ) → AreFirsts texts names firsts → has_name names t ≡ false → AreFirsts (texts ++ t ∷ []) (names ++ t ∷ []) (firsts ++ length texts ∷ [])
first_new texts names firsts t are new =
    let long : length (texts ++ t ∷ []) ≡ length texts + 1 = length-append texts (t ∷ []) in
    let more : length (names ++ t ∷ []) ≡ length names + 1 = length-append names (t ∷ []) in
    let most : length (firsts ++ length texts ∷ []) ≡ length firsts + 1 = length-append firsts (length texts ∷ []) in
    let each : length firsts ≡ length names = are.one_each in
    record {
      one_each = most ∙ (ap (λ (n : ℕ). n + 1) each ∙ sym more);
      found = λ w inside. elim (cases_lt (place_of_name names w) (length names)) [
        | inl old ↦
            (let (at, low) = are.found w old in
            let kept : place_of_name (texts ++ t ∷ []) w ≡ place_of_name texts w = push_kept texts w t low in
            let named : place_of_name (names ++ t ∷ []) w ≡ place_of_name names w = push_kept names w t old in (
              ap (λ (k : ℕ). get_or (firsts ++ length texts ∷ []) k 0) named ∙ (get_or-append firsts (length texts ∷ []) 0 (place_of_name names w) (omega arith) ∙ (at ∙ sym kept)),
              omega (arith, kept, low, long),
            ))
        | inr past ↦ elim (cases_Bool (bytes_eq w t)) [
          | inl same ↦
              (let e : w ≡ t = (bytes_eq-Decides w t).0 same in
              let named : place_of_name (names ++ t ∷ []) w ≡ length names = push_here names w t past e in
              let moved : place_of_name (texts ++ t ∷ []) w ≡ length texts = push_here texts w t (are.missing w past) e in (
                ap (λ (k : ℕ). get_or (firsts ++ length texts ∷ []) k 0) named ∙ (get_or_push firsts (length texts) 0 (length names) each ∙ sym moved),
                omega (arith, moved, long),
              ))
          | inr differs ↦
              (let other : w ≢ t = λ e. false≢true (sym differs ∙ (bytes_eq-Decides w t).1 e) in
              let named : place_of_name (names ++ t ∷ []) w ≡ length names + 1 = push_other names w t past other in
              absurd (omega arith))
        ]
      ];
      missing = λ w past. elim (cases_lt (place_of_name names w) (length names)) [
        | inl old ↦ (let named : place_of_name (names ++ t ∷ []) w ≡ place_of_name names w = push_kept names w t old in absurd (omega arith))
        | inr none ↦ elim (cases_Bool (bytes_eq w t)) [
          | inl same ↦ (let named : place_of_name (names ++ t ∷ []) w ≡ length names = push_here names w t none ((bytes_eq-Decides w t).0 same) in absurd (omega arith))
          | inr differs ↦
              (let other : w ≢ t = λ e. false≢true (sym differs ∙ (bytes_eq-Decides w t).1 e) in
              let moved : place_of_name (texts ++ t ∷ []) w ≡ length texts + 1 = push_other texts w t (are.missing w none) other in
              omega arith)
        ]
      ];
    }

-- one text more
pub firsts_more : (texts names next : List (List ℕ)) (firsts numbers : List ℕ) (t : List ℕ) (i : ℕ) (is_new : Bool) → i < length texts → t ≡ get_or texts i [] → AreFirsts (take i texts) names firsts
    → next ≡ with_name names t → is_new ≡ not (has_name names t) → (is_new ≡ true → numbers ≡ firsts ++ i ∷ []) → (is_new ≡ false → numbers ≡ firsts)
    → AreFirsts (take (i + 1) texts) next numbers
firsts_more texts names next firsts numbers t i is_new inside text are named new pushed kept =
    let more : take (i + 1) texts ≡ take i texts ++ t ∷ [] = take_more texts i [] inside ∙ ap (λ (x : List ℕ). take i texts ++ x ∷ []) (sym text) in
    let long : length (take i texts) ≡ i = length-take-le i texts (omega arith) in
    elim (cases_Bool (has_name names t)) [
      | inl there ↦
          (let old : next ≡ names = named ∙ ap (λ (b : Bool). if b then names else names ++ t ∷ []) there in
          let same : numbers ≡ firsts = kept (new ∙ ap not there) in
          subst (λ (ts : List (List ℕ)). AreFirsts ts next numbers) (sym more)
          (subst (λ (ns : List (List ℕ)). AreFirsts (take i texts ++ t ∷ []) ns numbers) (sym old)
          (subst (λ (ks : List ℕ). AreFirsts (take i texts ++ t ∷ []) names ks) (sym same) (first_again (take i texts) names firsts t are there))))
      | inr not_there ↦
          (let grown : next ≡ names ++ t ∷ [] = named ∙ ap (λ (b : Bool). if b then names else names ++ t ∷ []) not_there in
          let last : numbers ≡ firsts ++ length (take i texts) ∷ [] = pushed (new ∙ ap not not_there) ∙ ap (λ (n : ℕ). firsts ++ n ∷ []) (sym long) in
          subst (λ (ts : List (List ℕ)). AreFirsts ts next numbers) (sym more)
          (subst (λ (ns : List (List ℕ)). AreFirsts (take i texts ++ t ∷ []) ns numbers) (sym grown)
          (subst (λ (ks : List ℕ). AreFirsts (take i texts ++ t ∷ []) (names ++ t ∷ []) ks) (sym last) (first_new (take i texts) names firsts t are not_there))))
    ]
