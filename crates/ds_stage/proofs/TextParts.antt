-- What is put behind a text piece by piece, and first parts of it.
use Rattle.std.proofs.Common.{◌≡◌, ◌∙◌, ℕ, ◌+◌, ◌<◌, List, [], ◌∷◌, ◌++◌, length, get_or, take, drop, map, codes, cond, Option, Some, Result, Ok, Err, OnErr, OnOk, refl, ap, sym}
use Rattle.std.specs.Prelude.{slice_get, is_ok}
use Rattle.std.specs.Option.{option_map_or}
use Rattle.std.proofs.lemmas.List.{append_assoc, append-nil, drop_more, map-append, take_more, take-append-drop}
use Rattle.std.proofs.lemmas.Option.{slice_get_read}
use Rattle.ds_marked.specs.Graph.{Graph}
use Rattle.ds_marked.specs.declared.marked.Event.{Event}
use Rattle.ds_marked.specs.Log.{event_text, sign, text_of_event}
use Rattle.ds_control.specs.Part.{PushesPart}
use Rattle.ds_stage.specs.FaultText.{with_blanks}

-- nothing was put behind
pub none_pushed : (old new items : List ℕ) → new ≡ old → PushesPart old new items
none_pushed old new items is = record {
  part = [];
  rest = items;
  items_are = refl;
  new_is = is ∙ sym (append-nil old);
}

-- the first piece was put behind
pub piece_pushed : (old new items one other : List ℕ) → items ≡ one ++ other → new ≡ old ++ one → PushesPart old new items
piece_pushed old new items one other cut is = record { part = one; rest = other; items_are = cut; new_is = is }

-- the last piece was put behind as well
pub last_pushed : {T E : Type 0} (r : Result T E) (old mid new items one last : List ℕ) → items ≡ one ++ last → mid ≡ old ++ one
    → new ≡ cond (is_ok r) (mid ++ last) mid → OnOk r (new ≡ old ++ items)
last_pushed (Ok x) old mid new items one last cut is end =
    end ∙ (ap (λ (t : List ℕ). t ++ last) is ∙ (append_assoc old one last ∙ ap (λ (t : List ℕ). old ++ t) (sym cut)))
last_pushed (Err e) old mid new items one last cut is end = tt

-- or refused
pub last_refused : {T E : Type 0} (r : Result T E) (old mid new items one last : List ℕ) → items ≡ one ++ last → mid ≡ old ++ one
    → new ≡ cond (is_ok r) (mid ++ last) mid → OnErr r (PushesPart old new items)
last_refused (Ok x) old mid new items one last cut is end = tt
last_refused (Err e) old mid new items one last cut is end = piece_pushed old new items one last cut (end ∙ is)

-- the text of an event that a graph has
pub event_is : (g : Graph) (events : List Event) (event k : ℕ) (e : Event) → events ≡ g.events → k ≡ event → k < length events → e ≡ get_or events k e
    → text_of_event g event ≡ e.signal ++ sign e.kind
event_is g events event k e are same inside at =
    let found : slice_get g.events event ≡ Some e =
    ap (λ (es : List Event). slice_get es event) (sym are) ∙ (ap (λ (n : ℕ). slice_get events n) (sym same) ∙ slice_get_read events (length events) k e refl inside at) in
    ap (λ (o : Option Event). option_map_or event_text o []) found

listed_append : (words more : List (List ℕ)) → with_blanks (words ++ more) ≡ with_blanks words ++ with_blanks more
listed_append [] more = refl
listed_append (word ∷ words) more =
    ap (λ (t : List ℕ). codes " " ++ (word ++ t)) (listed_append words more)
    ∙ (ap (λ (t : List ℕ). codes " " ++ t) (sym (append_assoc word (with_blanks words) (with_blanks more)))
    ∙ sym (append_assoc (codes " ") (word ++ with_blanks words) (with_blanks more)))

module _ (f : ℕ → List ℕ) (events : List ℕ) (i : ℕ) where
  -- the words so far
  abbrev so_far : List ℕ
  so_far = with_blanks (map f (take i events))

  -- and those that are left
  abbrev left : List ℕ
  left = with_blanks (map f (drop i events))

  both : with_blanks (map f events) ≡ so_far ++ left
  both =
      ap (λ (vs : List ℕ). with_blanks (map f vs)) (sym (take-append-drop i events))
      ∙ (ap with_blanks (map-append f (take i events) (drop i events)) ∙ listed_append (map f (take i events)) (map f (drop i events)))

  -- those so far were put behind
  pub words_pushed : (old new : List ℕ) → new ≡ old ++ so_far → PushesPart old new (with_blanks (map f events))
  words_pushed old new is = piece_pushed old new (with_blanks (map f events)) so_far left both is

  module _ (v : ℕ) (inside : i < length events) (at : v ≡ get_or events i v) where
    next : left ≡ codes " " ++ (f v ++ with_blanks (map f (drop (i + 1) events)))
    next =
        ap (λ (vs : List ℕ). with_blanks (map f vs)) (drop_more events i v inside)
        ∙ ap (λ (u : ℕ). codes " " ++ (f u ++ with_blanks (map f (drop (i + 1) events)))) (sym at)

    -- one word more
    pub word_more : (old text spaced new : List ℕ) → text ≡ old ++ so_far → spaced ≡ text ++ codes " " → new ≡ spaced ++ f v
        → new ≡ old ++ with_blanks (map f (take (i + 1) events))
    word_more old text spaced new is blank word =
        let more : with_blanks (map f (take (i + 1) events)) ≡ so_far ++ (codes " " ++ (f v ++ [])) =
        ap (λ (vs : List ℕ). with_blanks (map f vs)) (take_more events i v inside)
        ∙ (ap (λ (u : ℕ). with_blanks (map f (take i events ++ u ∷ []))) (sym at)
        ∙ (ap with_blanks (map-append f (take i events) (v ∷ [])) ∙ listed_append (map f (take i events)) (f v ∷ []))) in
        word
        ∙ (ap (λ (t : List ℕ). t ++ f v) (blank ∙ ap (λ (t : List ℕ). t ++ codes " ") is)
        ∙ (append_assoc (old ++ so_far) (codes " ") (f v)
        ∙ (append_assoc old so_far (codes " " ++ f v)
        ∙ (ap (λ (t : List ℕ). old ++ (so_far ++ (codes " " ++ t))) (sym (append-nil (f v)))
        ∙ ap (λ (t : List ℕ). old ++ t) (sym more)))))

    -- a part of the next word was put behind those so far
    pub word_refused : (old text spaced new : List ℕ) → text ≡ old ++ so_far → spaced ≡ text ++ codes " " → PushesPart spaced new (f v)
        → PushesPart old new (with_blanks (map f events))
    word_refused old text spaced new is blank part = record {
      part = so_far ++ (codes " " ++ part.part);
      rest = part.rest ++ with_blanks (map f (drop (i + 1) events));
      items_are =
          let last : List ℕ = with_blanks (map f (drop (i + 1) events)) in
          both
          ∙ (ap (λ (t : List ℕ). so_far ++ t) (next
          ∙ (ap (λ (t : List ℕ). codes " " ++ (t ++ last)) part.items_are
          ∙ (ap (λ (t : List ℕ). codes " " ++ t) (append_assoc part.part part.rest last)
          ∙ sym (append_assoc (codes " ") part.part (part.rest ++ last)))))
          ∙ sym (append_assoc so_far (codes " " ++ part.part) (part.rest ++ last)));
      new_is = part.new_is
          ∙ (ap (λ (t : List ℕ). t ++ part.part) (blank ∙ ap (λ (t : List ℕ). t ++ codes " ") is)
          ∙ (append_assoc (old ++ so_far) (codes " ") part.part ∙ append_assoc old so_far (codes " " ++ part.part)));
    }
