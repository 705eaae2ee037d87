-- One physical line is taken.
use Rattle.std.proofs.Common.{◌≡◌, ℕ, ◌+◌, true, false, List, [], ◌∷◌, ◌++◌, refl, sym, ap}
use Rattle.std.proofs.Common.{◌∙◌, append_assoc, Bor, Option, Some, None, IfSome, IfNone}
use Rattle.std.specs.List.{slice_split, before_first}
use Rattle.std.proofs.lemmas.Option.{IfSome_then}
use Rattle.ds_lines.specs.Line.{line_of, words_of, words_in, joins, trimmed, is_joined, is_newline}
use Rattle.ds_lines.specs.Draft.{Read, with_rest, is_stop}
use Rattle.ds_lines.proofs.FirstLine.{uncommented_first}

-- a draft with the words of a physical line
abbrev pub with_line : Read → List (List ℕ) → Read
with_line self words = record {
  lines = self.lines;
  first = self.first;
  words = self.words
      ++ words;
  number = self.number + 1;
}

-- a draft whose current line has ended
abbrev pub closed : Read → Read
closed self = record {
  lines = self.lines ++ line_of self.first self.words;
  first =
      self.number;
  words = [];
  number = self.number;
}

pub taken_joined : (self d : Read) (text : List ℕ) (rest : List (List ℕ)) → d ≡ with_line self
    (words_of (trimmed (before_first is_stop text))) → true ≡ is_joined (before_first is_stop text)
    → with_rest d rest ≡ with_rest self (before_first is_newline text ∷ rest)
unfolding words_in joins
taken_joined self d text rest is joined =
    let cut = uncommented_first text in
    rw (is, cut, ← joined) refl

pub taken_closed : (self d e : Read) (text : List ℕ) (rest : List (List ℕ)) → d ≡ with_line self
    (words_of (trimmed (before_first is_stop text))) → e ≡ closed d → false ≡ is_joined
    (before_first is_stop text) → with_rest e rest ≡ with_rest self (before_first is_newline text
    ∷ rest)
unfolding words_in joins
taken_closed self d e text rest is shut joined =
    let cut = uncommented_first text in
    rw (shut, is, cut, ← joined, append_assoc) refl

-- a draft that has taken the first line of a text
abbrev pub HasTaken : Read → Read → List ℕ → Type 0
HasTaken self d text = (rest : List (List ℕ)) → with_rest d rest ≡ with_rest self
    (before_first is_newline text ∷ rest)

pub taken_more : (self d : Read) (text : List ℕ) (behind : Option (Bor (List ℕ)))
    → HasTaken self d text → IfSome behind (λ r. slice_split is_newline text ≡ before_first
    is_newline text ∷ slice_split is_newline r.now)
    → IfSome behind (λ r. with_rest d (slice_split is_newline r.now) ≡ with_rest self (slice_split
    is_newline text))
taken_more self d text behind has some = IfSome_then behind some (λ r is.
    has (slice_split is_newline r.now) ∙ ap (with_rest self) (sym is))

pub taken_last : (self d : Read) (text : List ℕ) (behind : Option (Bor (List ℕ)))
    → HasTaken self d text → IfNone behind (slice_split is_newline text ≡ before_first is_newline
    text ∷ []) → IfNone behind (with_rest d [] ≡ with_rest self (slice_split is_newline text))
taken_last self d text (Some r) has none = none
taken_last self d text None has none = has [] ∙ ap (with_rest self) (sym none)
