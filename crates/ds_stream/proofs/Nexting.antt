-- A window that is being read from a file.
use Rattle.std.proofs.Common.{◌≡◌, ◌∙◌, ℕ, zero, suc, ◌+◌, ◌≤◌, ◌<◌, List, [], ◌∷◌, ◌++◌, Option, None, Result, Ok, Err, length, take, drop, refl, ap, sym, subst, arith, inl, inr, ◌⊎◌}
use Rattle.std.specs.Prelude.{nat_lt}
use Rattle.std.proofs.lemmas.Bool.{cases_Bool}
use Rattle.std.proofs.lemmas.List.{append-nil, length-append}
use Rattle.ds_base.specs.Values.{Row}
use Rattle.ds_outside.specs.Held.{Held, ReadsHeld, ReadsFrom, untold, absent, bytes}
use Rattle.ds_stream.specs.Bounded.{fault_under}
use Rattle.ds_stream.specs.Stream.{Behind, FitsText, Placed, Shown, RowWindow, beginning, longest, next_window, placed_lines, window}
use Rattle.ds_stream.specs.Filling.{EndsHere, Filled, TakesBytes, TellsWhy, on_text}
use Rattle.ds_stream.specs.Next.{FitsHeld, GivesHeld, IsBehind, IsNext, Refuses, RefusesHeld}
use Rattle.ds_stream.specs.declared.fault.NextFault.{NextFault}
use Rattle.ds_stream.specs.declared.fault.NextFault.TheVariants.{Memory, Read, TooLong, Vector}
use Rattle.ds_stream.proofs.Behind.{fits_again, goes_on_behind}
use Rattle.ds_stream.proofs.Short.{AreWithin, are_within}
use Rattle.ds_stream.proofs.WindowLaws.{cases_Option}

-- the rest of the text gives what is left of the window
pub record SoFarOf (text : List ℕ) (shown : Shown) (count : ℕ) (f : Filled) : Type 0 where
  pub rest : on_text f (length text) (drop f.place text) ≡ next_window shown text count
  pub within : 0 < f.missing → f.place ≤ length text

-- the same, where the bytes are told
abbrev pub SoFar : Held → Shown → ℕ → Filled → Type 0
SoFar untold shown count f = Unit {0}
SoFar absent shown count f = f.missing ≡ count
SoFar (bytes text) shown count f = SoFarOf text shown count f

-- nothing is read yet
abbrev pub begun : Shown → ℕ → Filled
begun shown count = record {
  width = shown.width;
  most = shown.most;
  seen = shown.given;
  missing = count;
  rows = [];
  behind = shown.behind;
  first = shown.behind.lines + 1;
  line = [];
  place = shown.behind.place;
  lines = shown.behind.lines;
}

-- what is shown behind a window
abbrev pub reader_of : Filled → Shown
reader_of f = record { width = f.width; most = f.most; given = f.seen; behind = f.behind }

window-within : (most width limit size count : ℕ) (behind : Behind) (seen : ℕ) (ps : List Placed) → AreWithin most ps → behind.place ≤ most
    → (window width limit size count behind seen ps).behind.place ≤ most
window-within most width limit size zero behind seen ps are here = here
window-within most width limit size (suc count) behind seen [] are here = here
window-within most width limit size (suc count) behind seen (p ∷ ps) are here = elim (cases_Bool (nat_lt longest p.behind.place)) [
  | inl long ↦ rw long here
  | inr short ↦ rw short (elim (cases_Option (fault_under limit width seen p.line.words)) [
    | inr some ↦ (let (kind, is) = some in rw is here)
    | inl none ↦ rw none (window-within most width limit size count p.behind (seen + 1) ps are.1 are.0)
  ])
]

pub so_far_at_first : (h : Held) (shown : Shown) (count : ℕ) → FitsHeld h shown → SoFar h shown count (begun shown count)
so_far_at_first untold shown count fits = tt
so_far_at_first absent shown count fits = refl
so_far_at_first (bytes text) shown count fits = record {
  rest = ap (λ (ps : List Placed). window shown.width shown.most (length text) count shown.behind shown.given ps) (sym (goes_on_behind shown text fits));
  within = λ some. subst (λ (b : Behind). b.place ≤ length text) fits.behind
      (window-within (length text) shown.width shown.most (length text) shown.given beginning 0 (placed_lines text)
      (are_within (length text) 1 [] [] 0 0 text (omega arith)) (omega arith));
}

-- what stands before a rest, and the rest
take-drop : (n : ℕ) (xs : List ℕ) → take n xs ++ drop n xs ≡ xs
take-drop zero xs = refl
take-drop (suc n) [] = refl
take-drop (suc n) (x ∷ xs) = ap (λ (l : List ℕ). x ∷ l) (take-drop n xs)

drop-nil : (n : ℕ) → drop {A = ℕ} n [] ≡ []
drop-nil zero = refl
drop-nil (suc n) = refl

drop-all : (xs : List ℕ) → drop (length xs) xs ≡ []
drop-all [] = refl
drop-all (x ∷ xs) = drop-all xs

zero_or : (n : ℕ) → (n ≡ 0) ⊎ (0 < n)
zero_or zero = inl refl
zero_or (suc n) = inr (omega arith)

cases_less : (m n : ℕ) → (m < n) ⊎ (n ≤ m)
cases_less m zero = inr (omega arith)
cases_less zero (suc n) = inl (omega arith)
cases_less (suc m) (suc n) = elim (cases_less m n) [
  | inl less ↦ inl (omega (arith, less))
  | inr no_less ↦ inr (omega (arith, no_less))
]

drop-drop : (m n : ℕ) (xs : List ℕ) → drop n (drop m xs) ≡ drop (m + n) xs
drop-drop zero n xs = ap (λ (k : ℕ). drop k xs) (let e : n ≡ 0 + n = omega arith in e)
drop-drop (suc m) n [] = drop-nil n ∙ sym (drop-nil (suc m + n))
drop-drop (suc m) n (x ∷ xs) = drop-drop m n xs ∙ ap (λ (k : ℕ). drop k (x ∷ xs)) (let e : suc (m + n) ≡ suc m + n = omega arith in e)

-- the bytes that were read, and how many they are
record IsRead (text : List ℕ) (place n : ℕ) (new : List ℕ) : Type 0 where
  pub are : drop place text ≡ take n new ++ drop (place + n) text
  pub many : length (take n new) ≡ n
  pub within : place + n ≤ length text

take-front : (n : ℕ) (xs ys : List ℕ) → length xs ≡ n → take n (xs ++ ys) ≡ xs
take-front zero [] ys is = refl
take-front zero (x ∷ xs) ys is = absurd (omega (arith, is))
take-front (suc n) [] ys is = absurd (omega (arith, is))
take-front (suc n) (x ∷ xs) ys is = ap (λ (l : List ℕ). x ∷ l) (take-front n xs ys (omega (arith, is)))

length-take : (n : ℕ) (xs : List ℕ) → (length (take n xs) ≡ n) ⊎ (length (take n xs) < n)
length-take zero xs = inl refl
length-take (suc n) [] = inr (omega arith)
length-take (suc n) (x ∷ xs) = elim (length-take n xs) [
  | inl is ↦ inl (omega (arith, is))
  | inr less ↦ inr (omega (arith, less))
]

length-drop : (n : ℕ) (xs : List ℕ) → (length (drop n xs) + n ≡ length xs) ⊎ ((length xs ≤ n) × (length (drop n xs) ≡ 0))
length-drop zero xs = inl (omega arith)
length-drop (suc n) [] = inr (omega arith, refl)
length-drop (suc n) (x ∷ xs) = elim (length-drop n xs) [
  | inl is ↦ inl (omega (arith, is))
  | inr less ↦ inr (omega (arith, less.0), less.1)
]

length-take-most : (n : ℕ) (xs : List ℕ) → length (take n xs) ≤ length xs
length-take-most zero xs = omega arith
length-take-most (suc n) [] = omega arith
length-take-most (suc n) (x ∷ xs) = let few = length-take-most n xs in omega (arith, few)

is_read : (text : List ℕ) (place n : ℕ) (old new : List ℕ) → ReadsFrom text place n old new → length new ≡ length old → n ≤ length old → 0 < n → IsRead text place n new
is_read text place n old new reads same few some =
    let front = take n (drop place text) in
    let split : length front + length (drop n old) ≡ length old = sym (length-append front (drop n old)) ∙ (ap length (sym reads.copied) ∙ same) in
    let many : length front ≡ n = elim (length-drop n old) [
      | inl is ↦ omega (arith, is, split)
      | inr less ↦ omega (arith, less.0, less.1, split, few)
    ] in
    let is : take n new ≡ front = ap (take n) reads.copied ∙ take-front n front (drop n old) many in
    let most = length-take-most n (drop place text) in
    record {
      are = sym (take-drop n (drop place text)) ∙ (ap (λ (l : List ℕ). front ++ l) (drop-drop place n text) ∙ ap (λ (l : List ℕ). l ++ drop (place + n) text) (sym is));
      many = ap length is ∙ many;
      within = elim (length-drop place text) [
        | inl e ↦ omega (arith, e, many, most)
        | inr less ↦ absurd (omega (arith, less.1, many, most, some))
      ];
    }

-- where no vector is missing the rest is not looked at
any_rest : (f : Filled) (size : ℕ) (a b : List ℕ) → f.missing ≡ 0 → on_text f size a ≡ on_text f size b
any_rest f size a b none = rw none refl

pub so_far_behind : (h : Held) (shown : Shown) (count : ℕ) (f g : Filled) (n : ℕ) (old new : List ℕ) (u : Unit {0}) → SoFar h shown count f
    → ReadsHeld h f.place n old new → length new ≡ length old → n ≤ length old → 0 < n → TakesBytes (Ok u) f g (take n new)
    → (0 < g.missing → g.place ≡ f.place + length (take n new)) → SoFar h shown count g
so_far_behind untold shown count f g n old new u so_far reads same few some takes place = tt
so_far_behind absent shown count f g n old new u so_far reads same few some takes place = absurd reads
so_far_behind (bytes text) shown count f g n old new u so_far reads same few some takes place =
    let read = is_read text f.place n old new reads same few some in
    let all = takes (length text) (drop (f.place + n) text) ∙ (ap (on_text f (length text)) (sym read.are) ∙ so_far.rest) in
    record {
      rest = elim (zero_or g.missing) [
        | inl none ↦ any_rest g (length text) (drop g.place text) (drop (f.place + n) text) none ∙ all
        | inr more ↦ (let at : g.place ≡ f.place + n = place more ∙ ap (λ (k : ℕ). f.place + k) read.many in
            ap (λ (k : ℕ). on_text g (length text) (drop k text)) at ∙ all)
      ];
      within = λ more. let at : g.place ≡ f.place + n = place more ∙ ap (λ (k : ℕ). f.place + k) read.many in omega (arith, at, read.within);
    }

refuses : (why : NextFault) (stop : Option NextFault) → TellsWhy why stop → Refuses why stop
refuses Memory stop tells = tt
refuses Read stop tells = tt
refuses TooLong stop tells = tells
refuses (Vector fault) stop tells = tells

never : (why : NextFault) → TellsWhy why None → Refuses why None
never why tells = refuses why None tells

pub refused_behind : (h : Held) (shown : Shown) (count : ℕ) (f g : Filled) (n : ℕ) (old new : List ℕ) (why : NextFault) → SoFar h shown count f
    → ReadsHeld h f.place n old new → length new ≡ length old → n ≤ length old → 0 < n → TakesBytes (Err why) f g (take n new)
    → RefusesHeld h shown count why
refused_behind untold shown count f g n old new why so_far reads same few some takes = tt
refused_behind absent shown count f g n old new why so_far reads same few some takes = absurd reads
refused_behind (bytes text) shown count f g n old new why so_far reads same few some takes =
    let read = is_read text f.place n old new reads same few some in
    let rest = drop (f.place + n) text in
    let size : length text ≡ f.place + length (take n new) + length rest = elim (length-drop (f.place + n) text) [
      | inl e ↦ omega (arith, e, read.many)
      | inr less ↦ omega (arith, less.0, less.1, read.many, read.within)
    ] in
    refuses why (next_window shown text count).stop (subst (λ (w : RowWindow). TellsWhy why w.stop) (ap (on_text f (length text)) (sym read.are) ∙ so_far.rest)
    (takes (length text) rest size))

-- the window that was read, and the numbers behind it
is_next : (shown : Shown) (text : List ℕ) (count : ℕ) (f : Filled) → FitsText shown text → next_window shown text count ≡ record { rows = f.rows; behind = f.behind; stop = None }
    → f.width ≡ shown.width → f.most ≡ shown.most → f.seen ≡ shown.given + length f.rows → IsNext shown count text (reader_of f) f.rows
is_next shown text count f fits is width most seen =
    let again = fits_again shown text count fits (ap (λ (w : RowWindow). w.stop) is) in
    record {
      window = is;
      fits = subst (λ (s : Shown). FitsText s text) (
          ap (λ (w : RowWindow). record { width = shown.width; most = shown.most; given = shown.given + length w.rows; behind = w.behind }) is
          ∙ (ap (λ (k : ℕ). record { width = k; most = shown.most; given = shown.given + length f.rows; behind = f.behind }) (sym width)
          ∙ (ap (λ (k : ℕ). record { width = f.width; most = k; given = shown.given + length f.rows; behind = f.behind }) (sym most)
          ∙ ap (λ (k : ℕ). record { width = f.width; most = f.most; given = k; behind = f.behind }) (sym seen)))) again;
    }

pub given_whole : (h : Held) (shown : Shown) (count : ℕ) (f : Filled) → SoFar h shown count f → FitsHeld h shown → f.missing ≡ 0
    → f.width ≡ shown.width → f.most ≡ shown.most → f.seen ≡ shown.given + length f.rows → GivesHeld h shown count (reader_of f) f.rows
given_whole untold shown count f so_far fits none width most seen = tt
given_whole absent shown count f so_far fits none width most seen = sym so_far ∙ none
given_whole (bytes text) shown count f so_far fits none width most seen =
    let whole : on_text f (length text) (drop f.place text) ≡ record { rows = f.rows; behind = f.behind; stop = None } =
    rw none (ap (λ (rs : List Row). record { rows = rs; behind = f.behind; stop = None }) (append-nil f.rows)) in
    is_next shown text count f fits (sym so_far.rest ∙ whole) width most seen

-- where nothing is read although there is room, the text ends
at_end : (text : List ℕ) (shown : Shown) (count : ℕ) (f : Filled) (n : ℕ) (old new : List ℕ) → SoFarOf text shown count f → ReadsFrom text f.place n old new → n ≡ 0 → 0 < length old → 0 < f.missing
    → on_text f f.place [] ≡ next_window shown text count
at_end text shown count f n old new so_far reads none room some =
    let near = so_far.within some in
    let past : length text ≤ f.place = elim (cases_less f.place (length text)) [
      | inl less ↦ absurd (let more = reads.some less room in omega (arith, more, none))
      | inr no_less ↦ no_less
    ] in
    let at : f.place ≡ length text = omega (arith, near, past) in
    let no_rest : drop f.place text ≡ [] = ap (λ (k : ℕ). drop k text) at ∙ drop-all text in
    ap (λ (k : ℕ). on_text f k []) at ∙ (ap (on_text f (length text)) (sym no_rest) ∙ so_far.rest)

pub given_to_end : (h : Held) (shown : Shown) (count : ℕ) (f g : Filled) (n : ℕ) (old new : List ℕ) (u : Unit {0}) → SoFar h shown count f → FitsHeld h shown
    → ReadsHeld h f.place n old new → n ≡ 0 → 0 < length old → 0 < f.missing → EndsHere (Ok u) f g
    → g.width ≡ shown.width → g.most ≡ shown.most → g.seen ≡ shown.given + length g.rows → GivesHeld h shown count (reader_of g) g.rows
given_to_end untold shown count f g n old new u so_far fits reads none room some ends width most seen = tt
given_to_end absent shown count f g n old new u so_far fits reads none room some ends width most seen = absurd reads
given_to_end (bytes text) shown count f g n old new u so_far fits reads none room some ends width most seen =
    is_next shown text count g fits (sym (at_end text shown count f n old new so_far reads none room some) ∙ ends) width most seen

pub refused_at_end : (h : Held) (shown : Shown) (count : ℕ) (f g : Filled) (n : ℕ) (old new : List ℕ) (why : NextFault) → SoFar h shown count f
    → ReadsHeld h f.place n old new → n ≡ 0 → 0 < length old → 0 < f.missing → EndsHere (Err why) f g → RefusesHeld h shown count why
refused_at_end untold shown count f g n old new why so_far reads none room some ends = tt
refused_at_end absent shown count f g n old new why so_far reads none room some ends = absurd reads
refused_at_end (bytes text) shown count f g n old new why so_far reads none room some ends =
    refuses why (next_window shown text count).stop (subst (λ (w : RowWindow). TellsWhy why w.stop) (at_end text shown count f n old new so_far reads none room some) ends)

-- a front of a list is one of its longer fronts
pub take-within : (n : ℕ) (xs ys : List ℕ) → n ≤ length xs → take n (xs ++ ys) ≡ take n xs
take-within zero xs ys few = refl
take-within (suc n) [] ys few = absurd (omega (arith, few))
take-within (suc n) (x ∷ xs) ys few = ap (λ (l : List ℕ). x ∷ l) (take-within n xs ys (omega (arith, few)))

-- the fault of an answer
abbrev pub fault_in : {A : Type 0} → Result A NextFault → NextFault
fault_in (Ok a) = Memory
fault_in (Err why) = why

-- bytes that were read are not refused as if they had not been
pub never_unread : (why : NextFault) (f g : Filled) (taken : List ℕ) → TakesBytes (Err why) f g taken → why ≡ Read → ⊥
never_unread why f g taken takes is =
    subst (λ (w : NextFault). TellsWhy w (on_text f (f.place + length taken + 0) (taken ++ [])).stop) is (takes (f.place + length taken + 0) [] refl)

-- nor is the end
pub end_read : (why : NextFault) (f g : Filled) → EndsHere (Err why) f g → why ≡ Read → ⊥
end_read why f g ends is = subst (λ (w : NextFault). TellsWhy w (on_text f f.place []).stop) is ends

-- a reader behind the rows that are given
pub behind_rows : (shown : Shown) (count : ℕ) (f : Filled) (after : Shown) (rows : List Row) → after ≡ reader_of f → rows ≡ f.rows
    → f.width ≡ shown.width → f.most ≡ shown.most → f.seen ≡ shown.given + length f.rows → f.seen + f.missing ≡ shown.given + count
    → IsBehind shown count after rows
behind_rows shown count f after rows reader are width most seen sum =
    let long : length rows ≡ length f.rows = ap (λ (rs : List Row). length rs) are in
    record {
      width = ap (λ (s : Shown). s.width) reader ∙ width;
      most = ap (λ (s : Shown). s.most) reader ∙ most;
      given = ap (λ (s : Shown). s.given) reader ∙ (omega (arith, seen, long));
      few = omega (arith, seen, sum, long);
    }

-- what is given fits again
pub fits_behind : (h : Held) (shown : Shown) (count : ℕ) (after : Shown) (rows : List Row) → GivesHeld h shown count after rows → FitsHeld h after
fits_behind untold shown count after rows gives = tt
fits_behind absent shown count after rows gives = tt
fits_behind (bytes text) shown count after rows gives = gives.fits
