-- Beginnings of lines that mean the same give the same windows.
use Rattle.std.proofs.Common.{◌≡◌, ◌∙◌, ℕ, zero, suc, ◌+◌, ◌-◌, ◌<◌, Bool, true, false, List, [], ◌∷◌, ◌++◌, length, take, set, refl, ap, sym, subst, arith, inl, inr, append_assoc, append-nil, length-append, length-take}
use Rattle.std.specs.Prelude.{◌||◌, nat_lt, slice_index_or, Result, Ok, Err, OnOk}
use Rattle.ds_stream.specs.declared.fault.NextFault.{NextFault}
use Rattle.std.specs.List.{list_any}
use Rattle.std.proofs.Math.Bool.{or-false, or-true}
use Rattle.std.proofs.lemmas.Bool.{cases_Bool, eqb-true, false≢true}
use Rattle.std.proofs.lemmas.List.Elements.{All-nil, All-cons}
use Rattle.std.proofs.lemmas.List.Folds.{list_any-append}
use Rattle.ds_lines.specs.Line.{is_backslash, is_blank, is_end, is_hash, is_joined, is_newline, joins, trimmed, uncommented, words_in, words_of}
use Rattle.ds_lines.proofs.JoinedLines.{words_of-joined}
use Rattle.ds_rows.specs.Vector.{has_width}
use Rattle.ds_stream.specs.Alike.{AreAlike, AreWrong, IsBegun, IsFull, IsLike, told_line}
use Rattle.ds_stream.specs.Stream.{Behind, Placed, longest, placed_in, placed_of, window}
use Rattle.ds_stream.proofs.Cut.{AreEnds, cut_of, trimmed_at, trimmed_ends, trimmed-ends, trimmed-at, joined_at, joined_ends, joined-ends, joined-at, uncommented-behind, no_blank, blank_ends, plain_front}
use Rattle.ds_stream.proofs.WrongWidthLines.{are_wrong, begins-append, words_of-blank}

or_second : (a b : Bool) → (a || b) ≡ false → b ≡ false
or_second true b none = absurd (false≢true (sym none))
or_second false b none = none

wrong_more : (width : ℕ) (words more : List (List ℕ)) → AreWrong width words → AreWrong width (words ++ more)
wrong_more width [] more are = absurd (false≢true are.some)
wrong_more width (word ∷ words) more are = record {
  some = refl;
  wrong = λ others. ap (has_width width) (append_assoc (word ∷ words) more others) ∙ are.wrong (more ++ others);
}

alike_more : (width : ℕ) (words others more : List (List ℕ)) → AreAlike width words others → AreAlike width (words ++ more) (others ++ more)
alike_more width words others more (inl same) = inl (ap (λ (ws : List (List ℕ)). ws ++ more) same)
alike_more width words others more (inr are) = inr (wrong_more width words more are.0, wrong_more width others more are.1)

-- words that are alike give the same window
wrong_window : (width most size count : ℕ) (behind : Behind) (seen first : ℕ) (words others : List (List ℕ)) (here : Behind) (ps : List Placed) → AreWrong width words → AreWrong width others
    → window width most size count behind seen (placed_of first words here ++ ps) ≡ window width most size count behind seen (placed_of first others here ++ ps)
wrong_window width most size zero behind seen first words others here ps are other_are = refl
wrong_window width most size (suc count) behind seen first words others here ps are other_are =
    let one : has_width width words ≡ false = ap (has_width width) (sym (append-nil words)) ∙ are.wrong [] in
    let two : has_width width others ≡ false = ap (has_width width) (sym (append-nil others)) ∙ other_are.wrong [] in
    rw (are.some, other_are.some) (elim (cases_Bool (nat_lt longest here.place)) [
      | inl long ↦ rw long refl
      | inr short ↦ rw short (elim (cases_Bool (nat_lt seen most)) [
        | inl few ↦ rw (few, one, two) refl
        | inr many ↦ rw many refl
      ])
    ])

pub alike_window : (width most size count : ℕ) (behind : Behind) (seen first : ℕ) (words others : List (List ℕ)) (here : Behind) (ps : List Placed) → AreAlike width words others
    → window width most size count behind seen (placed_of first words here ++ ps) ≡ window width most size count behind seen (placed_of first others here ++ ps)
alike_window width most size count behind seen first words others here ps (inl same) =
    ap (λ (ws : List (List ℕ)). window width most size count behind seen (placed_of first ws here ++ ps)) same
alike_window width most size count behind seen first words others here ps (inr are) =
    wrong_window width most size count behind seen first words others here ps are.0 are.1

alike_last : (width most size count : ℕ) (behind : Behind) (seen first : ℕ) (words others : List (List ℕ)) (here : Behind) → AreAlike width words others
    → window width most size count behind seen (placed_of first words here) ≡ window width most size count behind seen (placed_of first others here)
alike_last width most size count behind seen first words others here alike =
    ap (window width most size count behind seen) (sym (append-nil (placed_of first words here)))
    ∙ (alike_window width most size count behind seen first words others here [] alike
    ∙ ap (window width most size count behind seen) (append-nil (placed_of first others here)))

-- what is alike is so behind another byte
like_byte : (width : ℕ) (words : List (List ℕ)) (line : List ℕ) (others : List (List ℕ)) (other : List ℕ) (byte : ℕ) → IsLike width words line others other
    → IsLike width words (line ++ byte ∷ []) others (other ++ byte ∷ [])
like_byte width words line others other byte like = record {
  joins_as = λ more. ap joins (append_assoc line (byte ∷ []) more) ∙ (like.joins_as (byte ∷ more) ∙ ap joins (sym (append_assoc other (byte ∷ []) more)));
  words_as = λ more. subst (λ (l : List ℕ). AreAlike width (words ++ words_in l) (others ++ words_in ((other ++ byte ∷ []) ++ more))) (sym (append_assoc line (byte ∷ []) more))
      (subst (λ (l : List ℕ). AreAlike width (words ++ words_in (line ++ byte ∷ more)) (others ++ words_in l)) (sym (append_assoc other (byte ∷ []) more)) (like.words_as (byte ∷ more)));
}

like_words : (width : ℕ) (words : List (List ℕ)) (line : List ℕ) (others : List (List ℕ)) (other : List ℕ) → IsLike width words line others other
    → AreAlike width (words ++ words_in line) (others ++ words_in other)
like_words width words line others other like =
    subst (λ (l : List ℕ). AreAlike width (words ++ words_in l) (others ++ words_in other)) (append-nil line)
    (subst (λ (l : List ℕ). AreAlike width (words ++ words_in (line ++ [])) (others ++ words_in l)) (append-nil other) (like.words_as []))

like_joins : (width : ℕ) (words : List (List ℕ)) (line : List ℕ) (others : List (List ℕ)) (other : List ℕ) → IsLike width words line others other → joins line ≡ joins other
like_joins width words line others other like = ap joins (sym (append-nil line)) ∙ (like.joins_as [] ∙ ap joins (append-nil other))

pub like_window : (width most size count : ℕ) (behind : Behind) (seen first : ℕ) (words : List (List ℕ)) (line : List ℕ) (others : List (List ℕ)) (other : List ℕ) (place lines : ℕ) (text : List ℕ)
    → IsLike width words line others other
    → window width most size count behind seen (placed_in first words line place lines text) ≡ window width most size count behind seen (placed_in first others other place lines text)
like_window width most size count behind seen first words line others other place lines [] like =
    alike_last width most size count behind seen first (words ++ words_in line) (others ++ words_in other) (record { place = place; lines = lines + 1 })
    (like_words width words line others other like)
like_window width most size count behind seen first words line others other place lines (byte ∷ text) like = elim (cases_Bool (is_newline byte)) [
  | inr not_newline ↦ rw not_newline (like_window width most size count behind seen first words (line ++ byte ∷ []) others (other ++ byte ∷ []) (place + 1) lines text
      (like_byte width words line others other byte like))
  | inl newline ↦ rw newline (elim (cases_Bool (joins other)) [
    | inl yes_joins ↦ (let too : joins line ≡ true = like_joins width words line others other like ∙ yes_joins in
        rw (yes_joins, too) (like_window width most size count behind seen first (words ++ words_in line) [] (others ++ words_in other) [] (place + 1) (lines + 1) text
        (record {
          joins_as = λ more. refl;
          words_as = λ more. alike_more width (words ++ words_in line) (others ++ words_in other) (words_in more) (like_words width words line others other like);
        })))
    | inr ends ↦ (let too : joins line ≡ false = like_joins width words line others other like ∙ ends in
        rw (ends, too) (alike_window width most size count behind seen first (words ++ words_in line) (others ++ words_in other) (record { place = place + 1; lines = lines + 1 })
        (placed_in (lines + 2) [] [] (place + 1) (lines + 1) text) (like_words width words line others other like)))
  ])
]

pub like_same : (width : ℕ) (words : List (List ℕ)) (line : List ℕ) → IsLike width words line words line
like_same width words line = record { joins_as = λ more. refl; words_as = λ more. inl refl }

alike_next : (width : ℕ) (a b c : List (List ℕ)) → AreAlike width a b → AreAlike width b c → AreAlike width a c
alike_next width a b c (inl one) (inl two) = inl (one ∙ two)
alike_next width a b c (inl one) (inr two) = inr (subst (AreWrong width) (sym one) two.0, two.1)
alike_next width a b c (inr one) (inl two) = inr (one.0, subst (AreWrong width) two one.1)
alike_next width a b c (inr one) (inr two) = inr (one.0, two.1)

pub like_next : (width : ℕ) (a : List (List ℕ)) (l : List ℕ) (b : List (List ℕ)) (m : List ℕ) (c : List (List ℕ)) (n : List ℕ) → IsLike width a l b m → IsLike width b m c n → IsLike width a l c n
like_next width a l b m c n one two = record {
  joins_as = λ more. one.joins_as more ∙ two.joins_as more;
  words_as = λ more. alike_next width (a ++ words_in (l ++ more)) (b ++ words_in (m ++ more)) (c ++ words_in (n ++ more)) (one.words_as more) (two.words_as more);
}

-- a plain line before others
joins_plain : (line more : List ℕ) → list_any is_hash line ≡ false → joins (line ++ more) ≡ is_joined (line ++ uncommented more)
unfolding joins
joins_plain line more plain = ap is_joined (uncommented-behind line more plain)

words_plain : (line more : List ℕ) → list_any is_hash line ≡ false → words_in (line ++ more) ≡ words_of (trimmed (line ++ uncommented more))
unfolding words_in
words_plain line more plain = ap (λ (l : List ℕ). words_of (trimmed l)) (uncommented-behind line more plain)

-- plain lines are alike where they are without what comments have
plain_like : (width : ℕ) (line other : List ℕ) → list_any is_hash line ≡ false → list_any is_hash other ≡ false
    → ((more : List ℕ) → is_joined (line ++ more) ≡ is_joined (other ++ more))
    → ((more : List ℕ) → AreAlike width (words_of (trimmed (line ++ more))) (words_of (trimmed (other ++ more))))
    → IsLike width [] line [] other
plain_like width line other plain other_plain joined words = record {
  joins_as = λ more. joins_plain line more plain ∙ (joined (uncommented more) ∙ sym (joins_plain other more other_plain));
  words_as = λ more. subst (λ (ws : List (List ℕ)). AreAlike width ws (words_in (other ++ more))) (sym (words_plain line more plain))
      (subst (λ (ws : List (List ℕ)). AreAlike width (words_of (trimmed (line ++ uncommented more))) ws) (sym (words_plain other more other_plain)) (words (uncommented more)));
}

-- a full line with more behind it is no vector
full_wrong : (width : ℕ) (line front : List ℕ) (last : ℕ) (back : List ℕ) → IsFull width line → is_end last ≡ false → AreEnds back → AreWrong width (words_of (trimmed (line ++ (front ++ last ∷ back))))
full_wrong width line front last back full kept ends =
    let long : length (line ++ front) ≡ length line + length front = length-append line front in
    let some : 0 < length line = omega (arith, full.several) in
    let begins : is_blank (slice_index_or (line ++ front) 0 0) ≡ false = ap is_blank (begins-append line front some) ∙ full.begun.begins in
    subst (λ (l : List ℕ). AreWrong width (words_of l)) (sym (trimmed-at line front last back kept ends))
    (are_wrong width (line ++ front) last begins (omega (arith, long, some)) (omega (arith, long, full.wide)) (no_blank last kept))

-- full lines that are alike as they stand are so whatever follows
pub full_like : (width : ℕ) (line other : List ℕ) → IsFull width line → IsFull width other → is_joined line ≡ is_joined other
    → AreAlike width (words_of (trimmed line)) (words_of (trimmed other)) → IsLike width [] line [] other
full_like width line other full other_full same alike = plain_like width line other full.begun.plain other_full.begun.plain
    (λ more. elim (cut_of more) [
      | inl ends ↦ joined-ends line more ends ∙ (ap (λ (b : Bool). b || list_any is_backslash more) same ∙ sym (joined-ends other more ends))
      | inr cut ↦ (let (front, last, back, is, kept, ends) = cut in
          subst (λ (m : List ℕ). is_joined (line ++ m) ≡ is_joined (other ++ m)) (sym is) (joined-at line front last back kept ends ∙ sym (joined-at other front last back kept ends)))
    ])
    (λ more. elim (cut_of more) [
      | inl ends ↦ subst (λ (l : List ℕ). AreAlike width (words_of l) (words_of (trimmed (other ++ more)))) (sym (trimmed-ends line more ends))
          (subst (λ (l : List ℕ). AreAlike width (words_of (trimmed line)) (words_of l)) (sym (trimmed-ends other more ends)) alike)
      | inr cut ↦ (let (front, last, back, is, kept, ends) = cut in
          subst (λ (m : List ℕ). AreAlike width (words_of (trimmed (line ++ m))) (words_of (trimmed (other ++ m)))) (sym is)
          (inr (full_wrong width line front last back full kept ends, full_wrong width other front last back other_full kept ends)))
    ])

begun_more : (line more : List ℕ) → 0 < length line → IsBegun line → list_any is_hash (line ++ more) ≡ false → IsBegun (line ++ more)
begun_more line more some begun plain = record { plain = plain; begins = ap is_blank (begins-append line more some) ∙ begun.begins }

full_more : (width : ℕ) (line more : List ℕ) → IsFull width line → list_any is_hash (line ++ more) ≡ false → IsFull width (line ++ more)
full_more width line more full plain =
    let long : length (line ++ more) ≡ length line + length more = length-append line more in
    record {
      begun = begun_more line more (omega (arith, full.several)) full.begun plain;
      several = omega (arith, long, full.several);
      wide = omega (arith, long, full.wide);
    }

one_end : (byte : ℕ) → is_end byte ≡ true → AreEnds (byte ∷ [])
one_end byte end = All-cons (λ b. is_end b ≡ true) byte [] end (All-nil (λ b. is_end b ≡ true))

-- what ends a line tells nothing behind a full one, but whether it is joined
end_like : (width : ℕ) (line : List ℕ) (byte : ℕ) → IsFull width line → is_end byte ≡ true → list_any is_hash (line ++ byte ∷ []) ≡ false
    → (is_joined line || is_backslash byte) ≡ is_joined line → IsLike width [] line [] (line ++ byte ∷ [])
end_like width line byte full end plain same =
    let ends = one_end byte end in
    let none : (is_backslash byte || false) ≡ is_backslash byte = or-false (is_backslash byte) in
    full_like width line (line ++ byte ∷ []) full (full_more width line (byte ∷ []) full plain)
    (sym (joined-ends line (byte ∷ []) ends ∙ (ap (λ (b : Bool). is_joined line || b) none ∙ same)))
    (inl (ap words_of (sym (trimmed-ends line (byte ∷ []) ends))))

no_backslash : (byte : ℕ) → is_blank byte ≡ true → is_backslash byte ≡ false
no_backslash byte blank = elim (cases_Bool (is_backslash byte)) [
  | inr other ↦ other
  | inl here ↦ absurd (false≢true (subst (λ (b : ℕ). is_blank b ≡ true) (eqb-true byte 92 here) blank))
]

pub blank_like : (width : ℕ) (line : List ℕ) (byte : ℕ) → IsFull width line → is_blank byte ≡ true → list_any is_hash (line ++ byte ∷ []) ≡ false → IsLike width [] line [] (line ++ byte ∷ [])
blank_like width line byte full blank plain = end_like width line byte full (blank_ends byte blank) plain
    (ap (λ (b : Bool). is_joined line || b) (no_backslash byte blank) ∙ or-false (is_joined line))

joined_backslash : (line : List ℕ) → is_joined (line ++ 92 ∷ []) ≡ true
joined_backslash line = joined-ends line (92 ∷ []) (one_end 92 refl) ∙ or-true (is_joined line)

pub backslash_like : (width : ℕ) (line : List ℕ) → IsFull width line → list_any is_hash ((line ++ 92 ∷ []) ++ 92 ∷ []) ≡ false → list_any is_hash (line ++ 92 ∷ []) ≡ false
    → IsLike width [] (line ++ 92 ∷ []) [] ((line ++ 92 ∷ []) ++ 92 ∷ [])
backslash_like width line full twice once = end_like width (line ++ 92 ∷ []) 92 (full_more width line (92 ∷ []) full once) refl twice
    (ap (λ (b : Bool). b || true) (joined_backslash line) ∙ sym (joined_backslash line))

-- the last byte of a line is another one
set_at : (line : List ℕ) (n byte : ℕ) → suc n ≡ length line → set line n byte ≡ take n line ++ byte ∷ []
set_at [] n byte is = absurd (omega (arith, is))
set_at (a ∷ []) zero byte is = refl
set_at (a ∷ b ∷ line) zero byte is = absurd (omega (arith, is))
set_at (a ∷ line) (suc n) byte is = ap (λ (l : List ℕ). a ∷ l) (set_at line n byte (omega (arith, is)))

set_last : (line : List ℕ) (byte : ℕ) → 0 < length line → set line (length line - 1) byte ≡ take (length line - 1) line ++ byte ∷ []
set_last line byte some = set_at line (length line - 1) byte (omega (arith, some))

begins-take : (n : ℕ) (line : List ℕ) → slice_index_or (take (suc n) line) 0 0 ≡ slice_index_or line 0 0
begins-take n [] = refl
begins-take n (byte ∷ line) = refl

length_front : (line : List ℕ) → 0 < length line → length (take (length line - 1) line) + 1 ≡ length line
length_front line some = omega (arith, some, length-take (length line - 1) line)

plain_last : (front line : List ℕ) (byte : ℕ) → list_any is_hash front ≡ false → list_any is_hash (line ++ byte ∷ []) ≡ false → list_any is_hash (front ++ byte ∷ []) ≡ false
plain_last front line byte plain with_byte =
    let other : list_any is_hash (byte ∷ []) ≡ false = or_second (list_any is_hash line) (list_any is_hash (byte ∷ [])) (sym (list_any-append is_hash line (byte ∷ [])) ∙ with_byte) in
    list_any-append is_hash front (byte ∷ []) ∙ (ap (λ (b : Bool). b || list_any is_hash (byte ∷ [])) plain ∙ other)

told_last : (width : ℕ) (line other : List ℕ) (byte : ℕ) → IsFull width line → IsFull width other → is_end byte ≡ false → list_any is_hash (other ++ byte ∷ []) ≡ false
    → IsLike width [] (set line (length line - 1) byte) [] (other ++ byte ∷ []) × IsFull width (set line (length line - 1) byte)
told_last width line other byte full other_full kept plain =
    let some : 0 < length line = omega (arith, full.several) in
    let front = take (length line - 1) line in
    let long = length_front line some in
    let less : suc (length line - 2) ≡ length line - 1 = omega (arith, full.several) in
    let begins : is_blank (slice_index_or front 0 0) ≡ false = ap (λ (n : ℕ). is_blank (slice_index_or (take n line) 0 0)) (sym less) ∙ (ap is_blank (begins-take (length line - 2) line) ∙ full.begun.begins) in
    let is = set_last line byte some in
    let both : length (front ++ byte ∷ []) ≡ length front + 1 = length-append front (byte ∷ []) in
    let front_some : 0 < length front = omega (arith, long, full.several) in
    let new_full : IsFull width (front ++ byte ∷ []) = record {
      begun = record {
        plain = plain_last front other byte (plain_front (length line - 1) line full.begun.plain) plain;
        begins = ap is_blank (begins-append front (byte ∷ []) front_some) ∙ begins;
      };
      several = omega (arith, both, long, full.several);
      wide = omega (arith, both, long, full.wide);
    } in
    let none = All-nil (λ b. is_end b ≡ true) in
    let like : IsLike width [] (front ++ byte ∷ []) [] (other ++ byte ∷ []) = full_like width (front ++ byte ∷ []) (other ++ byte ∷ []) new_full (full_more width other (byte ∷ []) other_full plain)
    (joined_at front byte [] kept none ∙ sym (joined_at other byte [] kept none))
    (inr (
      subst (λ (l : List ℕ). AreWrong width (words_of l)) (sym (trimmed_at front byte [] kept none)) (are_wrong width front byte begins front_some (omega (arith, long, full.wide)) (no_blank byte kept)),
      subst (λ (l : List ℕ). AreWrong width (words_of l)) (sym (trimmed_at other byte [] kept none))
          (are_wrong width other byte other_full.begun.begins (omega (arith, other_full.several)) (omega (arith, other_full.wide)) (no_blank byte kept)),
    )) in
    subst (λ (l : List ℕ). IsLike width [] l [] (other ++ byte ∷ []) × IsFull width l) (sym is) (like, new_full)

-- blanks at the front of a line
words_of-first : (byte : ℕ) (more : List ℕ) → is_blank byte ≡ true → words_of (byte ∷ more) ≡ words_of more
words_of-first byte more blank = words_of-blank [] byte more blank

pub front_like : (width byte : ℕ) → is_blank byte ≡ true → list_any is_hash (byte ∷ []) ≡ false → IsLike width [] [] [] (byte ∷ [])
front_like width byte blank plain =
    let end = blank_ends byte blank in
    let ends = one_end byte end in
    let alone : list_any is_backslash (byte ∷ []) ≡ false = ap (λ (b : Bool). b || false) (no_backslash byte blank) in
    plain_like width [] (byte ∷ []) refl plain
    (λ more. elim (cut_of more) [
      | inl all ↦ joined_ends more all ∙ sym (joined-ends (byte ∷ []) more all ∙ ap (λ (b : Bool). b || list_any is_backslash more) (joined_ends (byte ∷ []) ends ∙ alone))
      | inr cut ↦ (let (front, last, back, is, kept, are) = cut in
          subst (λ (m : List ℕ). is_joined m ≡ is_joined (byte ∷ m)) (sym is) (joined_at front last back kept are ∙ sym (joined_at (byte ∷ front) last back kept are)))
    ])
    (λ more. elim (cut_of more) [
      | inl all ↦ inl (ap words_of (trimmed_ends more all ∙ sym (trimmed-ends (byte ∷ []) more all ∙ trimmed_ends (byte ∷ []) ends)))
      | inr cut ↦ (let (front, last, back, is, kept, are) = cut in
          subst (λ (m : List ℕ). AreAlike width (words_of (trimmed m)) (words_of (trimmed (byte ∷ m)))) (sym is)
          (inl (ap words_of (trimmed_at front last back kept are) ∙ (sym (words_of-first byte (front ++ last ∷ []) blank) ∙ sym (ap words_of (trimmed_at (byte ∷ front) last back kept are))))))
    ])

blank_first : (more : List ℕ) → AreEnds more → AreEnds (32 ∷ more)
blank_first more ends = All-cons (λ b. is_end b ≡ true) 32 more refl ends

-- a line that has been cut joins nothing
cut_joined : (line : List ℕ) → trimmed line ≡ line → is_joined line ≡ false
cut_joined line whole = elim (cut_of line) [
  | inl all ↦ (let none : line ≡ [] = sym whole ∙ trimmed_ends line all in joined_ends line all ∙ ap (list_any is_backslash) none)
  | inr cut ↦ (let (front, last, back, is, kept, ends) = cut in
      ap is_joined (sym whole ∙ (ap trimmed is ∙ trimmed_at front last back kept ends)) ∙ joined_at front last [] kept (All-nil (λ b. is_end b ≡ true)))
]

-- what a joined line has, behind a line that has been cut
join_joins : (line more : List ℕ) → trimmed line ≡ line → is_joined (line ++ 32 ∷ more) ≡ is_joined more
join_joins line more whole = elim (cut_of more) [
  | inr cut ↦ (let (front, last, back, is, kept, ends) = cut in
      subst (λ (m : List ℕ). is_joined (line ++ 32 ∷ m) ≡ is_joined m) (sym is)
      (joined-at line (32 ∷ front) last back kept ends ∙ sym (joined_at front last back kept ends)))
  | inl all ↦ joined-ends line (32 ∷ more) (blank_first more all) ∙ (ap (λ (b : Bool). b || list_any is_backslash more) (cut_joined line whole) ∙ sym (joined_ends more all))
]

join_words : (line more : List ℕ) → trimmed line ≡ line → words_of (trimmed (line ++ 32 ∷ more)) ≡ words_of line ++ words_of (trimmed more)
join_words line more whole = elim (cut_of more) [
  | inr cut ↦ (let (front, last, back, is, kept, ends) = cut in
      subst (λ (m : List ℕ). words_of (trimmed (line ++ 32 ∷ m)) ≡ words_of line ++ words_of (trimmed m)) (sym is)
      (ap words_of (trimmed-at line (32 ∷ front) last back kept ends ∙ append_assoc line (32 ∷ front) (last ∷ []))
      ∙ (words_of-joined line (front ++ last ∷ []) ∙ ap (λ (l : List ℕ). words_of line ++ words_of l) (sym (trimmed_at front last back kept ends)))))
  | inl all ↦ ap words_of (trimmed-ends line (32 ∷ more) (blank_first more all) ∙ whole)
      ∙ (sym (append-nil (words_of line)) ∙ ap (λ (l : List ℕ). words_of line ++ words_of l) (sym (trimmed_ends more all)))
]

-- a blank stands for the end of a line that joins the next one
pub join_like : (width : ℕ) (line : List ℕ) → list_any is_hash line ≡ false → trimmed line ≡ line → IsLike width [] (line ++ 32 ∷ []) (words_of line) []
join_like width line plain whole =
    let blank_plain : list_any is_hash (line ++ 32 ∷ []) ≡ false = list_any-append is_hash line (32 ∷ []) ∙ ap (λ (b : Bool). b || false) plain in
    record {
      joins_as = λ more. joins_plain (line ++ 32 ∷ []) more blank_plain ∙ (ap is_joined (append_assoc line (32 ∷ []) (uncommented more))
          ∙ (join_joins line (uncommented more) whole ∙ sym (joins_plain [] more refl)));
      words_as = λ more. inl (words_plain (line ++ 32 ∷ []) more blank_plain ∙ (ap (λ (l : List ℕ). words_of (trimmed l)) (append_assoc line (32 ∷ []) (uncommented more))
          ∙ (join_words line (uncommented more) whole ∙ ap (λ (ws : List (List ℕ)). words_of line ++ ws) (sym (words_plain [] more refl)))));
    }

-- the bytes that tell a line have no comment in them exactly where none has begun
pub plain_told : (joined : Bool) (line : List ℕ) → list_any is_hash line ≡ false → list_any is_hash (told_line false joined line) ≡ false
plain_told false line plain = plain
plain_told true line plain = list_any-append is_hash line (92 ∷ []) ∙ ap (λ (b : Bool). b || false) plain

any_last : (line : List ℕ) (more : List ℕ) → list_any is_hash more ≡ true → list_any is_hash (line ++ more) ≡ true
any_last line more some = list_any-append is_hash line more ∙ (ap (λ (b : Bool). list_any is_hash line || b) some ∙ or-true (list_any is_hash line))

pub no_comment : (comment joined : Bool) (line more : List ℕ) → list_any is_hash (told_line comment joined line ++ more) ≡ false → comment ≡ false
no_comment false joined line more plain = refl
no_comment true joined line more plain = absurd (false≢true (sym plain
    ∙ (ap (list_any is_hash) (append_assoc (told_line false joined line) (35 ∷ []) more) ∙ any_last (told_line false joined line) (35 ∷ more) refl)))

pub plain_more : (joined : Bool) (line : List ℕ) (byte : ℕ) → list_any is_hash line ≡ false → is_hash byte ≡ false → list_any is_hash (told_line false joined line ++ byte ∷ []) ≡ false
plain_more joined line byte plain other = list_any-append is_hash (told_line false joined line) (byte ∷ [])
    ∙ (ap (λ (b : Bool). b || list_any is_hash (byte ∷ [])) (plain_told joined line plain) ∙ ap (λ (b : Bool). b || false) other)

pub told_hash : (comment joined : Bool) (line : List ℕ) → list_any is_hash line ≡ false → uncommented (told_line comment joined line) ≡ told_line false joined line
told_hash false joined line plain = ap uncommented (sym (append-nil (told_line false joined line))) ∙ (uncommented-behind (told_line false joined line) [] (plain_told joined line plain) ∙ append-nil (told_line false joined line))
told_hash true joined line plain = uncommented-behind (told_line false joined line) (35 ∷ []) (plain_told joined line plain) ∙ append-nil (told_line false joined line)

told_trimmed : (joined : Bool) (line : List ℕ) → trimmed (told_line false joined line) ≡ trimmed line
told_trimmed false line = refl
told_trimmed true line = trimmed-ends line (92 ∷ []) (one_end 92 refl)

told_joined : (joined : Bool) (line : List ℕ) → is_joined (told_line false joined line) ≡ (joined || is_joined line)
told_joined false line = refl
told_joined true line = joined_backslash line

-- the words of a line that is told
pub words_told : (comment joined : Bool) (line : List ℕ) → list_any is_hash line ≡ false → words_in (told_line comment joined line) ≡ words_of (trimmed line)
unfolding words_in
words_told comment joined line plain = ap (λ (l : List ℕ). words_of (trimmed l)) (told_hash comment joined line plain) ∙ ap words_of (told_trimmed joined line)

pub joins_told : (comment joined : Bool) (line : List ℕ) → list_any is_hash line ≡ false → joins (told_line comment joined line) ≡ (joined || is_joined line)
unfolding joins
joins_told comment joined line plain = ap is_joined (told_hash comment joined line plain) ∙ told_joined joined line

pub begun_take : (n : ℕ) (line : List ℕ) → IsBegun line → IsBegun (take n line)
begun_take zero line begun = record { plain = refl; begins = refl }
begun_take (suc n) line begun = record { plain = plain_front (suc n) line begun.plain; begins = ap is_blank (begins-take n line) ∙ begun.begins }

-- a byte that is neither a blank nor `\\`
kept_byte : (byte : ℕ) → is_blank byte ≡ false → (byte ≡ 92 → ⊥) → is_end byte ≡ false
kept_byte byte other no_slash = rw other (elim (cases_Bool (is_backslash byte)) [
  | inl here ↦ absurd (no_slash (eqb-true byte 92 here))
  | inr none ↦ none
])

full_items : (width : ℕ) (comment joined : Bool) (items line : List ℕ) → comment ≡ false → told_line comment joined items ≡ line → (joined ≡ true → IsFull width items) → IsFull width line → IsFull width items
full_items width true joined items line uncut is full_one full = absurd (false≢true (sym uncut))
full_items width false true items line uncut is full_one full = full_one refl
full_items width false false items line uncut is full_one full = subst (IsFull width) (sym is) full

pub tell_backslash : (width : ℕ) (comment joined : Bool) (items line : List ℕ) (byte : ℕ) → comment ≡ false → told_line comment joined items ≡ line → (joined ≡ true → IsFull width items) → IsFull width line
    → byte ≡ 92 → IsLike width [] (told_line comment true items) [] (line ++ byte ∷ [])
tell_backslash width true joined items line byte uncut is full_one full slash = absurd (false≢true (sym uncut))
tell_backslash width false false items line byte uncut is full_one full slash =
    subst (λ (l : List ℕ). IsLike width [] (items ++ 92 ∷ []) [] (l ++ byte ∷ [])) is
    (subst (λ (b : ℕ). IsLike width [] (items ++ 92 ∷ []) [] (items ++ b ∷ [])) (sym slash) (like_same width [] (items ++ 92 ∷ [])))
tell_backslash width false true items line byte uncut is full_one full slash =
    let plain = (full_one refl).begun.plain in
    subst (λ (l : List ℕ). IsLike width [] (items ++ 92 ∷ []) [] (l ++ byte ∷ [])) is
    (subst (λ (b : ℕ). IsLike width [] (items ++ 92 ∷ []) [] ((items ++ 92 ∷ []) ++ b ∷ [])) (sym slash)
    (backslash_like width items (full_one refl) (plain_more true items 92 plain refl) (plain_more false items 92 plain refl)))

pub tell_other : (width : ℕ) (comment joined : Bool) (items line : List ℕ) (n byte : ℕ) → comment ≡ false → told_line comment joined items ≡ line → (joined ≡ true → IsFull width items) → IsFull width line
    → n ≡ length items → is_blank byte ≡ false → (byte ≡ 92 → ⊥) → list_any is_hash (line ++ byte ∷ []) ≡ false
    → IsLike width [] (told_line comment false (set items (n - 1) byte)) [] (line ++ byte ∷ []) × IsFull width (set items (n - 1) byte)
tell_other width true joined items line n byte uncut is full_one full count other no_slash plain = absurd (false≢true (sym uncut))
tell_other width false joined items line n byte uncut is full_one full count other no_slash plain =
    subst (λ (k : ℕ). IsLike width [] (set items (k - 1) byte) [] (line ++ byte ∷ []) × IsFull width (set items (k - 1) byte)) (sym count)
    (told_last width items line byte (full_items width false joined items line uncut is full_one full) full (kept_byte byte other no_slash) plain)

pub keep_front : (width : ℕ) (comment joined : Bool) (items line : List ℕ) (byte : ℕ) → comment ≡ false → told_line comment joined items ≡ line → (joined ≡ true → IsFull width items)
    → length items ≡ 0 → is_blank byte ≡ true → list_any is_hash (line ++ byte ∷ []) ≡ false → IsLike width [] line [] (line ++ byte ∷ [])
keep_front width true joined items line byte uncut is full_one none blank plain = absurd (false≢true (sym uncut))
keep_front width false true items line byte uncut is full_one none blank plain = absurd (omega (arith, none, (full_one refl).several))
keep_front width false false [] line byte uncut is full_one none blank plain =
    subst (λ (l : List ℕ). IsLike width [] l [] (l ++ byte ∷ [])) is
    (front_like width byte blank (subst (λ (l : List ℕ). list_any is_hash (l ++ byte ∷ []) ≡ false) (sym is) plain))
keep_front width false false (item ∷ items) line byte uncut is full_one none blank plain = absurd (omega (arith, none))

-- a line that joins the next one, once a blank stands behind what is kept of it
pub join_next : (r : Result (Unit {0}) NextFault) (width : ℕ) (kept line new : List ℕ) → OnOk r (IsLike width [] new [] (kept ++ 32 ∷ [])) → list_any is_hash kept ≡ false → trimmed kept ≡ kept
    → words_in line ≡ words_of kept → OnOk r (IsLike width [] new (words_in line) [])
join_next (Ok done) width kept line new like plain whole words =
    subst (λ (ws : List (List ℕ)). IsLike width [] new ws []) (sym words)
    (like_next width [] new [] (kept ++ 32 ∷ []) (words_of kept) [] like (join_like width kept plain whole))
join_next (Err why) width kept line new like plain whole words = tt
