-- The words and the lines that are taken so far.
use Rattle.std.proofs.Common.{◌≡◌, ◌∙◌, inl, inr, ℕ, zero, suc, ◌+◌, ◌<◌, ◌≤◌, Bool, true, false, not, if◌then◌else◌, List, [], length, get_or, drop, refl, sym, ap, subst, arith, Result, Ok, Err, replicate}
use Rattle.std.specs.Prelude.{All}
use Rattle.std.specs.List.{list_any}
use Rattle.std.proofs.lemmas.Bool.{cases_Bool, cases_lt, cond-true, cond-false}
use Rattle.std.proofs.lemmas.List.{drop_all, drop_more, length-replicate}
use Rattle.std.proofs.lemmas.List.Elements.{All-from_get_or, All-get_or}
use Rattle.std.proofs.lemmas.List.FromFn.{get_or-map-range_with_len, length-map-range_with_len}
use Rattle.ds_base.specs.Refusal.{RefusesAs}
use Rattle.ds_base.specs.declared.refusal.Refusal.{Refusal}
use Rattle.ds_base.specs.declared.refusal.Refusal.TheVariants.{Fault, Memory}
use Rattle.ds_lines.specs.First.{behind_line, refusal_on}
use Rattle.ds_lines.specs.Line.{Line, line_or_none}
use Rattle.ds_groups.specs.Laws.{HaveWords}
use Rattle.ds_groups.specs.Read.{after_lines, after_word, after_words, behind_word, holder, holders_after, means, all_registers, takes}
use Rattle.ds_groups.specs.Step.{IsHeld}
use Rattle.ds_groups.specs.declared.fault.GroupKind.{GroupKind}
use Rattle.ds_groups.specs.declared.fault.GroupKind.TheVariants.{RepeatedRegister, UnknownRegister}

choose : (a b : Bool) (one two : GroupKind) (given new : List ℕ)
    → (let r : Result (List ℕ) GroupKind = if a then Err one else if b then Err two else Ok given in r ≡ Ok new) → given ≡ new
choose true b one two given new e = absurd cc
choose false true one two given new e = absurd cc
choose false false one two given new e = cc

pub word_gives : (names : List (List ℕ)) (line : ℕ) (old new : List ℕ) (word : List ℕ) → after_word names line old word ≡ Ok new → holders_after names line old word ≡ new
word_gives names line old new word e = choose (not (list_any (means names word) (all_registers names))) (not (list_any (takes names old word) (all_registers names)))
    (UnknownRegister word) (RepeatedRegister word) (holders_after names line old word) new e

-- one each, and none of a later line
pub record AreHeld (names : List (List ℕ)) (line : ℕ) (holders : List ℕ) : Type 0 where
  pub size : length holders ≡ length names
  pub within : All (λ n. n ≤ line) holders

pub word_held : (names : List (List ℕ)) (line : ℕ) (old new : List ℕ) (word : List ℕ) → AreHeld names line old → after_word names line old word ≡ Ok new → AreHeld names line new
word_held names line old new word are e =
    let f : ℕ → ℕ = λ r. if takes names old word r then line else holder old r in
    subst (λ (h : List ℕ). AreHeld names line h) (word_gives names line old new word e) (record {
      size = length-map-range_with_len (λ r. if takes names old word r then line else holder old r) 0 (length names);
      within = All-from_get_or (λ n. n ≤ line) (holders_after names line old word) 0 (λ r low.
          let n : length (holders_after names line old word) ≡ length names = length-map-range_with_len (λ r. if takes names old word r then line else holder old r) 0 (length names) in
          let s : length old ≡ length names = are.size in
          let at : get_or (holders_after names line old word) r 0 ≡ (if takes names old word r then line else holder old r) =
          get_or-map-range_with_len (λ r. if takes names old word r then line else holder old r) 0 (length names) r r 0 (omega arith) (omega arith) in
          let before : holder old r ≤ line = All-get_or (λ n. n ≤ line) old r 0 (omega arith) are.within in
          subst (λ (n : ℕ). n ≤ line) (sym at) (elim (cases_Bool (takes names old word r)) [
            | inl so ↦ subst (λ (n : ℕ). n ≤ line) (sym (cond-true (takes names old word r) line (holder old r) so)) (omega arith)
            | inr not_so ↦ subst (λ (n : ℕ). n ≤ line) (sym (cond-false (takes names old word r) line (holder old r) not_so)) before
          ]));
    })

-- so many words are taken
pub record AreWordsTaken (names : List (List ℕ)) (line : ℕ) (old : List ℕ) (words : List (List ℕ)) (i : ℕ) (mid : List ℕ) : Type 0 where
  pub held : AreHeld names line mid
  pub rest : after_words names line old words ≡ after_words names line mid (drop i words)

module _ (names : List (List ℕ)) (line : ℕ) (old : List ℕ) (words : List (List ℕ)) where
  pub words_none : AreHeld names line old → AreWordsTaken names line old words 0 old
  words_none are = record { held = are; rest = refl }

  from_word : (i : ℕ) (mid : List ℕ) → i < length words → after_words names line mid (drop i words)
      ≡ behind_word (after_word names line mid (get_or words i [])) (λ next. after_words names line next (drop (i + 1) words))
  from_word i mid inside = ap (λ (ws : List (List ℕ)). after_words names line mid ws) (drop_more words i [] inside)

  pub words_more : (i : ℕ) (mid new word : List ℕ) → i < length words → word ≡ get_or words i [] → after_word names line mid word ≡ Ok new
      → AreWordsTaken names line old words i mid → AreWordsTaken names line old words (i + 1) new
  words_more i mid new word inside is e before = record {
    held = word_held names line mid new word before.held e;
    rest = before.rest ∙ from_word i mid inside
        ∙ ap (λ (r : Result (List ℕ) GroupKind). behind_word r (λ next. after_words names line next (drop (i + 1) words)))
        (ap (λ (w : List ℕ). after_word names line mid w) (sym is) ∙ e);
  }

  pub words_refused : (i : ℕ) (mid new word : List ℕ) (why : Refusal GroupKind) → i < length words → word ≡ get_or words i []
      → IsHeld (after_word names line mid word) new (Err why) → AreWordsTaken names line old words i mid
      → IsHeld (after_words names line old words) new (Err why)
  words_refused i mid new word Memory inside is e before = tt
  words_refused i mid new word (Fault kind) inside is e before = before.rest ∙ from_word i mid inside
      ∙ ap (λ (r : Result (List ℕ) GroupKind). behind_word r (λ next. after_words names line next (drop (i + 1) words)))
      (ap (λ (w : List ℕ). after_word names line mid w) (sym is) ∙ e)

  pub words_all : (i : ℕ) (mid : List ℕ) → length words ≤ i → AreWordsTaken names line old words i mid → after_words names line old words ≡ Ok mid
  words_all i mid past are = are.rest ∙ ap (λ (ws : List (List ℕ)). after_words names line mid ws) (drop_all i words past)

-- so many lines are taken
pub record AreLinesTaken (names : List (List ℕ)) (old : List ℕ) (lines : List Line) (i : ℕ) (mid : List ℕ) : Type 0 where
  pub held : AreHeld names i mid
  pub words : (k : ℕ) → k < i → 0 < length (line_or_none lines k).words
  pub rest : after_lines names 1 old lines ≡ after_lines names (i + 1) mid (drop i lines)

zeros : (n r : ℕ) → get_or (replicate n 0) r 0 ≤ 0
zeros zero r = omega arith
zeros (suc n) zero = omega arith
zeros (suc n) (suc r) = zeros n r

pub held_more : (names : List (List ℕ)) (line : ℕ) (holders : List ℕ) → AreHeld names line holders → AreHeld names (line + 1) holders
held_more names line holders are = record {
  size = are.size;
  within = All-from_get_or (λ n. n ≤ line + 1) holders 0 (λ r low. let h : get_or holders r 0 ≤ line = All-get_or (λ n. n ≤ line) holders r 0 low are.within in omega arith);
}

module _ (names : List (List ℕ)) (old : List ℕ) (lines : List Line) where
  pub lines_none : (n : ℕ) → length names ≡ n → old ≡ replicate n 0 → AreLinesTaken names old lines 0 old
  lines_none n size is = record {
    held = record {
      size = ap length is ∙ (length-replicate n 0 ∙ sym size);
      within = subst (λ (h : List ℕ). All (λ k. k ≤ 0) h) (sym is) (All-from_get_or (λ k. k ≤ 0) (replicate n 0) 0 (λ r low. zeros n r));
    };
    words = λ k low. absurd (omega arith);
    rest = refl;
  }

  from_line : (i : ℕ) (mid : List ℕ) → i < length lines → after_lines names (i + 1) mid (drop i lines)
      ≡ behind_line (line_or_none lines i).number (after_words names (i + 1) mid (line_or_none lines i).words) (λ next. after_lines names (i + 1 + 1) next (drop (i + 1) lines))
  from_line i mid inside = ap (λ (ls : List Line). after_lines names (i + 1) mid ls) (drop_more lines i (line_or_none [] 0) inside)

  pub lines_more : (i : ℕ) (mid new : List ℕ) (words : List (List ℕ)) → i < length lines → words ≡ (line_or_none lines i).words
      → 0 < length words → after_words names (i + 1) mid words ≡ Ok new → AreHeld names (i + 1) new
      → AreLinesTaken names old lines i mid → AreLinesTaken names old lines (i + 1) new
  lines_more i mid new words inside is some e held before = record {
    held = held;
    words = λ k low. elim (cases_lt k i) [
      | inl less ↦ before.words k less
      | inr last ↦ (let same : k ≡ i = omega arith in
          subst (λ (j : ℕ). 0 < length (line_or_none lines j).words) (sym same) (subst (λ (ws : List (List ℕ)). 0 < length ws) is some))
    ];
    rest = before.rest ∙ from_line i mid inside
        ∙ ap (λ (r : Result (List ℕ) GroupKind). behind_line (line_or_none lines i).number r (λ next. after_lines names (i + 1 + 1) next (drop (i + 1) lines)))
        (ap (λ (ws : List (List ℕ)). after_words names (i + 1) mid ws) (sym is) ∙ e);
  }

  pub lines_refused : (i : ℕ) (mid new : List ℕ) (words : List (List ℕ)) (why : Refusal GroupKind) (number : ℕ) → i < length lines → words ≡ (line_or_none lines i).words
      → number ≡ (line_or_none lines i).number → IsHeld (after_words names (i + 1) mid words) new (Err why) → AreLinesTaken names old lines i mid
      → RefusesAs (refusal_on number why) (after_lines names 1 old lines)
  lines_refused i mid new words Memory number inside is at e before = tt
  lines_refused i mid new words (Fault kind) number inside is at e before = before.rest ∙ from_line i mid inside
      ∙ ap (λ (r : Result (List ℕ) GroupKind). behind_line (line_or_none lines i).number r (λ next. after_lines names (i + 1 + 1) next (drop (i + 1) lines)))
      (ap (λ (ws : List (List ℕ)). after_words names (i + 1) mid ws) (sym is) ∙ e)
      ∙ ap (λ (n : ℕ). Err (record { line = n; kind = kind })) (sym at)

  pub lines_all : (i : ℕ) (mid : List ℕ) → length lines ≤ i → AreLinesTaken names old lines i mid → after_lines names 1 old lines ≡ Ok mid
  lines_all i mid past are = are.rest ∙ ap (λ (ls : List Line). after_lines names (i + 1) mid ls) (drop_all i lines past)

  pub lines_have_words : (i : ℕ) (mid : List ℕ) → length lines ≤ i → AreLinesTaken names old lines i mid → HaveWords lines
  lines_have_words i mid past are = All-from_get_or (λ (line : Line). 0 < length line.words) lines (line_or_none [] 0) (λ k low. are.words k (omega arith))
