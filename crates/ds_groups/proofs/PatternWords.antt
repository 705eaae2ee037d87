-- What one word takes.
use Rattle.std.proofs.Common.{◌≡◌, ◌∙◌, inl, inr, ℕ, ◌<◌, Bool, true, false, ◌&&◌, if◌then◌else◌, List, [], length, map, refl, sym, ap, subst, arith, Result, Ok, Err}
use Rattle.std.specs.Str.{bytes_eq}
use Rattle.std.proofs.lemmas.Bool.{cases_Bool, cases_lt, false≢true, and_parts, cond-false, false_from_ne_true}
use Rattle.std.proofs.lemmas.List.{get_or_past, get_or-map, length-map}
use Rattle.std.proofs.lemmas.List.FromFn.{get_or-map-range_with_len, length-map-range_with_len}
use Rattle.std.proofs.lemmas.List.Folds.{Any-from_list_any, list_any_at}
use Rattle.ds_base.proofs.ListLemmas.{lists_same, get_or-default}
use Rattle.ds_base.specs.declared.refusal.Refusal.{Refusal}
use Rattle.ds_base.specs.declared.refusal.Refusal.TheVariants.{Fault, Memory}
use Rattle.ds_design.specs.declared.design.Net.{Net}
use Rattle.ds_lines.specs.Names.{has_name}
use Rattle.ds_rows.specs.Nets.{net_text}
use Rattle.ds_groups.specs.Latest.{missing_net, driven_net}
use Rattle.ds_groups.specs.Match.{has_form}
use Rattle.ds_groups.specs.Read.{after_word, holder, holders_after, is_free, means, register_name, takes}
use Rattle.ds_groups.specs.Step.{IsHeld, IsWordTold, kind_of_word}
use Rattle.ds_groups.specs.Taking.{some_of, TakesAll, TakesFree}
use Rattle.ds_groups.specs.declared.fault.GroupKind.{GroupKind}
use Rattle.ds_groups.specs.declared.fault.GroupKind.TheVariants.{RepeatedRegister, UnknownRegister}
use Rattle.ds_groups.specs.declared.taking.Taking.{Taking}
use Rattle.ds_groups.proofs.Matching.{bool_same}
use Rattle.ds_groups.proofs.Takings.{some_cong, some_find, some_true, take_same}

-- the answers by the tests
pub word_ok : (names : List (List ℕ)) (line : ℕ) (old : List ℕ) (word : List ℕ)
    → some_of (length names) (means names word) ≡ true → some_of (length names) (takes names old word) ≡ true
    → after_word names line old word ≡ Ok (holders_after names line old word)
word_ok names line old word known took = rw (known, took) refl

pub word_again : (names : List (List ℕ)) (line : ℕ) (old : List ℕ) (word : List ℕ)
    → some_of (length names) (means names word) ≡ true → some_of (length names) (takes names old word) ≡ false
    → after_word names line old word ≡ Err (RepeatedRegister word)
word_again names line old word known took = rw (known, took) refl

pub word_unknown : (names : List (List ℕ)) (line : ℕ) (old : List ℕ) (word : List ℕ)
    → some_of (length names) (means names word) ≡ false → after_word names line old word ≡ Err (UnknownRegister word)
word_unknown names line old word known = rw known refl

-- who holds what, as a list
pub held_same : (names : List (List ℕ)) (line : ℕ) (old new : List ℕ) (word : List ℕ) (told : Bool) → length old ≡ length names
    → TakesFree (means names word) line old new told → holders_after names line old word ≡ new
held_same names line old new word told size takes_it =
    let n : length (holders_after names line old word) ≡ length names =
    length-map-range_with_len (λ r. if takes names old word r then line else holder old r) 0 (length names) in
    let m : length new ≡ length old = takes_it.one_each in
    lists_same (holders_after names line old word) new 0 (omega arith) (λ r. elim (cases_lt r (length names)) [
      | inl low ↦ get_or-map-range_with_len (λ r. if takes names old word r then line else holder old r) 0 (length names) r r 0 low (omega arith)
          ∙ sym (takes_it.each r (omega arith))
      | inr high ↦ get_or_past (holders_after names line old word) r 0 (omega arith) ∙ sym (get_or_past new r 0 (omega arith))
    ])

-- the answer for a word
pub word_told : (names : List (List ℕ)) (line : ℕ) (old new : List ℕ) (word : List ℕ) (told : Taking) (result : Result (Unit {0}) (Refusal GroupKind))
    → length old ≡ length names → TakesAll (means names word) line old new told → IsWordTold word told result
    → IsHeld (after_word names line old word) new result
word_told names line old new word told (Ok done) size (takes_it, known) took =
    let some : some_of (length names) (takes names old word) ≡ true =
    ap (λ (n : ℕ). some_of n (takes names old word)) (sym size) ∙ (sym takes_it.took ∙ took) in
    let (r, low, at) = some_find (length names) (takes names old word) some in
    word_ok names line old word (some_true (length names) (means names word) r low (and_parts (is_free old r) (means names word r) at).1) some
    ∙ ap (λ (h : List ℕ). Ok h) (held_same names line old new word told.took size takes_it)
word_told names line old new word told (Err Memory) size takes_it is = tt
word_told names line old new word told (Err (Fault kind)) size (takes_it, known) (took, kind_is) =
    let none : some_of (length names) (takes names old word) ≡ false =
    ap (λ (n : ℕ). some_of n (takes names old word)) (sym size) ∙ (sym takes_it.took ∙ took) in
    elim (cases_Bool told.known) [
      | inl there ↦ word_again names line old word (ap (λ (n : ℕ). some_of n (means names word)) (sym size) ∙ (sym known ∙ there)) none
          ∙ ap (λ (k : GroupKind). Err k) (sym (kind_is ∙ ap (λ (b : Bool). kind_of_word b word) there))
      | inr missing ↦ word_unknown names line old word (ap (λ (n : ℕ). some_of n (means names word)) (sym size) ∙ (sym known ∙ missing))
          ∙ ap (λ (k : GroupKind). Err k) (sym (kind_is ∙ ap (λ (b : Bool). kind_of_word b word) missing))
    ]

-- a name that is there
pub name_some : (names : List (List ℕ)) (word : List ℕ) → some_of (length names) (λ r. bytes_eq word (register_name names r)) ≡ has_name names word
name_some names word = bool_same (some_of (length names) (λ r. bytes_eq word (register_name names r))) (has_name names word)
    (λ is. let (r, low, at) = some_find (length names) (λ r. bytes_eq word (register_name names r)) is in
    list_any_at (bytes_eq word) names r [] low at)
    (λ is. let (k, x, inside, at, there) = Any-from_list_any (bytes_eq word) names is in
    some_true (length names) (λ r. bytes_eq word (register_name names r)) k inside
    (ap (λ (t : List ℕ). bytes_eq word t) (get_or-default names k [] x inside ∙ at) ∙ there))

means_name : (names : List (List ℕ)) (word : List ℕ) (r : ℕ) → has_name names word ≡ true → means names word r ≡ bytes_eq word (register_name names r)
means_name names word r is = rw is refl

means_match : (names : List (List ℕ)) (word : List ℕ) (r : ℕ) → has_name names word ≡ false → means names word r ≡ has_form word (register_name names r)
means_match names word r is = rw is refl

pub name_of : (nets : List Net) (r : ℕ) → r < length nets → register_name (map net_text nets) r ≡ net_text (driven_net nets r)
name_of nets r low = get_or-map net_text nets r missing_net [] low

-- a word that is a name
pub by_name : (nets : List Net) (line : ℕ) (old new : List ℕ) (word : List ℕ) (told : Taking) → length old ≡ length nets → told.known ≡ true
    → TakesAll (λ r. bytes_eq word (register_name (map net_text nets) r)) line old new told → TakesAll (means (map net_text nets) word) line old new told
by_name nets line old new word told size known takes_it =
    let n : length (map net_text nets) ≡ length nets = length-map nets net_text in
    let has : has_name (map net_text nets) word ≡ true = sym (name_some (map net_text nets) word)
    ∙ (ap (λ (k : ℕ). some_of k (λ r. bytes_eq word (register_name (map net_text nets) r))) (n ∙ sym size) ∙ (sym takes_it.1 ∙ known)) in (
      take_same (λ r. bytes_eq word (register_name (map net_text nets) r)) (means (map net_text nets) word) line old new told.took
          (λ r low. sym (means_name (map net_text nets) word r has)) takes_it.0,
      known ∙ sym (ap (λ (k : ℕ). some_of k (means (map net_text nets) word)) (size ∙ sym n)
          ∙ (let (r, low, at) = some_find (length (map net_text nets)) (λ r. bytes_eq word (register_name (map net_text nets) r)) (name_some (map net_text nets) word ∙ has) in
          some_true (length (map net_text nets)) (means (map net_text nets) word) r low (means_name (map net_text nets) word r has ∙ at))),
    )

-- a word that is none leaves all as it was
pub name_missing : (nets : List Net) (line : ℕ) (old mid : List ℕ) (word : List ℕ) (told : Taking) → length old ≡ length nets → told.known ≡ false
    → TakesAll (λ r. bytes_eq word (register_name (map net_text nets) r)) line old mid told → (mid ≡ old) × (has_name (map net_text nets) word ≡ false)
name_missing nets line old mid word told size known takes_it =
    let n : length (map net_text nets) ≡ length nets = length-map nets net_text in
    let none : some_of (length old) (λ r. bytes_eq word (register_name (map net_text nets) r)) ≡ false = sym takes_it.1 ∙ known in
    let m : length mid ≡ length old = takes_it.0.one_each in (
      lists_same mid old 0 m (λ r. elim (cases_lt r (length old)) [
        | inl low ↦ takes_it.0.each r low
            ∙ cond-false (is_free old r && bytes_eq word (register_name (map net_text nets) r)) line (holder old r)
            (false_from_ne_true (is_free old r && bytes_eq word (register_name (map net_text nets) r))
            (λ e. false≢true (sym none ∙ some_true (length old) (λ r. bytes_eq word (register_name (map net_text nets) r)) r low (and_parts (is_free old r) (bytes_eq word (register_name (map net_text nets) r)) e).1)))
        | inr high ↦ get_or_past mid r 0 (omega arith) ∙ sym (get_or_past old r 0 high)
      ]),
      sym (name_some (map net_text nets) word) ∙ (ap (λ (k : ℕ). some_of k (λ r. bytes_eq word (register_name (map net_text nets) r))) (n ∙ sym size) ∙ none),
    )

-- a word that is none, as a pattern
pub by_match : (nets : List Net) (line : ℕ) (old mid new : List ℕ) (word : List ℕ) (named told : Taking) → length old ≡ length nets → named.known ≡ false
    → TakesAll (λ r. bytes_eq word (register_name (map net_text nets) r)) line old mid named
    → TakesAll (λ r. has_form word (net_text (driven_net nets r))) line mid new told → TakesAll (means (map net_text nets) word) line old new told
by_match nets line old mid new word named told size known first second =
    let (stays, has) = name_missing nets line old mid word named size known first in
    let same : (r : ℕ) → r < length old → has_form word (net_text (driven_net nets r)) ≡ means (map net_text nets) word r =
    λ r low. ap (λ (t : List ℕ). has_form word t) (sym (name_of nets r (omega arith))) ∙ sym (means_match (map net_text nets) word r has) in
    let again : TakesAll (λ r. has_form word (net_text (driven_net nets r))) line old new told = subst (λ (h : List ℕ). TakesAll (λ r. has_form word (net_text (driven_net nets r))) line h new told) stays second in (
      take_same (λ r. has_form word (net_text (driven_net nets r))) (means (map net_text nets) word) line old new told.took same again.0,
      again.1 ∙ some_same (length old) (λ r. has_form word (net_text (driven_net nets r))) (means (map net_text nets) word) same,
    )
  where
    some_same : (n : ℕ) (p q : ℕ → Bool) → ((r : ℕ) → r < n → p r ≡ q r) → some_of n p ≡ some_of n q
    some_same n p q same = bool_same (some_of n p) (some_of n q)
        (λ is. let (r, low, at) = some_find n p is in some_true n q r low (sym (same r low) ∙ at))
        (λ is. let (r, low, at) = some_find n q is in some_true n p r low (same r low ∙ at))

-- by a test that says the same
pub takes_as : (test other : ℕ → Bool) (line : ℕ) (old new : List ℕ) (told : Taking) → ((r : ℕ) → r < length old → test r ≡ other r)
    → TakesAll test line old new told → TakesAll other line old new told
takes_as test other line old new told same (takes_it, known) = (
  take_same test other line old new told.took same takes_it,
  known ∙ some_cong (length old) test other same,
)
