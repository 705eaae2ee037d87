-- Groups are disjoint, and none is empty.
use Rattle.std.proofs.Common.{◌≡◌, ◌⊎◌, ◌∙◌, inl, inr, ℕ, zero, suc, ◌+◌, ◌<◌, Bool, true, false, not, ◌==◌, if◌then◌else◌, List, [], ◌∷◌, length, get_or, refl, sym, ap, subst, arith, Result, Ok, Err}
use Rattle.std.specs.Prelude.{All, AllPairs, Contains}
use Rattle.std.specs.List.{filter, list_any}
use Rattle.std.proofs.lemmas.Bool.{cases_Bool, cases_lt, eqb-true, eq-eqb, false≢true, and_parts, cond-true, cond-false}
use Rattle.std.proofs.lemmas.List.{get_or_past, length-map}
use Rattle.std.proofs.lemmas.List.Elements.{All-contains, All-filter, All-from_get_or, All-head, All-tail, filter_passes}
use Rattle.std.proofs.lemmas.List.FromFn.{get_or-map-range_with_len, get_or-range_with_len, length-map-range_with_len, length-range_with_len}
use Rattle.std.proofs.lemmas.List.Kept.{AllPairs-filter}
use Rattle.ds_base.proofs.ListLemmas.{Contains-head, Contains-split, Contains-tail}
use Rattle.ds_design.specs.Circuit.{Circuit, register_nets}
use Rattle.ds_design.specs.declared.design.Register.{Register}
use Rattle.ds_design.specs.Groups.{AreDisjoint, group_at}
use Rattle.ds_lines.specs.First.{behind_line}
use Rattle.ds_lines.specs.Line.{Line}
use Rattle.ds_lines.specs.declared.at.At.{At}
use Rattle.ds_groups.specs.Laws.{GroupsAreDisjoint, HaveWords}
use Rattle.ds_rows.specs.Nets.{net_text}
use Rattle.ds_groups.specs.Names.{driven_nets, register_names, net_at}
use Rattle.ds_groups.specs.Read.{after_lines, after_word, after_words, behind_word, line_group, groups_by, groups_of, holder, holders_after, is_free, means, none_taken, all_registers, takes}
use Rattle.ds_groups.specs.declared.fault.GroupKind.{GroupKind}
use Rattle.ds_groups.specs.declared.fault.GroupKind.TheVariants.{RepeatedRegister, UnknownRegister}
use Rattle.ds_groups.proofs.GroupsSoFar.{word_gives}
use Rattle.ds_groups.proofs.Takings.{some_find}

-- what two steps gave, one behind the other
pub behind_ok : {A B K : Type 0} (first : Result A K) (rest : A → Result B K) (new : B)
    → behind_word first rest ≡ Ok new → (mid : A) × (first ≡ Ok mid) × (rest mid ≡ Ok new)
behind_ok (Ok mid) rest new e = (mid, refl, e)
behind_ok (Err kind) rest new e = absurd cc

pub line_ok : {A B K : Type 0} (number : ℕ) (first : Result A K) (rest : A → Result B (At K)) (new : B)
    → behind_line number first rest ≡ Ok new → (mid : A) × (first ≡ Ok mid) × (rest mid ≡ Ok new)
line_ok number (Ok mid) rest new e = (mid, refl, e)
line_ok number (Err kind) rest new e = absurd cc

tested : (a b : Bool) (one two : GroupKind) (given new : List ℕ)
    → (let r : Result (List ℕ) GroupKind = if not a then Err one else if not b then Err two else Ok given in r ≡ Ok new) → b ≡ true
tested false b one two given new e = absurd cc
tested true false one two given new e = absurd cc
tested true true one two given new e = refl

-- a word that is no fault takes a register
takes_some : (names : List (List ℕ)) (line : ℕ) (old new : List ℕ) (word : List ℕ) → after_word names line old word ≡ Ok new
    → list_any (takes names old word) (all_registers names) ≡ true
takes_some names line old new word e = tested (list_any (means names word) (all_registers names)) (list_any (takes names old word) (all_registers names))
    (UnknownRegister word) (RepeatedRegister word) (holders_after names line old word) new e

module _ (names : List (List ℕ)) (line : ℕ) (old new word : List ℕ) (e : after_word names line old word ≡ Ok new) where
  held_at : (r : ℕ) → r < length names → holder new r ≡ (if takes names old word r then line else holder old r)
  held_at r low = ap (λ (h : List ℕ). holder h r) (sym (word_gives names line old new word e))
      ∙ get_or-map-range_with_len (λ r. if takes names old word r then line else holder old r) 0 (length names) r r 0 low (omega arith)

  pub word_takes : (r : ℕ) × (r < length names) × (holder new r ≡ line)
  word_takes =
      let (r, low, is) = some_find (length names) (takes names old word) (takes_some names line old new word e) in
      (r, low, held_at r low ∙ cond-true (takes names old word r) line (holder old r) is)

  pub word_keeps : (r place : ℕ) → r < length names → 0 < place → holder old r ≡ place → holder new r ≡ place
  word_keeps r place low some held = elim (cases_Bool (takes names old word r)) [
    | inl is ↦ absurd (
        let (free, meant) = and_parts (is_free old r) (means names word r) is in
        let zero_held : holder old r ≡ 0 = eqb-true (holder old r) 0 free in omega arith)
    | inr not_taken ↦ held_at r low ∙ cond-false (takes names old word r) line (holder old r) not_taken ∙ held
  ]

words_keep : (names : List (List ℕ)) (line : ℕ) (old new : List ℕ) (words : List (List ℕ)) → after_words names line old words ≡ Ok new
    → (r place : ℕ) → r < length names → 0 < place → holder old r ≡ place → holder new r ≡ place
words_keep names line old new [] e r place low some held = ap (λ (h : List ℕ). holder h r) (same old new e) ∙ held
  where
    same : (a b : List ℕ) → (let x : Result (List ℕ) GroupKind = Ok a in x ≡ Ok b) → b ≡ a
    same a b e = cc
words_keep names line old new (word ∷ words) e r place low some held =
    let (mid, one, rest) = behind_ok (after_word names line old word) (λ next. after_words names line next words) new e in
    words_keep names line mid new words rest r place low some (word_keeps names line old mid word one r place low some held)

-- a line that is no fault takes a register
words_take : (names : List (List ℕ)) (line : ℕ) (old new : List ℕ) (words : List (List ℕ)) → 0 < line → 0 < length words
    → after_words names line old words ≡ Ok new → (r : ℕ) × (r < length names) × (holder new r ≡ line)
words_take names line old new [] some there e = absurd (omega arith)
words_take names line old new (word ∷ words) some there e =
    let (mid, one, rest) = behind_ok (after_word names line old word) (λ next. after_words names line next words) new e in
    let (r, low, held) = word_takes names line old mid word one in
    (r, low, words_keep names line mid new words rest r line low some held)

same_lists : (a b : List ℕ) → (let x : Result (List ℕ) (At GroupKind) = Ok a in x ≡ Ok b) → b ≡ a
same_lists a b e = cc

lines_keep : (names : List (List ℕ)) (place : ℕ) (old new : List ℕ) (lines : List Line) → after_lines names place old lines ≡ Ok new
    → (r at : ℕ) → r < length names → 0 < at → holder old r ≡ at → holder new r ≡ at
lines_keep names place old new [] e r at low some held = ap (λ (h : List ℕ). holder h r) (same_lists old new e) ∙ held
lines_keep names place old new (line ∷ lines) e r at low some held =
    let (mid, one, rest) = line_ok line.number (after_words names place old line.words) (λ next. after_lines names (place + 1) next lines) new e in
    lines_keep names (place + 1) mid new lines rest r at low some (words_keep names place old mid line.words one r at low some held)

-- each line has a register in the end
lines_take : (names : List (List ℕ)) (place : ℕ) (old new : List ℕ) (lines : List Line) → 0 < place → All (λ line. 0 < length line.words) lines
    → after_lines names place old lines ≡ Ok new → (i : ℕ) → i < length lines → (r : ℕ) × (r < length names) × (holder new r ≡ place + i)
lines_take names place old new [] some words e i inside = absurd (omega arith)
lines_take names place old new (line ∷ lines) some words e zero inside =
    let (mid, one, rest) = line_ok line.number (after_words names place old line.words) (λ next. after_lines names (place + 1) next lines) new e in
    let (r, low, held) = words_take names place old mid line.words some (All-head (λ line. 0 < length line.words) line lines words) one in
    (r, low, lines_keep names (place + 1) mid new lines rest r (place + 0) low (omega arith) (held ∙ (let e : place ≡ place + 0 = omega arith in e)))
lines_take names place old new (line ∷ lines) some words e (suc i) inside =
    let (mid, one, rest) = line_ok line.number (after_words names place old line.words) (λ next. after_lines names (place + 1) next lines) new e in
    let (r, low, held) = lines_take names (place + 1) mid new lines (omega arith) (All-tail (λ line. 0 < length line.words) line lines words) rest i (omega arith) in
    (r, low, held ∙ (let e : place + 1 + i ≡ place + suc i = omega arith in e))

-- what passes a test stands where the others are left out
pub Contains-filter : (p : ℕ → Bool) (xs : List ℕ) (x : ℕ) → Contains xs x → p x ≡ true → Contains (filter p xs) x
Contains-filter p [] x (k, inside, is) passes = absurd (let h : k < 0 = inside in omega arith)
Contains-filter p (y ∷ xs) x is passes = elim (cases_Bool (p y)) [
  | inl kept ↦ subst (λ (zs : List ℕ). Contains zs x) (sym (cond-true (p y) (y ∷ filter p xs) (filter p xs) kept)) (elim (Contains-split y xs x is) [
    | inl here ↦ subst (λ (z : ℕ). Contains (y ∷ filter p xs) z) here (Contains-head y (filter p xs))
    | inr there ↦ Contains-tail y (filter p xs) x (Contains-filter p xs x there passes)
  ])
  | inr left_out ↦ subst (λ (zs : List ℕ). Contains zs x) (sym (cond-false (p y) (y ∷ filter p xs) (filter p xs) left_out)) (elim (Contains-split y xs x is) [
    | inl here ↦ absurd (false≢true (sym left_out ∙ ap p here ∙ passes))
    | inr there ↦ Contains-filter p xs x there passes
  ])
]

module _ (names : List (List ℕ)) (holders : List ℕ) (place : ℕ) where
  -- a line has exactly the registers that it holds
  pub in_group : (r : ℕ) → Contains (line_group names holders place) r → (r < length names) × (holder holders r ≡ place)
  in_group r is = (
    All-contains (λ r. r < length names) (line_group names holders place) r
        (All-filter (λ r. holder holders r == place) (λ r. r < length names) (all_registers names) (All-from_get_or (λ r. r < length names) (all_registers names) 0 (λ i low.
        let n : length (all_registers names) ≡ length names = length-range_with_len 0 (length names) in
        let at : get_or (all_registers names) i 0 ≡ 0 + i = get_or-range_with_len 0 (length names) i 0 (omega arith) in omega arith))) is,
    eqb-true (holder holders r) place
        (All-contains (λ r. (holder holders r == place) ≡ true) (line_group names holders place) r (filter_passes (λ r. holder holders r == place) (all_registers names)) is),
  )

  pub to_group : (r : ℕ) → r < length names → holder holders r ≡ place → Contains (line_group names holders place) r
  to_group r low held = Contains-filter (λ r. holder holders r == place) (all_registers names) r (
    r,
    (let n : length (all_registers names) ≡ length names = length-range_with_len 0 (length names) in omega arith),
    get_or-range_with_len 0 (length names) r r low ∙ (let e : 0 + r ≡ r = omega arith in e),
  )
      (eq-eqb (holder holders r) place held)

  pub group_rises : AllPairs (λ a b. a < b) (line_group names holders place)
  group_rises = AllPairs-filter (λ a b. a < b) (λ r. holder holders r == place) (all_registers names) (λ i j d below inside.
      let n : length (all_registers names) ≡ length names = length-range_with_len 0 (length names) in
      let e : get_or (all_registers names) i d ≡ 0 + i = get_or-range_with_len 0 (length names) i d (omega arith) in
      let f : get_or (all_registers names) j d ≡ 0 + j = get_or-range_with_len 0 (length names) j d (omega arith) in omega arith)

module _ (names : List (List ℕ)) (holders : List ℕ) (count : ℕ) where
  pub group_here : (i : ℕ) → i < count → group_at (groups_by names count holders) i ≡ line_group names holders (1 + i)
  group_here i low = get_or-map-range_with_len (line_group names holders) 1 count i (1 + i) [] low refl

  pub groups_size : length (groups_by names count holders) ≡ count
  groups_size = length-map-range_with_len (line_group names holders) 1 count

  group_or_none : (i : ℕ) → (group_at (groups_by names count holders) i ≡ line_group names holders (1 + i)) ⊎ (group_at (groups_by names count holders) i ≡ [])
  group_or_none i = elim (cases_lt i count) [
    | inl low ↦ inl (group_here i low)
    | inr high ↦ inr (get_or_past (groups_by names count holders) i [] (let n = groups_size in omega (arith, n)))
  ]

  member : (i r : ℕ) → Contains (group_at (groups_by names count holders) i) r → (r < length names) × (holder holders r ≡ 1 + i)
  member i r is = elim (group_or_none i) [
    | inl here ↦ in_group names holders (1 + i) r (subst (λ (g : List ℕ). Contains g r) here is)
    | inr none ↦ (let (k, inside, at) = subst (λ (g : List ℕ). Contains g r) none is in absurd (let h : k < 0 = inside in omega arith))
  ]

  rises : (i : ℕ) → AllPairs (λ a b. a < b) (group_at (groups_by names count holders) i)
  rises i = elim (group_or_none i) [
    | inl here ↦ subst (λ (g : List ℕ). AllPairs (λ a b. a < b) g) (sym here) (group_rises names holders (1 + i))
    | inr none ↦ subst (λ (g : List ℕ). AllPairs (λ a b. a < b) g) (sym none) (λ j k d below inside. absurd (omega arith))
  ]

  pub disjoint_by : ((i : ℕ) → i < count → (r : ℕ) × (r < length names) × (holder holders r ≡ 1 + i)) → AreDisjoint (length names) (groups_by names count holders)
  disjoint_by each = record {
    within = λ i r is. (member i r is).0;
    some = λ i low. (
        let n : length (groups_by names count holders) ≡ count = groups_size in
        let (r, inside, held) = each i (omega arith) in
        let (k, there, at) = to_group names holders (1 + i) r inside held in
        let here = ap length (group_here i (omega arith)) in omega (arith, here));
    rising = rises;
    once = λ i j r one other.
        let e = (member i r one).1 in
        let f = (member j r other).1 in omega (arith, e, f);
  }

pub groups_disjoint : GroupsAreDisjoint
groups_disjoint names lines groups words e =
    let (holders, taken, rest) = behind_ok (after_lines names 1 (none_taken names) lines) (λ hs. Ok (groups_by names (length lines) hs)) groups e in
    let is : groups_by names (length lines) holders ≡ groups = same_groups (groups_by names (length lines) holders) groups rest in (
      subst (λ (gs : List (List ℕ)). AreDisjoint (length names) gs) is
          (disjoint_by names holders (length lines) (lines_take names 1 (none_taken names) holders lines (omega arith) words taken)),
      ap length (sym is) ∙ groups_size names holders (length lines),
    )
  where
    same_groups : (a b : List (List ℕ)) → (let x : Result (List (List ℕ)) (At GroupKind) = Ok a in x ≡ Ok b) → a ≡ b
    same_groups a b e = cc

-- there are as many names as registers
pub names_size : (c : Circuit) → length (register_names c) ≡ length c.registers
names_size c = length-map (driven_nets c) net_text
    ∙ length-map (register_nets c) (net_at c)
    ∙ length-map c.registers (λ (r : Register). r.output)

pub disjoint_of : (c : Circuit) (lines : List Line) (groups : List (List ℕ)) → HaveWords lines → groups_of (register_names c) lines ≡ Ok groups
    → AreDisjoint (length c.registers) groups
disjoint_of c lines groups words e =
    subst (λ (n : ℕ). AreDisjoint n groups) (names_size c) (groups_disjoint (register_names c) lines groups words e).0
