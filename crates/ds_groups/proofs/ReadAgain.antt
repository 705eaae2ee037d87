-- The text that shows clusters is read as groups that are these clusters.
use Rattle.std.proofs.Common.{◌≡◌, ◌≢◌, ◌∙◌, inl, inr, ℕ, zero, suc, ◌+◌, ◌-◌, ◌<◌, ◌≤◌, ◌^◌, true, false, replicate, List, [], ◌∷◌, ◌++◌, length, get_or, take, drop, map, refl, sym, ap, subst, arith, Result, Ok, append_assoc, length-append}
use Rattle.std.specs.Prelude.{AllPairs, Contains, codes, decimal, if◌then◌else◌}
use Rattle.std.specs.List.{AllByRecursion, list_any, position_or_len, slice_split, suffix_len}
use Rattle.std.specs.Str.{bytes_eq}
use Rattle.std.proofs.Math.Seq.{drop-append_seam, get_or-append_seam, take-append_seam, take-length}
use Rattle.std.proofs.lemmas.Bool.{cases_eq, cases_lt, and_from, and_parts, cond-true, cond-false, eq-eqb, false_from_ne_true}
use Rattle.std.proofs.lemmas.List.{get_or_default, get_or_past, length-map}
use Rattle.std.proofs.lemmas.List.Folds.{list_any_at}
use Rattle.std.proofs.lemmas.List.FromFn.{get_or-map-range_with_len}
use Rattle.std.proofs.lemmas.List.Sums.{suffix_len_is, suffix_len-take_yes}
use Rattle.std.proofs.lemmas.Slice.Eq.{bytes_eq-Decides}
use Rattle.ds_base.proofs.ListLemmas.{Contains-head, Contains-split, Contains-tail, cases_Contains, lists_same}
use Rattle.ds_base.proofs.AppendedPairs.{get_or-left}
use Rattle.ds_base.proofs.RisingNumbers.{rising_same}
use Rattle.ds_design.specs.Groups.{group_at}
use Rattle.ds_lines.specs.First.{behind_line}
use Rattle.ds_lines.specs.Line.{Line, is_backslash, is_end, is_hash, is_joined, is_newline, joins, kept_len, lines_from, trimmed, uncommented, words_in, words_of}
use Rattle.ds_lines.specs.Names.{has_name}
use Rattle.ds_lines.specs.Print.{HasNo, IsPlain, line_text, numbered_lines}
use Rattle.ds_lines.specs.declared.at.At.{At}
use Rattle.ds_lines.proofs.JoinedLines.{split-append}
use Rattle.ds_lines.proofs.ByteClasses.{lacks_both, lacks_parts, number_without}
use Rattle.ds_lines.proofs.PrintedLines.{hash_line_text, line_first, newline_line_text, split_plain, words_of-line_text}
use Rattle.ds_groups.specs.Laws.{AreAll, ClustersAreRead}
use Rattle.ds_groups.specs.Match.{has_form}
use Rattle.ds_groups.specs.Read.{after_lines, after_word, after_words, behind_word, line_group, groups_by, groups_of, holder, holders_after, is_free, means, register_name, none_taken, takes}
use Rattle.ds_groups.specs.Written.{cluster_lines, latches_text}
use Rattle.ds_groups.specs.declared.fault.GroupKind.{GroupKind}
use Rattle.ds_groups.proofs.Disjoint.{group_here, group_rises, groups_size, in_group, to_group}
use Rattle.ds_groups.proofs.Takings.{some_true}
use Rattle.ds_groups.proofs.PatternWords.{word_ok}

-- no line ends in what stands for latches
no_newline : (i : ℕ) → i < 2 ^ 64 → HasNo is_newline (latches_text i)
no_newline i small =
    let number : HasNo is_newline (decimal i) = (number_without is_newline refl i small).none in
    lacks_both is_newline (codes " # M" ++ decimal i ++ codes " S") (decimal i)
    (lacks_both is_newline (codes " # M" ++ decimal i) (codes " S") (lacks_both is_newline (codes " # M") (decimal i) refl number) refl) number

-- what stands before a comment
before_hash : (xs more : List ℕ) → list_any is_hash xs ≡ false → uncommented (xs ++ 35 ∷ more) ≡ xs
before_hash [] more none = refl
before_hash (x ∷ xs) more none =
    let (here, behind) = lacks_parts is_hash x xs none in
    let e : position_or_len is_hash (x ∷ (xs ++ 35 ∷ more)) ≡ suc (position_or_len is_hash (xs ++ 35 ∷ more)) =
    rw here (let z : 1 + position_or_len is_hash (xs ++ 35 ∷ more) ≡ suc (position_or_len is_hash (xs ++ 35 ∷ more)) = omega arith in z) in
    ap (λ n. take n (x ∷ (xs ++ 35 ∷ more))) e ∙ ap (λ (ys : List ℕ). x ∷ ys) (before_hash xs more behind)

-- the last byte of a text without a byte to cut at its end
last_kept : (xs : List ℕ) → suffix_len is_end xs ≡ 0 → 0 < length xs → is_end (get_or xs (length xs - 1) 0) ≡ false
last_kept xs none some = false_from_ne_true (is_end (get_or xs (length xs - 1) 0)) (λ is.
    let e = suffix_len-take_yes is_end xs (length xs) 0 some (omega arith) is in
    let whole : suffix_len is_end (take (length xs) xs) ≡ suffix_len is_end xs = ap (suffix_len is_end) (take-length xs) in
    absurd (omega (arith, e, whole, none)))

module _ (words : List (List ℕ)) (is : IsPlain words) (i : ℕ) (small : i < 2 ^ 64) where
  line : List ℕ
  line = line_text words ++ latches_text i

  -- a blank stands before the comment
  shown : uncommented (line_text words ++ latches_text i) ≡ line_text words ++ 32 ∷ []
  shown =
      let more : List ℕ = 32 ∷ 77 ∷ (decimal i ++ codes " S" ++ decimal i) in
      let e : line_text words ++ latches_text i ≡ (line_text words ++ 32 ∷ []) ++ (35 ∷ 32 ∷ 77 ∷ (decimal i ++ codes " S" ++ decimal i)) =
      sym (append_assoc (line_text words) (32 ∷ []) (35 ∷ 32 ∷ 77 ∷ (decimal i ++ codes " S" ++ decimal i))) in
      ap uncommented e ∙ before_hash (line_text words ++ 32 ∷ []) (32 ∷ 77 ∷ (decimal i ++ codes " S" ++ decimal i))
      (lacks_both is_hash (line_text words) (32 ∷ []) (hash_line_text words is.each) refl)

  kept : kept_len (line_text words ++ 32 ∷ []) ≡ length (line_text words)
  kept =
      let text : List ℕ = line_text words in
      let n : length (line_text words ++ 32 ∷ []) ≡ length (line_text words) + 1 = length-append (line_text words) (32 ∷ []) in
      let s : suffix_len is_end (line_text words ++ 32 ∷ []) ≡ length (line_text words ++ 32 ∷ []) - length (line_text words) =
      suffix_len_is is_end (line_text words ++ 32 ∷ []) (length (line_text words)) 0 (omega arith)
      (λ k low high. let e : k ≡ length (line_text words) = omega arith in
      ap (λ j. is_end (get_or (line_text words ++ 32 ∷ []) j 0)) e ∙ ap is_end (get_or-append_seam (line_text words) 32 [] 0))
      (λ some. ap is_end (get_or-left (line_text words) (32 ∷ []) (length (line_text words) - 1) 0 (omega arith)) ∙ last_kept (line_text words) is.end some) in
      omega arith

  line_words : words_in (line_text words ++ latches_text i) ≡ words
  unfolding words_in
  line_words = ap (λ (l : List ℕ). words_of (trimmed l)) shown
      ∙ (ap words_of (ap (λ n. take n (line_text words ++ 32 ∷ [])) kept ∙ take-append_seam (line_text words) (32 ∷ [])) ∙ words_of-line_text words is.each)

  alone : joins (line_text words ++ latches_text i) ≡ false
  unfolding joins
  alone = ap is_joined shown
      ∙ ap (list_any is_backslash) (ap (λ n. drop n (line_text words ++ 32 ∷ [])) kept ∙ drop-append_seam (line_text words) (32 ∷ []))

  one_line : (rest : List ℕ) → slice_split is_newline (line_text words ++ latches_text i ++ codes "\n" ++ rest)
      ≡ (line_text words ++ latches_text i) ∷ slice_split is_newline rest
  one_line rest = ap (slice_split is_newline) (append_assoc (line_text words ++ latches_text i) (10 ∷ []) rest)
      ∙ split-append is_newline (line_text words ++ latches_text i) 10 rest refl
      ∙ ap (λ (parts : List (List ℕ)). parts ++ slice_split is_newline rest)
      (split_plain is_newline (line_text words ++ latches_text i) (lacks_both is_newline (line_text words) (latches_text i) (newline_line_text words is.each) (no_newline i small)))

module _ (names : List (List ℕ)) where
  -- the words of the line of a cluster
  abbrev words_at : List ℕ → List (List ℕ)
  words_at registers = map (register_name names) registers

  lines_shown : (n i : ℕ) (clusters : List (List ℕ)) → i + length clusters ≤ 2 ^ 64 → AllByRecursion (λ registers. IsPlain (map (register_name names) registers)) clusters
      → lines_from n [] n (slice_split is_newline (cluster_lines names i clusters)) ≡ numbered_lines n (map (λ registers. map (register_name names) registers) clusters)
  unfolding words_in joins
  lines_shown n i [] few are = refl
  lines_shown n i (registers ∷ clusters) few are =
      let rest : List ℕ = cluster_lines names (i + 1) clusters in
      let small : i < 2 ^ 64 = omega arith in
      ap (lines_from n [] n) (one_line (map (register_name names) registers) are.0 i small (cluster_lines names (i + 1) clusters))
      ∙ (line_first n (map (register_name names) registers) (line_text (map (register_name names) registers) ++ latches_text i) (slice_split is_newline (cluster_lines names (i + 1) clusters))
      (alone (map (register_name names) registers) are.0 i small) (line_words (map (register_name names) registers) are.0 i small) are.0.some
      ∙ ap (λ (ls : List Line). record { number = n; words = map (register_name names) registers } ∷ ls) (lines_shown (n + 1) (i + 1) clusters (omega arith) are.1))

module _ (names : List (List ℕ)) (differ : AllPairs (λ one other. one ≢ other) names) where
  -- two registers have one name only where they are one
  one_name : (a b : ℕ) → a < length names → b < length names → register_name names a ≡ register_name names b → a ≡ b
  one_name a b low also e = elim (cases_eq a b) [
    | inl same ↦ same
    | inr other ↦ elim (cases_lt a b) [
      | inl less ↦ absurd (differ a b [] less also e)
      | inr more ↦ absurd (differ b a [] (omega arith) low (sym e))
    ]
  ]

  -- a name means its register alone
  name_known : (r : ℕ) → r < length names → has_name names (register_name names r) ≡ true
  name_known r low = list_any_at (bytes_eq (register_name names r)) names r [] low ((bytes_eq-Decides (register_name names r) (register_name names r)).1 refl)

  means_is : (r x : ℕ) → r < length names → means names (register_name names r) x ≡ bytes_eq (register_name names r) (register_name names x)
  means_is r x low = cond-true (has_name names (register_name names r)) (bytes_eq (register_name names r) (register_name names x)) (has_form (register_name names r) (register_name names x)) (name_known r low)

  -- which registers are held so, and all others as before
  record Holds (place : ℕ) (registers old new : List ℕ) : Type 0 where
    pub here : (x : ℕ) → x < length names → Contains registers x → holder new x ≡ place
    pub others : (x : ℕ) → x < length names → ¬ Contains registers x → holder new x ≡ holder old x

  word_read : (place r : ℕ) (old : List ℕ) → r < length names → holder old r ≡ 0
      → (new : List ℕ) × (after_word names place old (register_name names r) ≡ Ok new) × Holds place (r ∷ []) old new
  word_read place r old low free =
      let word : List ℕ = register_name names r in
      let meant : means names (register_name names r) r ≡ true = means_is r r low ∙ (bytes_eq-Decides (register_name names r) (register_name names r)).1 refl in
      let taken : takes names old (register_name names r) r ≡ true = and_from (is_free old r) (means names (register_name names r) r) (eq-eqb (holder old r) 0 free) meant in
      let at : (x : ℕ) → x < length names → holder (holders_after names place old (register_name names r)) x ≡ (if takes names old (register_name names r) x then place else holder old x) =
      (λ x inside. get_or-map-range_with_len (λ x. if takes names old (register_name names r) x then place else holder old x) 0 (length names) x x 0 inside (omega arith)) in (
        holders_after names place old (register_name names r),
        word_ok names place old (register_name names r) (some_true (length names) (means names (register_name names r)) r low meant) (some_true (length names) (takes names old (register_name names r)) r low taken),
        record {
          here = λ x inside is. elim (Contains-split r [] x is) [
            | inl e ↦ at x inside ∙ cond-true (takes names old (register_name names r) x) place (holder old x) (ap (takes names old (register_name names r)) (sym e) ∙ taken)
            | inr none ↦ (let (k, nowhere, there) = none in absurd (let h : k < 0 = nowhere in omega arith))
          ];
          others = λ x inside other. at x inside ∙ cond-false (takes names old (register_name names r) x) place (holder old x) (false_from_ne_true (takes names old (register_name names r) x) (λ is.
              let (free_too, means_too) = and_parts (is_free old x) (means names (register_name names r) x) is in
              let e : register_name names r ≡ register_name names x = (bytes_eq-Decides (register_name names r) (register_name names x)).0 (sym (means_is r x low) ∙ means_too) in
              other (subst (λ (y : ℕ). Contains (r ∷ []) y) (one_name r x low inside e) (Contains-head r []))));
        },
      )

  words_read : (place : ℕ) (registers old : List ℕ) → ((r : ℕ) → Contains registers r → (r < length names) × (holder old r ≡ 0))
      → AllPairs (λ a b. a < b) registers
      → (new : List ℕ) × (after_words names place old (map (register_name names) registers) ≡ Ok new) × Holds place registers old new
  words_read place [] old free rise = (
    old,
    refl,
    record {
      here = λ x inside is. (let (k, nowhere, there) = is in absurd (let h : k < 0 = nowhere in omega arith));
      others = λ x inside other. refl;
    },
  )
  words_read place (r ∷ registers) old free rise =
      let (low, free_r) = free r (Contains-head r registers) in
      let (mid, one, held) = word_read place r old low free_r in
      let later : (x : ℕ) → Contains registers x → ¬ Contains (r ∷ []) x = (λ x is single. elim (Contains-split r [] x single) [
        | inl e ↦ (let (k, inside, at) = is in
            let more : r < get_or registers k x = rise 0 (suc k) x (omega arith) (omega arith) in absurd (omega (arith, at, e)))
        | inr none ↦ (let (k, nowhere, there) = none in absurd (let h : k < 0 = nowhere in omega arith))
      ]) in
      let (new, rest, held_rest) = words_read place registers mid
      (λ x is. let (inside, was) = free x (Contains-tail r registers x is) in (inside, held.others x inside (later x is) ∙ was))
      (λ i j d below inside. rise (suc i) (suc j) d (omega arith) (omega arith)) in (
        new,
        ap (λ (result : Result (List ℕ) GroupKind). behind_word result (λ next. after_words names place next (map (register_name names) registers))) one ∙ rest,
        record {
          here = λ x inside is. elim (cases_Contains registers x) [
            | inl there ↦ held_rest.here x inside there
            | inr not_there ↦ held_rest.others x inside not_there ∙ held.here x inside (elim (Contains-split r registers x is) [
              | inl e ↦ subst (λ (y : ℕ). Contains (r ∷ []) y) e (Contains-head r [])
              | inr there ↦ absurd (not_there there)
            ])
          ];
          others = λ x inside other. held_rest.others x inside (λ there. other (Contains-tail r registers x there))
              ∙ held.others x inside (λ single. elim (Contains-split r [] x single) [
                | inl e ↦ other (subst (λ (y : ℕ). Contains (r ∷ registers) y) e (Contains-head r registers))
                | inr none ↦ (let (k, nowhere, there) = none in absurd (let h : k < 0 = nowhere in omega arith))
              ]);
        },
      )

  -- the registers of each cluster are held by its line, and all others as before
  record HoldsEach (place : ℕ) (clusters : List (List ℕ)) (old new : List ℕ) : Type 0 where
    pub here : (i x : ℕ) → x < length names → Contains (group_at clusters i) x → holder new x ≡ place + i
    pub others : (x : ℕ) → x < length names → ((i : ℕ) → ¬ Contains (group_at clusters i) x) → holder new x ≡ holder old x

  -- what is to be read
  record AreFree (clusters : List (List ℕ)) (old : List ℕ) : Type 0 where
    pub free : (i r : ℕ) → Contains (group_at clusters i) r → (r < length names) × (holder old r ≡ 0)
    pub rise : (i : ℕ) → AllPairs (λ a b. a < b) (group_at clusters i)
    pub once : (i j r : ℕ) → Contains (group_at clusters i) r → Contains (group_at clusters j) r → i ≡ j

  lines_read : (place n : ℕ) (clusters : List (List ℕ)) (old : List ℕ) → AreFree clusters old
      → (new : List ℕ) × (after_lines names place old (numbered_lines n (map (λ registers. map (register_name names) registers) clusters)) ≡ Ok new) × HoldsEach place clusters old new
  lines_read place n [] old are = (
    old,
    refl,
    record {
      here = λ i x inside is. absurd (nothing i x is);
      others = λ x inside other. refl;
    },
  )
    where
      nothing : (i x : ℕ) → ¬ Contains (group_at [] i) x
      nothing i x is = let (k, inside, at) = subst (λ (g : List ℕ). Contains g x) (get_or_past {X = List ℕ} [] i [] (omega arith)) is in let h : k < 0 = inside in omega arith
  lines_read place n (registers ∷ clusters) old are =
      let (mid, one, held) = words_read place registers old (are.free 0) (are.rise 0) in
      let apart : (i x : ℕ) → Contains (group_at clusters i) x → ¬ Contains registers x = (λ i x is first. let e : 0 ≡ suc i = are.once 0 (suc i) x first is in absurd (omega arith)) in
      let (new, rest, held_rest) = lines_read (place + 1) (n + 1) clusters mid (record {
        free = λ i r is. (let (inside, was) = are.free (suc i) r is in (inside, held.others r inside (apart i r is) ∙ was));
        rise = λ i. are.rise (suc i);
        once = λ i j r a b. (let e : suc i ≡ suc j = are.once (suc i) (suc j) r a b in omega arith);
      }) in (
        new,
        ap (λ (result : Result (List ℕ) GroupKind). behind_line n result (λ next. after_lines names (place + 1) next (numbered_lines (n + 1) (map (λ registers. map (register_name names) registers) clusters)))) one ∙ rest,
        record {
          here = each new mid held held_rest;
          others = λ x inside other. held_rest.others x inside (λ i is. other (suc i) is) ∙ held.others x inside (other 0);
        },
      )
    where
      each : (new mid : List ℕ) → Holds place registers old mid → HoldsEach (place + 1) clusters mid new → (i x : ℕ) → x < length names
          → Contains (group_at (registers ∷ clusters) i) x → holder new x ≡ place + i
      each new mid held held_rest zero x inside is = held_rest.others x inside (λ i there. let e : 0 ≡ suc i = are.once 0 (suc i) x is there in absurd (omega arith))
          ∙ held.here x inside is ∙ (let e : place ≡ place + 0 = omega arith in e)
      each new mid held held_rest (suc i) x inside is = held_rest.here i x inside is ∙ (let e : place + 1 + i ≡ place + suc i = omega arith in e)

-- no register is held at first
none_held : (n r : ℕ) → get_or {A = ℕ} (replicate n 0) r 0 ≡ 0
none_held zero r = refl
none_held (suc n) zero = refl
none_held (suc n) (suc r) = none_held n r

module _ (names clusters : List (List ℕ)) (all : AreAll (length names) clusters) (holders : List ℕ)
    (held : (i x : ℕ) → x < length names → Contains (group_at clusters i) x → holder holders x ≡ 1 + i) where
  -- which cluster has a register
  cluster_of : (x : ℕ) → x < length names → (i : ℕ) × (i < length clusters) × Contains (group_at clusters i) x
  cluster_of x inside =
      let (i, registers, low, at, is) = all.covered x inside in
      (i, low, subst (λ (g : List ℕ). Contains g x) (sym at ∙ get_or_default clusters i registers [] low) is)

  one_group : (i : ℕ) → line_group names holders (1 + i) ≡ group_at clusters i
  one_group i = rising_same (line_group names holders (1 + i)) (group_at clusters i) (group_rises names holders (1 + i)) (all.disjoint.rising i)
      (λ x is. let (inside, at) = in_group names holders (1 + i) x is in
      let (j, low, there) = cluster_of x inside in
      let e : holder holders x ≡ 1 + j = held j x inside there in
      let same : j ≡ i = omega arith in
      subst (λ (k : ℕ). Contains (group_at clusters k) x) same there)
      (λ x is. let inside : x < length names = all.disjoint.within i x is in
      to_group names holders (1 + i) x inside (held i x inside is))

  pub groups_same : groups_by names (length clusters) holders ≡ clusters
  groups_same = lists_same (groups_by names (length clusters) holders) clusters [] (groups_size names holders (length clusters)) (λ i. elim (cases_lt i (length clusters)) [
    | inl low ↦ group_here names holders (length clusters) i low ∙ one_group i
    | inr high ↦ get_or_past (groups_by names (length clusters) holders) i [] (let n = groups_size names holders (length clusters) in omega (arith, n)) ∙ sym (get_or_past clusters i [] high)
  ])

numbered_size : (n : ℕ) (lines : List (List (List ℕ))) → length (numbered_lines n lines) ≡ length lines
numbered_size n [] = refl
numbered_size n (words ∷ lines) = ap suc (numbered_size (n + 1) lines)

pub clusters_are_read : ClustersAreRead
clusters_are_read names clusters differ all few plain =
    let lines : List Line = numbered_lines 1 (map (λ registers. map (register_name names) registers) clusters) in
    let (holders, taken, each) = lines_read names differ 1 1 clusters (none_taken names) (record {
      free = λ i r is. (all.disjoint.within i r is, none_held (length names) r);
      rise = all.disjoint.rising;
      once = all.disjoint.once;
    }) in
    let size : length (numbered_lines 1 (map (λ registers. map (register_name names) registers) clusters)) ≡ length clusters =
    numbered_size 1 (map (λ registers. map (register_name names) registers) clusters) ∙ length-map clusters (λ (registers : List ℕ). map (register_name names) registers) in
    ap (groups_of names) (lines_shown names 1 0 clusters (let small : length clusters ≤ 4096 = few in omega arith) plain)
    ∙ ap (λ (result : Result (List ℕ) (At GroupKind)). behind_word result (λ hs. Ok (groups_by names (length (numbered_lines 1 (map (λ registers. map (register_name names) registers) clusters))) hs))) taken
    ∙ ap (λ n. Ok (groups_by names n holders)) size
    ∙ ap Ok (groups_same names clusters all holders each.here)
