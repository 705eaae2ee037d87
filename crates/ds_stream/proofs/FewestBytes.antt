-- How many bytes vectors have at least.
use Rattle.std.proofs.Common.{◌≡◌, ◌∙◌, ℕ, zero, suc, ◌+◌, ◌*◌, ◌-◌, ◌≤◌, ◌<◌, ◌==◌, Bool, true, false, List, [], ◌∷◌, ◌++◌, None, length, take, drop, refl, ap, sym, subst, arith, inl, inr, ◌⊎◌, append-nil, length-append}
use Rattle.std.specs.Prelude.{nat_lt, max}
use Rattle.std.specs.List.{filter, list_any, position_or_len, slice_split}
use Rattle.std.proofs.lemmas.Bool.{and_parts, cases_Bool, cases_lt, eqb-true, false≢true}
use Rattle.std.proofs.lemmas.List.{length-take}
use Rattle.std.proofs.Math.Nat.{mul-le-mul_left}
use Rattle.ds_lines.specs.Line.{is_blank, is_hash, is_newline, is_some, joins, kept_len, trimmed, uncommented, words_in}
use Rattle.ds_rows.specs.Vector.{has_bits, has_width}
use Rattle.ds_stream.specs.Alike.{IsFull, told_line}
use Rattle.ds_stream.specs.Bounded.{fault_under}
use Rattle.ds_stream.specs.Filling.{AreBefore, Filled}
use Rattle.ds_stream.specs.Stream.{Behind, FitsText, Placed, RowWindow, Shown, least_bytes, longest, next_window, placed_behind, placed_in, placed_of, window}
use Rattle.ds_stream.specs.declared.fault.StreamKind.TheVariants.{BadBit, BadWidth, TooMany}
use Rattle.ds_stream.proofs.Behind.{goes_on_behind}
use Rattle.ds_stream.proofs.TakenLine.{passed}
use Rattle.ds_stream.proofs.Likeness.{told_hash}
use Rattle.ds_stream.proofs.TakenBytes.{AreFrom, some_from}
use Rattle.ds_stream.proofs.WindowLaws.{cases_Option}

-- the characters of words
abbrev chars : List (List ℕ) → ℕ
chars [] = 0
chars (word ∷ words) = length word + chars words

chars-append : (words more : List (List ℕ)) → chars (words ++ more) ≡ chars words + chars more
chars-append [] more = omega arith
chars-append (word ∷ words) more = let e = chars-append words more in omega (arith, e)

chars_some : (words : List (List ℕ)) → chars (filter is_some words) ≡ chars words
chars_some [] = refl
chars_some ([] ∷ words) = chars_some words ∙ omega arith
chars_some ((byte ∷ word) ∷ words) = ap (λ (n : ℕ). length (byte ∷ word) + n) (chars_some words)

-- a split has a first part
split_some : (p : ℕ → Bool) (bytes : List ℕ) → (part : List ℕ) × (parts : List (List ℕ)) × (slice_split p bytes ≡ part ∷ parts)
split_some p [] = ([], [], refl)
split_some p (byte ∷ bytes) = elim (cases_Bool (p byte)) [
  | inl here ↦ ([], slice_split p bytes, rw here refl)
  | inr other ↦ (let (part, parts, is) = split_some p bytes in (byte ∷ part, parts, rw (other, is) refl))
]

chars_split : (line : List ℕ) → chars (slice_split is_blank line) ≤ length line
chars_split [] = omega arith
chars_split (byte ∷ line) =
    let few = chars_split line in
    elim (cases_Bool (is_blank byte)) [
      | inl here ↦ rw here (omega (arith, few))
      | inr other ↦ (let (part, parts, is) = split_some is_blank line in
          let less : length part + chars parts ≤ length line = rw is at few in
          rw (other, is) (omega (arith, less)))
    ]

-- the bytes of a line without its comment
abbrev pub bytes_in : List ℕ → ℕ
bytes_in line = length (uncommented line)

chars_in : (line : List ℕ) → chars (words_in line) ≤ bytes_in line
unfolding words_in
chars_in line =
    let text = uncommented line in
    let same = chars_some (slice_split is_blank (trimmed text)) in
    let few = chars_split (trimmed text) in
    omega (arith, same, few, length-take (kept_len text) text)

uncommented_first : (byte : ℕ) (line : List ℕ) → is_hash byte ≡ false → uncommented (byte ∷ line) ≡ byte ∷ uncommented line
uncommented_first byte line other =
    let n = position_or_len is_hash line in
    let e : 1 + n ≡ suc n = omega arith in
    rw other (ap (λ (k : ℕ). take k (byte ∷ line)) e)

uncommented_none : (byte : ℕ) (line : List ℕ) → is_hash byte ≡ true → uncommented (byte ∷ line) ≡ []
uncommented_none byte line here = rw here refl

-- a byte more is one more at most
bytes_next : (line : List ℕ) (byte : ℕ) → bytes_in (line ++ byte ∷ []) ≤ bytes_in line + 1
bytes_next [] byte = elim (cases_Bool (is_hash byte)) [
  | inl here ↦ (let none : bytes_in (byte ∷ []) ≡ 0 = ap length (uncommented_none byte [] here) in omega (arith, none))
  | inr other ↦ (let one : bytes_in (byte ∷ []) ≡ 1 = ap length (uncommented_first byte [] other) in omega (arith, one))
]
bytes_next (first ∷ line) byte = elim (cases_Bool (is_hash first)) [
  | inl here ↦ (let none : bytes_in (first ∷ (line ++ byte ∷ [])) ≡ 0 = ap length (uncommented_none first (line ++ byte ∷ []) here) in omega (arith, none))
  | inr other ↦ (
      let more = bytes_next line byte in
      let long : bytes_in (first ∷ (line ++ byte ∷ [])) ≡ suc (bytes_in (line ++ byte ∷ [])) = ap length (uncommented_first first (line ++ byte ∷ []) other) in
      let short : bytes_in (first ∷ line) ≡ suc (bytes_in line) = ap length (uncommented_first first line other) in
      omega (arith, more, long, short))
]

-- words of a width have so many characters
wide : (width : ℕ) (words : List (List ℕ)) → has_width width words ≡ true → max width 1 ≤ chars words
unfolding has_width
wide width [] is = absurd (false≢true is)
wide zero ([] ∷ words) is = absurd (false≢true ((and_parts (length ([] ∷ words) == 1) _ is).1))
wide zero ((byte ∷ word) ∷ words) is = omega arith
wide (suc width) (word ∷ words) is =
    let some : (suc width == 0) ≡ false = grind arith in
    let long : length word ≡ suc width = eqb-true _ _ ((and_parts (length (word ∷ words) == 1) _ (rw some at is)).1) in
    omega (arith, long)

enough : (most width seen : ℕ) (words : List (List ℕ)) → fault_under most width seen words ≡ None → max width 1 ≤ chars words
enough most width seen words none =
    wide width words (passed (TooMany most) BadWidth BadBit (nat_lt seen most) (has_width width words) (has_bits width words) none).1

-- so many are had, or as many as a vector has
abbrev Has : ℕ → ℕ → ℕ → Type 0
Has cells have n = (n ≤ have) ⊎ (cells ≤ have)

has_cells : (cells have n : ℕ) → Has cells have n → cells ≤ n → cells ≤ have
has_cells cells have n (inl few) some = omega (arith, few, some)
has_cells cells have n (inr all) some = all

has_less : (cells have n m : ℕ) → Has cells have n → m ≤ n → Has cells have m
has_less cells have n m (inl few) less = inl (omega (arith, few, less))
has_less cells have n m (inr all) less = inr all

has_next : (cells have n m : ℕ) → Has cells have n → m ≤ n + 1 → Has cells (have + 1) m
has_next cells have n m (inl few) less = inl (omega (arith, few, less))
has_next cells have n m (inr all) less = inr (omega (arith, all))

-- where a window has all its vectors, the first line gives one
record IsFirst (width most size n seen : ℕ) (behind : Behind) (p : Placed) (ps : List Placed) : Type 0 where
  pub none : fault_under most width seen p.line.words ≡ None
  pub rest : length (window width most size n p.behind (seen + 1) ps).rows ≡ n
  pub ends : (window width most size (suc n) behind seen (p ∷ ps)).behind ≡ (window width most size n p.behind (seen + 1) ps).behind

is_first : (width most size n seen : ℕ) (behind : Behind) (p : Placed) (ps : List Placed)
    → length (window width most size (suc n) behind seen (p ∷ ps)).rows ≡ suc n → IsFirst width most size n seen behind p ps
is_first width most size n seen behind p ps whole = elim (cases_Bool (nat_lt longest p.behind.place)) [
  | inl long ↦ absurd (let e : 0 ≡ suc n = rw long at whole in omega (arith, e))
  | inr short ↦ elim (cases_Option (fault_under most width seen p.line.words)) [
    | inr some ↦ absurd (let (kind, is) = some in let e : 0 ≡ suc n = rw (short, is) at whole in omega (arith, e))
    | inl none ↦ (
        let e : suc (length (window width most size n p.behind (seen + 1) ps).rows) ≡ suc n = rw (short, none) at whole in
        record { none = none; rest = omega (arith, e); ends = rw (short, none) refl })
  ]
]

-- a window that has all its vectors, one and so many, ends no sooner, so many bytes of the first
-- being had
abbrev IsLong : ℕ → ℕ → ℕ → ℕ → RowWindow → Type 0
IsLong cells place n have w = length w.rows ≡ suc n → place + n * (cells + 1) + cells ≤ w.behind.place + have

mul_next : (m u : ℕ) → suc m * u ≡ u + m * u
mul_next m u = grind arith

last_sum : (place cells none here have : ℕ) → none ≡ 0 → place ≤ here → cells ≤ have → place + none + cells ≤ here + have
last_sum place cells none here have is near some = omega (arith, is, near, some)

next_sum : (place cells next all here have : ℕ) → all ≡ cells + 1 + next → place + 1 + next + cells ≤ here + 0 → cells ≤ have → place + all + cells ≤ here + have
next_sum place cells next all here have is long some = omega (arith, is, long, some)

earlier_sum : (place k cells here have more : ℕ) → place + 1 + k + cells ≤ here + more → more ≤ have + 1 → place + k + cells ≤ here + have
earlier_sum place k cells here have more long less = omega (arith, long, less)

none_times : (u : ℕ) → 0 * u ≡ 0
none_times u = grind arith

-- the line that ends first
taken_long : (width most size n seen : ℕ) (behind : Behind) (p : Placed) (ps : List Placed) (place have total : ℕ)
    → chars p.line.words ≤ total → Has (max width 1) have total → place ≤ p.behind.place
    → ((m : ℕ) → IsLong (max width 1) (place + 1) m 0 (window width most size (suc m) p.behind (seen + 1) ps))
    → IsLong (max width 1) place n have (window width most size (suc n) behind seen (p ∷ ps))
taken_long width most size zero seen behind p ps place have total few has near more = λ whole.
    let first = is_first width most size 0 seen behind p ps whole in
    let cells = max width 1 in
    let some : cells ≤ have = has_cells cells have total has (let all = enough most width seen p.line.words first.none in omega (arith, all, few)) in
    subst (λ (b : Behind). place + 0 * (cells + 1) + cells ≤ b.place + have) (sym first.ends)
    (last_sum place cells (0 * (cells + 1)) p.behind.place have (none_times (cells + 1)) near some)
taken_long width most size (suc m) seen behind p ps place have total few has near more = λ whole.
    let first = is_first width most size (suc m) seen behind p ps whole in
    let cells = max width 1 in
    let some : cells ≤ have = has_cells cells have total has (let all = enough most width seen p.line.words first.none in omega (arith, all, few)) in
    subst (λ (b : Behind). place + suc m * (cells + 1) + cells ≤ b.place + have) (sym first.ends)
    (next_sum place cells (m * (cells + 1)) (suc m * (cells + 1)) (window width most size (suc m) p.behind (seen + 1) ps).behind.place have (mul_next m (cells + 1)) (more m first.rest) some)

no_lines : (width most size n seen : ℕ) (behind : Behind) (cells place have : ℕ) → IsLong cells place n have (window width most size (suc n) behind seen [])
no_lines width most size n seen behind cells place have = λ whole. absurd (let e : 0 ≡ suc n = whole in omega (arith, e))

-- the current line, where it ends
current_long : (width most size n seen : ℕ) (behind : Behind) (first : ℕ) (words : List (List ℕ)) (here : Behind) (ps : List Placed) (place have total : ℕ)
    → chars words ≤ total → Has (max width 1) have total → place ≤ here.place
    → IsLong (max width 1) place n have (window width most size (suc n) behind seen ps)
    → ((m : ℕ) → IsLong (max width 1) (place + 1) m 0 (window width most size (suc m) here (seen + 1) ps))
    → IsLong (max width 1) place n have (window width most size (suc n) behind seen (placed_of first words here ++ ps))
current_long width most size n seen behind first [] here ps place have total few has near rest more = rest
current_long width most size n seen behind first (word ∷ words) here ps place have total few has near rest more =
    taken_long width most size n seen behind (record { line = record { number = first; words = word ∷ words }; behind = here }) ps place have total few has near more

window_long : (width most size n seen : ℕ) (behind : Behind) (first : ℕ) (words : List (List ℕ)) (line : List ℕ) (place lines : ℕ) (text : List ℕ) (have : ℕ)
    → Has (max width 1) have (chars words + bytes_in line)
    → IsLong (max width 1) place n have (window width most size (suc n) behind seen (placed_in first words line place lines text))
window_long width most size n seen behind first words line place lines [] have has =
    let here : Behind = record { place = place; lines = lines + 1 } in
    let all = words ++ words_in line in
    let few : chars all ≤ chars words + bytes_in line = omega (arith, chars-append words (words_in line), chars_in line) in
    subst (λ (ps : List Placed). IsLong (max width 1) place n have (window width most size (suc n) behind seen ps)) (append-nil (placed_of first all here))
    (current_long width most size n seen behind first all here [] place have (chars words + bytes_in line) few has (omega arith)
    (no_lines width most size n seen behind (max width 1) place have) (λ m. no_lines width most size m (seen + 1) here (max width 1) (place + 1) 0))
window_long width most size n seen behind first words line place lines (byte ∷ text) have has = elim (cases_Bool (is_newline byte)) [
  | inr other ↦ rw other (λ whole.
      let cells = max width 1 in
      let w = window width most size (suc n) behind seen (placed_in first words (line ++ byte ∷ []) (place + 1) lines text) in
      let next = bytes_next line byte in
      earlier_sum place (n * (cells + 1)) cells w.behind.place have (have + 1)
      (window_long width most size n seen behind first words (line ++ byte ∷ []) (place + 1) lines text (have + 1)
      (has_next cells have (chars words + bytes_in line) (chars words + bytes_in (line ++ byte ∷ [])) has (omega (arith, next))) whole) (omega arith))
  | inl newline ↦ rw newline (
      let cells = max width 1 in
      let all = words ++ words_in line in
      let few : chars all ≤ chars words + bytes_in line = omega (arith, chars-append words (words_in line), chars_in line) in
      elim (cases_Bool (joins line)) [
        | inl yes_joins ↦ rw yes_joins (λ whole.
            let w = window width most size (suc n) behind seen (placed_in first all [] (place + 1) (lines + 1) text) in
            let less : chars all + bytes_in [] ≤ chars words + bytes_in line = omega (arith, few) in
            earlier_sum place (n * (cells + 1)) cells w.behind.place have have
            (window_long width most size n seen behind first all [] (place + 1) (lines + 1) text have
            (has_less cells have (chars words + bytes_in line) (chars all + bytes_in []) has less) whole) (omega arith))
        | inr ends ↦ rw ends (
            let here : Behind = record { place = place + 1; lines = lines + 1 } in
            let ps = placed_in (lines + 2) [] [] (place + 1) (lines + 1) text in
            current_long width most size n seen behind first all here ps place have (chars words + bytes_in line) few has (omega arith)
            (λ whole. earlier_sum place (n * (cells + 1)) cells (window width most size (suc n) behind seen ps).behind.place have 0
            (window_long width most size n seen behind (lines + 2) [] [] (place + 1) (lines + 1) text 0 (inl (omega arith)) whole) (omega arith))
            (λ m. window_long width most size m (seen + 1) here (lines + 2) [] [] (place + 1) (lines + 1) text 0 (inl (omega arith))))
      ])
]

-- lines that all end behind a place: so does a window that has all its vectors
window_from : (width most size n seen least : ℕ) (behind : Behind) (ps : List Placed) → AreFrom least ps
    → length (window width most size (suc n) behind seen ps).rows ≡ suc n → least ≤ (window width most size (suc n) behind seen ps).behind.place
window_from width most size n seen least behind [] are whole = absurd (let e : 0 ≡ suc n = whole in omega (arith, e))
window_from width most size zero seen least behind (p ∷ ps) are whole =
    let first = is_first width most size 0 seen behind p ps whole in
    subst (λ (b : Behind). least ≤ b.place) (sym first.ends) are.0
window_from width most size (suc n) seen least behind (p ∷ ps) are whole =
    let first = is_first width most size (suc n) seen behind p ps whole in
    subst (λ (b : Behind). least ≤ b.place) (sym first.ends) (window_from width most size n (seen + 1) least p.behind ps are.1 first.rest)

-- how many bytes may be asked for of what is being read, so many of the current line being had
abbrev pub MayAsk : Filled → ℕ → ℕ → Type 0
MayAsk f had n = (n ≤ 1) ⊎ (n ≤ (f.missing - 1) * (max f.width 1 + 1) + (max f.width 1 - had))

had_of : (cells had n : ℕ) → (n ≤ had) ⊎ (cells < had) → (have : ℕ) × Has cells have n × (have + (cells - had) ≤ cells)
had_of cells had n short = elim (cases_lt cells had) [
  | inl long ↦ (cells, inr (omega arith), omega (arith, long))
  | inr few ↦ elim short [
    | inl less ↦ (had, inl less, omega (arith, few))
    | inr long ↦ absurd (omega (arith, long, few))
  ]
]

asked_sum : (place k cells have had here n : ℕ) → n ≤ k + (cells - had) → have + (cells - had) ≤ cells → place + k + cells ≤ here + have → place + n ≤ here
asked_sum place k cells have had here n few less long = omega (arith, few, less, long)

pub may_ask : (f : Filled) (had n : ℕ) → 0 < f.missing → (bytes_in f.line ≤ had) ⊎ (max f.width 1 < had) → MayAsk f had n → AreBefore f n
may_ask f had n missing short may = λ size rest some whole.
    let k = f.missing - 1 in
    let one : f.missing ≡ suc k = omega (arith, missing) in
    let cells = max f.width 1 in
    let ps = placed_in f.first [] f.line f.place f.lines rest in
    let w = window f.width f.most size f.missing f.behind f.seen ps in
    let parts : length (f.rows ++ w.rows) ≡ length f.rows + length w.rows = length-append f.rows w.rows in
    let full : length w.rows ≡ f.missing = omega (arith, parts, whole) in
    let full_one : length (window f.width f.most size (suc k) f.behind f.seen ps).rows ≡ suc k =
    subst (λ (c : ℕ). length (window f.width f.most size c f.behind f.seen ps).rows ≡ c) one full in
    subst (λ (c : ℕ). f.place + n ≤ (window f.width f.most size c f.behind f.seen ps).behind.place) (sym one)
    (elim may [
      | inl single ↦ (let from = window_from f.width f.most size k f.seen (f.place + 1) f.behind ps (some_from f rest some) full_one in omega (arith, from, single))
      | inr many ↦ (
          let (have, has, less) = had_of cells had (bytes_in f.line) short in
          asked_sum f.place (k * (cells + 1)) cells have had (window f.width f.most size (suc k) f.behind f.seen ps).behind.place n many less
          (window_long f.width f.most size k f.seen f.behind f.first [] f.line f.place f.lines rest have (has_less cells have (bytes_in f.line) (0 + bytes_in f.line) has (omega arith)) full_one))
    ])

-- what is kept of the current line is no less than it has, unless it is longer than a vector
pub kept_told : (width : ℕ) (comment joined : Bool) (items : List ℕ) → list_any is_hash items ≡ false → (joined ≡ true → IsFull width items)
    → (bytes_in (told_line comment joined items) ≤ length items) ⊎ (max width 1 < length items)
kept_told width comment false items plain full = inl (let same : bytes_in (told_line comment false items) ≡ length items = ap length (told_hash comment false items plain) in omega (arith, same))
kept_told width comment true items plain full = inr (let long = full refl in omega (arith, long.several, long.wide))

least_sum : (place next cells all here : ℕ) → all ≡ cells + 1 + next → place + next + cells ≤ here + 0 → place + (all - 1) ≤ here
least_sum place next cells all here is long = omega (arith, is, long)

-- what a window that has all its vectors has at least
window_least : (shown : Shown) (rest : List ℕ) (size n : ℕ) → let w = window shown.width shown.most size (suc n) shown.behind shown.given (placed_behind shown.behind rest) in
    length w.rows ≡ suc n → shown.behind.place + least_bytes shown.width (suc n) ≤ w.behind.place
window_least shown rest size n = λ whole.
    let cells = max shown.width 1 in
    let long = window_long shown.width shown.most size n shown.given shown.behind (shown.behind.lines + 1) [] [] shown.behind.place shown.behind.lines rest 0 (inl (omega arith)) whole in
    let all : suc n * (cells + 1) ≡ cells + 1 + n * (cells + 1) = mul_next n (cells + 1) in
    least_sum shown.behind.place (n * (cells + 1)) cells (suc n * (cells + 1)) (window shown.width shown.most size (suc n) shown.behind shown.given (placed_behind shown.behind rest)).behind.place all long

pub are_no_shorter : (shown : Shown) (text : List ℕ) (count : ℕ) → FitsText shown text → 0 < count → length (next_window shown text count).rows ≡ count
    → shown.behind.place + least_bytes shown.width count ≤ (next_window shown text count).behind.place
are_no_shorter shown text zero fits some whole = absurd (omega (arith, some))
are_no_shorter shown text (suc n) fits some whole =
    let rest = drop shown.behind.place text in
    let is = goes_on_behind shown text fits in
    subst (λ (ps : List Placed). length (window shown.width shown.most (length text) (suc n) shown.behind shown.given ps).rows ≡ suc n
    → shown.behind.place + least_bytes shown.width (suc n) ≤ (window shown.width shown.most (length text) (suc n) shown.behind shown.given ps).behind.place) (sym is)
    (window_least shown rest (length text) n) whole

-- how many bytes are asked for, by steps that stop at the greatest number
asks_sum : (p q w had unit rest all sum n : ℕ) → p ≤ q → unit ≤ w + 1 → rest ≤ unit - had - 1 → all ≤ p → sum ≤ all + rest → n ≤ sum → n ≤ q + (w - had)
asks_sum p q w had unit rest all sum n more wide few less sums is = omega (arith, more, wide, few, less, sums, is)

pub asks : (f : Filled) (had unit others rest sum n : ℕ) → unit ≤ max f.width 1 + 1 → rest ≤ unit - had - 1 → others ≤ (f.missing - 1) * unit → sum ≤ others + rest → (n ≤ 1) ⊎ (n ≤ sum) → MayAsk f had n
asks f had unit others rest sum n wide few less sums (inl one) = inl one
asks f had unit others rest sum n wide few less sums (inr is) =
    inr (asks_sum ((f.missing - 1) * unit) ((f.missing - 1) * (max f.width 1 + 1)) (max f.width 1) had unit rest others sum n (mul-le-mul_left (f.missing - 1) wide) wide few less sums is)

pub one_or : (n sum least : ℕ) → n ≤ least → least ≡ max sum 1 → (n ≤ 1) ⊎ (n ≤ sum)
one_or n sum least few is = elim (cases_lt 1 n) [
  | inr one ↦ inl one
  | inl several ↦ inr (omega (arith, few, is, several))
]
