-- Words of values, written and read back.
use Rattle.std.proofs.Common.{◌≡◌, ◌≢◌, ◌∙◌, ℕ, zero, suc, ◌+◌, ◌-◌, ◌*◌, ◌/◌, ◌%◌, ◌^◌, ◌<◌, ◌≤◌, List, [], ◌∷◌, ◌++◌, length, get_or, map, take, drop, refl, ap, sym, subst, arith, inl, inr, set, false, not}
use Rattle.std.specs.List.{range_with_len}
use Rattle.std.proofs.lemmas.List.{length-map, get_or-map, get_or-set_other, get_or-set_same, take-map, take_all, take_more, take_rest, append_assoc}
use Rattle.std.specs.Prelude.{All, Contains}
use Rattle.std.proofs.lemmas.Bool.{cases_eq, false≢true}
use denote.Enum.Bare.{sameb}
use Rattle.ds_base.specs.contracts.value.Value.{the_type}
use Rattle.std.proofs.lemmas.List.Elements.{All-drop, All-take, Contains-append_cases, Contains-append_left, Contains-append_right, Contains-push}
use Rattle.ds_settle.specs.Settle.{LeavesOthers}
use Rattle.ds_settle.proofs.SetBits.{value_at-set_other}
use Rattle.std.proofs.lemmas.List.FromFn.{get_or-map-range_with_len, length-map-range_with_len, map-range_with_len_more}
use Rattle.std.proofs.Math.Seq.{take-add}
use Rattle.ds_base.specs.Values.{Row}
use Rattle.ds_base.specs.Word.{code_of, number_of_values, word_of, count_of_words}
use Rattle.ds_base.specs.declared.value.Value.{Value}
use Rattle.ds_base.specs.declared.value.Value.TheVariants.{Zero, One, Unknown}
use Rattle.ds_base.proofs.PackedWords.{code_of-few, number_of_values-drop_room, number_of_values-one_more}
use Rattle.ds_cover.specs.Cover.{value_at, values_at}
use Rattle.ds_opening.specs.Packed.{AreAsBefore, Learns, packed}

drop_map : {X Y : Type 0} (f : X → Y) (n : ℕ) (xs : List X) → drop n (map f xs) ≡ map f (drop n xs)
drop_map f zero xs = refl
drop_map f (suc n) [] = refl
drop_map f (suc n) (x ∷ xs) = drop_map f n xs

-- room for one value more in front
pub room : (nets : Row) (these : List ℕ) (i word : ℕ) → 0 < i → length these ≤ 32 → word ≡ number_of_values (drop i (values_at nets these)) → word < 4611686018427387904
room nets these i word some few is =
    let size : length (values_at nets these) ≡ length these = length-map these (value_at nets) in
    let low : number_of_values (drop i (values_at nets these)) < 4 ^ 31 = number_of_values-drop_room (values_at nets these) i some (omega arith) in
    rw is low

-- one value more in front
pub one_more : (nets : Row) (these : List ℕ) (i net code word : ℕ) (value : Value) → 0 < i → i ≤ length these → net ≡ get_or these (i - 1) net
    → value ≡ value_at nets net → code ≡ code_of value → word ≡ number_of_values (drop i (values_at nets these))
    → code + 4 * word ≡ number_of_values (drop (i - 1) (values_at nets these))
one_more nets these i net code word value some most net_is value_is code_is is =
    let size : length (values_at nets these) ≡ length these = length-map these (value_at nets) in
    let read : get_or (values_at nets these) (i - 1) Zero ≡ value = get_or-map (value_at nets) these (i - 1) net Zero (omega arith) ∙ (ap (value_at nets) (sym net_is) ∙ sym value_is) in
    let more : number_of_values (drop (i - 1) (values_at nets these)) ≡ code_of (get_or (values_at nets these) (i - 1) Zero) + 4 * number_of_values (drop i (values_at nets these))
    = number_of_values-one_more (values_at nets these) i some (omega arith) in
    let same : code_of (get_or (values_at nets these) (i - 1) Zero) ≡ code = ap code_of read ∙ sym code_is in
    omega (more, same, is, arith)

-- a part of the nets, as a part of the values
values_at-part : (nets : Row) (these : List ℕ) (n i : ℕ)
    → values_at nets (take n (drop i these)) ≡ take n (drop i (values_at nets these))
values_at-part nets these n i = sym (take-map (value_at nets) n (drop i these))
    ∙ ap (take n) (sym (drop_map (value_at nets) i these))

-- what is left of some nets, where that is no whole word
pub short_part : (these : List ℕ) (i : ℕ)
    → length (take (length these - i) (drop i these)) < 32
    → take (length these - i) (drop i these) ≡ take 32 (drop i these)
short_part these i short =
    let few : length (drop i these) < 32 = rw (take_rest these i) at short in
    take_rest these i ∙ sym (take_all 32 (drop i these) (omega (few, arith)))

-- the nets of a word have places in a row, where all nets have
pub part_within : (these part : List ℕ) (i size : ℕ) → part ≡ take 32 (drop (32 * i) these)
    → All (λ net. net < size) these → All (λ net. net < size) part
part_within these part i size is within =
    subst (λ (xs : List ℕ). All (λ net. net < size) xs) (sym is)
    (All-take (λ net. net < size) 32 (drop (32 * i) these)
    (All-drop (λ net. net < size) (32 * i) these within))

-- the number of a part of the nets, as a word of all
pub number_of_part : (nets : Row) (these part : List ℕ) (i : ℕ)
    → part ≡ take 32 (drop (32 * i) these)
    → number_of_values (values_at nets part) ≡ word_of (values_at nets these) i
number_of_part nets these part i is =
    ap (λ (xs : List ℕ). number_of_values (values_at nets xs)) is
    ∙ ap number_of_values (values_at-part nets these 32 (32 * i))

-- a word of foreseen nets, as the number of its part of them
pub word_is_number : (foreseen : Row) (words these part : List ℕ) (i : ℕ)
    → words ≡ packed (values_at foreseen these) → i < length words
    → part ≡ take 32 (drop (32 * i) these)
    → get_or words i 0 ≡ number_of_values (values_at foreseen part)
word_is_number foreseen words these part i words_are inside part_is =
    let row : Row = values_at foreseen these in
    let many : length words ≡ count_of_words (length row) = ap (λ (ws : List ℕ). length ws) words_are
    ∙ length-map-range_with_len (word_of row) 0 (count_of_words (length row)) in
    let near : i < count_of_words (length row) = omega (many, inside, arith) in
    ap (λ (ws : List ℕ). get_or ws i 0) words_are
    ∙ (get_or-map-range_with_len (word_of row) 0 (count_of_words (length row)) i i 0 near (omega arith)
    ∙ sym (number_of_part foreseen these part i part_is))

-- one word more
pub word_more : (values : Row) (old items new : List ℕ) (i word : ℕ) → items ≡ old ++ map (word_of values) (range_with_len 0 i)
    → word ≡ word_of values i → new ≡ items ++ word ∷ [] → new ≡ old ++ map (word_of values) (range_with_len 0 (i + 1))
word_more values old items new i word items_are word_is is =
    is ∙ (ap (λ (xs : List ℕ). xs ++ word ∷ []) items_are ∙ (ap (λ (w : ℕ). (old ++ map (word_of values) (range_with_len 0 i)) ++ w ∷ []) word_is
    ∙ (append_assoc old (map (word_of values) (range_with_len 0 i)) (word_of values i ∷ [])
    ∙ ap (λ (xs : List ℕ). old ++ xs) (sym (map-range_with_len_more (word_of values) 0 i i (omega arith))))))

-- the lowest value of a number, and the number of the others
pub lowest : (values : Row) (i rest : ℕ) → i < length values
    → rest ≡ number_of_values (drop i values)
    → (rest % 4 ≡ code_of (get_or values i Zero))
    × (rest / 4 ≡ number_of_values (drop (i + 1) values))
lowest values i rest inside is =
    let few : code_of (get_or values i Zero) ≤ 2 = code_of-few (get_or values i Zero) in
    let back : i + 1 - 1 ≡ i = omega arith in
    let more : number_of_values (drop i values)
    ≡ code_of (get_or values i Zero) + 4 * number_of_values (drop (i + 1) values)
    = subst (λ (n : ℕ). number_of_values (drop n values)
    ≡ code_of (get_or values n Zero) + 4 * number_of_values (drop (i + 1) values)) back
    (number_of_values-one_more values (i + 1) (omega arith) (omega arith)) in
    (omega (few, more, is, arith), omega (few, more, is, arith))

-- one net more is as foreseen
pub learns_more : (foreseen : Row) (these : List ℕ) (i net : ℕ) (old row new : Row) (value : Value) → i < length these → net ≡ get_or these i net
    → net < length row → value ≡ get_or (values_at foreseen these) i Zero → new ≡ set row net value
    → Learns foreseen (take i these) old row → Learns foreseen (take (i + 1) these) old new
learns_more foreseen these i net old row new value inside net_is within value_is is learns other which =
    elim (cases_eq other net) [
      | inl same ↦ (
          let read : value_at new other ≡ value = ap (value_at new) same ∙ (ap (λ (r : Row). value_at r net) is ∙ get_or-set_same row net value Zero within) in
          let foreseen_is : value ≡ value_at foreseen net = value_is ∙ (get_or-map (value_at foreseen) these i net Zero inside ∙ ap (value_at foreseen) (sym net_is)) in
          read ∙ (foreseen_is ∙ ap (value_at foreseen) (sym same)))
      | inr differs ↦ (
          let kept : value_at new other ≡ value_at row other = ap (λ (r : Row). value_at r other) is ∙ get_or-set_other row net other value Zero differs in
          kept ∙ learns other (elim which [
            | inl there ↦ elim (Contains-append_cases (take i these) (get_or these i net ∷ []) other (subst (λ (xs : List ℕ). Contains xs other) (take_more these i net inside) there)) [
              | inl early ↦ inl early
              | inr last ↦ absurd (differs (alone other last ∙ sym net_is))
            ]
            | inr before ↦ inr before
          ]))
    ]
  where
    alone : (x : ℕ) → Contains (get_or these i net ∷ []) x → x ≡ get_or these i net
    alone x (zero, low, e) = sym e
    alone x (suc k, low, e) = absurd (omega arith)

pub all_learnt : (foreseen : Row) (these : List ℕ) (i : ℕ) (old new : Row) → length these ≤ i → Learns foreseen (take i these) old new → Learns foreseen these old new
all_learnt foreseen these i old new past learns = subst (λ (xs : List ℕ). Learns foreseen xs old new) (take_all i these past) learns

-- one net more, and the others as they were
pub others_more : (these : List ℕ) (i net : ℕ) (old row new : Row) (value : Value) → i < length these → net ≡ get_or these i net → new ≡ set row net value
    → LeavesOthers (take i these) old row → LeavesOthers (take (i + 1) these) old new
others_more these i net old row new value inside net_is is before other free =
    let split : take (i + 1) these ≡ take i these ++ get_or these i net ∷ [] = take_more these i net inside in
    let not_here : other ≢ net = λ e. free (subst (λ (xs : List ℕ). Contains xs other) (sym split)
    (subst (λ (x : ℕ). Contains (take i these ++ get_or these i net ∷ []) x) (sym (e ∙ net_is)) (Contains-push (take i these) (get_or these i net)))) in
    ap (λ (r : Row). value_at r other) is ∙ (value_at-set_other row net other value not_here
    ∙ before other (λ has. free (subst (λ (xs : List ℕ). Contains xs other) (sym split) (Contains-append_left (take i these) (get_or these i net ∷ []) other has))))

-- the nets of one word more
pub take-part : (these part : List ℕ) (i : ℕ) → part ≡ take 32 (drop (32 * i) these)
    → take (32 * (i + 1)) these ≡ take (32 * i) these ++ part
take-part these part i is =
    let up : 32 * (i + 1) ≡ 32 * i + 32 = omega arith in
    ap (λ (n : ℕ). take n these) up ∙ (take-add (32 * i) 32 these
    ∙ ap (λ (xs : List ℕ). take (32 * i) these ++ xs) (sym is))

-- the nets of one word more are as foreseen
pub learns_part : (foreseen : Row) (these part : List ℕ) (i : ℕ) (old row new : Row)
    → part ≡ take 32 (drop (32 * i) these)
    → Learns foreseen (take (32 * i) these) old row → Learns foreseen part row new
    → Learns foreseen (take (32 * (i + 1)) these) old new
learns_part foreseen these part i old row new is first then net which =
    then net (elim which [
      | inl there ↦ elim (Contains-append_cases (take (32 * i) these) part net
          (subst (λ (xs : List ℕ). Contains xs net) (take-part these part i is) there)) [
            | inl early ↦ inr (first net (inl early))
            | inr late ↦ inl late
          ]
      | inr before ↦ inr (first net (inr before))
    ])

-- the nets of one word more, and the others as they were
pub others_part : (these part : List ℕ) (i : ℕ) (old row new : Row)
    → part ≡ take 32 (drop (32 * i) these)
    → LeavesOthers (take (32 * i) these) old row → LeavesOthers part row new
    → LeavesOthers (take (32 * (i + 1)) these) old new
others_part these part i old row new is first then net free =
    let all : take (32 * (i + 1)) these ≡ take (32 * i) these ++ part = take-part these part i is in
    then net (λ has. free (subst (λ (xs : List ℕ). Contains xs net) (sym all)
    (Contains-append_right (take (32 * i) these) part net has)))
    ∙ first net (λ has. free (subst (λ (xs : List ℕ). Contains xs net) (sym all)
    (Contains-append_left (take (32 * i) these) part net has)))

-- a net that is given the value that it has leaves all as before
pub set_again : (row : Row) (at : ℕ) (value : Value) → at < length row → value_at row at ≡ value
    → AreAsBefore row (set row at value)
set_again row at value inside has net = elim (cases_eq net at) [
  | inl e ↦ ap (value_at (set row at value)) e
      ∙ (get_or-set_same row at value Zero inside ∙ (sym has ∙ sym (ap (value_at row) e)))
  | inr ne ↦ value_at-set_other row at net value ne
]

-- the values by their codes
pub of_code : (value other : Value)
    → get_or (Zero ∷ One ∷ Unknown ∷ Unknown ∷ []) (code_of value) other ≡ value
of_code Zero other = refl
of_code One other = refl
of_code Unknown other = refl

-- values that do not differ are the same
pub no_other : (value other : Value) → not (sameb the_type value other) ≡ false → value ≡ other
no_other Zero Zero is = refl
no_other Zero One is = absurd (false≢true (sym is))
no_other Zero Unknown is = absurd (false≢true (sym is))
no_other One Zero is = absurd (false≢true (sym is))
no_other One One is = refl
no_other One Unknown is = absurd (false≢true (sym is))
no_other Unknown Zero is = absurd (false≢true (sym is))
no_other Unknown One is = absurd (false≢true (sym is))
no_other Unknown Unknown is = refl
