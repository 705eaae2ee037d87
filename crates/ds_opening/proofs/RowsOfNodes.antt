-- Nets that take the rows of several nodes.
use Rattle.std.proofs.Common.{◌≡◌, ◌∙◌, ℕ, zero, suc, ◌+◌, ◌-◌, ◌<◌, ◌≤◌, Bool, true, false, cond, not, List, [], ◌∷◌, ◌++◌, length, get_or, take, drop, refl, ap, sym, subst, arith, inl, inr, append_assoc, length-append}
use Rattle.std.specs.Prelude.{All, Contains}
use Rattle.std.specs.List.{filter, flat_map, range_with_len}
use Rattle.std.proofs.lemmas.Bool.{cases_Bool, not_from_false}
use Rattle.std.proofs.lemmas.Grind.{flat_map-append}
use Rattle.std.proofs.lemmas.List.{append-nil, length-map, take_all}
use Rattle.std.proofs.lemmas.List.Concat.{flat_map-cons}
use Rattle.std.proofs.lemmas.List.Elements.{All-contains, All-filter, Contains-append_right, Contains-get_or}
use Rattle.std.proofs.lemmas.List.FromFn.{length-range_with_len}
use Rattle.ds_base.specs.Values.{Row}
use Rattle.ds_base.specs.Word.{word_of, count_of_words}
use Rattle.ds_base.proofs.ListLemmas.{Contains-head, map_agree}
use Rattle.ds_cover.specs.Cover.{value_at, values_at}
use Rattle.ds_opening.proofs.Concatenation.{has_filter, has_flat}
use Rattle.ds_base.specs.Scratch.{Kept, Memory, Remembers}
use Rattle.ds_opening.specs.Learnt.{is_learnt}
use Rattle.ds_opening.specs.Noted.{AreReadRows, AreRowsLearnt, IsLearnt, IsSlot}
use Rattle.ds_opening.specs.Packed.{packed, packed_rows}
use Rattle.ds_opening.specs.declared.opening.Opening.{Opening}
use Rattle.ds_opening.proofs.Learnt.{learnt_more, learnt_none, was_noted}
use Rattle.ds_opening.proofs.LearntRows.{slot_noted}

pub length-packed : (values : Row) → length (packed values) ≡ count_of_words (length values)
length-packed values = length-map (range_with_len 0 (count_of_words (length values))) (word_of values) ∙ length-range_with_len 0 (count_of_words (length values))

take_front : {X : Type 0} (xs ys : List X) (n : ℕ) → length xs ≡ n → take n (xs ++ ys) ≡ xs
take_front [] ys n size = rw (sym size) refl
take_front (x ∷ xs) ys zero size = absurd (omega (size, arith))
take_front (x ∷ xs) ys (suc n) size = ap (λ zs. x ∷ zs) (take_front xs ys n (omega (size, arith)))

drop_front : {X : Type 0} (xs ys : List X) (n : ℕ) → length xs ≡ n → drop n (xs ++ ys) ≡ ys
drop_front [] ys n size = rw (sym size) refl
drop_front (x ∷ xs) ys zero size = absurd (omega (size, arith))
drop_front (x ∷ xs) ys (suc n) size = drop_front xs ys n (omega (size, arith))

-- all words but the first, as a slice
pub behind_first : (first : ℕ) (words from : List ℕ) → from ≡ first ∷ words → take (length from - 1) (drop 1 from) ≡ words
behind_first first words from is =
    let all : length from ≡ suc (length words) = ap (λ (ws : List ℕ). length ws) is in
    let long : length from - 1 ≡ length words = omega (all, arith) in
    ap (λ (ws : List ℕ). take (length from - 1) (drop 1 ws)) is ∙ take_all (length from - 1) words (omega (long, arith))

-- the nodes whose rows are not learnt
abbrev pub unlearnt : (ℕ → Bool) → List ℕ → List ℕ
unlearnt learnt nodes = filter (λ node. not (learnt node)) nodes

-- what is read of nodes of which no row is learnt
abbrev pub all_rows : Row → List (List ℕ) → List ℕ → List ℕ
all_rows foreseen bits nodes = packed_rows (λ _. false) foreseen bits nodes

one_row : (foreseen : Row) (bits : List (List ℕ)) (learnt : Bool) (node : ℕ) (words : List ℕ) (nodes : List ℕ)
    → words ≡ all_rows foreseen bits nodes
    → cond learnt [] (node ∷ packed (values_at foreseen (get_or bits node []))) ++ words
    ≡ all_rows foreseen bits (cond (not learnt) (node ∷ nodes) nodes)
one_row foreseen bits true node words nodes is = is
one_row foreseen bits false node words nodes is =
    ap (λ (ws : List ℕ). node ∷ packed (values_at foreseen (get_or bits node [])) ++ ws) is

-- a row that is learnt has no words
rows_of_unlearnt : (learnt : ℕ → Bool) (foreseen : Row) (bits : List (List ℕ)) (nodes : List ℕ)
    → packed_rows learnt foreseen bits nodes ≡ all_rows foreseen bits (unlearnt learnt nodes)
rows_of_unlearnt learnt foreseen bits [] = refl
rows_of_unlearnt learnt foreseen bits (node ∷ nodes) =
    one_row foreseen bits (learnt node) node (packed_rows learnt foreseen bits nodes) (unlearnt learnt nodes)
    (rows_of_unlearnt learnt foreseen bits nodes)

-- the nets of some nodes
abbrev pub nets_in : List (List ℕ) → List ℕ → List ℕ
nets_in bits nodes = flat_map (λ node. get_or bits node []) nodes

-- the slots of some nodes
abbrev pub AreNodeSlots : List (List ℕ) → ℕ → ℕ → Row → List ℕ → Memory → Type 0
AreNodeSlots bits first turn foreseen nodes m =
    All (λ node. IsSlot m turn (first + node) (get_or bits node []) foreseen) nodes

-- of what an opening reads the rows of some nodes are learnt, and those of the others are left
pub record IsReadTo (bits : List (List ℕ)) (first : ℕ) (o : Opening) (old : Kept) (foreseen : Row)
    (nodes rest : List ℕ) (new : Kept) : Type 0 where
  pub done : List ℕ
  pub left : List ℕ
  pub nodes_are : unlearnt (is_learnt first old o.turn) nodes ≡ done ++ left
  pub rest_is : rest ≡ all_rows foreseen bits left
  pub learns : (m : Memory) → AreNodeSlots bits first o.turn foreseen nodes m → Remembers m old
      → IsLearnt m foreseen (nets_in bits done) old new

-- the first row of what is left
record IsCut (foreseen : Row) (bits : List (List ℕ)) (left rest : List ℕ) (node : ℕ) : Type 0 where
  behind : List ℕ
  left_is : left ≡ node ∷ behind
  rest_is : rest ≡ node ∷ packed (values_at foreseen (get_or bits node [])) ++ all_rows foreseen bits behind

cut : (foreseen : Row) (bits : List (List ℕ)) (left rest : List ℕ) (node : ℕ) → rest ≡ all_rows foreseen bits left
    → node ≡ get_or rest 0 0 → 0 < length rest → IsCut foreseen bits left rest node
cut foreseen bits [] rest node is node_is some =
    absurd (let none : length rest ≡ 0 = ap (λ (ws : List ℕ). length ws) is in omega (none, some, arith))
cut foreseen bits (x ∷ xs) rest node is node_is some =
    let same : node ≡ x = node_is ∙ ap (λ (ws : List ℕ). get_or ws 0 0) is in
    record {
      behind = xs;
      left_is = ap (λ (y : ℕ). y ∷ xs) (sym same);
      rest_is = subst (λ (y : ℕ). rest ≡ y ∷ packed (values_at foreseen (get_or bits y [])) ++ all_rows foreseen bits xs) (sym same) is;
    }

-- no row is left where no word is
none_left : (foreseen : Row) (bits : List (List ℕ)) (left : List ℕ) → length (all_rows foreseen bits left) ≡ 0 → left ≡ []
none_left foreseen bits [] none = refl
none_left foreseen bits (x ∷ xs) none = absurd (omega (none, arith))

module _ {bits : List (List ℕ)} {first : ℕ} {o : Opening} {old : Kept} {foreseen : Row} {nodes : List ℕ}
    (reads : AreReadRows bits first o old foreseen nodes) where
  pub read_first : IsReadTo bits first o old foreseen nodes o.from.now old
  read_first = record {
    done = [];
    left = unlearnt (is_learnt first old o.turn) nodes;
    nodes_are = refl;
    rest_is = reads.from ∙ rows_of_unlearnt (is_learnt first old o.turn) foreseen bits nodes;
    learns = λ m slots remembers. learnt_none m foreseen old remembers;
  }

  module _ {rest : List ℕ} {mid : Kept} (r : IsReadTo bits first o old foreseen nodes rest mid) where
    module _ (some : 0 < length rest) where
      -- the number of the next node
      abbrev pub node : ℕ
      node = get_or rest 0 0

      -- its nets
      abbrev pub these : List ℕ
      these = get_or bits node []

      next : IsCut foreseen bits r.left rest node
      next = cut foreseen bits r.left rest node r.rest_is refl some

      -- what holds of all nodes holds of the next one
      pub of_next : (P : ℕ → Type 0) → All P nodes → P node
      of_next P all =
          let learnt : ℕ → Bool = is_learnt first old o.turn in
          let split : unlearnt learnt nodes ≡ r.done ++ (node ∷ next.behind) =
          r.nodes_are ∙ ap (λ (xs : List ℕ). r.done ++ xs) next.left_is in
          All-contains P (r.done ++ (node ∷ next.behind)) node
          (subst (All P) split (All-filter (λ n. not (learnt n)) P nodes all))
          (Contains-append_right r.done (node ∷ next.behind) node (Contains-head node next.behind))

      -- the words behind its number
      abbrev pub words : List ℕ
      words = take (length rest - 1) (drop 1 rest)

      words_are : words ≡ packed (values_at foreseen these) ++ all_rows foreseen bits next.behind
      words_are = behind_first node (packed (values_at foreseen these) ++ all_rows foreseen bits next.behind) rest next.rest_is

      size : length (packed (values_at foreseen these)) ≡ count_of_words (length these)
      size = length-packed (values_at foreseen these) ∙ ap count_of_words (length-map these (value_at foreseen))

      pub room : count_of_words (length these) ≤ length words
      room =
          let long : length words ≡ length (packed (values_at foreseen these)) + length (all_rows foreseen bits next.behind) =
          ap (λ (xs : List ℕ). length xs) words_are ∙ length-append (packed (values_at foreseen these)) (all_rows foreseen bits next.behind) in
          omega (long, size, arith)

      pub row_is : take (count_of_words (length these)) words ≡ packed (values_at foreseen these)
      row_is = ap (take (count_of_words (length these))) words_are
          ∙ take_front (packed (values_at foreseen these)) (all_rows foreseen bits next.behind) (count_of_words (length these)) size

      others_are : drop (count_of_words (length these)) words ≡ all_rows foreseen bits next.behind
      others_are = ap (drop (count_of_words (length these))) words_are
          ∙ drop_front (packed (values_at foreseen these)) (all_rows foreseen bits next.behind) (count_of_words (length these)) size

      nets_more : nets_in bits (r.done ++ node ∷ []) ≡ nets_in bits r.done ++ these
      nets_more =
          flat_map-append (λ n. get_or bits n []) r.done (node ∷ [])
          ∙ ap (λ (xs : List ℕ). nets_in bits r.done ++ xs) (flat_map-cons (λ n. get_or bits n []) node [] ∙ append-nil these)

      -- one row more
      pub read_more : (new : Kept)
          → ((m : Memory) → IsSlot m o.turn (first + node) these foreseen → Remembers m mid → IsLearnt m foreseen these mid new)
          → IsReadTo bits first o old foreseen nodes (drop (count_of_words (length these)) words) new
      read_more new one = record {
        done = r.done ++ node ∷ [];
        left = next.behind;
        nodes_are = r.nodes_are ∙ (ap (λ (xs : List ℕ). r.done ++ xs) next.left_is ∙ sym (append_assoc r.done (node ∷ []) next.behind));
        rest_is = others_are;
        learns = λ m slots remembers.
            let before : IsLearnt m foreseen (nets_in bits r.done) old mid = r.learns m slots remembers in
            subst (λ (xs : List ℕ). IsLearnt m foreseen xs old new) (sym nets_more)
            (learnt_more m foreseen (nets_in bits r.done) these old mid new before
            (one m (of_next (λ n. IsSlot m o.turn (first + n) (get_or bits n []) foreseen) slots) before.remembers));
      }

    -- once no word is left, all rows are learnt
    pub read_all : length rest ≤ 0 → 0 < o.turn → (m : Memory) → AreNodeSlots bits first o.turn foreseen nodes m
        → Remembers m old → AreRowsLearnt m foreseen bits nodes mid
    read_all none some m slots remembers = record {
      remembers = all.remembers;
      learnt = λ node has. map_agree (value_at mid.nets) (value_at foreseen) (get_or bits node []) (λ j d low.
          let net : ℕ = get_or (get_or bits node []) j d in
          let in_node : Contains (get_or bits node []) net = Contains-get_or (get_or bits node []) j d low in
          elim (cases_Bool (learnt node)) [
            | inl before ↦
                (let slot : IsSlot m o.turn (first + node) (get_or bits node []) foreseen =
                All-contains (λ n. IsSlot m o.turn (first + n) (get_or bits n []) foreseen) nodes node slots has in
                let noted : IsLearnt m foreseen (get_or bits node []) old old =
                was_noted m o.turn (first + node) (get_or bits node []) foreseen slot some old remembers
                (slot_noted first old o.turn node before) in
                all.learns net (inr (noted.learns net (inl in_node))))
            | inr not_yet ↦
                all.learns net (inl (has_flat (λ n. get_or bits n []) r.done node net (in_done node has not_yet) in_node))
          ]);
    }
      where
        learnt : ℕ → Bool
        learnt = is_learnt first old o.turn

        all : IsLearnt m foreseen (nets_in bits r.done) old mid
        all = r.learns m slots remembers

        left_is : r.left ≡ []
        left_is = none_left foreseen bits r.left (let long : length rest ≡ length (all_rows foreseen bits r.left) = ap (λ (ws : List ℕ). length ws) r.rest_is in omega (none, long, arith))

        in_done : (node : ℕ) → Contains nodes node → learnt node ≡ false → Contains r.done node
        in_done node has not_yet =
            subst (λ (xs : List ℕ). Contains xs node)
            (r.nodes_are ∙ (ap (λ (xs : List ℕ). r.done ++ xs) left_is ∙ append-nil r.done))
            (has_filter (λ n. not (learnt n)) nodes node has (not_from_false (learnt node) not_yet))
