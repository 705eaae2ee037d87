-- The lines of a graph whose words have bytes that are never cut.
use Rattle.std.proofs.Common.{◌==◌, ℕ, zero, suc, ◌<◌, ◌≤◌, ◌^◌, List, [], ◌∷◌, ◌++◌, length, take, drop, Option, inl, inr, refl, arith, sym, subst, ltb}
use Rattle.std.specs.Prelude.{All, codes, decimal}
use Rattle.std.specs.List.{AllByRecursion}
use Rattle.std.specs.Option.{option_map_or}
use Rattle.std.proofs.lemmas.Bool.{cases_Bool}
use Rattle.std.proofs.lemmas.Option.{slice_get-get_or}
use Rattle.ds_lines.specs.Print.{HasNo, IsPlain, IsWord}
use Rattle.ds_lines.proofs.ByteClasses.{without_both}
use Rattle.ds_lines.proofs.UncutWords.{AreClean, IsClean, IsUncut, clean_line, clean_number, clean_word, is_cut, plain_line}
use Rattle.ds_marked.specs.Graph.{Graph, IsKept}
use Rattle.ds_marked.specs.Log.{event_text, text_of_event}
use Rattle.ds_marked.specs.declared.marked.Event.{Event}
use Rattle.ds_marked.specs.declared.marked.Kind.TheVariants.{Rise}
use Rattle.ds_astg.specs.Text.{arc_at, entry_name, is_further, place_name, tokens_text}
use Rattle.ds_text_laws.specs.AstgText.{arc_words, body_lines, entry_words, event_lines, graph_words, line_behind, lists_below, marking_words, place_lines, rest_lines, target_word}
use Rattle.ds_stage.proofs.LineWords.{both_all}
use Rattle.ds_laws.proofs.PlainNames.{each_drop, each_take}

-- a text behind a clean word
pub clean_behind : (xs ys : List ℕ) → IsClean xs → HasNo is_cut ys → IsClean (xs ++ ys)
clean_behind xs ys clean none = without_both is_cut xs ys clean none

-- a number behind one
number_behind : (word : List ℕ) (n : ℕ) → IsClean word → n < 2 ^ 64 → IsClean (word ++ decimal n)
number_behind word n clean small = clean_behind word (decimal n) clean (clean_number n small).none

-- the line of a name
named_plain : (head name : List ℕ) → IsClean head → IsWord name → IsUncut name → IsPlain (head ∷ name ∷ [])
named_plain head name clean word uncut = plain_line (head ∷ name ∷ []) (clean_word head clean, (word, tt)) uncut

-- the lists below a number
each_below : {X : Type 0} (P : X → Type 0) (piece : ℕ → List X) (n : ℕ) → ((k : ℕ) → k < n → AllByRecursion P (piece k)) → AllByRecursion P (lists_below piece n)
each_below P piece zero each = tt
each_below P piece (suc n) each =
    both_all P (lists_below piece n) (piece n) (each_below P piece n (λ k low. each k (omega (arith, low)))) (each n (omega arith))

-- lines, and a line behind a word
abbrev ArePlain : List (List (List ℕ)) → Type 0
ArePlain lines = AllByRecursion IsPlain lines

-- such a line is plain
behind_plain : (word : List ℕ) (words : List (List ℕ)) → IsClean word → AreClean words → ArePlain (line_behind word words)
behind_plain word [] clean are = tt
behind_plain word (next ∷ words) clean are = (clean_line word (next ∷ words) (clean, are), tt)

-- some event
some_event : Event
some_event = record { signal = []; kind = Rise }

-- a graph whose events are clean words
module _ (g : Graph) (kept : IsKept g) (few : length g.arcs ≤ 1048576) (tokens : All (λ arc. arc.tokens < 256) g.arcs)
    (events : All (λ e. IsClean (event_text e)) g.events) where
  event_clean : (v : ℕ) → v < length g.events → IsClean (text_of_event g v)
  event_clean v inside =
      subst (λ (o : Option Event). IsClean (option_map_or event_text o [])) (sym (slice_get-get_or g.events v some_event inside)) (events v some_event inside)

  -- the name of a place of its own
  place_clean : (k : ℕ) → k < length g.arcs → IsClean (place_name k)
  place_clean k inside = number_behind (codes "p") k (record { some = refl; none = refl }) (omega (arith, few, inside))

  -- the source of an arc
  source_clean : (k : ℕ) → k < length g.arcs → IsClean (text_of_event g (arc_at g k).source)
  source_clean k inside = event_clean (arc_at g k).source (kept.ends k (record { source = 0; target = 0; tokens = 0 }) inside).0

  -- the target of an arc
  end_clean : (k : ℕ) → k < length g.arcs → IsClean (text_of_event g (arc_at g k).target)
  end_clean k inside = event_clean (arc_at g k).target (kept.ends k (record { source = 0; target = 0; tokens = 0 }) inside).1

  -- what stands for an arc
  target_clean : (k : ℕ) → k < length g.arcs → IsClean (target_word g k)
  target_clean k inside = elim (cases_Bool (is_further g k)) [
    | inl further ↦ rw further (place_clean k inside)
    | inr first ↦ rw first (end_clean k inside)
  ]

  -- the same on the line of an event
  arc_clean : (v k : ℕ) → k < length g.arcs → AreClean (arc_words g v k)
  arc_clean v k inside = elim (cases_Bool ((arc_at g k).source == v)) [
    | inl here ↦ rw here (target_clean k inside, tt)
    | inr other ↦ rw other tt
  ]

  -- the line of an event
  event_plain : (v : ℕ) → v < length g.events → ArePlain (event_lines g v)
  event_plain v inside =
      behind_plain (text_of_event g v) (lists_below (arc_words g v) (length g.arcs)) (event_clean v inside)
      (each_below IsClean (arc_words g v) (length g.arcs) (arc_clean v))

  -- the line of a place
  place_plain : (k : ℕ) → k < length g.arcs → ArePlain (place_lines g k)
  place_plain k inside = elim (cases_Bool (is_further g k)) [
    | inl further ↦ rw further (clean_line (place_name k) (text_of_event g (arc_at g k).target ∷ []) (place_clean k inside, (end_clean k inside, tt)), tt)
    | inr first ↦ rw first tt
  ]

  -- an entry with its tokens
  entry_clean : (k : ℕ) → k < length g.arcs → IsClean (entry_name g k)
  entry_clean k inside = elim (cases_Bool (is_further g k)) [
    | inl further ↦ rw further (place_clean k inside)
    | inr first ↦ rw first
        (clean_behind (codes "<" ++ text_of_event g (arc_at g k).source ++ codes "," ++ text_of_event g (arc_at g k).target) (codes ">")
        (clean_behind (codes "<" ++ text_of_event g (arc_at g k).source ++ codes ",") (text_of_event g (arc_at g k).target)
        (clean_behind (codes "<" ++ text_of_event g (arc_at g k).source) (codes ",")
        (clean_behind (codes "<") (text_of_event g (arc_at g k).source) (record { some = refl; none = refl }) (source_clean k inside).none) refl)
        (end_clean k inside).none) refl)
  ]

  -- the tokens of an entry
  count_clean : (n : ℕ) → n < 256 → HasNo is_cut (tokens_text n)
  count_clean n low = elim (cases_Bool (ltb 1 n)) [
    | inl many ↦ rw many (number_behind (codes "=") n (record { some = refl; none = refl }) (omega (arith, low))).none
    | inr one ↦ rw one refl
  ]

  -- the entry of an arc
  words_clean : (k : ℕ) → k < length g.arcs → AreClean (entry_words g k)
  words_clean k inside = elim (cases_Bool (ltb 0 (arc_at g k).tokens)) [
    | inl some ↦ rw some (
      clean_behind (entry_name g k) (tokens_text (arc_at g k).tokens) (entry_clean k inside)
          (count_clean (arc_at g k).tokens (tokens k (record { source = 0; target = 0; tokens = 0 }) inside)),
      tt,
    )
    | inr none ↦ rw none tt
  ]

  -- the line of the marking
  marking_plain : IsPlain (marking_words g)
  marking_plain = clean_line (codes ".marking") (codes "{" ∷ (lists_below (entry_words g) (length g.arcs) ++ (codes "}" ∷ []))) (
    record { some = refl; none = refl },
    (
      record { some = refl; none = refl },
      both_all IsClean (lists_below (entry_words g) (length g.arcs)) (codes "}" ∷ [])
          (each_below IsClean (entry_words g) (length g.arcs) words_clean) (record { some = refl; none = refl }, tt),
    ),
  )

  -- the lines of the graph part
  body_plain : ArePlain (body_lines g)
  body_plain = both_all IsPlain (lists_below (event_lines g) (length g.events)) (lists_below (place_lines g) (length g.arcs))
      (each_below IsPlain (event_lines g) (length g.events) event_plain)
      (each_below IsPlain (place_lines g) (length g.arcs) place_plain)

  -- all lines behind those of the signals
  rest_plain : ArePlain (rest_lines g)
  rest_plain = (
    clean_line (codes ".graph") [] (record { some = refl; none = refl }, tt),
    both_all IsPlain (body_lines g) (marking_words g ∷ (codes ".end" ∷ []) ∷ []) body_plain
        (marking_plain, (clean_line (codes ".end") [] (record { some = refl; none = refl }, tt), tt)),
  )

  -- its lines are plain, under a name that is a word
  pub graph_plain : (name : List ℕ) → IsWord name → IsUncut name → (own : ℕ) (signals : List (List ℕ)) → AreClean signals → ArePlain (graph_words name own signals g)
  graph_plain name word uncut own signals are = (
    named_plain (codes ".model") name (record { some = refl; none = refl }) word uncut,
    (
      clean_line (codes ".outputs") (take own signals) (record { some = refl; none = refl }, each_take IsClean own signals are),
      both_all IsPlain (line_behind (codes ".internal") (drop own signals)) (rest_lines g)
          (behind_plain (codes ".internal") (drop own signals) (record { some = refl; none = refl }) (each_drop IsClean own signals are)) rest_plain,
    ),
  )
