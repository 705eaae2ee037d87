-- The text of a state is whole lines, none of which is the one word `firings`.
use Rattle.std.proofs.Common.{◌≡◌, ◌≢◌, ◌∙◌, ℕ, zero, suc, ◌+◌, ◌*◌, ◌<◌, ◌^◌, true, List, [], ◌∷◌, ◌++◌, length, refl, arith, ap, append_assoc, sym}
use Rattle.std.specs.Prelude.{codes, decimal}
use Rattle.std.specs.List.{AllByRecursion, flat_map, range_with_len}
use Rattle.ds_base.specs.Values.{Row}
use Rattle.ds_design.specs.Trace.{values_text}
use Rattle.ds_lines.specs.Line.{is_some}
use Rattle.ds_lines.specs.Print.{is_apart, IsPlain, IsWord, line_text, text_of}
use Rattle.ds_lines.proofs.ByteClasses.{lacks_both}
use Rattle.ds_lines.proofs.UncutWords.{IsClean, clean_line, clean_number, clean_uncut, clean_word, plain_line}
use Rattle.ds_latch.specs.Plan.{Planned}
use Rattle.ds_rows.specs.Log.{stored_text}
use Rattle.ds_rows.specs.Nets.{register_of}
use Rattle.ds_rows.specs.StateText.{IsStateText}
use Rattle.ds_replay.specs.Printed.{IsFront}
use Rattle.ds_rows.proofs.PrintedRows.{clean_values}
use Rattle.ds_laws.specs.Names.{IsPlainName}

-- a name with a colon is a word
some_before : (name : List ℕ) → is_some (name ++ codes ":") ≡ true
some_before [] = refl
some_before (byte ∷ name) = refl

name_is_word : (name : List ℕ) → IsPlainName name → IsWord (name ++ codes ":")
name_is_word name plain = record { some = some_before name; none = lacks_both is_apart name (codes ":") plain refl }

-- the line of a register
abbrev register_words : List ℕ → Row → List (List ℕ)
register_words name values = (name ++ codes ":") ∷ values_text values ∷ []

register_line : (name : List ℕ) (values : Row) (rest : List ℕ) → stored_text name values ++ rest ≡ line_text (register_words name values) ++ 10 ∷ rest
register_line name values rest =
    let text : List ℕ = values_text values in
    append_assoc (name ++ codes ": " ++ text) (codes "\n") rest
    ∙ ap (λ (t : List ℕ). t ++ 10 ∷ rest) (append_assoc name (codes ": ") text ∙ sym (append_assoc name (codes ":") (32 ∷ text)))

plain_register : (name : List ℕ) (values : Row) → IsPlainName name → IsPlain (register_words name values)
plain_register name values plain =
    let clean : IsClean (values_text values) = clean_values values in
    plain_line (register_words name values) (name_is_word name plain, (clean_word (values_text values) clean, tt)) (clean_uncut (values_text values) clean)

two_words : (a b word : List ℕ) → a ∷ b ∷ [] ≢ word ∷ []
two_words a b word e = absurd (let long : 2 ≡ 1 = ap length e in omega arith)

-- the line of the firings
abbrev fired_words : ℕ → ℕ → List (List ℕ)
fired_words fired most = codes "fired" ∷ decimal fired ∷ codes "of" ∷ decimal most ∷ []

fired_in_words : (fired most : ℕ) → codes "fired " ++ decimal fired ++ codes " of " ++ decimal most ≡ line_text (fired_words fired most)
fired_in_words fired most =
    append_assoc (codes "fired " ++ decimal fired) (codes " of ") (decimal most)
    ∙ append_assoc (codes "fired ") (decimal fired) (codes " of " ++ decimal most)

plain_fired : (fired most : ℕ) → fired < 2 ^ 64 → most < 2 ^ 64 → IsPlain (fired_words fired most)
plain_fired fired most small also =
    clean_line (codes "fired") (decimal fired ∷ codes "of" ∷ decimal most ∷ [])
    (record { some = refl; none = refl }, (clean_number fired small, (record { some = refl; none = refl }, (clean_number most also, tt))))

four_words : (a b c d word : List ℕ) → a ∷ b ∷ c ∷ d ∷ [] ≢ word ∷ []
four_words a b c d word e = absurd (let long : 4 ≡ 1 = ap length e in omega arith)

-- the lines of registers in front of others
module _ (name : ℕ → List ℕ) (values : ℕ → Row) (plain : (r : ℕ) → IsPlainName (name r)) where
  lines_from : ℕ → ℕ → List (List (List ℕ)) → List (List (List ℕ))
  lines_from a zero more = more
  lines_from a (suc n) more = register_words (name a) (values a) ∷ lines_from (a + 1) n more

  lines_text : (a n : ℕ) (more : List (List (List ℕ)))
      → flat_map (λ r. stored_text (name r) (values r)) (range_with_len a n) ++ text_of more ≡ text_of (lines_from a n more)
  unfolding lines_from
  lines_text a zero more = refl
  lines_text a (suc n) more =
      let behind : List ℕ = flat_map (λ r. stored_text (name r) (values r)) (range_with_len (a + 1) n) in
      append_assoc (stored_text (name a) (values a)) behind (text_of more)
      ∙ (register_line (name a) (values a) (behind ++ text_of more)
      ∙ ap (λ (t : List ℕ). line_text (register_words (name a) (values a)) ++ 10 ∷ t) (lines_text (a + 1) n more))

  lines_plain : (a n : ℕ) (more : List (List (List ℕ))) → AllByRecursion IsPlain more → AllByRecursion IsPlain (lines_from a n more)
  unfolding lines_from
  lines_plain a zero more are = are
  lines_plain a (suc n) more are = (plain_register (name a) (values a) (plain a), lines_plain (a + 1) n more are)

  lines_other : (a n : ℕ) (more : List (List (List ℕ))) → AllByRecursion (λ words. words ≢ codes "firings" ∷ []) more
      → AllByRecursion (λ words. words ≢ codes "firings" ∷ []) (lines_from a n more)
  unfolding lines_from
  lines_other a zero more are = are
  lines_other a (suc n) more are = (two_words (name a ++ codes ":") (values_text (values a)) (codes "firings"), lines_other (a + 1) n more are)

pub state_is_front : (p : Planned) → ((r : ℕ) → IsPlainName (register_of p.split.circuit r)) → (vectors : List Row) (events text : List ℕ)
    → length events < 2 ^ 64 → length p.graph.events * length vectors < 2 ^ 64
    → IsStateText p vectors events text → IsFront text
state_is_front p plain vectors events text small most is =
    let name : ℕ → List ℕ = λ r. register_of p.split.circuit r in
    let n : ℕ = length p.split.circuit.registers in
    let last : List (List (List ℕ)) = fired_words (length events) (length p.graph.events * length vectors) ∷ [] in record {
      lines = lines_from name is.values plain 0 n last;
      spelt = is.spelt
          ∙ (ap (λ (t : List ℕ). flat_map (λ r. stored_text (name r) (is.values r)) (range_with_len 0 n) ++ t) (ap (λ (t : List ℕ). t ++ codes "\n") (fired_in_words (length events) (length p.graph.events * length vectors)))
          ∙ lines_text name is.values plain 0 n last);
      plain = lines_plain name is.values plain 0 n last (plain_fired (length events) (length p.graph.events * length vectors) small most, tt);
      other = lines_other name is.values plain 0 n last (four_words (codes "fired") (decimal (length events)) (codes "of") (decimal (length p.graph.events * length vectors)) (codes "firings"), tt);
    }
