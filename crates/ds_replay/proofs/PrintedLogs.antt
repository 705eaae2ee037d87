-- The text of a legal list is read and fired to the list's end.
use Rattle.std.proofs.Common.{◌≡◌, ◌≢◌, ◌∙◌, ◌==◌, ℕ, suc, zero, ◌+◌, ◌<◌, ◌≤◌, ◌^◌, true, false, List, [], ◌∷◌, ◌++◌, length, drop, get_or, map, Ok, inl, inr, refl, arith, ap, append_assoc, sym, subst}
use Rattle.std.specs.Prelude.{nat_lt, codes, decimal, All}
use Rattle.std.specs.List.{AllByRecursion, flat_map, position_or_len, range_with_len}
use Rattle.std.specs.Str.{bytes_eq}
use Rattle.std.proofs.lemmas.Bool.{cases_Bool, lt-ltb, le-ltb}
use Rattle.std.proofs.lemmas.Bool.Decides.{eqb_tells}
use Rattle.std.proofs.lemmas.Fmt.{decimal_is_IsNumeral, length-decimal-le}
use Rattle.std.proofs.lemmas.Slice.Eq.{bytes_eq-Decides}
use Rattle.ds_base.specs.Values.{Row}
use Rattle.ds_base.specs.declared.value.Value.TheVariants.{Zero}
use Rattle.ds_design.specs.Circuit.{Circuit}
use Rattle.ds_design.specs.Trace.{IsTrace, end_line, trace_line, values_text}
use Rattle.ds_lines.specs.Line.{Line, lines_of}
use Rattle.ds_lines.specs.Print.{IsPlain, IsWord, line_text, numbered_lines, text_of}
use Rattle.ds_lines.proofs.PrintedLines.{lines_of-text_of}
use Rattle.ds_lines.proofs.UncutWords.{IsClean, clean_line, clean_number, clean_uncut, clean_word, plain_line}
use Rattle.ds_rows.proofs.PrintedRows.{clean_values}
use Rattle.ds_marked.specs.Graph.{Graph, IsLegal, IsLegalFrom, counted}
use Rattle.ds_marked.specs.Log.{event_text, IsLegalLogFrom, IsLog, IsLogFrom}
use Rattle.ds_replay.specs.Replay.{is_firings, log_of, replay_from, replay_of, start_of}
use Rattle.ds_replay.specs.Legal.{words_of_lines}
use Rattle.ds_replay.specs.Printed.{HasOwnWords, IsFront}
use Rattle.ds_replay.proofs.LineFaults.{any_event, event_is, event_within}
use Rattle.ds_replay.proofs.LogLines.{fires}

other_byte : (b c : ℕ) → b ≢ c → (b == c) ≡ false
other_byte b c ne = elim (eqb_tells b c) [ inl (is, e) ↦ absurd (ne e) | inr (is, differ) ↦ is ]

-- a line of a log
plain_firing : (name turn : List ℕ) → IsWord name → IsClean turn → IsPlain (name ∷ turn ∷ [])
plain_firing name turn word clean = plain_line (name ∷ turn ∷ []) (word, (clean_word turn clean, tt)) (clean_uncut turn clean)

-- the lines of a log
record IsLogged (g : Graph) (limit : ℕ) (count : ℕ → ℕ) (events text : List ℕ) : Type 0 where
  lines : List (List (List ℕ))
  spelt : text ≡ text_of lines
  plain : AllByRecursion IsPlain lines
  other : AllByRecursion (λ words. words ≢ codes "firings" ∷ []) lines
  legal : IsLegalLogFrom g limit count lines events

two_words : (name turn word : List ℕ) → name ∷ turn ∷ [] ≢ word ∷ []
two_words name turn word e = absurd (let long : 2 ≡ 1 = ap length e in omega arith)

logged : (g : Graph) → All (λ e. IsWord (event_text e)) g.events → (limit : ℕ) → limit < 10 ^ 10 → (events : List ℕ) (count : ℕ → ℕ) (text : List ℕ)
    → IsLegalFrom g limit count events → IsLogFrom g count events text → IsLogged g limit count events text
logged g words limit low [] count text legal log = record { lines = []; spelt = log; plain = tt; other = tt; legal = tt }
logged g words limit low (v ∷ events) count text (enabled, legal) (name, rest, is_event, log, spelt) =
    let more : IsLogged g limit (counted v count) events rest = logged g words limit low events (counted v count) rest legal log in
    let turn : List ℕ = decimal (count v + 1) in
    let below : count v < limit = enabled.below in
    let small : count v + 1 < 2 ^ 64 = omega arith in
    let (numeral, same) = decimal_is_IsNumeral (count v + 1) small in
    let short : length (decimal (count v + 1)) ≤ 10 = length-decimal-le 10 (count v + 1) (omega arith) (omega arith) small in
    let inside : v < length g.events = event_within g v name is_event in
    let word : IsWord name = subst IsWord (sym (event_is g v name is_event)) (words v any_event inside) in
    record {
      lines = (name ∷ turn ∷ []) ∷ more.lines;
      spelt = spelt ∙ (ap (λ (text : List ℕ). name ++ codes " " ++ turn ++ codes "\n" ++ text) more.spelt
          ∙ (append_assoc (name ++ codes " " ++ turn) (codes "\n") (text_of more.lines)
          ∙ ap (λ (front : List ℕ). front ++ 10 ∷ text_of more.lines) (append_assoc name (codes " ") turn)));
      plain = (plain_firing name turn word (clean_number (count v + 1) small), more.plain);
      other = (two_words name turn (codes "firings"), more.other);
      legal = (
        record {
          name = name;
          turn = turn;
          two_words = refl;
          is_number = (numeral.0, short, numeral.1);
          is_event = is_event;
          next = same;
          enabled = enabled;
        },
        more.legal,
      );
    }

-- lines with their numbers
words_numbered : (n : ℕ) (lines : List (List (List ℕ))) → words_of_lines (numbered_lines n lines) ≡ lines
words_numbered n [] = refl
words_numbered n (words ∷ lines) = ap (λ (ls : List (List (List ℕ))). words ∷ ls) (words_numbered (n + 1) lines)

-- a line that is not the one word
not_firings : (n : ℕ) (words : List (List ℕ)) → words ≢ codes "firings" ∷ [] → is_firings (record { number = n; words = words }) ≡ false
not_firings n [] other = refl
not_firings n (word ∷ []) other = elim (cases_Bool (bytes_eq word (codes "firings"))) [
  | inl same ↦ absurd (other (ap (λ (w : List ℕ). w ∷ []) ((bytes_eq-Decides word (codes "firings")).0 same)))
  | inr differ ↦ rw differ refl
]
not_firings n (word ∷ next ∷ words) other =
    let many : (length (word ∷ next ∷ words) == 1) ≡ false = other_byte (length (word ∷ next ∷ words)) 1 (λ e. omega (arith, e)) in
    rw many refl

-- where no line is the one word, all are read
read_from : (lines : List (List (List ℕ))) (n : ℕ) → AllByRecursion (λ words. words ≢ codes "firings" ∷ []) lines
    → position_or_len is_firings (numbered_lines n lines) ≡ length (numbered_lines n lines)
read_from [] n other = refl
read_from (words ∷ lines) n (here, behind) = rw (not_firings n words here, read_from lines (n + 1) behind) (let e : 1 + length (numbered_lines (n + 1) lines) ≡ suc (length (numbered_lines (n + 1) lines)) = omega arith in e)

all_read : (lines : List (List (List ℕ))) → AllByRecursion (λ words. words ≢ codes "firings" ∷ []) lines → log_of (numbered_lines 1 lines) ≡ numbered_lines 1 lines
all_read lines other =
    let none : nat_lt (position_or_len is_firings (numbered_lines 1 lines)) (length (numbered_lines 1 lines)) ≡ false = le-ltb _ _ (omega (arith, read_from lines 1 other)) in
    rw none refl

-- behind the first such line
abbrev word : List (List ℕ)
word = codes "firings" ∷ []

found_at : (front lines : List (List (List ℕ))) (n : ℕ) → AllByRecursion (λ words. words ≢ codes "firings" ∷ []) front
    → position_or_len is_firings (numbered_lines n (front ++ word ∷ lines)) ≡ length front
found_at [] lines n other = refl
found_at (words ∷ front) lines n (here, behind) = rw (not_firings n words here, found_at front lines (n + 1) behind) (let e : 1 + length front ≡ suc (length front) = omega arith in e)

long_behind : (front lines : List (List (List ℕ))) (n : ℕ) → length front < length (numbered_lines n (front ++ word ∷ lines))
long_behind [] lines n = omega arith
long_behind (words ∷ front) lines n = (let more : length front < length (numbered_lines (n + 1) (front ++ word ∷ lines)) = long_behind front lines (n + 1) in omega arith)

dropped : (front lines : List (List (List ℕ))) (n : ℕ) → drop (suc (length front)) (numbered_lines n (front ++ word ∷ lines)) ≡ numbered_lines (n + length front + 1) lines
dropped [] lines n = ap (λ (k : ℕ). numbered_lines k lines) (let e : n + 1 ≡ n + 0 + 1 = omega arith in e)
dropped (words ∷ front) lines n = dropped front lines (n + 1) ∙ ap (λ (k : ℕ). numbered_lines k lines) (let e : n + 1 + length front + 1 ≡ n + suc (length front) + 1 = omega arith in e)

read_behind : (front lines : List (List (List ℕ))) → AllByRecursion (λ words. words ≢ codes "firings" ∷ []) front
    → log_of (numbered_lines 1 (front ++ word ∷ lines)) ≡ numbered_lines (1 + length front + 1) lines
read_behind front lines other =
    let at : position_or_len is_firings (numbered_lines 1 (front ++ word ∷ lines)) ≡ length front = found_at front lines 1 other in
    let inside : nat_lt (position_or_len is_firings (numbered_lines 1 (front ++ word ∷ lines))) (length (numbered_lines 1 (front ++ word ∷ lines))) ≡ true =
    lt-ltb _ _ (let more : length front < length (numbered_lines 1 (front ++ word ∷ lines)) = long_behind front lines 1 in omega arith) in
    let begins : start_of (numbered_lines 1 (front ++ word ∷ lines)) ≡ suc (length front) = rw inside (omega (arith, at)) in
    ap (λ (k : ℕ). drop k (numbered_lines 1 (front ++ word ∷ lines))) begins ∙ dropped front lines 1

-- texts and facts of two lists of lines
text_of-append : (front lines : List (List (List ℕ))) → text_of (front ++ lines) ≡ text_of front ++ text_of lines
text_of-append [] lines = refl
text_of-append (words ∷ front) lines =
    ap (λ (text : List ℕ). line_text words ++ 10 ∷ text) (text_of-append front lines)
    ∙ sym (append_assoc (line_text words) (10 ∷ text_of front) (text_of lines))

plain_both : (front lines : List (List (List ℕ))) → AllByRecursion IsPlain front → AllByRecursion IsPlain lines → AllByRecursion IsPlain (front ++ lines)
plain_both [] lines plain more = more
plain_both (words ∷ front) lines (here, behind) more = (here, plain_both front lines behind more)

plain_word : IsPlain (codes "firings" ∷ [])
plain_word = clean_line (codes "firings") [] (record { some = refl; none = refl }, tt)

fires_numbered : (g : Graph) → HasOwnWords g → (limit n : ℕ) (lines : List (List (List ℕ))) (events : List ℕ) → IsLegalLogFrom g limit (λ _. 0) lines events
    → replay_from g limit (λ _. 0) (numbered_lines n lines) ≡ Ok events
fires_numbered g has limit n lines events legal =
    fires g has.own limit (λ _. 0) (numbered_lines n lines) events
    (subst (λ (ls : List (List (List ℕ))). IsLegalLogFrom g limit (λ _. 0) ls events) (sym (words_numbered n lines)) legal)

pub printed : (g : Graph) → HasOwnWords g → (limit : ℕ) → limit < 10 ^ 10 → (events log : List ℕ) → IsLegal g limit events → IsLog g events log
    → replay_of g limit (lines_of log) ≡ Ok events
printed g has limit low events log legal is =
    let all : IsLogged g limit (λ _. 0) events log = logged g has.words limit low events (λ _. 0) log legal is in
    let read : lines_of log ≡ numbered_lines 1 all.lines = ap lines_of all.spelt ∙ lines_of-text_of all.lines all.plain in
    ap (λ (ls : List Line). replay_from g limit (λ _. 0) ls) (ap log_of read ∙ all_read all.lines all.other)
    ∙ fires_numbered g has limit 1 all.lines events all.legal

pub printed_behind : (g : Graph) → HasOwnWords g → (limit : ℕ) → limit < 10 ^ 10 → (events log : List ℕ) → IsLegal g limit events → IsLog g events log
    → (front : List ℕ) → IsFront front → replay_of g limit (lines_of (front ++ codes "firings\n" ++ log)) ≡ Ok events
printed_behind g has limit low events log legal is front before =
    let all : IsLogged g limit (λ _. 0) events log = logged g has.words limit low events (λ _. 0) log legal is in
    let whole : front ++ codes "firings\n" ++ log ≡ text_of (before.lines ++ word ∷ all.lines) =
    ap (λ (text : List ℕ). text ++ codes "firings\n" ++ log) before.spelt
    ∙ (ap (λ (text : List ℕ). text_of before.lines ++ codes "firings\n" ++ text) all.spelt
    ∙ (append_assoc (text_of before.lines) (codes "firings\n") (text_of all.lines)
    ∙ sym (text_of-append before.lines (word ∷ all.lines)))) in
    let read : lines_of (front ++ codes "firings\n" ++ log) ≡ numbered_lines 1 (before.lines ++ word ∷ all.lines) =
    ap lines_of whole ∙ lines_of-text_of (before.lines ++ word ∷ all.lines) (plain_both before.lines (word ∷ all.lines) before.plain (plain_word, all.plain)) in
    ap (λ (ls : List Line). replay_from g limit (λ _. 0) ls) (ap log_of read ∙ read_behind before.lines all.lines before.other)
    ∙ fires_numbered g has limit (1 + length before.lines + 1) all.lines events all.legal

-- the lines of a trace
abbrev turn_words : ℕ → Row → Row → List (List ℕ)
turn_words k outputs registers = decimal k ∷ values_text outputs ∷ values_text registers ∷ []

turn_line : (k : ℕ) (outputs registers : Row) (rest : List ℕ) → trace_line k outputs registers ++ rest ≡ line_text (turn_words k outputs registers) ++ 10 ∷ rest
turn_line k outputs registers rest =
    let number : List ℕ = decimal k in
    let out : List ℕ = values_text outputs in
    let reg : List ℕ = values_text registers in
    append_assoc (number ++ codes " " ++ out ++ codes " " ++ reg) (codes "\n") rest
    ∙ ap (λ (text : List ℕ). text ++ 10 ∷ rest)
    (append_assoc (number ++ codes " " ++ out) (codes " ") reg
    ∙ (append_assoc (number ++ codes " ") out (32 ∷ reg) ∙ append_assoc number (codes " ") (out ++ 32 ∷ reg)))

plain_turn : (k : ℕ) (outputs registers : Row) → k < 2 ^ 64 → IsPlain (turn_words k outputs registers)
plain_turn k outputs registers small =
    clean_line (decimal k) (values_text outputs ∷ values_text registers ∷ []) (clean_number k small, (clean_values outputs, (clean_values registers, tt)))

three_words : (a b c d : List ℕ) → a ∷ b ∷ c ∷ [] ≢ d ∷ []
three_words a b c d e = absurd (let long : 3 ≡ 1 = ap length e in omega arith)

-- the lines from a turn on, in front of others
abbrev turns_from : ℕ → (ℕ → Row) → (ℕ → Row) → ℕ → ℕ → List (List (List ℕ))
turns_from first outputs registers a zero = []
turns_from first outputs registers a (suc n) = turn_words (first + a) (outputs a) (registers a) ∷ turns_from first outputs registers (a + 1) n

turns_text : (first : ℕ) (outputs registers : ℕ → Row) (a n : ℕ) → flat_map (λ k. trace_line (first + k) (outputs k) (registers k)) (range_with_len a n) ≡ text_of (turns_from first outputs registers a n)
turns_text first outputs registers a zero = refl
turns_text first outputs registers a (suc n) =
    turn_line (first + a) (outputs a) (registers a) (flat_map (λ k. trace_line (first + k) (outputs k) (registers k)) (range_with_len (a + 1) n))
    ∙ ap (λ (text : List ℕ). line_text (turn_words (first + a) (outputs a) (registers a)) ++ 10 ∷ text) (turns_text first outputs registers (a + 1) n)

turns_plain : (first : ℕ) (outputs registers : ℕ → Row) (a n : ℕ) → first + a + n ≤ 2 ^ 64 → AllByRecursion IsPlain (turns_from first outputs registers a n)
turns_plain first outputs registers a zero small = tt
turns_plain first outputs registers a (suc n) small = (plain_turn (first + a) (outputs a) (registers a) (omega arith), turns_plain first outputs registers (a + 1) n (omega arith))

turns_other : (first : ℕ) (outputs registers : ℕ → Row) (a n : ℕ) → AllByRecursion (λ words. words ≢ codes "firings" ∷ []) (turns_from first outputs registers a n)
turns_other first outputs registers a zero = tt
turns_other first outputs registers a (suc n) = (three_words (decimal (first + a)) (values_text (outputs a)) (values_text (registers a)) (codes "firings"), turns_other first outputs registers (a + 1) n)

-- the last line
last_plain : (row : Row) → IsPlain (codes "end" ∷ values_text row ∷ [])
last_plain row = clean_line (codes "end") (values_text row ∷ []) (record { some = refl; none = refl }, (clean_values row, tt))

last_line : (row : Row) → end_line row ≡ text_of ((codes "end" ∷ values_text row ∷ []) ∷ [])
last_line row = refl

other_both : (front lines : List (List (List ℕ))) → AllByRecursion (λ words. words ≢ codes "firings" ∷ []) front → AllByRecursion (λ words. words ≢ codes "firings" ∷ []) lines
    → AllByRecursion (λ words. words ≢ codes "firings" ∷ []) (front ++ lines)
other_both [] lines other more = more
other_both (words ∷ front) lines (here, behind) more = (here, other_both front lines behind more)

pub trace_is_front : (c : Circuit) (vectors : List Row) (trace : List ℕ) → length vectors < 2 ^ 64 → IsTrace c vectors trace → IsFront trace
trace_is_front c vectors trace small is =
    let run = is.is_trace in
    let outputs : ℕ → Row = λ k. map (λ net. get_or (is.is_trace.nets k) net Zero) c.outputs in
    let front : List (List (List ℕ)) = turns_from 0 outputs is.is_trace.state 0 (length vectors) in
    let last : List (List (List ℕ)) = (codes "end" ∷ values_text is.last ∷ []) ∷ [] in
    record {
      lines = front ++ last;
      spelt = is.spelt ∙ (ap (λ (text : List ℕ). text ++ end_line is.last) (is.is_trace.spelt ∙ turns_text 0 outputs is.is_trace.state 0 (length vectors))
          ∙ (ap (λ (text : List ℕ). text_of front ++ text) (last_line is.last) ∙ sym (text_of-append front last)));
      plain = plain_both front last (turns_plain 0 outputs is.is_trace.state 0 (length vectors) (omega arith)) (last_plain is.last, tt);
      other = other_both front last (turns_other 0 outputs is.is_trace.state 0 (length vectors)) (two_words (codes "end") (values_text is.last) (codes "firings"), tt);
    }
