-- The text of a graph, line by line.
use Rattle.std.proofs.Common.{◌≡◌, ℕ, zero, suc, List, [], ◌∷◌, ◌++◌, length, refl, sym, ◌∙◌, ap, inl, inr, ltb, ◌==◌, take, drop, ◌*◌, arith, append-nil, append_assoc, codes}
use Rattle.std.specs.List.{flat_map}
use Rattle.std.proofs.lemmas.Bool.{cases_Bool}
use Rattle.std.proofs.Math.Seq.{take-nil, drop-nil}
use Rattle.ds_lines.specs.Line.{lines_of}
use Rattle.ds_lines.specs.Print.{line_text, text_of}
use Rattle.ds_lines.proofs.PrintedLines.{lines_of-text_of}
use Rattle.ds_marked.specs.Graph.{Graph}
use Rattle.ds_marked.specs.declared.marked.Event.{Event}
use Rattle.ds_marked.specs.declared.marked.Kind.TheVariants.{Rise, Fall}
use Rattle.ds_astg.specs.Pieces.{all_below, line_with}
use Rattle.ds_marked.specs.Log.{text_of_event}
use Rattle.ds_astg.specs.Text.{arc_at, is_further, place_name, entry_name, tokens_text, arc_text, event_line, place_line, entry_text, signal_of, signals_text, graph_text}
use Rattle.ds_astg.specs.Read.{graph_of_lines, events_of_signal}
use Rattle.ds_text_laws.specs.AstgText.{IsReadable, WrittenTextIsRead, graph_words, rest_lines, body_lines, marking_words, lists_below, target_word, arc_words, line_behind, event_lines, place_lines, entry_words}
use Rattle.ds_text_laws.proofs.WrittenGraphs.{written_is_read}

-- words, each with a blank before it
spaced : List (List ℕ) → List ℕ
spaced [] = []
spaced (word ∷ words) = 32 ∷ (word ++ spaced words)

spaced-append : (xs ys : List (List ℕ)) → spaced (xs ++ ys) ≡ spaced xs ++ spaced ys
unfolding spaced
spaced-append [] ys = refl
spaced-append (word ∷ xs) ys = ap (λ (t : List ℕ). 32 ∷ (word ++ t)) (spaced-append xs ys) ∙ ap (λ (t : List ℕ). 32 ∷ t) (sym (append_assoc word (spaced xs) (spaced ys)))

line_is : (word : List ℕ) (words : List (List ℕ)) → line_text (word ∷ words) ≡ word ++ spaced words
unfolding spaced
line_is word [] = sym (append-nil word)
line_is word (next ∷ words) = ap (λ (t : List ℕ). word ++ 32 ∷ t) (line_is next words)

text-append : (xs ys : List (List (List ℕ))) → text_of (xs ++ ys) ≡ text_of xs ++ text_of ys
text-append [] ys = refl
text-append (words ∷ xs) ys = ap (λ (t : List ℕ). line_text words ++ 10 ∷ t) (text-append xs ys) ∙ sym (append_assoc (line_text words) (10 ∷ text_of xs) (text_of ys))

-- pieces that are words
pieces_words : (piece : ℕ → List ℕ) (words : ℕ → List (List ℕ)) → ((k : ℕ) → piece k ≡ spaced (words k)) → (n : ℕ) → all_below piece n ≡ spaced (lists_below words n)
unfolding spaced
pieces_words piece words each zero = refl
pieces_words piece words each (suc n) = ap (λ (t : List ℕ). t ++ piece n) (pieces_words piece words each n)
    ∙ (ap (λ (t : List ℕ). spaced (lists_below words n) ++ t) (each n) ∙ sym (spaced-append (lists_below words n) (words n)))

-- pieces that are lines
pieces_lines : (piece : ℕ → List ℕ) (lines : ℕ → List (List (List ℕ))) → ((k : ℕ) → piece k ≡ text_of (lines k)) → (n : ℕ) → all_below piece n ≡ text_of (lists_below lines n)
pieces_lines piece lines each zero = refl
pieces_lines piece lines each (suc n) = ap (λ (t : List ℕ). t ++ piece n) (pieces_lines piece lines each n)
    ∙ (ap (λ (t : List ℕ). text_of (lists_below lines n) ++ t) (each n) ∙ sym (text-append (lists_below lines n) (lines n)))

one_word : (word : List ℕ) → 32 ∷ word ≡ spaced (word ∷ [])
unfolding spaced
one_word word = ap (λ (t : List ℕ). 32 ∷ t) (sym (append-nil word))

arc_is : (g : Graph) (v k : ℕ) → arc_text g v k ≡ spaced (arc_words g v k)
unfolding spaced
arc_is g v k = elim (cases_Bool ((arc_at g k).source == v)) [
  | inl e ↦ rw e (one_word (target_word g k))
  | inr e ↦ rw e refl
]

behind_is : (word : List ℕ) (words : List (List ℕ)) → line_with word (spaced words) ≡ text_of (line_behind word words)
unfolding spaced
behind_is word [] = refl
behind_is word (next ∷ words) = ap (λ (t : List ℕ). t ++ 10 ∷ []) (sym (line_is word (next ∷ words)))

event_is : (g : Graph) (v : ℕ) → event_line g v ≡ text_of (event_lines g v)
event_is g v = ap (line_with (text_of_event g v)) (pieces_words (arc_text g v) (arc_words g v) (arc_is g v) (length g.arcs)) ∙ behind_is (text_of_event g v) (lists_below (arc_words g v) (length g.arcs))

place_is : (g : Graph) (k : ℕ) → place_line g k ≡ text_of (place_lines g k)
place_is g k = elim (cases_Bool (is_further g k)) [
  | inl e ↦ rw e (ap (λ (t : List ℕ). t ++ 10 ∷ []) (append_assoc (place_name k) (32 ∷ []) (text_of_event g (arc_at g k).target)))
  | inr e ↦ rw e refl
]

entry_is : (g : Graph) (k : ℕ) → entry_text g k ≡ spaced (entry_words g k)
unfolding spaced
entry_is g k = elim (cases_Bool (ltb 0 (arc_at g k).tokens)) [
  | inl e ↦ rw e (one_word (entry_name g k ++ tokens_text (arc_at g k).tokens))
  | inr e ↦ rw e refl
]

-- the events of the first signals, and those behind them
first_events : (own : ℕ) (signals : List (List ℕ)) → take (2 * own) (flat_map events_of_signal signals) ≡ flat_map events_of_signal (take own signals)
first_events zero signals = refl
first_events (suc own) [] = take-nil (2 * suc own)
first_events (suc own) (signal ∷ signals) =
    let e : 2 * suc own ≡ suc (suc (2 * own)) = omega arith in
    ap (λ (n : ℕ). take n (flat_map events_of_signal (signal ∷ signals))) e
    ∙ ap (λ (es : List Event). record { signal = signal; kind = Rise } ∷ record { signal = signal; kind = Fall } ∷ es) (first_events own signals)

further_events : (own : ℕ) (signals : List (List ℕ)) → drop (2 * own) (flat_map events_of_signal signals) ≡ flat_map events_of_signal (drop own signals)
further_events zero signals = refl
further_events (suc own) [] = drop-nil (2 * suc own)
further_events (suc own) (signal ∷ signals) =
    let e : 2 * suc own ≡ suc (suc (2 * own)) = omega arith in
    ap (λ (n : ℕ). drop n (flat_map events_of_signal (signal ∷ signals))) e ∙ further_events own signals

signals_are : (signals : List (List ℕ)) → flat_map signal_of (flat_map events_of_signal signals) ≡ spaced signals
unfolding spaced
signals_are [] = refl
signals_are (signal ∷ signals) = ap (λ (t : List ℕ). 32 ∷ (signal ++ t)) (signals_are signals)

-- the parts of the text: before the graph part, and the graph part
abbrev whole_text : (name outputs further rest : List ℕ) → List ℕ
whole_text name outputs further rest = codes ".model " ++ name ++ codes "\n" ++ (codes ".outputs" ++ outputs ++ codes "\n" ++ further) ++ rest

abbrev rest_text : (events places marks : List ℕ) → List ℕ
rest_text events places marks = codes ".graph\n" ++ events ++ places ++ codes ".marking {" ++ marks ++ codes " }\n.end\n"

-- both, piece by piece
abbrev flat_text : (name outputs further events places marks : List ℕ) → List ℕ
flat_text name outputs further events places marks =
    codes ".model " ++ name ++ codes "\n" ++ (codes ".outputs" ++ outputs ++ codes "\n" ++ further) ++ codes ".graph\n" ++ events ++ places ++ codes ".marking {" ++ marks ++ codes " }\n.end\n"

flat_shape : (name outputs further events places marks : List ℕ) → flat_text name outputs further events places marks ≡ whole_text name outputs further (rest_text events places marks)
flat_shape name outputs further events places marks =
    let x = codes ".model " ++ name ++ codes "\n" ++ (codes ".outputs" ++ outputs ++ codes "\n" ++ further) in
    let graph = codes ".graph\n" in
    let brace = codes ".marking {" in
    let end = codes " }\n.end\n" in
    ap (λ (t : List ℕ). t ++ end)
    (ap (λ (t : List ℕ). t ++ marks)
    (ap (λ (t : List ℕ). t ++ brace)
    (ap (λ (t : List ℕ). t ++ places) (append_assoc x graph events)
    ∙ append_assoc x (graph ++ events) places)
    ∙ append_assoc x (graph ++ events ++ places) brace)
    ∙ append_assoc x (graph ++ events ++ places ++ brace) marks)
    ∙ append_assoc x (graph ++ events ++ places ++ brace ++ marks) end

-- the same, line by line
abbrev whole_lines : (name outputs further rest : List ℕ) → List ℕ
whole_lines name outputs further rest = (codes ".model" ++ 32 ∷ name) ++ 10 ∷ ((codes ".outputs" ++ outputs) ++ 10 ∷ (further ++ rest))

abbrev rest_text_lines : (events places marks : List ℕ) → List ℕ
rest_text_lines events places marks = codes ".graph" ++ 10 ∷ ((events ++ places) ++ ((codes ".marking" ++ 32 ∷ 123 ∷ (marks ++ 32 ∷ 125 ∷ [])) ++ 10 ∷ (codes ".end" ++ 10 ∷ [])))

-- two lines with more behind them
seam : (x y z : List ℕ) → ((x ++ 10 ∷ []) ++ y) ++ z ≡ x ++ 10 ∷ (y ++ z)
seam x y z = ap (λ (t : List ℕ). t ++ z) (append_assoc x (10 ∷ []) y) ∙ append_assoc x (10 ∷ y) z

whole_shape : (name outputs further rest : List ℕ) → whole_text name outputs further rest ≡ whole_lines name outputs further rest
whole_shape name outputs further rest =
    let x = codes ".model " ++ name in
    let o = codes ".outputs" ++ outputs in
    seam x (o ++ codes "\n" ++ further) rest ∙ ap (λ (t : List ℕ). x ++ 10 ∷ t) (seam o further rest)

rest_shape : (events places marks : List ℕ) → rest_text events places marks ≡ rest_text_lines events places marks
rest_shape events places marks = simp append_assoc refl

-- the graph part prints its lines
rest_is : (g : Graph) → rest_text (all_below (event_line g) (length g.events)) (all_below (place_line g) (length g.arcs)) (all_below (entry_text g) (length g.arcs)) ≡ text_of (rest_lines g)
unfolding spaced
rest_is g =
    let n = length g.arcs in
    let v = length g.events in
    let entries = lists_below (entry_words g) n in
    let tail = marking_words g ∷ (codes ".end" ∷ []) ∷ [] in
    let events : all_below (event_line g) v ≡ text_of (lists_below (event_lines g) v) = pieces_lines (event_line g) (event_lines g) (event_is g) v in
    let places : all_below (place_line g) n ≡ text_of (lists_below (place_lines g) n) = pieces_lines (place_line g) (place_lines g) (place_is g) n in
    let marks : all_below (entry_text g) n ≡ spaced entries = pieces_words (entry_text g) (entry_words g) (entry_is g) n in
    let left = ap (λ (t : List ℕ). rest_text t (all_below (place_line g) n) (all_below (entry_text g) n)) events
    ∙ (ap (λ (t : List ℕ). rest_text (text_of (lists_below (event_lines g) v)) t (all_below (entry_text g) n)) places
    ∙ ap (λ (t : List ℕ). rest_text (text_of (lists_below (event_lines g) v)) (text_of (lists_below (place_lines g) n)) t) marks) in
    let mark_line : line_text (marking_words g) ≡ codes ".marking" ++ 32 ∷ 123 ∷ (spaced entries ++ 32 ∷ 125 ∷ []) =
    line_is (codes ".marking") (codes "{" ∷ (entries ++ codes "}" ∷ [])) ∙ ap (λ (t : List ℕ). codes ".marking" ++ 32 ∷ 123 ∷ t) (spaced-append entries (codes "}" ∷ [])) in
    let body : text_of (body_lines g ++ tail) ≡ (text_of (lists_below (event_lines g) v) ++ text_of (lists_below (place_lines g) n)) ++ text_of tail =
    text-append (body_lines g) tail ∙ ap (λ (t : List ℕ). t ++ text_of tail) (text-append (lists_below (event_lines g) v) (lists_below (place_lines g) n)) in
    let last : text_of tail ≡ (codes ".marking" ++ 32 ∷ 123 ∷ (spaced entries ++ 32 ∷ 125 ∷ [])) ++ 10 ∷ (codes ".end" ++ 10 ∷ []) = ap (λ (t : List ℕ). t ++ 10 ∷ (codes ".end" ++ 10 ∷ [])) mark_line in
    let right : text_of (rest_lines g) ≡ rest_text_lines (text_of (lists_below (event_lines g) v)) (text_of (lists_below (place_lines g) n)) (spaced entries) =
    ap (λ (t : List ℕ). codes ".graph" ++ 10 ∷ t) body
    ∙ ap (λ (t : List ℕ). codes ".graph" ++ 10 ∷ ((text_of (lists_below (event_lines g) v) ++ text_of (lists_below (place_lines g) n)) ++ t)) last in
    left ∙ (rest_shape (text_of (lists_below (event_lines g) v)) (text_of (lists_below (place_lines g) n)) (spaced entries) ∙ sym right)

-- the text prints the lines
pub text_is : (name : List ℕ) (own : ℕ) (signals : List (List ℕ)) (g : Graph) → IsReadable signals g → graph_text name own g ≡ text_of (graph_words name own signals g)
unfolding spaced
text_is name own signals g readable =
    let first = take own signals in
    let more = drop own signals in
    let behind = line_behind (codes ".internal") more in
    let rest = rest_text (all_below (event_line g) (length g.events)) (all_below (place_line g) (length g.arcs)) (all_below (entry_text g) (length g.arcs)) in
    let outputs : signals_text (take (2 * own) g.events) ≡ spaced first =
    ap (λ (es : List Event). signals_text (take (2 * own) es)) readable.events ∙ (ap signals_text (first_events own signals) ∙ signals_are first) in
    let others : signals_text (drop (2 * own) g.events) ≡ spaced more =
    ap (λ (es : List Event). signals_text (drop (2 * own) es)) readable.events ∙ (ap signals_text (further_events own signals) ∙ signals_are more) in
    let further : line_with (codes ".internal") (signals_text (drop (2 * own) g.events)) ≡ text_of behind = ap (line_with (codes ".internal")) others ∙ behind_is (codes ".internal") more in
    let left = flat_shape name (signals_text (take (2 * own) g.events)) (line_with (codes ".internal") (signals_text (drop (2 * own) g.events)))
    (all_below (event_line g) (length g.events)) (all_below (place_line g) (length g.arcs)) (all_below (entry_text g) (length g.arcs))
    ∙ (ap (λ (t : List ℕ). whole_text name t (line_with (codes ".internal") (signals_text (drop (2 * own) g.events))) rest) outputs
    ∙ (ap (λ (t : List ℕ). whole_text name (spaced first) t rest) further
    ∙ ap (λ (t : List ℕ). whole_text name (spaced first) (text_of behind) t) (rest_is g))) in
    let right : text_of (graph_words name own signals g) ≡ whole_lines name (spaced first) (text_of behind) (text_of (rest_lines g)) =
    ap (λ (t : List ℕ). (codes ".model" ++ 32 ∷ name) ++ 10 ∷ (t ++ 10 ∷ text_of (behind ++ rest_lines g))) (line_is (codes ".outputs") first)
    ∙ ap (λ (t : List ℕ). (codes ".model" ++ 32 ∷ name) ++ 10 ∷ ((codes ".outputs" ++ spaced first) ++ 10 ∷ t)) (text-append behind (rest_lines g)) in
    left ∙ (whole_shape name (spaced first) (text_of behind) (text_of (rest_lines g)) ∙ sym right)

pub written_text_is_read : WrittenTextIsRead
written_text_is_read name own signals g readable plain =
    ap (λ (t : List ℕ). graph_of_lines (lines_of t)) (text_is name own signals g readable)
    ∙ (ap graph_of_lines (lines_of-text_of (graph_words name own signals g) plain) ∙ written_is_read name own signals g readable)
