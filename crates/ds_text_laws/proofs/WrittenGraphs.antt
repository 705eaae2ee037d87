-- All lines of a written graph.
use Rattle.std.proofs.Common.{◌≡◌, ◌≢◌, ℕ, suc, ◌+◌, ◌-◌, ◌<◌, ◌≤◌, true, false, List, [], ◌∷◌, ◌++◌, length, get_or, map, refl, sym, ◌∙◌, ap, subst, arith, take, drop, inl, inr, All, AllPairs, Option, Some, None, Result, Ok, if◌then◌else◌, ltb, append-nil, append_assoc, codes, slice_set}
use Rattle.std.specs.Str.{bytes_eq}
use Rattle.std.proofs.lemmas.Bool.{cases_Bool, cases_lt, lt-ltb, le-ltb}
use Rattle.std.proofs.lemmas.Slice.Eq.{bytes_eq-Decides}
use Rattle.std.proofs.lemmas.List.{length-append, length-map, map-append, get_or-map, get_or_append_left, get_or-append-add, take-append-drop, get_or_default, same_lists}
use Rattle.std.proofs.lemmas.List.Folds.{list_any_none}
use Rattle.std.proofs.lemmas.List.Sorted.{IsPermutation-refl}
use Rattle.std.proofs.Math.Seq.{get_or-append_seam}
use Rattle.ds_lines.specs.Words.{word_at}
use Rattle.ds_lines.specs.Print.{numbered_lines}
use Rattle.ds_lines.specs.Names.{has_name}
use Rattle.ds_astg.specs.Signals.{Declared, with_declared, role_of, may_have}
use Rattle.ds_astg.specs.declared.role.Role.{Role}
use Rattle.ds_astg.specs.declared.role.Role.TheVariants.{Signal, Dummy}
use Rattle.ds_marked.specs.Graph.{Graph}
use Rattle.ds_marked.specs.declared.marked.Arc.{Arc}
use Rattle.ds_marked.specs.declared.marked.Event.{Event}
use Rattle.ds_astg.specs.Word.{is_signal}
use Rattle.ds_astg.specs.Turn.{then_do, all_of}
use Rattle.ds_astg.specs.Place.{Places, Key, named, no_places, place_at}
use Rattle.ds_astg.specs.Marking.{mark, mark_all, entries_of, closed, last_word}
use Rattle.ds_astg.specs.Line.{State, graph_head_of, is_declaration, declare, declare_all, may_declare, with_marking}
use Rattle.ds_astg.specs.Read.{graph_of_lines, graph_from, end_of, graph_of_parts, lacking, lacks, arc_of, or_zero, in_order}
use Rattle.ds_astg.specs.Text.{arc_at}
use Rattle.ds_text_laws.specs.AstgText.{IsReadable, WrittenIsRead, graph_words, line_behind, body_lines, marking_words, lists_below, event_lines, place_lines, entry_words}
use Rattle.ds_astg.specs.declared.place.Place.{Place}
use Rattle.ds_astg.specs.declared.fault.AstgKind.{AstgKind}
use Rattle.ds_astg.proofs.Declared.{declare-new}
use Rattle.ds_text_laws.proofs.Names.{no_dummy, plain, plain_events}
use Rattle.ds_astg.proofs.ArcOrder.{sorted_is}
use Rattle.ds_text_laws.proofs.Built.{Built}
use Rattle.ds_text_laws.proofs.EventLines.{first_target, no_tokens, all_of-append, set_last}
use Rattle.ds_text_laws.proofs.GraphPartLines.{Runs, runs_append, events_run}
use Rattle.ds_text_laws.proofs.PlaceLines.{placed_target, full_target, entry_tokens, marked_tokens, built_same, places_run}
use Rattle.ds_text_laws.proofs.EntryLine.{marks_run}

-- signals that are declared one after another
declared : (done rest : List (List ℕ)) → AllPairs (λ a b. a ≢ b) (done ++ rest) → All (λ signal. is_signal signal ≡ true) rest → length (done ++ rest) ≤ 65536
    → all_of (declare Signal no_places) rest (plain done) ≡ Ok (plain (done ++ rest))
declared done [] distinct names few = ap (λ (xs : List (List ℕ)). Ok (plain xs)) (sym (append-nil done))
declared done (signal ∷ rest) distinct names few =
    let size = length-append done (signal ∷ rest) in
    let new : has_name done signal ≡ false = list_any_none (bytes_eq signal) done (λ k d inside. unlike k d inside) in
    let may : may_declare Signal no_places signal (plain done) ≡ true = rw (names 0 [] (omega arith)) (may_signal (role_of (plain done) signal) (no_dummy done signal)) in
    let shape_of : with_declared Signal signal (plain done) ≡ plain (done ++ signal ∷ []) =
    ap (λ (rs : List Role). record { names = done ++ signal ∷ []; roles = rs }) (sym (map-append (λ (_ : List ℕ). Signal) done (signal ∷ []))) in
    let one : declare Signal no_places signal (plain done) ≡ Ok (plain (done ++ signal ∷ [])) =
    declare-new Signal no_places signal (plain done) may new (omega (arith, size, few)) ∙ ap (λ (s : Declared). Ok s) shape_of in
    let shape : (done ++ signal ∷ []) ++ rest ≡ done ++ signal ∷ rest = append_assoc done (signal ∷ []) rest in
    let more : all_of (declare Signal no_places) rest (plain (done ++ signal ∷ [])) ≡ Ok (plain ((done ++ signal ∷ []) ++ rest)) = declared (done ++ signal ∷ []) rest
    (subst (λ (xs : List (List ℕ)). AllPairs (λ a b. a ≢ b) xs) (sym shape) distinct) (λ k d inside. names (suc k) d (omega (arith, inside)))
    (subst (λ (xs : List (List ℕ)). length xs ≤ 65536) (sym shape) few) in
    ap (λ (r : Result Declared AstgKind). then_do r (all_of (declare Signal no_places) rest)) one ∙ (more ∙ ap (λ (xs : List (List ℕ)). Ok (plain xs)) shape)
  where
    unlike : (k : ℕ) (d : List ℕ) → k < length done → bytes_eq signal (get_or done k d) ≡ false
    unlike k d inside = elim (cases_Bool (bytes_eq signal (get_or done k d))) [
      | inl same ↦ absurd (distinct k (length done) d inside (let l = length-append done (signal ∷ rest) in omega (arith, l))
          (get_or_append_left done (signal ∷ rest) d k inside ∙ (sym ((bytes_eq-Decides signal (get_or done k d)).0 same) ∙ sym (get_or-append_seam done signal rest d))))
      | inr differs ↦ differs
    ]

    may_signal : (role : Option Role) → role ≢ Some Dummy → may_have role Signal ≡ true
    may_signal None other = refl
    may_signal (Some Signal) other = refl
    may_signal (Some Dummy) other = absurd (other refl)

-- signals of which some are declared before the others
module _ (first more : List (List ℕ)) (distinct : AllPairs (λ a b. a ≢ b) (first ++ more)) (names : All (λ signal. is_signal signal ≡ true) (first ++ more)) (few : length (first ++ more) ≤ 65536) where
  first_declared : declare_all Signal no_places first (plain []) ≡ Ok (plain first)
  first_declared = let size = length-append first more in
      declared [] first
      (λ i j d order inside e. distinct i j d order (omega (arith, inside, size)) (get_or_append_left first more d i (omega (arith, order, inside)) ∙ (e ∙ sym (get_or_append_left first more d j inside))))
      (λ k d inside. subst (λ (w : List ℕ). is_signal w ≡ true) (get_or_append_left first more d k inside) (names k d (omega (arith, inside, size))))
      (omega (arith, few, size))

  more_declared : declare_all Signal no_places more (plain first) ≡ Ok (plain (first ++ more))
  more_declared = let size = length-append first more in
      declared first more distinct
      (λ k d inside. subst (λ (w : List ℕ). is_signal w ≡ true) (get_or-append-add first more k d) (names (length first + k) d (omega (arith, inside, size)))) few

-- what was read outside of the graph part
abbrev outside : Declared → State
outside signals = record { is_named = true; is_open = false; is_marked = false; signals = signals; places = no_places }

-- what was read in the graph part
abbrev pub in_graph : Declared → Places → State
in_graph signals ps = record { is_named = true; is_open = true; is_marked = false; signals = signals; places = ps }

-- a line of signals
outputs_line : (n : ℕ) (words : List (List ℕ)) (lines : List (List (List ℕ))) (s t : Declared) → declare_all Signal no_places words s ≡ Ok t
    → graph_from (numbered_lines n ((codes ".outputs" ∷ words) ∷ lines)) (outside s) ≡ graph_from (numbered_lines (n + 1) lines) (outside t)
unfolding graph_head_of is_declaration
outputs_line n words lines s t is = rw is refl

internal_line : (n : ℕ) (words : List (List ℕ)) (lines : List (List (List ℕ))) (s t : Declared) → declare_all Signal no_places words s ≡ Ok t
    → graph_from (numbered_lines n ((codes ".internal" ∷ words) ∷ lines)) (outside s) ≡ graph_from (numbered_lines (n + 1) lines) (outside t)
unfolding graph_head_of is_declaration
internal_line n words lines s t is = rw is refl

-- the line of further signals, where there are some, and that which opens the graph part
further_run : (first more : List (List ℕ)) (lines : List (List (List ℕ))) → declare_all Signal no_places more (plain first) ≡ Ok (plain (first ++ more))
    → graph_from (numbered_lines 3 (line_behind (codes ".internal") more ++ (codes ".graph" ∷ []) ∷ lines)) (outside (plain first))
    ≡ graph_from (numbered_lines (4 + length (line_behind (codes ".internal") more)) lines) (in_graph (plain (first ++ more)) no_places)
unfolding graph_head_of is_declaration
further_run first [] lines is = ap (λ (xs : List (List ℕ)). graph_from (numbered_lines 4 lines) (in_graph (plain xs) no_places)) (sym (append-nil first))
further_run first (signal ∷ more) lines is = internal_line 3 (signal ∷ more) ((codes ".graph" ∷ []) ∷ lines) (plain first) (plain (first ++ signal ∷ more)) is

body_from : (signals : Declared) (n : ℕ) (lines more : List (List (List ℕ))) (ps qs : Places) → Runs signals n lines ps qs
    → graph_from (numbered_lines n (lines ++ more)) (in_graph signals ps) ≡ graph_from (numbered_lines (n + length lines) more) (in_graph signals qs)
body_from signals n [] more ps qs run = ap (λ (k : ℕ). graph_from (numbered_lines k more) (in_graph signals ps)) (let e : n ≡ n + 0 = omega arith in e)
    ∙ ap (λ (p : Places). graph_from (numbered_lines (n + 0) more) (in_graph signals p)) run
body_from signals n (words ∷ lines) more ps qs (rs, body, one, rest) =
    let first : graph_from (numbered_lines n ((words ∷ lines) ++ more)) (in_graph signals ps) ≡ graph_from (numbered_lines (n + 1) (lines ++ more)) (in_graph signals rs) = rw (body, one) refl in
    first ∙ (body_from signals (n + 1) lines more rs qs rest
    ∙ ap (λ (k : ℕ). graph_from (numbered_lines k more) (in_graph signals qs)) (let e : (n + 1) + length lines ≡ n + suc (length lines) = omega arith in e))

-- entries between braces
braced : (entries : List (List ℕ)) → entries_of (codes "{" ∷ (entries ++ codes "}" ∷ [])) ≡ Some (([] ∷ entries) ++ [] ∷ [])
braced entries =
    let words : List (List ℕ) = ([] ∷ entries) ++ codes "}" ∷ [] in
    let size : length words - 1 ≡ length ([] ∷ entries) = (let l = length-append ([] ∷ entries) (codes "}" ∷ []) in omega (arith, l)) in
    let last : last_word words ≡ codes "}" = ap (word_at words) size ∙ get_or-append_seam ([] ∷ entries) (codes "}") [] [] in
    let cut : slice_set words (length words - 1) [] ≡ ([] ∷ entries) ++ [] ∷ [] = ap (λ (k : ℕ). slice_set words k []) size ∙ set_last ([] ∷ entries) (codes "}") [] in
    let h : closed words ≡ Some (slice_set words (length words - 1) []) = rw last refl in
    h ∙ ap (λ (ws : List (List ℕ)). Some ws) cut

marked_all : (signals : Declared) (entries : List (List ℕ)) (ps qs : Places) → all_of (mark signals) entries ps ≡ Ok qs → mark_all signals (([] ∷ entries) ++ [] ∷ []) ps ≡ Ok qs
marked_all signals entries ps qs run =
    all_of-append (mark signals) ([] ∷ entries) ([] ∷ []) ps ∙ (let h : all_of (mark signals) ([] ∷ entries) ps ≡ Ok qs = run in ap (λ (r : Result Places AstgKind). then_do r (all_of (mark signals) ([] ∷ []))) h)

-- no place lacks anything
whole : (keys : List Key) (places : List Place) → ((k : ℕ) → k < length places → lacks (get_or places k (named 0)) ≡ false) → lacking keys places ≡ None
whole [] places each = refl
whole (key ∷ keys) [] each = refl
whole (key ∷ keys) (place ∷ places) each = rw (each 0 (omega arith)) (whole keys places (λ k inside. each (suc k) (omega (arith, inside))))

module _ (signals : List (List ℕ)) (g : Graph) (readable : IsReadable signals g) where
  -- the arcs of the places are those of the graph
  arcs_are : (ps : Places) → Built g (length g.arcs) (full_target g) (marked_tokens g (length g.arcs)) ps → map arc_of ps.places ≡ g.arcs
  arcs_are ps built = same_lists (map arc_of ps.places) g.arcs (length-map ps.places arc_of ∙ built.place_count) each
    where
      number : (arc : Arc) → or_zero (if ltb 0 arc.tokens then Some arc.tokens else None) ≡ arc.tokens
      number arc = elim (cases_lt 0 arc.tokens) [
        | inl some ↦ (let e : ltb 0 arc.tokens ≡ true = lt-ltb 0 arc.tokens some in rw e refl)
        | inr none ↦ (let e : ltb 0 arc.tokens ≡ false = le-ltb 0 arc.tokens none in let z : 0 ≡ arc.tokens = omega (arith, none) in rw e z)
      ]

      one : (k : ℕ) → k < length g.arcs → arc_of (place_at ps k) ≡ arc_at g k
      one k inside =
          let source : or_zero (place_at ps k).source ≡ (arc_at g k).source = ap or_zero (built.sources k inside) in
          let target : or_zero (place_at ps k).target ≡ (arc_at g k).target = ap or_zero (built.targets k inside) in
          let tokens : or_zero (place_at ps k).tokens ≡ (arc_at g k).tokens = ap or_zero (built.marks k inside)
          ∙ (let e : marked_tokens g (length g.arcs) k ≡ entry_tokens g k = rw (lt-ltb k (length g.arcs) inside) refl in ap or_zero e ∙ number (arc_at g k)) in
          ap (λ (n : ℕ). record { source = n; target = or_zero (place_at ps k).target; tokens = or_zero (place_at ps k).tokens }) source
          ∙ (ap (λ (n : ℕ). record { source = (arc_at g k).source; target = n; tokens = or_zero (place_at ps k).tokens }) target
          ∙ ap (λ (n : ℕ). record { source = (arc_at g k).source; target = (arc_at g k).target; tokens = n }) tokens)

      each : (k : ℕ) (d : Arc) → k < length (map arc_of ps.places) → get_or (map arc_of ps.places) k d ≡ get_or g.arcs k d
      each k d inside =
          let low : k < length ps.places = (let l = length-map ps.places arc_of in omega (arith, l, inside)) in
          let under : k < length g.arcs = omega (arith, low, built.place_count) in
          get_or-map arc_of ps.places k (named 0) d low ∙ (one k under ∙ get_or_default g.arcs k (record { source = 0; target = 0; tokens = 0 }) d under)

  -- the end of the text
  ends_well : (ps : Places) (state : State) → state.signals ≡ plain signals → state.places ≡ ps → Built g (length g.arcs) (full_target g) (marked_tokens g (length g.arcs)) ps → end_of state ≡ Ok g
  ends_well ps state signals_are places_are built =
      let none : lacking ps.keys ps.places ≡ None = whole ps.keys ps.places (λ k inside.
      (let under : k < length g.arcs = omega (arith, inside, built.place_count) in
      let s = built.sources k under in let t = built.targets k under in
      let h : lacks (place_at ps k) ≡ false = rw (s, t) refl in h)) in
      let arcs : in_order (map arc_of ps.places) ≡ g.arcs = ap in_order (arcs_are ps built) ∙ sym (sorted_is g.arcs g.arcs (IsPermutation-refl g.arcs) readable.kept.sorted) in
      let graph : graph_of_parts (plain signals) ps ≡ g =
      ap (λ (es : List Event). record { events = es; arcs = in_order (map arc_of ps.places) }) (sym (readable.events ∙ plain_events signals))
      ∙ ap (λ (xs : List Arc). record { events = g.events; arcs = xs }) arcs in
      rw (signals_are, places_are) (rw none (ap (λ (h : Graph). Ok h) graph))

  -- the graph part leads to places with sources and targets
  body_run : (line : ℕ) → (ps : Places) × Runs (plain signals) line (body_lines g) no_places ps × Built g (length g.arcs) (full_target g) no_tokens ps
  body_run line =
      let n = length g.arcs in
      let (m, ps, events, built, prefix) = events_run signals g readable line (length g.events) (omega arith) in
      let none : Arc = record { source = 0; target = 0; tokens = 0 } in
      let all : m ≡ n = elim (cases_lt m n) [
        | inl low ↦ absurd (let a = prefix.above m (omega arith) low in let e = readable.kept.ends m none low in let h = a.0 in let k = e.0 in omega (arith, h, k))
        | inr high ↦ (let most = prefix.most in omega (arith, high, most))
      ] in
      let (qs, places, placed) = places_run signals g readable (line + length (lists_below (event_lines g) (length g.events))) n ps (omega arith)
      (subst (λ (k : ℕ). Built g k (first_target g) no_tokens ps) all built) in (
        qs,
        runs_append (plain signals) line (lists_below (event_lines g) (length g.events)) (lists_below (place_lines g) n) no_places ps qs events places,
        built_same g n (placed_target g n) no_tokens (full_target g) no_tokens qs placed
            (λ k low. let h : placed_target g n k ≡ Some (arc_at g k).target = rw (lt-ltb k n low) refl in h) (λ k low. refl),
      )

  -- the lines before the graph part
  head_run : (name : List ℕ) (own : ℕ) (lines : List (List (List ℕ)))
      → graph_of_lines (numbered_lines 1 ((codes ".model" ∷ name ∷ []) ∷ (codes ".outputs" ∷ take own signals) ∷ (line_behind (codes ".internal") (drop own signals) ++ (codes ".graph" ∷ []) ∷ lines)))
      ≡ graph_from (numbered_lines (4 + length (line_behind (codes ".internal") (drop own signals))) lines) (in_graph (plain signals) no_places)
  unfolding graph_head_of is_declaration
  head_run name own lines =
      let first = take own signals in
      let more = drop own signals in
      let whole : first ++ more ≡ signals = take-append-drop own signals in
      let distinct : AllPairs (λ a b. a ≢ b) (first ++ more) = subst (λ (xs : List (List ℕ)). AllPairs (λ a b. a ≢ b) xs) (sym whole) readable.distinct in
      let names : All (λ signal. is_signal signal ≡ true) (first ++ more) = subst (λ (xs : List (List ℕ)). All (λ signal. is_signal signal ≡ true) xs) (sym whole) readable.names in
      let few : length (first ++ more) ≤ 65536 = subst (λ (xs : List (List ℕ)). length xs ≤ 65536) (sym whole) readable.few in
      outputs_line 2 first (line_behind (codes ".internal") more ++ (codes ".graph" ∷ []) ∷ lines) (plain []) (plain first) (first_declared first more distinct names few)
      ∙ (further_run first more lines (more_declared first more distinct names few)
      ∙ ap (λ (xs : List (List ℕ)). graph_from (numbered_lines (4 + length (line_behind (codes ".internal") more)) lines) (in_graph (plain xs) no_places)) whole)

  pub written : (name : List ℕ) (own : ℕ) → graph_of_lines (numbered_lines 1 (graph_words name own signals g)) ≡ Ok g
  unfolding graph_head_of is_declaration
  written name own =
      let n = length g.arcs in
      let from = 4 + length (line_behind (codes ".internal") (drop own signals)) in
      let (ps, run, built) = body_run from in
      let (qs, marks, marked) = marks_run signals g readable n ps (omega arith) built in
      let tail = marking_words g ∷ (codes ".end" ∷ []) ∷ [] in
      let entries = lists_below (entry_words g) n in
      let head : graph_of_lines (numbered_lines 1 (graph_words name own signals g)) ≡ graph_from (numbered_lines from (body_lines g ++ tail)) (in_graph (plain signals) no_places) = head_run name own (body_lines g ++ tail) in
      let body = body_from (plain signals) from (body_lines g) tail no_places ps run in
      let line = from + length (body_lines g) in
      let all : mark_all (plain signals) (([] ∷ entries) ++ [] ∷ []) ps ≡ Ok qs = marked_all (plain signals) entries ps qs marks in
      let brace : entries_of (codes "{" ∷ (entries ++ codes "}" ∷ [])) ≡ Some (([] ∷ entries) ++ [] ∷ []) = braced entries in
      let state = with_marking (in_graph (plain signals) ps) qs in
      let last : graph_from (numbered_lines line tail) (in_graph (plain signals) ps) ≡ end_of state = rw (brace, all) refl in
      head ∙ (body ∙ (last ∙ ends_well qs state refl refl marked))

pub written_is_read : WrittenIsRead
written_is_read name own signals g readable = written signals g readable name own
