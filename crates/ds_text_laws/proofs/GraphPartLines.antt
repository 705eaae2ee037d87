-- Lines of the graph part, one after another.
use Rattle.std.proofs.Common.{◌≡◌, ℕ, zero, suc, ◌+◌, ◌<◌, ◌≤◌, false, List, [], ◌∷◌, ◌++◌, length, refl, sym, ◌∙◌, subst, arith, inl, inr, Ok, nat_lt}
use Rattle.std.proofs.lemmas.Bool.{cases_eq, le-ltb}
use Rattle.ds_lines.specs.Words.{word_at}
use Rattle.ds_marked.specs.Graph.{Graph}
use Rattle.ds_astg.specs.Turn.{all_of}
use Rattle.ds_astg.specs.Signals.{Declared}
use Rattle.ds_astg.specs.Node.{node_of_word}
use Rattle.ds_astg.specs.Node.Node.{Event as EventNode}
use Rattle.ds_astg.specs.Place.{Places, no_places}
use Rattle.ds_astg.specs.Links.{link_word, graph_line}
use Rattle.ds_astg.specs.Line.{graph_head_of}
use Rattle.ds_astg.specs.declared.head.Head.TheVariants.{Body}
use Rattle.ds_marked.specs.Log.{text_of_event}
use Rattle.ds_astg.specs.Text.{arc_at}
use Rattle.ds_text_laws.specs.AstgText.{IsReadable, arc_words, lists_below, line_behind}
use Rattle.ds_text_laws.specs.AstgText.{event_lines}
use Rattle.ds_text_laws.proofs.Names.{plain, texts_read, dotless}
use Rattle.ds_astg.proofs.Soundness.{one_value}
use Rattle.ds_text_laws.proofs.Built.{Built}
use Rattle.ds_text_laws.proofs.EventLines.{IsPrefix, first_target, no_tokens, targets_read}

-- lines of the graph part lead from places to places
abbrev pub Runs : Declared → ℕ → List (List (List ℕ)) → Places → Places → Type 0
Runs signals n [] ps qs = ps ≡ qs
Runs signals n (words ∷ lines) ps qs =
    (rs : Places) × (graph_head_of (word_at words 0) ≡ Body) × (graph_line signals n words ps ≡ Ok rs) × Runs signals (n + 1) lines rs qs

pub runs_append : (signals : Declared) (n : ℕ) (xs ys : List (List (List ℕ))) (ps qs rs : Places) → Runs signals n xs ps qs → Runs signals (n + length xs) ys qs rs
    → Runs signals n (xs ++ ys) ps rs
runs_append signals n [] ys ps qs rs first second =
    subst (λ (k : ℕ). Runs signals k ys ps rs) (let e : n + 0 ≡ n = omega arith in e) (subst (λ (p : Places). Runs signals (n + 0) ys p rs) (sym first) second)
runs_append signals n (words ∷ xs) ys ps qs rs (next, body, one, rest) second = (
  next,
  body,
  one,
  runs_append signals (n + 1) xs ys next qs rs rest
      (subst (λ (k : ℕ). Runs signals k ys qs rs) (let e : n + suc (length xs) ≡ (n + 1) + length xs = omega arith in e) second),
)

-- a line of an event
pub line_run : (signals : Declared) (n v : ℕ) (word : List ℕ) (words : List (List ℕ)) (ps qs : Places) → graph_head_of word ≡ Body → node_of_word signals word ≡ Ok (EventNode v)
    → all_of (link_word signals n (EventNode v)) words ps ≡ Ok qs → Runs signals n (line_behind word words) ps qs
line_run signals n v word [] ps qs body read run = one_value ps qs run
line_run signals n v word (next ∷ words) ps qs body read run = (
  qs,
  body,
  (
      let more : nat_lt (length (word ∷ next ∷ words)) 2 ≡ false = le-ltb _ _ (omega arith) in
      let h : graph_line signals n (word ∷ next ∷ words) ps ≡ all_of (link_word signals n (EventNode v)) (next ∷ words) ps = rw read (rw more refl) in h ∙ run),
  refl,
)

-- all lines of events below a number
pub events_run : (signals : List (List ℕ)) (g : Graph) (readable : IsReadable signals g) (n v : ℕ) → v ≤ length g.events
    → (m : ℕ) × (qs : Places) × Runs (plain signals) n (lists_below (event_lines g) v) no_places qs × Built g m (first_target g) no_tokens qs × IsPrefix signals g readable n v 0 m
events_run signals g readable n zero most = (0, no_places, refl, nothing, first)
  where
    nothing : Built g 0 (first_target g) no_tokens no_places
    nothing = record {
      key_count = refl;
      place_count = refl;
      keys = λ k low. absurd (omega arith);
      sources = λ k low. absurd (omega arith);
      targets = λ k low. absurd (omega arith);
      marks = λ k low. absurd (omega arith);
    }

    first : IsPrefix signals g readable n 0 0 0
    first = record {
      most = omega arith;
      below = λ j low. absurd (omega arith);
      above = λ j high inside. (omega arith, λ _. omega arith);
    }
events_run signals g readable n (suc v) most =
    let (m, ps, run, built, prefix) = events_run signals g readable n v (omega (arith, most)) in
    let line = n + length (lists_below (event_lines g) v) in
    let inside : v < length g.events = omega (arith, most) in
    let (k, qs, targets, all, before) = targets_read signals g readable line v m ps built (moved line v 0 m prefix) (length g.arcs) (omega arith) in
    let here : Runs (plain signals) line (event_lines g v) ps qs = line_run (plain signals) line v (text_of_event g v) (lists_below (arc_words g v) (length g.arcs)) ps qs
    (dotless signals g readable v inside) (texts_read signals g readable v inside) targets in (
      k,
      qs,
      runs_append (plain signals) n (lists_below (event_lines g) v) (event_lines g v) no_places ps qs run here,
      all,
      record {
        most = before.most;
        below = λ j low. elim (before.below j low) [
          | inl less ↦ inl (omega (arith, less))
          | inr (same, under) ↦ inl (omega (arith, same))
        ];
        above = λ j high within. (let a = before.above j high within in (
          elim (cases_eq (arc_at g j).source v) [
            | inl same ↦ absurd (let h = a.1 same in omega (arith, h, within))
            | inr other ↦ (let o = a.0 in omega (arith, o, other))
          ],
          λ _. omega arith,
        ));
      },
    )
  where
    moved : (line v k m : ℕ) → IsPrefix signals g readable n v k m → IsPrefix signals g readable line v k m
    moved line v k m prefix = record { most = prefix.most; below = prefix.below; above = prefix.above }
