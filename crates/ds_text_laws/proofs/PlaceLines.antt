-- The lines of places, and the entries, of a written graph.
use Rattle.std.proofs.Common.{◌≡◌, ◌≢◌, ℕ, zero, suc, ◌+◌, ◌<◌, ◌≤◌, Bool, true, List, [], ◌∷◌, length, refl, sym, ◌∙◌, ap, subst, arith, inl, inr, Option, Some, None, Result, Ok, if◌then◌else◌, ltb}
use Rattle.std.proofs.lemmas.Bool.{cases_Bool, cases_lt, cases_eq, lt-ltb, le-ltb}
use Rattle.ds_marked.specs.Graph.{Graph}
use Rattle.ds_marked.specs.declared.marked.Arc.{Arc}
use Rattle.ds_astg.specs.Turn.{then_do, all_of}
use Rattle.ds_astg.specs.Node.{node_of_word}
use Rattle.ds_astg.specs.Node.Node.{Event as EventNode, Place as PlaceNode}
use Rattle.ds_astg.specs.Place.{Places, named, number_of_place, has_place, place_at, with_place_at, with_place}
use Rattle.ds_astg.specs.Place.Key.{Named}
use Rattle.ds_astg.specs.Links.{link_word, link_words, with_target, to_event, graph_line}
use Rattle.ds_marked.specs.Log.{text_of_event}
use Rattle.ds_astg.specs.Text.{arc_at, is_further, place_name}
use Rattle.ds_text_laws.specs.AstgText.{IsReadable, lists_below, place_lines}
use Rattle.ds_astg.specs.declared.fault.AstgKind.{AstgKind}
use Rattle.ds_text_laws.proofs.Names.{key_at, plain, no_dummy, texts_read, body_is}
use Rattle.ds_text_laws.proofs.WrittenWords.{places_are_read}
use Rattle.ds_text_laws.proofs.Built.{Built, number_is, stands_there, built_set}
use Rattle.ds_text_laws.proofs.EventLines.{first_target, no_tokens}
use Rattle.ds_text_laws.proofs.GraphPartLines.{Runs, runs_append}

-- the target of an arc, where the lines of the places below a number are read
abbrev pub placed_target : Graph → ℕ → ℕ → Option ℕ
placed_target g j k = if ltb k j then Some (arc_at g k).target else first_target g k

-- the tokens of an arc that its entry gives
abbrev pub entry_tokens : Graph → ℕ → Option ℕ
entry_tokens g k = if ltb 0 (arc_at g k).tokens then Some (arc_at g k).tokens else None

-- the same where the entries of the arcs below a number are read
abbrev pub marked_tokens : Graph → ℕ → ℕ → Option ℕ
marked_tokens g j k = if ltb k j then entry_tokens g k else None

abbrev pub full_target : Graph → ℕ → Option ℕ
full_target g k = Some (arc_at g k).target

-- the same under other names
pub built_same : (g : Graph) (m : ℕ) (target tokens new_target new_tokens : ℕ → Option ℕ) (ps : Places) → Built g m target tokens ps
    → ((k : ℕ) → k < m → target k ≡ new_target k) → ((k : ℕ) → k < m → tokens k ≡ new_tokens k) → Built g m new_target new_tokens ps
built_same g m target tokens new_target new_tokens ps built targets_are tokens_are = record {
  key_count = built.key_count;
  place_count = built.place_count;
  keys = built.keys;
  sources = built.sources;
  targets = λ k low. built.targets k low ∙ targets_are k low;
  marks = λ k low. built.marks k low ∙ tokens_are k low;
}

-- a number other than this one is below it or below the next alike
pub same_below : (j k : ℕ) → k ≢ j → ltb k j ≡ ltb k (suc j)
same_below j k ne = elim (cases_lt k j) [
  | inl low ↦ lt-ltb k j low ∙ sym (lt-ltb k (suc j) (omega (arith, low)))
  | inr high ↦ le-ltb k j high ∙ sym (le-ltb k (suc j) (omega (arith, high, ne)))
]

module _ (signals : List (List ℕ)) (g : Graph) (readable : IsReadable signals g) where
  place_line_run : (line j : ℕ) (ps : Places) → Built g (length g.arcs) (placed_target g j) no_tokens ps → j < length g.arcs → is_further g j ≡ true
      → (graph_line (plain signals) line (place_name j ∷ text_of_event g (arc_at g j).target ∷ []) ps ≡ Ok (with_place_at ps j (to_event (place_at ps j) (arc_at g j).target)))
      × Built g (length g.arcs) (placed_target g (suc j)) no_tokens (with_place_at ps j (to_event (place_at ps j) (arc_at g j).target))
  place_line_run line j ps built inside further =
      let n = length g.arcs in
      let t = (arc_at g j).target in
      let name = place_name j in
      let none : Arc = record { source = 0; target = 0; tokens = 0 } in
      let ends = readable.kept.ends j none inside in
      let key_is : key_at g j ≡ Named name = rw further refl in
      let read : node_of_word (plain signals) name ≡ Ok (PlaceNode name) = places_are_read (plain signals) j (omega (arith, inside, readable.few_arcs)) (no_dummy signals (place_name j)) in
      let event : node_of_word (plain signals) (text_of_event g t) ≡ Ok (EventNode t) = texts_read signals g readable t ends.1 in
      let has : has_place ps (Named name) ≡ true = ap (has_place ps) (sym key_is) ∙ stands_there signals g readable (placed_target g j) no_tokens n ps built j inside in
      let number : number_of_place ps (Named name) ≡ j = ap (number_of_place ps) (sym key_is) ∙ number_is signals g readable (placed_target g j) no_tokens n ps built (omega arith) j inside in
      let lacks : (place_at ps j).target ≡ None = built.targets j inside ∙ (let f : placed_target g j j ≡ first_target g j = rw (le-ltb j j (omega arith)) refl in f ∙ rw further refl) in
      let stays : with_place (Named name) (named line) ps ≡ Ok ps = rw has refl in
      let put : with_target j name t ps ≡ Ok (with_place_at ps j (to_event (place_at ps j) t)) = rw lacks refl in
      let one : link_word (plain signals) line (PlaceNode name) (text_of_event g t) ps ≡ with_target (number_of_place ps (Named name)) name t ps = rw event refl in
      let done : link_word (plain signals) line (PlaceNode name) (text_of_event g t) ps ≡ Ok (with_place_at ps j (to_event (place_at ps j) t)) = one ∙ (ap (λ (k : ℕ). with_target k name t ps) number ∙ put) in
      let all : link_words (plain signals) line (PlaceNode name) (text_of_event g t ∷ []) ps ≡ Ok (with_place_at ps j (to_event (place_at ps j) t)) =
      ap (λ (r : Result Places AstgKind). then_do r (all_of (link_word (plain signals) line (PlaceNode name)) [])) done in
      let whole : graph_line (plain signals) line (name ∷ text_of_event g t ∷ []) ps ≡ then_do (with_place (Named name) (named line) ps) (link_words (plain signals) line (PlaceNode name) (text_of_event g t ∷ [])) =
      rw read refl in (
        whole ∙ (ap (λ (r : Result Places AstgKind). then_do r (link_words (plain signals) line (PlaceNode name) (text_of_event g t ∷ []))) stays ∙ all),
        built_set signals g readable (placed_target g j) no_tokens n ps built j inside (to_event (place_at ps j) t) (placed_target g (suc j)) no_tokens
            (built.sources j inside) (let h : placed_target g (suc j) j ≡ Some t = rw (lt-ltb j (suc j) (omega arith)) refl in sym h) (built.marks j inside)
            (λ k low ne. ap (λ (b : Bool). if b then Some (arc_at g k).target else first_target g k) (same_below j k ne)) (λ k low ne. refl),
      )

  pub places_run : (line j : ℕ) (ps : Places) → j ≤ length g.arcs → Built g (length g.arcs) (first_target g) no_tokens ps
      → (qs : Places) × Runs (plain signals) line (lists_below (place_lines g) j) ps qs × Built g (length g.arcs) (placed_target g j) no_tokens qs
  places_run line zero ps most built = (
    ps,
    refl,
    built_same g (length g.arcs) (first_target g) no_tokens (placed_target g 0) no_tokens ps built
        (λ k low. let h : placed_target g 0 k ≡ first_target g k = rw (le-ltb k 0 (omega arith)) refl in sym h) (λ k low. refl),
  )
  places_run line (suc j) ps most built =
      let (qs, run, so_far) = places_run line j ps (omega (arith, most)) built in
      let inside : j < length g.arcs = omega (arith, most) in
      let here = line + length (lists_below (place_lines g) j) in
      elim (cases_Bool (is_further g j)) [
        | inl further ↦ (
            let (one, next) = place_line_run here j qs so_far inside further in
            let lines : place_lines g j ≡ (place_name j ∷ text_of_event g (arc_at g j).target ∷ []) ∷ [] = rw further refl in
            let rs = with_place_at qs j (to_event (place_at qs j) (arc_at g j).target) in (
              rs,
              runs_append (plain signals) line (lists_below (place_lines g) j) (place_lines g j) ps qs rs run
                  (subst (λ (ls : List (List (List ℕ))). Runs (plain signals) here ls qs rs) (sym lines) (rs, body_is (place_name j) (λ e. absurd (omega (arith, e))), one, refl)),
              next,
            ))
        | inr first ↦ (
            let lines : place_lines g j ≡ [] = rw first refl in (
              qs,
              runs_append (plain signals) line (lists_below (place_lines g) j) (place_lines g j) ps qs qs run
                  (subst (λ (ls : List (List (List ℕ))). Runs (plain signals) here ls qs qs) (sym lines) refl),
              built_same g (length g.arcs) (placed_target g j) no_tokens (placed_target g (suc j)) no_tokens qs so_far
                  (λ k low. elim (cases_eq k j) [
                    | inl e ↦ (let a : placed_target g j j ≡ Some (arc_at g j).target = rw (le-ltb j j (omega arith), first) refl in
                        let b : placed_target g (suc j) j ≡ Some (arc_at g j).target = rw (lt-ltb j (suc j) (omega arith)) refl in
                        ap (placed_target g j) e ∙ (a ∙ (sym b ∙ ap (placed_target g (suc j)) (sym e))))
                    | inr ne ↦ ap (λ (b : Bool). if b then Some (arc_at g k).target else first_target g k) (same_below j k ne)
                  ]) (λ k low. refl),
            ))
      ]
