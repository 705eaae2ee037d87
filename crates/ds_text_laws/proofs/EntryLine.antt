-- The entries of a written graph.
use Rattle.std.proofs.Common.{◌≡◌, ℕ, zero, suc, ◌<◌, ◌≤◌, Bool, true, false, List, [], ◌∷◌, ◌++◌, length, refl, sym, ◌∙◌, ap, arith, inl, inr, Option, Some, None, Result, Ok, Err, if◌then◌else◌, ltb, ◌==◌, codes, ◌||◌, decimal}
use Rattle.std.specs.List.{list_any}
use Rattle.std.proofs.lemmas.Bool.{cases_Bool, cases_eq, lt-ltb, le-ltb, ltb-true, eqb-true, false≢true}
use Rattle.ds_marked.specs.Graph.{Graph}
use Rattle.ds_marked.specs.declared.marked.Arc.{Arc}
use Rattle.ds_astg.specs.Word.{is_byte, is_reserved, has_slash, has_reserved, is_signed}
use Rattle.ds_astg.specs.Turn.{then_do, all_of}
use Rattle.ds_astg.specs.Signals.{Declared}
use Rattle.ds_astg.specs.Node.{node_of_word, node_by, event_in}
use Rattle.ds_astg.specs.Node.Node.{Event as EventNode, Place as PlaceNode}
use Rattle.ds_astg.specs.Place.{Places, Key, number_of_place, has_place, place_at, with_place_at}
use Rattle.ds_astg.specs.Place.Key.{Named, Between}
use Rattle.ds_astg.specs.Marking.{key_in, place_text, mark, mark_key, with_tokens}
use Rattle.ds_marked.specs.Log.{text_of_event}
use Rattle.ds_astg.specs.Text.{arc_at, is_further, place_name, entry_name, tokens_text}
use Rattle.ds_text_laws.specs.AstgText.{IsReadable, lists_below, entry_words}
use Rattle.ds_astg.specs.declared.fault.AstgKind.{AstgKind}
use Rattle.ds_astg.specs.declared.fault.AstgKind.TheVariants.{Instance, BadWord, UnknownSignal}
use Rattle.ds_text_laws.proofs.Names.{key_at, plain, texts_read}
use Rattle.ds_lines.proofs.ByteClasses.{lacks_both, number_without}
use Rattle.ds_text_laws.proofs.Entries.{tokens_are_read, ends_are_read}
use Rattle.ds_text_laws.proofs.Built.{Built, number_is, stands_there, built_set}
use Rattle.ds_text_laws.proofs.EventLines.{no_tokens, all_of-append}
use Rattle.ds_text_laws.proofs.PlaceLines.{full_target, entry_tokens, marked_tokens, built_same, same_below}

-- what a word is that is read as an event
node_event : (signals : Declared) (word : List ℕ) (v : ℕ) → node_of_word signals word ≡ Ok (EventNode v) → (has_reserved word ≡ false) × (event_in signals word ≡ Some v)
node_event signals word v is = go (has_slash word) (has_reserved word) (event_in signals word) is
  where
    no_node : (c : Bool) → (if c then Err (UnknownSignal word) else Ok (PlaceNode word)) ≡ Ok (EventNode v) → ⊥
    no_node true e = cc
    no_node false e = cc

    go : (a b : Bool) (event : Option ℕ) → (if a then Err (Instance word) else (if b then Err (BadWord word) else node_by word event)) ≡ Ok (EventNode v)
        → (b ≡ false) × (event ≡ Some v)
    go true b event e = absurd (cc)
    go false true event e = absurd (cc)
    go false false (Some u) e = (refl, cc)
    go false false None e = absurd (no_node (is_signed word) e)

-- a byte that no name has
without : (byte : ℕ) → is_reserved byte ≡ true → (word : List ℕ) → list_any is_reserved word ≡ false → list_any (is_byte byte) word ≡ false
without byte reserved [] none = refl
without byte reserved (first ∷ word) none = elim (cases_Bool (is_byte byte first)) [
  | inl e ↦ absurd (
      let same : first ≡ byte = eqb-true _ _ e in
      let h : is_reserved first ≡ true = ap is_reserved same ∙ reserved in
      let k : list_any is_reserved (first ∷ word) ≡ true = rw h refl in false≢true (sym none ∙ k))
  | inr e ↦ rw e (without byte reserved word (rest (is_reserved first) none))
]
  where
    rest : (b : Bool) → (b || list_any is_reserved word) ≡ false → list_any is_reserved word ≡ false
    rest true e = absurd (cc)
    rest false e = e

module _ (signals : List (List ℕ)) (g : Graph) (readable : IsReadable signals g) where
  -- what stands for an arc in the marking is read as its place
  entry_key : (k : ℕ) → k < length g.arcs → (key_in (plain signals) (entry_name g k) ≡ Some (key_at g k)) × (list_any (is_byte 61) (entry_name g k) ≡ false)
  unfolding is_reserved
  entry_key k inside = elim (cases_Bool (is_further g k)) [
    | inl further ↦ (
        let name_is : entry_name g k ≡ place_name k = rw further refl in
        let key_is : key_at g k ≡ Named (place_name k) = rw further refl in (
          ap (key_in (plain signals)) name_is ∙ (let h : key_in (plain signals) (place_name k) ≡ Some (Named (place_name k)) = refl in h ∙ ap (λ (key : Key). Some key) (sym key_is)),
          ap (list_any (is_byte 61)) name_is ∙ (number_without (is_byte 61) refl k (omega (arith, inside, readable.few_arcs))).none,
        ))
    | inr first ↦ (
        let u = (arc_at g k).source in
        let v = (arc_at g k).target in
        let none : Arc = record { source = 0; target = 0; tokens = 0 } in
        let ends = readable.kept.ends k none inside in
        let source = node_event (plain signals) (text_of_event g u) u (texts_read signals g readable u ends.0) in
        let target = node_event (plain signals) (text_of_event g v) v (texts_read signals g readable v ends.1) in
        let name_is : entry_name g k ≡ codes "<" ++ text_of_event g u ++ codes "," ++ text_of_event g v ++ codes ">" = rw first refl in
        let key_is : key_at g k ≡ Between u v = rw first refl in (
          ap (key_in (plain signals)) name_is ∙ (ends_are_read (plain signals) (text_of_event g u) (text_of_event g v) u v source.1 target.1 (without 44 refl (text_of_event g u) source.0)
              ∙ ap (λ (key : Key). Some key) (sym key_is)),
          ap (list_any (is_byte 61)) name_is ∙ lacks_both (is_byte 61) (codes "<" ++ text_of_event g u ++ codes "," ++ text_of_event g v) (codes ">")
              (lacks_both (is_byte 61) (codes "<" ++ text_of_event g u ++ codes ",") (text_of_event g v)
              (lacks_both (is_byte 61) (codes "<" ++ text_of_event g u) (codes ",") (without 61 refl (text_of_event g u) source.0) refl) (without 61 refl (text_of_event g v) target.0)) refl,
        ))
  ]

  entry_some : (k : ℕ) (more : List ℕ) → (length (entry_name g k ++ more) == 0) ≡ false
  entry_some k more = elim (cases_Bool (is_further g k)) [
    | inl further ↦ (let e : length (entry_name g k ++ more) ≡ suc (length (decimal k ++ more)) = rw further refl in differs _ e)
    | inr first ↦ (let e : length (entry_name g k ++ more) ≡ suc (length (((text_of_event g (arc_at g k).source ++ codes ",") ++ text_of_event g (arc_at g k).target ++ codes ">") ++ more)) = rw first refl in differs _ e)
  ]
    where
      differs : {m : ℕ} (n : ℕ) → n ≡ suc m → (n == 0) ≡ false
      differs n e = elim (cases_Bool (n == 0)) [
        | inl z ↦ absurd (let h : n ≡ 0 = eqb-true _ _ z in omega (arith, h, e))
        | inr ne ↦ ne
      ]

  mark_run : (j : ℕ) (ps : Places) → Built g (length g.arcs) (full_target g) (marked_tokens g j) ps → j < length g.arcs → ltb 0 (arc_at g j).tokens ≡ true
      → (mark (plain signals) (entry_name g j ++ tokens_text (arc_at g j).tokens) ps ≡ Ok (with_place_at ps j (with_tokens (place_at ps j) (arc_at g j).tokens)))
      × Built g (length g.arcs) (full_target g) (marked_tokens g (suc j)) (with_place_at ps j (with_tokens (place_at ps j) (arc_at g j).tokens))
  mark_run j ps built inside some =
      let n = length g.arcs in
      let tokens = (arc_at g j).tokens in
      let none : Arc = record { source = 0; target = 0; tokens = 0 } in
      let entry = entry_name g j ++ tokens_text tokens in
      let (key_is, free) = entry_key j inside in
      let (text_is, tokens_is) = tokens_are_read (entry_name g j) tokens free (ltb-true _ _ some) (readable.tokens j none inside) in
      let has : has_place ps (key_at g j) ≡ true = stands_there signals g readable (full_target g) (marked_tokens g j) n ps built j inside in
      let number : number_of_place ps (key_at g j) ≡ j = number_is signals g readable (full_target g) (marked_tokens g j) n ps built (omega arith) j inside in
      let bare : (place_at ps j).tokens ≡ None = built.marks j inside ∙ (let h : marked_tokens g j j ≡ None = rw (le-ltb j j (omega arith)) refl in h) in
      let key : key_in (plain signals) (place_text entry) ≡ Some (key_at g j) = ap (key_in (plain signals)) text_is ∙ key_is in
      let by : mark (plain signals) entry ps ≡ mark_key entry (key_at g j) tokens ps = rw (entry_some j (tokens_text tokens), key, tokens_is) refl in
      let done : mark_key entry (key_at g j) tokens ps ≡ Ok (with_place_at ps j (with_tokens (place_at ps j) tokens)) = rw (has, number, bare) refl in (
        by ∙ done,
        built_set signals g readable (full_target g) (marked_tokens g j) n ps built j inside (with_tokens (place_at ps j) tokens) (full_target g) (marked_tokens g (suc j))
            (built.sources j inside) (built.targets j inside) (let h : marked_tokens g (suc j) j ≡ Some tokens = rw (lt-ltb j (suc j) (omega arith), some) refl in sym h)
            (λ k low ne. refl) (λ k low ne. ap (λ (b : Bool). if b then entry_tokens g k else None) (same_below j k ne)),
      )

  pub marks_run : (j : ℕ) (ps : Places) → j ≤ length g.arcs → Built g (length g.arcs) (full_target g) no_tokens ps
      → (qs : Places) × (all_of (mark (plain signals)) (lists_below (entry_words g) j) ps ≡ Ok qs) × Built g (length g.arcs) (full_target g) (marked_tokens g j) qs
  marks_run zero ps most built = (
    ps,
    refl,
    built_same g (length g.arcs) (full_target g) no_tokens (full_target g) (marked_tokens g 0) ps built (λ k low. refl)
        (λ k low. let h : marked_tokens g 0 k ≡ None = rw (le-ltb k 0 (omega arith)) refl in sym h),
  )
  marks_run (suc j) ps most built =
      let (qs, run, so_far) = marks_run j ps (omega (arith, most)) built in
      let inside : j < length g.arcs = omega (arith, most) in
      let split : all_of (mark (plain signals)) (lists_below (entry_words g) (suc j)) ps ≡ all_of (mark (plain signals)) (entry_words g j) qs =
      all_of-append (mark (plain signals)) (lists_below (entry_words g) j) (entry_words g j) ps ∙ ap (λ (r : Result Places AstgKind). then_do r (all_of (mark (plain signals)) (entry_words g j))) run in
      elim (cases_Bool (ltb 0 (arc_at g j).tokens)) [
        | inl some ↦ (
            let (one, next) = mark_run j qs so_far inside some in
            let words : entry_words g j ≡ (entry_name g j ++ tokens_text (arc_at g j).tokens) ∷ [] = rw some refl in (
              with_place_at qs j (with_tokens (place_at qs j) (arc_at g j).tokens),
              split ∙ (ap (λ (ws : List (List ℕ)). all_of (mark (plain signals)) ws qs) words ∙ ap (λ (r : Result Places AstgKind). then_do r (all_of (mark (plain signals)) [])) one),
              next,
            ))
        | inr bare ↦ (
            let words : entry_words g j ≡ [] = rw bare refl in (
              qs,
              split ∙ ap (λ (ws : List (List ℕ)). all_of (mark (plain signals)) ws qs) words,
              built_same g (length g.arcs) (full_target g) (marked_tokens g j) (full_target g) (marked_tokens g (suc j)) qs so_far (λ k low. refl)
                  (λ k low. elim (cases_eq k j) [
                    | inl e ↦ (let a : marked_tokens g j j ≡ None = rw (le-ltb j j (omega arith)) refl in
                        let b : marked_tokens g (suc j) j ≡ None = rw (lt-ltb j (suc j) (omega arith), bare) refl in
                        ap (marked_tokens g j) e ∙ (a ∙ (sym b ∙ ap (marked_tokens g (suc j)) (sym e))))
                    | inr ne ↦ ap (λ (b : Bool). if b then entry_tokens g k else None) (same_below j k ne)
                  ]),
            ))
      ]
