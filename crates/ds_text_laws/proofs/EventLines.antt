-- The lines of the events of a written graph.
use Rattle.std.proofs.Common.{◌≡◌, ◌⊎◌, ℕ, zero, suc, ◌+◌, ◌<◌, ◌≤◌, List, [], ◌∷◌, ◌++◌, length, get_or, set, refl, sym, ◌∙◌, ap, subst, arith, inl, inr, Option, Some, None, Result, Ok, Err, if◌then◌else◌, ◌==◌}
use Rattle.std.proofs.lemmas.Bool.{cases_Bool, cases_lt, cases_eq, eqb-false, eqb-true}
use Rattle.std.proofs.lemmas.List.{length-append, get_or_append_left}
use Rattle.std.proofs.lemmas.List.Sums.{position_or_len_is}
use Rattle.std.proofs.Math.Seq.{get_or-append_seam}
use Rattle.ds_marked.specs.Graph.{Graph}
use Rattle.ds_marked.specs.declared.marked.Arc.{Arc}
use Rattle.ds_astg.specs.Turn.{then_do, all_of}
use Rattle.ds_astg.specs.Node.{node_of_word}
use Rattle.ds_astg.specs.Node.Node.{Event as EventNode, Place as PlaceNode}
use Rattle.ds_astg.specs.Place.{Places, Key, key_eq, named, between, number_of_place, place_at, with_place_at, with_new, with_place}
use Rattle.ds_astg.specs.Place.Key.{Named, Between}
use Rattle.ds_astg.specs.Links.{link_word, into_place, with_source, from_event}
use Rattle.ds_marked.specs.Log.{text_of_event}
use Rattle.ds_astg.specs.Text.{arc_at, is_further, place_name}
use Rattle.ds_text_laws.specs.AstgText.{IsReadable, target_word, arc_words, lists_below}
use Rattle.ds_astg.specs.declared.place.Place.{Place}
use Rattle.ds_astg.specs.declared.fault.AstgKind.{AstgKind}
use Rattle.ds_text_laws.proofs.Names.{key_at, keys_differ, key_itself, plain, no_dummy, texts_read, le_source}
use Rattle.ds_text_laws.proofs.WrittenWords.{places_are_read}
use Rattle.ds_text_laws.proofs.Built.{Built, added_next, built_next}

-- the target of an arc as far as the line of its source tells it, and no tokens
abbrev pub first_target : Graph → ℕ → Option ℕ
first_target g k = if is_further g k then None else Some (arc_at g k).target

abbrev pub no_tokens : ℕ → Option ℕ
no_tokens k = None

pub set_last : {X : Type 0} (xs : List X) (x y : X) → set (xs ++ x ∷ []) (length xs) y ≡ xs ++ y ∷ []
set_last [] x y = refl
set_last (z ∷ xs) x y = ap (λ (ys : List _). z ∷ ys) (set_last xs x y)

pub all_of-append : {X S : Type 0} (step : X → S → Result S AstgKind) (xs ys : List X) (s : S) → all_of step (xs ++ ys) s ≡ then_do (all_of step xs s) (all_of step ys)
all_of-append step [] ys s = refl
all_of-append {S = S} step (x ∷ xs) ys s = go (step x s) (λ t. all_of-append step xs ys t)
  where
    go : (r : Result S AstgKind) → ((t : S) → all_of step (xs ++ ys) t ≡ then_do (all_of step xs t) (all_of step ys))
        → then_do r (all_of step (xs ++ ys)) ≡ then_do (then_do r (all_of step xs)) (all_of step ys)
    go (Ok t) rest = rest t
    go (Err e) rest = refl

module _ (signals : List (List ℕ)) (g : Graph) (readable : IsReadable signals g) (line : ℕ) where
  -- the place of an arc, behind those before it
  pub link_next : (k : ℕ) (ps : Places) → Built g k (first_target g) no_tokens ps → k < length g.arcs
      → (qs : Places) × (link_word (plain signals) line (EventNode (arc_at g k).source) (target_word g k) ps ≡ Ok qs) × Built g (k + 1) (first_target g) no_tokens qs
  link_next k ps built next =
      let none : Arc = record { source = 0; target = 0; tokens = 0 } in
      let s = (arc_at g k).source in
      let t = (arc_at g k).target in
      let ends = readable.kept.ends k none next in
      elim (cases_Bool (is_further g k)) [
        | inl further ↦ (
            let name = place_name k in
            let key_is : key_at g k ≡ Named name = rw further refl in
            let word_is : target_word g k ≡ name = rw further refl in
            let all = with_new ps (key_at g k) (named line) in
            let read : node_of_word (plain signals) name ≡ Ok (PlaceNode name) = places_are_read (plain signals) k (omega (arith, next, readable.few_arcs)) (no_dummy signals (place_name k)) in
            let size : length ps.places ≡ k = built.place_count in
            let add : with_place (Named name) (named line) ps ≡ Ok all = subst (λ (key : Key). with_place key (named line) ps ≡ Ok all) key_is
            (added_next signals g readable (first_target g) no_tokens k ps built next (named line)) in
            let number : number_of_place all (Named name) ≡ k = ap (number_of_place all) (sym key_is) ∙ number_last k ps built next in
            let at : place_at all k ≡ named line = ap (λ (n : ℕ). get_or (ps.places ++ named line ∷ []) n (named 0)) (sym size) ∙ get_or-append_seam ps.places (named line) [] (named 0) in
            let put : with_source k name s all ≡ Ok (with_place_at all k (from_event (named line) s)) = rw at refl in
            let last : with_place_at all k (from_event (named line) s) ≡ with_new ps (key_at g k) (from_event (named line) s) =
            ap (λ (places : List Place). record { keys = ps.keys ++ key_at g k ∷ []; places = places })
            (ap (λ (n : ℕ). set (ps.places ++ named line ∷ []) n (from_event (named line) s)) (sym size) ∙ set_last ps.places (named line) (from_event (named line) s)) in
            let done : into_place line s name ps ≡ Ok (with_new ps (key_at g k) (from_event (named line) s)) =
            rw (add, number) (put ∙ ap (λ (qs : Places). Ok qs) last) in (
              with_new ps (key_at g k) (from_event (named line) s),
              (let h : link_word (plain signals) line (EventNode s) (target_word g k) ps ≡ into_place line s name ps = rw (word_is, read) refl in h ∙ done),
              built_next signals g readable (first_target g) no_tokens k ps built (from_event (named line) s) refl (rw further refl) refl,
            ))
        | inr first ↦ (
            let key_is : key_at g k ≡ Between s t = rw first refl in
            let word_is : target_word g k ≡ text_of_event g t = rw first refl in
            let place = between line s t in
            let read : node_of_word (plain signals) (text_of_event g t) ≡ Ok (EventNode t) = texts_read signals g readable t ends.1 in
            let add : with_place (Between s t) place ps ≡ Ok (with_new ps (key_at g k) place) =
            subst (λ (key : Key). with_place key place ps ≡ Ok (with_new ps (key_at g k) place)) key_is
            (added_next signals g readable (first_target g) no_tokens k ps built next place) in (
              with_new ps (key_at g k) place,
              (let h : link_word (plain signals) line (EventNode s) (target_word g k) ps ≡ with_place (Between s t) place ps = rw (word_is, read) refl in h ∙ add),
              built_next signals g readable (first_target g) no_tokens k ps built place refl (rw first refl) refl,
            ))
      ]
    where
      number_last : (k : ℕ) (ps : Places) → Built g k (first_target g) no_tokens ps → k < length g.arcs → number_of_place (with_new ps (key_at g k) (named line)) (key_at g k) ≡ k
      number_last k ps built next = position_or_len_is (key_eq (key_at g k)) (ps.keys ++ key_at g k ∷ []) k (Between 0 0)
          (let l = length-append ps.keys (key_at g k ∷ []) in omega (arith, l, built.key_count))
          (λ j less. ap (key_eq (key_at g k)) (get_or_append_left ps.keys (key_at g k ∷ []) (Between 0 0) j (omega (arith, less, built.key_count)) ∙ built.keys j less)
          ∙ keys_differ g readable.kept readable.few_arcs j k less next)
          (λ low. ap (key_eq (key_at g k)) (ap (λ (n : ℕ). get_or (ps.keys ++ key_at g k ∷ []) n (Between 0 0)) (sym built.key_count)
          ∙ get_or-append_seam ps.keys (key_at g k) [] (Between 0 0)) ∙ key_itself (key_at g k))

  -- the arcs that were read: those from lesser events, and those from this one with a lesser number
  pub record IsPrefix (v k m : ℕ) : Type 0 where
    pub most : m ≤ length g.arcs
    pub below : (j : ℕ) → j < m → ((arc_at g j).source < v) ⊎ (((arc_at g j).source ≡ v) × (j < k))
    pub above : (j : ℕ) → m ≤ j → j < length g.arcs → (v ≤ (arc_at g j).source) × ((arc_at g j).source ≡ v → k ≤ j)

  -- an arc from this event is the next one
  is_next : (v k m : ℕ) → IsPrefix v k m → k < length g.arcs → (arc_at g k).source ≡ v → m ≡ k
  is_next v k m prefix next e = elim (cases_lt m k) [
    | inl low ↦ absurd (
        let a = prefix.above m (omega arith) (omega (arith, low, next)) in
        let o = le_source (arc_at g m) (arc_at g k) (readable.kept.sorted m k (record { source = 0; target = 0; tokens = 0 }) low next) in
        let same : (arc_at g m).source ≡ v = omega (arith, a.0, o, e) in
        let h = a.1 same in omega (arith, h, low))
    | inr high ↦ elim (cases_lt k m) [
      | inl inside ↦ elim (prefix.below k inside) [
        | inl less ↦ absurd (omega (arith, less, e))
        | inr (same, itself) ↦ absurd (omega (arith, itself))
      ]
      | inr also ↦ omega (arith, high, also)
    ]
  ]

  pub targets_read : (v : ℕ) (m : ℕ) (ps : Places) → Built g m (first_target g) no_tokens ps → IsPrefix v 0 m → (k : ℕ) → k ≤ length g.arcs
      → (n : ℕ) × (qs : Places) × (all_of (link_word (plain signals) line (EventNode v)) (lists_below (arc_words g v) k) ps ≡ Ok qs) × Built g n (first_target g) no_tokens qs × IsPrefix v k n
  targets_read v m ps built prefix zero most = (m, ps, refl, built, prefix)
  targets_read v m ps built prefix (suc k) most =
      let (n, qs, run, so_far, before) = targets_read v m ps built prefix k (omega (arith, most)) in
      let next : k < length g.arcs = omega (arith, most) in
      let step = link_word (plain signals) line (EventNode v) in
      let split : all_of step (lists_below (arc_words g v) (suc k)) ps ≡ all_of step (arc_words g v k) qs =
      all_of-append step (lists_below (arc_words g v) k) (arc_words g v k) ps ∙ ap (λ (r : Result Places AstgKind). then_do r (all_of step (arc_words g v k))) run in
      elim (cases_Bool ((arc_at g k).source == v)) [
        | inl here ↦ (
            let e : (arc_at g k).source ≡ v = eqb-true _ _ here in
            let same : n ≡ k = is_next v k n before next e in
            let (rs, link_is, all) = link_next k qs (subst (λ (i : ℕ). Built g i (first_target g) no_tokens qs) same so_far) next in
            let words : arc_words g v k ≡ target_word g k ∷ [] = rw here refl in
            let one : step (target_word g k) qs ≡ Ok rs = subst (λ (u : ℕ). link_word (plain signals) line (EventNode u) (target_word g k) qs ≡ Ok rs) e link_is in (
              k + 1,
              rs,
              split ∙ (ap (λ (ws : List (List ℕ)). all_of step ws qs) words ∙ ap (λ (r : Result Places AstgKind). then_do r (all_of step [])) one),
              all,
              record {
                most = omega (arith, next);
                below = λ j low. elim (cases_lt j k) [
                  | inl less ↦ elim (before.below j (omega (arith, less, same))) [
                    | inl lower ↦ inl lower
                    | inr (equal, under) ↦ inr (equal, omega (arith, under))
                  ]
                  | inr more ↦ (let f : j ≡ k = omega (arith, low, more) in inr (ap (λ (i : ℕ). (arc_at g i).source) f ∙ e, omega (arith, f)))
                ];
                above = λ j high inside. (let a = before.above j (omega (arith, high, same)) inside in (a.0, λ _. omega (arith, high)));
              },
            ))
        | inr differs ↦ (
            let words : arc_words g v k ≡ [] = rw differs refl in (
              n,
              qs,
              split ∙ ap (λ (ws : List (List ℕ)). all_of step ws qs) words,
              so_far,
              record {
                most = before.most;
                below = λ j low. elim (before.below j low) [
                  | inl lower ↦ inl lower
                  | inr (equal, under) ↦ inr (equal, omega (arith, under))
                ];
                above = λ j high inside. (let a = before.above j high inside in (
                  a.0,
                  λ equal. let h = a.1 equal in elim (cases_eq j k) [
                    | inl f ↦ absurd (eqb-false _ _ differs (ap (λ (i : ℕ). (arc_at g i).source) (sym f) ∙ equal))
                    | inr ne ↦ omega (arith, h, ne)
                  ],
                ));
              },
            ))
      ]
