-- The places that the lines of a written graph build up, arc by arc.
use Rattle.std.proofs.Common.{◌≡◌, ◌≢◌, ℕ, ◌+◌, ◌<◌, ◌≤◌, true, false, List, [], ◌∷◌, ◌++◌, length, get_or, set, refl, sym, ◌∙◌, ap, arith, inl, inr, Option, Some, Ok}
use Rattle.std.proofs.lemmas.Bool.{cases_lt, cases_eq, lt-ltb}
use Rattle.std.proofs.lemmas.List.{length-append, length-set, get_or_append_left, get_or_default, get_or-set_same, get_or-set_other}
use Rattle.std.proofs.lemmas.List.Sums.{position_or_len_is}
use Rattle.std.proofs.lemmas.List.Folds.{list_any_at, list_any_none}
use Rattle.std.proofs.Math.Seq.{get_or-append_seam}
use Rattle.ds_marked.specs.Graph.{Graph}
use Rattle.ds_astg.specs.Place.{Places, key_eq, named, number_of_place, has_place, place_at, with_place_at, with_new, with_place}
use Rattle.ds_astg.specs.Place.Key.{Between}
use Rattle.ds_astg.specs.Text.{arc_at}
use Rattle.ds_text_laws.specs.AstgText.{IsReadable}
use Rattle.ds_astg.specs.declared.place.Place.{Place}
use Rattle.ds_text_laws.proofs.Names.{key_at, keys_differ, key_itself}

-- the places of the first arcs, as far as they are read
pub record Built (g : Graph) (m : ℕ) (target tokens : ℕ → Option ℕ) (ps : Places) : Type 0 where
  pub key_count : length ps.keys ≡ m
  pub place_count : length ps.places ≡ m
  pub keys : (k : ℕ) → k < m → get_or ps.keys k (Between 0 0) ≡ key_at g k
  pub sources : (k : ℕ) → k < m → (place_at ps k).source ≡ Some (arc_at g k).source
  pub targets : (k : ℕ) → k < m → (place_at ps k).target ≡ target k
  pub marks : (k : ℕ) → k < m → (place_at ps k).tokens ≡ tokens k

module _ (signals : List (List ℕ)) (g : Graph) (readable : IsReadable signals g) (target tokens : ℕ → Option ℕ) where
  module _ (m : ℕ) (ps : Places) (built : Built g m target tokens ps) where
    -- a place that stands there
    pub number_is : m ≤ length g.arcs → (k : ℕ) → k < m → number_of_place ps (key_at g k) ≡ k
    number_is most k inside = position_or_len_is (key_eq (key_at g k)) ps.keys k (Between 0 0) (omega (arith, built.key_count, inside))
        (λ j less. ap (key_eq (key_at g k)) (built.keys j (omega (arith, less, inside))) ∙ keys_differ g readable.kept readable.few_arcs j k less (omega (arith, inside, most)))
        (λ low. ap (key_eq (key_at g k)) (built.keys k inside) ∙ key_itself (key_at g k))

    pub stands_there : (k : ℕ) → k < m → has_place ps (key_at g k) ≡ true
    stands_there k inside = list_any_at (key_eq (key_at g k)) ps.keys k (Between 0 0) (omega (arith, built.key_count, inside))
        (ap (key_eq (key_at g k)) (built.keys k inside) ∙ key_itself (key_at g k))

    -- the next one
    pub is_new : m < length g.arcs → has_place ps (key_at g m) ≡ false
    is_new next = list_any_none (key_eq (key_at g m)) ps.keys (λ k d inside.
        let low : k < m = omega (arith, inside, built.key_count) in
        ap (key_eq (key_at g m)) (get_or_default ps.keys k d (Between 0 0) inside ∙ built.keys k low)
        ∙ keys_differ g readable.kept readable.few_arcs k m low next)

    pub added_next : m < length g.arcs → (place : Place) → with_place (key_at g m) place ps ≡ Ok (with_new ps (key_at g m) place)
    added_next next place = rw (is_new next) (rw (lt-ltb (length ps.keys) 1048576 (omega (arith, next, readable.few_arcs, built.key_count))) refl)

    pub built_next : (place : Place) → place.source ≡ Some (arc_at g m).source → place.target ≡ target m → place.tokens ≡ tokens m
        → Built g (m + 1) target tokens (with_new ps (key_at g m) place)
    built_next place source_is target_is tokens_is = record {
      key_count = (let l = length-append ps.keys (key_at g m ∷ []) in omega (arith, l, built.key_count));
      place_count = (let l = length-append ps.places (place ∷ []) in omega (arith, l, built.place_count));
      keys = λ k inside. elim (cases_lt k m) [
        | inl low ↦ get_or_append_left ps.keys (key_at g m ∷ []) (Between 0 0) k (omega (arith, low, built.key_count)) ∙ built.keys k low
        | inr high ↦ (let e : k ≡ m = omega (arith, high, inside) in
            ap (λ (n : ℕ). get_or (ps.keys ++ key_at g m ∷ []) n (Between 0 0)) (e ∙ sym built.key_count)
            ∙ (get_or-append_seam ps.keys (key_at g m) [] (Between 0 0) ∙ ap (key_at g) (sym e)))
      ];
      sources = λ k inside. elim (cases_lt k m) [
        | inl low ↦ ap (λ (p : Place). p.source) (old k low) ∙ built.sources k low
        | inr high ↦ (let e : k ≡ m = omega (arith, high, inside) in ap (λ (p : Place). p.source) (last k e) ∙ (source_is ∙ ap (λ (n : ℕ). Some (arc_at g n).source) (sym e)))
      ];
      targets = λ k inside. elim (cases_lt k m) [
        | inl low ↦ ap (λ (p : Place). p.target) (old k low) ∙ built.targets k low
        | inr high ↦ (let e : k ≡ m = omega (arith, high, inside) in ap (λ (p : Place). p.target) (last k e) ∙ (target_is ∙ ap target (sym e)))
      ];
      marks = λ k inside. elim (cases_lt k m) [
        | inl low ↦ ap (λ (p : Place). p.tokens) (old k low) ∙ built.marks k low
        | inr high ↦ (let e : k ≡ m = omega (arith, high, inside) in ap (λ (p : Place). p.tokens) (last k e) ∙ (tokens_is ∙ ap tokens (sym e)))
      ];
    }
      where
        old : (k : ℕ) → k < m → get_or (ps.places ++ place ∷ []) k (named 0) ≡ get_or ps.places k (named 0)
        old k low = get_or_append_left ps.places (place ∷ []) (named 0) k (omega (arith, low, built.place_count))

        last : (k : ℕ) → k ≡ m → get_or (ps.places ++ place ∷ []) k (named 0) ≡ place
        last k e = ap (λ (n : ℕ). get_or (ps.places ++ place ∷ []) n (named 0)) (e ∙ sym built.place_count) ∙ get_or-append_seam ps.places place [] (named 0)

    -- a place at a number is changed
    pub built_set : (k : ℕ) → k < m → (place : Place) (new_target new_tokens : ℕ → Option ℕ) → place.source ≡ Some (arc_at g k).source
        → place.target ≡ new_target k → place.tokens ≡ new_tokens k
        → ((j : ℕ) → j < m → j ≢ k → target j ≡ new_target j) → ((j : ℕ) → j < m → j ≢ k → tokens j ≡ new_tokens j)
        → Built g m new_target new_tokens (with_place_at ps k place)
    built_set k inside place new_target new_tokens source_is target_is tokens_is targets_stay tokens_stay = record {
      key_count = built.key_count;
      place_count = length-set ps.places k place ∙ built.place_count;
      keys = built.keys;
      sources = λ j low. elim (cases_eq j k) [
        | inl e ↦ ap (λ (p : Place). p.source) (here j e) ∙ (source_is ∙ ap (λ (n : ℕ). Some (arc_at g n).source) (sym e))
        | inr ne ↦ ap (λ (p : Place). p.source) (there j ne) ∙ built.sources j low
      ];
      targets = λ j low. elim (cases_eq j k) [
        | inl e ↦ ap (λ (p : Place). p.target) (here j e) ∙ (target_is ∙ ap new_target (sym e))
        | inr ne ↦ ap (λ (p : Place). p.target) (there j ne) ∙ (built.targets j low ∙ targets_stay j low ne)
      ];
      marks = λ j low. elim (cases_eq j k) [
        | inl e ↦ ap (λ (p : Place). p.tokens) (here j e) ∙ (tokens_is ∙ ap new_tokens (sym e))
        | inr ne ↦ ap (λ (p : Place). p.tokens) (there j ne) ∙ (built.marks j low ∙ tokens_stay j low ne)
      ];
    }
      where
        here : (j : ℕ) → j ≡ k → get_or (set ps.places k place) j (named 0) ≡ place
        here j e = ap (λ (n : ℕ). get_or (set ps.places k place) n (named 0)) e ∙ get_or-set_same ps.places k place (named 0) (omega (arith, inside, built.place_count))

        there : (j : ℕ) → j ≢ k → get_or (set ps.places k place) j (named 0) ≡ get_or ps.places j (named 0)
        there j ne = get_or-set_other ps.places k j place (named 0) ne
