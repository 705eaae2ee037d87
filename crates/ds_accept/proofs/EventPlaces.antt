-- The places of events among others.
use Rattle.std.proofs.Common.{◌≡◌, inl, inr, ℕ, ◌+◌, ◌<◌, List, [], ◌∷◌, ◌++◌, length, get_or, map, sym, ◌∙◌, ap, subst, arith, length-append, All, Contains, slice_index}
use Rattle.std.proofs.lemmas.Bool.{cases_eq}
use Rattle.std.proofs.lemmas.List.{get_or-map, get_or_default, length-map, get_or_append_left, get_or_push}
use Rattle.std.proofs.lemmas.List.Elements.{All-push, All-map}
use Rattle.ds_base.proofs.ListLemmas.{get_or-self}
use Rattle.ds_marked.specs.declared.marked.Event.{Event}
use Rattle.ds_accept.specs.Codes.{event_code, IsMissingCode, StandsAtCode}
use Rattle.ds_accept.specs.Fault.{IsFirstWithout}
use Rattle.ds_accept.specs.Steps.{AreEventPlaces, moved}
use Rattle.ds_marked.specs.Graph.{Graph, AreEnds}
use Rattle.ds_marked.specs.declared.marked.Arc.{Arc}
use Rattle.ds_accept.proofs.EventKeys.{one_event}

-- the first events have these places
pub record ArePlacedTo (events others : List Event) (k : ℕ) (places : List ℕ) : Type 0 where
  pub one_each : length places ≡ k
  pub inside : All (λ place. place < length others) places
  pub same : (j : ℕ) (d : Event) → j < k → get_or others (slice_index places j) d ≡ get_or events j d

pub missing : (others : List Event) (e : Event) → IsMissingCode (map event_code others) (event_code e) → ¬ Contains others e
missing others e none (j, inside, is) =
    none j (rw (length-map others event_code) inside) (event_code e) (get_or-map event_code others j e (event_code e) inside ∙ ap event_code is)

-- a place of an event
pub record Stands (others : List Event) (e : Event) (place : ℕ) : Type 0 where
  pub inside : place < length others
  pub is : (d : Event) → get_or others place d ≡ e

pub stands : (others : List Event) (e : Event) (place : ℕ) → StandsAtCode (map event_code others) (event_code e) place → Stands others e place
stands others e place code =
    let low : place < length (map event_code others) = code.inside in
    let inside : place < length others = rw (length-map others event_code) at low in
    record { inside = inside; is = λ d. one_event (get_or others place d) e (sym (get_or-map event_code others place d (event_code d) inside) ∙ code.is (event_code d)) }

module _ (events others : List Event) (k : ℕ) (places : List ℕ) (placed : ArePlacedTo events others k places) where
  pub no_place : k < length events → (e : Event) → e ≡ get_or events k e → IsMissingCode (map event_code others) (event_code e)
      → IsFirstWithout (Contains others) events k
  no_place inside e is none = record {
    inside = inside;
    without = λ d has. missing others e none (subst (Contains others) (get_or_default events k d e inside ∙ sym is) has);
    before = λ j d low below. (
      slice_index places j,
      placed.inside j 0 (rw (placed.one_each) below),
      placed.same j (get_or events j d) below ∙ get_or-self events j d (omega arith),
    );
  }

  one_place : (place : ℕ) (e : Event) → Stands others e place → e ≡ get_or events k e → k < length events
      → (j : ℕ) (d : Event) → j < k + 1 → get_or others (slice_index (places ++ place ∷ []) j) d ≡ get_or events j d
  one_place place e at is inside j d low =
      let size : length places ≡ k = placed.one_each in
      elim (cases_eq j k) [
        | inl last ↦ (
            let read : slice_index (places ++ place ∷ []) j ≡ place = get_or_push places place 0 j (omega arith) in
            ap (λ (n : ℕ). get_or others n d) read ∙ (at.is d ∙ (is ∙ (get_or_default events k e d inside ∙ ap (λ (n : ℕ). get_or events n d) (sym last)))))
        | inr early ↦ (
            let below : j < k = omega arith in
            let read : slice_index (places ++ place ∷ []) j ≡ slice_index places j = get_or_append_left places (place ∷ []) 0 j (omega arith) in
            ap (λ (n : ℕ). get_or others n d) read ∙ placed.same j d below)
      ]

  pub one_more_at : k < length events → (e : Event) → e ≡ get_or events k e → (place : ℕ) → Stands others e place
      → ArePlacedTo events others (k + 1) (places ++ place ∷ [])
  one_more_at inside e is place at = record {
    one_each = length-append places (place ∷ []) ∙ ap (λ (n : ℕ). n + 1) placed.one_each;
    inside = All-push (λ place. place < length others) places place placed.inside at.inside;
    same = one_place place e at is inside;
  }

  pub one_more : k < length events → (e : Event) → e ≡ get_or events k e → (place : ℕ) → StandsAtCode (map event_code others) (event_code e) place
      → ArePlacedTo events others (k + 1) (places ++ place ∷ [])
  one_more inside e is place code = one_more_at inside e is place (stands others e place code)

  -- the places stay where there are more behind the others
  pub with_more : (more : List Event) → ArePlacedTo events (others ++ more) k places
  with_more more =
      let size : length (others ++ more) ≡ length others + length more = length-append others more in record {
        one_each = placed.one_each;
        inside = λ j d low. (let below : get_or places j d < length others = placed.inside j d low in omega (below, size, arith));
        same = λ j d low.
            let count : length places ≡ k = placed.one_each in
            let below : slice_index places j < length others = placed.inside j 0 (omega (count, low, arith)) in
            get_or_append_left others more d (slice_index places j) below ∙ placed.same j d low;
      }

pub all_placed : (events others : List Event) (k : ℕ) (places : List ℕ) → ArePlacedTo events others k places → k ≡ length events → AreEventPlaces events others places
all_placed events others k places placed all = record {
  one_each = placed.one_each ∙ all;
  inside = placed.inside;
  same = λ j d low. placed.same j d (rw all low);
}

-- arcs with other numbers join events again
pub moved_ends : (g : Graph) (events : List Event) (numbers : List ℕ) → AreEventPlaces g.events events numbers → AreEnds (length g.events) g.arcs
    → (arcs : List Arc) → arcs ≡ map (moved (slice_index numbers)) g.arcs → (same : List Event) → same ≡ events → AreEnds (length same) arcs
moved_ends g events numbers placed ends arcs arcs_are same is =
    subst (λ (xs : List Event). AreEnds (length xs) arcs) (sym is) (subst (AreEnds (length events)) (sym arcs_are)
    (All-map (λ (arc : Arc). (arc.source < length events) × (arc.target < length events)) (moved (slice_index numbers)) g.arcs (λ k d inside.
    let both : ((get_or g.arcs k d).source < length g.events) × ((get_or g.arcs k d).target < length g.events) = ends k d inside in (
      placed.inside (get_or g.arcs k d).source 0 (rw placed.one_each both.0),
      placed.inside (get_or g.arcs k d).target 0 (rw placed.one_each both.1),
    ))))
