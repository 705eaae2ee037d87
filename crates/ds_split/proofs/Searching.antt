-- A search for edges goes on.
use Rattle.std.proofs.Common.{◌≡◌, ◌≢◌, ◌⊎◌, inl, inr, ℕ, ◌+◌, ◌<◌, ◌≤◌, List, [], ◌∷◌, ◌++◌, length, get_or, set, refl, sym, ◌∙◌, ap, subst, arith, get_or-set_same, get_or-set_other}
use Rattle.std.specs.Prelude.{Contains}
use Rattle.std.proofs.lemmas.Bool.{cases_eq}
use Rattle.std.proofs.lemmas.List.{get_or_default, length-set}
use Rattle.std.proofs.lemmas.List.Elements.{Contains-push_cases, Contains-push, Contains-append_left, Contains-get_or}
use Rattle.std.proofs.lemmas.List.Quantifiers.{all_pairs_push}
use Rattle.ds_latch.specs.declared.latches.Edge.{Edge}
use Rattle.ds_split.specs.Search.{Found, edge_of, with_edge, IsBefore, IsAt, HasMet}

-- the next consumer begins
pub begins_at : (consumer : ℕ) (f : Found) → IsBefore consumer f → IsAt consumer f
begins_at consumer f before = record {
  some = before.some;
  labels = before.labels;
  consumers = λ e is. (let h : e.consumer < consumer = before.consumers e is in omega arith);
  seen = λ m. (let h : get_or f.seen m 0 < consumer = before.seen m in omega arith);
  met = λ m e. absurd (let h : get_or f.seen m 0 < consumer = before.seen m in omega (arith, e));
  unmet = λ m is. absurd (let h : consumer < consumer = before.consumers (edge_of m consumer) is in omega arith);
  once = before.once;
}

-- a consumer is done
pub ends_at : (consumer : ℕ) (f : Found) → IsAt consumer f → IsBefore (consumer + 1) f
ends_at consumer f at = record {
  some = omega arith;
  labels = at.labels;
  consumers = λ e is. (let h : e.consumer ≤ consumer = at.consumers e is in omega arith);
  seen = λ m. (let h : get_or f.seen m 0 ≤ consumer = at.seen m in omega arith);
  once = at.once;
}

-- a list with one place written
pub seen_set : (seen : List ℕ) (m consumer k : ℕ) → m < length seen
    → ((k ≡ m) × (get_or (set seen m consumer) k 0 ≡ consumer)) ⊎ ((k ≢ m) × (get_or (set seen m consumer) k 0 ≡ get_or seen k 0))
seen_set seen m consumer k inside = elim (cases_eq k m) [
  | inl e ↦ inl (e, ap (λ (j : ℕ). get_or (set seen m consumer) j 0) e ∙ get_or-set_same seen m consumer 0 inside)
  | inr other ↦ inr (other, get_or-set_other seen m k consumer 0 other)
]

-- an edge into a consumer that has none yet
pub linked : (consumer m : ℕ) (f : Found) → m < length f.seen → IsBefore consumer f
    → IsBefore (consumer + 1) (with_edge f m consumer)
linked consumer m f inside before = record {
  some = omega arith;
  labels = λ net. (let h : get_or f.producers net 0 ≤ length f.seen = before.labels net in
      let n : length (set f.seen m consumer) ≡ length f.seen = length-set f.seen m consumer in omega arith);
  consumers = λ e is. elim (Contains-push_cases f.edges (edge_of m consumer) e is) [
    | inl old ↦ (let h : e.consumer < consumer = before.consumers e old in omega arith)
    | inr new ↦ (let h : consumer ≡ e.consumer = ap (λ (e : Edge). e.consumer) new in omega arith)
  ];
  seen = λ k. elim (seen_set f.seen m consumer k inside) [
    | inl (here, is) ↦ omega (arith, is)
    | inr (other, is) ↦ (let h : get_or f.seen k 0 < consumer = before.seen k in omega (arith, is))
  ];
  once = all_pairs_push (λ a b. a ≢ b) f.edges (edge_of m consumer) before.once
      (λ k d low e. (let h : (get_or f.edges k d).consumer < consumer =
      before.consumers (get_or f.edges k d) (Contains-get_or f.edges k d low) in
      let same : (get_or f.edges k d).consumer ≡ consumer = ap (λ (e : Edge). e.consumer) e in
      omega arith));
}

module _ (consumer : ℕ) (f : Found) (at : IsAt consumer f) (net : ℕ) where
  -- the net has no producer
  pub met_none : get_or f.producers net 0 ≡ 0 → HasMet consumer f (λ other. other ≡ net) f
  met_none is = record {
    at = at;
    same_producers = refl;
    same_room = refl;
    kept = λ e there. there;
    found = λ other m same label. absurd (let h : get_or f.producers net 0 ≡ m + 1 = ap (λ (n : ℕ). get_or f.producers n 0) (sym same) ∙ label in omega (arith, is));
    only = λ e there. inl there;
  }

  module _ (m : ℕ) (is : get_or f.producers net 0 ≡ m + 1) where
    -- what a net's producer is
    same_producer : (other k : ℕ) → other ≡ net → get_or f.producers other 0 ≡ k + 1 → m ≡ k
    same_producer other k same label =
        let h : get_or f.producers net 0 ≡ k + 1 = ap (λ (n : ℕ). get_or f.producers n 0) (sym same) ∙ label in omega (arith, is)

    -- its producer has an edge already
    pub met_again : get_or f.seen m 0 ≡ consumer → HasMet consumer f (λ other. other ≡ net) f
    met_again seen = record {
      at = at;
      same_producers = refl;
      same_room = refl;
      kept = λ e there. there;
      found = λ other k same label. subst (λ (j : ℕ). Contains f.edges (edge_of j consumer)) (same_producer other k same label) (at.met m seen);
      only = λ e there. inl there;
    }

    -- it has an edge now
    module _ (inside : m < length f.seen) (unseen : get_or f.seen m 0 ≢ consumer) where
      at_new : IsAt consumer (with_edge f m consumer)
      at_new = record {
        some = at.some;
        labels = λ n. (let h : get_or f.producers n 0 ≤ length f.seen = at.labels n in
            let e : length (set f.seen m consumer) ≡ length f.seen = length-set f.seen m consumer in omega arith);
        consumers = λ e there. elim (Contains-push_cases f.edges (edge_of m consumer) e there) [
          | inl old ↦ at.consumers e old
          | inr new ↦ (let h : consumer ≡ e.consumer = ap (λ (e : Edge). e.consumer) new in omega arith)
        ];
        seen = λ k. elim (seen_set f.seen m consumer k inside) [
          | inl (here, e) ↦ omega (arith, e)
          | inr (other, e) ↦ (let h : get_or f.seen k 0 ≤ consumer = at.seen k in omega (arith, e))
        ];
        met = λ k e. elim (seen_set f.seen m consumer k inside) [
          | inl (here, now) ↦ subst (λ (j : ℕ). Contains (f.edges ++ edge_of m consumer ∷ []) (edge_of j consumer)) (sym here) (Contains-push f.edges (edge_of m consumer))
          | inr (other, now) ↦ Contains-append_left f.edges (edge_of m consumer ∷ []) (edge_of k consumer) (at.met k (sym now ∙ e))
        ];
        unmet = λ k there. elim (seen_set f.seen m consumer k inside) [
          | inl (here, now) ↦ now
          | inr (other, now) ↦ elim (Contains-push_cases f.edges (edge_of m consumer) (edge_of k consumer) there) [
            | inl old ↦ now ∙ at.unmet k old
            | inr new ↦ absurd (other (sym (ap (λ (e : Edge). e.producer) new)))
          ]
        ];
        once = all_pairs_push (λ a b. a ≢ b) f.edges (edge_of m consumer) at.once
            (λ k d low e. unseen (at.unmet m (subst (λ (x : Edge). Contains f.edges x) e (Contains-get_or f.edges k d low))));
      }

      pub met_new : HasMet consumer f (λ other. other ≡ net) (with_edge f m consumer)
      met_new = record {
        at = at_new;
        same_producers = refl;
        same_room = length-set f.seen m consumer;
        kept = λ e there. Contains-append_left f.edges (edge_of m consumer ∷ []) e there;
        found = λ other k same label. subst (λ (j : ℕ). Contains (f.edges ++ edge_of m consumer ∷ []) (edge_of j consumer))
            (same_producer other k same label) (Contains-push f.edges (edge_of m consumer));
        only = λ e there. elim (Contains-push_cases f.edges (edge_of m consumer) e there) [
          | inl old ↦ inl old
          | inr new ↦ inr (net, refl, (m, is, sym new))
        ];
      }

-- what is met, and then more, is all that is meant
pub met_then : (consumer : ℕ) (f g h : Found) (One More All : ℕ → Type 0)
    → HasMet consumer f One g → HasMet consumer g More h
    → ((n : ℕ) → All n → One n ⊎ More n) → ((n : ℕ) → One n → All n) → ((n : ℕ) → More n → All n)
    → HasMet consumer f All h
met_then consumer f g h One More All first then split one more = record {
  at = then.at;
  same_producers = then.same_producers ∙ first.same_producers;
  same_room = then.same_room ∙ first.same_room;
  kept = λ e there. then.kept e (first.kept e there);
  found = λ net m means label. elim (split net means) [
    | inl old ↦ then.kept (edge_of m consumer) (first.found net m old label)
    | inr new ↦ then.found net m new (ap (λ ps. get_or ps net 0) first.same_producers ∙ label)
  ];
  only = λ e there. elim (then.only e there) [
    | inl old ↦ elim (first.only e old) [
      | inl oldest ↦ inl oldest
      | inr (net, means, from) ↦ inr (net, one net means, from)
    ]
    | inr (net, means, (m, label, is)) ↦
        inr (net, more net means, (m, ap (λ ps. get_or ps net 0) (sym first.same_producers) ∙ label, is))
  ];
}

-- the same where others are meant by other words
pub met_means : (consumer : ℕ) (f g : Found) (One All : ℕ → Type 0) → HasMet consumer f One g
    → ((n : ℕ) → All n → One n) → ((n : ℕ) → One n → All n) → HasMet consumer f All g
met_means consumer f g One All first from to = record {
  at = first.at;
  same_producers = first.same_producers;
  same_room = first.same_room;
  kept = first.kept;
  found = λ net m means label. first.found net m (from net means) label;
  only = λ e there. elim (first.only e there) [
    | inl old ↦ inl old
    | inr (net, means, is) ↦ inr (net, to net means, is)
  ];
}

-- a net is one of the first of these
abbrev pub IsFirst : List ℕ → ℕ → ℕ → Type 0
IsFirst nets i n = (k : ℕ) × (k < i) × (get_or nets k 0 ≡ n)

pub met_more : (consumer : ℕ) (f g h : Found) (nets : List ℕ) (i : ℕ) → HasMet consumer f (IsFirst nets i) g
    → HasMet consumer g (λ n. n ≡ get_or nets i 0) h → HasMet consumer f (IsFirst nets (i + 1)) h
met_more consumer f g h nets i first then =
    met_then consumer f g h (IsFirst nets i) (λ n. n ≡ get_or nets i 0) (IsFirst nets (i + 1)) first then
    (λ n means. (let (k, low, is) = means in elim (cases_eq k i) [
      | inl e ↦ inr (sym is ∙ ap (λ j. get_or nets j 0) e)
      | inr other ↦ inl (k, omega arith, is)
    ]))
    (λ n means. (let (k, low, is) = means in (k, omega arith, is)))
    (λ n same. (i, omega arith, sym same))

pub met_all : (consumer : ℕ) (f g : Found) (nets : List ℕ) (i : ℕ) → i ≡ length nets → HasMet consumer f (IsFirst nets i) g
    → HasMet consumer f (Contains nets) g
met_all consumer f g nets i all first = met_means consumer f g (IsFirst nets i) (Contains nets) first
    (λ n is. (let (k, inside, at) = is in (k, omega arith, get_or_default nets k 0 n inside ∙ at)))
    (λ n means. (let (k, low, is) = means in
    let inside : k < length nets = omega arith in (k, inside, get_or_default nets k n 0 inside ∙ is)))
