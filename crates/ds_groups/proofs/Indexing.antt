-- Registers by the nets that they drive, as registers are added.
use Rattle.std.proofs.Common.{◌≡◌, ◌≢◌, ◌∙◌, inl, inr, ℕ, ◌+◌, ◌<◌, ◌≤◌, List, [], ◌∷◌, ◌++◌, length, get_or, set, refl, sym, ap, subst, arith, length-append, Some, None, Option, get_or-set_same, get_or-set_other}
use Rattle.std.proofs.lemmas.Bool.{cases_eq, cases_lt}
use Rattle.std.proofs.lemmas.List.{length-set}
use Rattle.ds_base.proofs.AppendedPairs.{get_or-left, get_or-right}
use Rattle.ds_design.specs.declared.design.Net.{Net}
use Rattle.ds_groups.specs.Indexed.{NetIndex, IsIndex}
use Rattle.ds_groups.specs.Keys.{IsNetAt, IsNoNet, IsKeyPlaced}
use Rattle.ds_groups.specs.Latest.{IsLatest, missing_net, driven_net}

-- one register more, which drives another net
pub latest_more : (nets : List Net) (r : ℕ) (net : Net) (found : Option ℕ) → driven_net nets r ≢ net → IsLatest nets r net found → IsLatest nets (r + 1) net found
latest_more nets r net None other none = λ k low. elim (cases_eq k r) [
  | inl here ↦ (λ e. other (ap (λ (n : ℕ). driven_net nets n) (sym here) ∙ e))
  | inr before ↦ none k (omega arith)
]
latest_more nets r net (Some l) other (inside, at, last) = (
  omega arith,
  at,
  λ k above low. elim (cases_eq k r) [
    | inl here ↦ (λ e. other (ap (λ (n : ℕ). driven_net nets n) (sym here) ∙ e))
    | inr before ↦ last k above (omega arith)
  ],
)

-- the last register is the latest for its own net
pub latest_itself : (nets : List Net) (r : ℕ) (net : Net) → driven_net nets r ≡ net → IsLatest nets (r + 1) net (Some r)
latest_itself nets r net is = (omega arith, is, λ k above low. absurd (omega arith))

module _ (nets : List Net) (r : ℕ) (net : Net) (old : NetIndex) (is : IsIndex nets r old) (own : driven_net nets r ≡ net) where
  before_more : (earlier : Option ℕ) → IsLatest nets r net earlier → (k : ℕ) → k < r + 1
      → IsLatest nets k (driven_net nets k) (get_or (old.earlier ++ earlier ∷ []) k None)
  before_more earlier so k low =
      let n : length old.earlier ≡ r = is.so_many in
      elim (cases_eq k r) [
        | inl here ↦ subst (λ (j : ℕ). IsLatest nets j (driven_net nets j) (get_or (old.earlier ++ earlier ∷ []) j None)) (sym here)
            (subst (λ (e : Option ℕ). IsLatest nets r (driven_net nets r) e) (sym (get_or-right old.earlier (earlier ∷ []) 0 r None (omega arith)))
            (subst (λ (m : Net). IsLatest nets r m earlier) (sym own) so))
        | inr other ↦ subst (λ (e : Option ℕ). IsLatest nets k (driven_net nets k) e) (sym (get_or-left old.earlier (earlier ∷ []) k None (omega arith)))
            (is.before k (omega arith))
      ]

  pub put_found : (place : ℕ) → IsNetAt old.nets net place
      → IsIndex nets (r + 1) (record { nets = old.nets; latest = set old.latest place r; earlier = old.earlier ++ Some (get_or old.latest place 0) ∷ [] })
  put_found place (inside, at) =
      let n : length (set old.latest place r) ≡ length old.latest = length-set old.latest place r in
      let m : length old.latest ≡ length old.nets = is.one_each in
      record {
        one_each = omega arith;
        once = is.once;
        found = λ other k is_at. elim (cases_eq k place) [
          | inl here ↦ (
              let same : net ≡ other = sym at ∙ (ap (λ (j : ℕ). get_or old.nets j missing_net) (sym here) ∙ is_at.1) in
              let e : r ≡ get_or (set old.latest place r) k 0 =
              sym (ap (λ (j : ℕ). get_or (set old.latest place r) j 0) here ∙ get_or-set_same old.latest place r 0 (omega arith)) in
              subst (λ (l : ℕ). IsLatest nets (r + 1) other (Some l)) e (latest_itself nets r other (own ∙ same)))
          | inr elsewhere ↦ (
              let differs : driven_net nets r ≢ other = (λ e. elsewhere (is.once k place is_at.0 inside (is_at.1 ∙ (sym e ∙ (own ∙ sym at))))) in
              subst (λ (l : ℕ). IsLatest nets (r + 1) other (Some l)) (sym (get_or-set_other old.latest place k r 0 elsewhere))
              (latest_more nets r other (Some (get_or old.latest k 0)) differs (is.found other k is_at)))
        ];
        missing = λ other none. latest_more nets r other None (λ e. none place inside (at ∙ (sym own ∙ e))) (is.missing other none);
        so_many = let l : length old.earlier ≡ r = is.so_many in length-append old.earlier (Some (get_or old.latest place 0) ∷ []) ∙ ap (λ (j : ℕ). j + 1) l;
        before = before_more (Some (get_or old.latest place 0)) (is.found net place (inside, at));
      }

  pub put_new : IsNoNet old.nets net
      → IsIndex nets (r + 1) (record { nets = old.nets ++ net ∷ []; latest = old.latest ++ r ∷ []; earlier = old.earlier ++ None ∷ [] })
  put_new none =
      let m : length old.latest ≡ length old.nets = is.one_each in
      let n : length (old.nets ++ net ∷ []) ≡ length old.nets + 1 = length-append old.nets (net ∷ []) in
      let l : length (old.latest ++ r ∷ []) ≡ length old.latest + 1 = length-append old.latest (r ∷ []) in
      let left : (k : ℕ) → k < length old.nets → driven_net (old.nets ++ net ∷ []) k ≡ driven_net old.nets k = λ k low. get_or-left old.nets (net ∷ []) k missing_net low in
      let last : (k : ℕ) → k ≡ length old.nets → driven_net (old.nets ++ net ∷ []) k ≡ net = λ k here. get_or-right old.nets (net ∷ []) 0 k missing_net (omega arith) in
      record {
        one_each = omega arith;
        once = λ j k low also e. elim (cases_lt j (length old.nets)) [
          | inl jn ↦ elim (cases_lt k (length old.nets)) [
            | inl kn ↦ is.once j k jn kn (sym (left j jn) ∙ (e ∙ left k kn))
            | inr kl ↦ absurd (none j jn (sym (left j jn) ∙ (e ∙ last k (omega arith))))
          ]
          | inr jl ↦ elim (cases_lt k (length old.nets)) [
            | inl kn ↦ absurd (none k kn (sym (left k kn) ∙ (sym e ∙ last j (omega arith))))
            | inr kl ↦ omega arith
          ]
        ];
        found = λ other k is_at. elim (cases_lt k (length old.nets)) [
          | inl low ↦ (
              let at : driven_net old.nets k ≡ other = sym (left k low) ∙ is_at.1 in
              let differs : driven_net nets r ≢ other = (λ e. none k low (at ∙ (sym e ∙ own))) in
              subst (λ (x : ℕ). IsLatest nets (r + 1) other (Some x)) (sym (get_or-left old.latest (r ∷ []) k 0 (omega arith)))
              (latest_more nets r other (Some (get_or old.latest k 0)) differs (is.found other k (low, at))))
          | inr high ↦ (
              let here : k ≡ length old.nets = (let i : k < length (old.nets ++ net ∷ []) = is_at.0 in omega arith) in
              subst (λ (x : ℕ). IsLatest nets (r + 1) other (Some x)) (sym (get_or-right old.latest (r ∷ []) 0 k 0 (omega arith)))
              (latest_itself nets r other (own ∙ (sym (last k here) ∙ is_at.1))))
        ];
        missing = λ other unlike.
            latest_more nets r other None
            (λ e. unlike (length old.nets) (omega arith) (last (length old.nets) refl ∙ (sym own ∙ e)))
            (is.missing other (λ k low e. unlike k (omega arith) (left k low ∙ e)));
        so_many = let s : length old.earlier ≡ r = is.so_many in length-append old.earlier (None ∷ []) ∙ ap (λ (j : ℕ). j + 1) s;
        before = before_more None (is.missing net none);
      }

-- by the place that the net has
module _ (nets : List Net) (r : ℕ) (net : Net) (old : NetIndex) (is : IsIndex nets r old) (own : driven_net nets r ≡ net)
    (keys : List Net) (place : ℕ) (placed : IsKeyPlaced old.nets net keys place) (latest : List ℕ) (earlier : List (Option ℕ)) where
  pub put_some : place < length old.latest → latest ≡ set old.latest place r → earlier ≡ old.earlier ++ Some (get_or old.latest place 0) ∷ []
      → IsIndex nets (r + 1) (record { nets = keys; latest = latest; earlier = earlier })
  put_some below e f =
      let m : length old.latest ≡ length old.nets = is.one_each in
      elim placed [
        | inl (same, there) ↦
            subst (λ (ks : List Net). IsIndex nets (r + 1) (record { nets = ks; latest = latest; earlier = earlier })) (sym same)
            (subst (λ (l : List ℕ). IsIndex nets (r + 1) (record { nets = old.nets; latest = l; earlier = earlier })) (sym e)
            (subst (λ (l : List (Option ℕ)). IsIndex nets (r + 1) (record { nets = old.nets; latest = set old.latest place r; earlier = l })) (sym f)
            (put_found nets r net old is own place there)))
        | inr (last, more, none) ↦ absurd (omega arith)
      ]

  pub put_none : length old.latest ≤ place → latest ≡ old.latest ++ r ∷ [] → earlier ≡ old.earlier ++ None ∷ []
      → IsIndex nets (r + 1) (record { nets = keys; latest = latest; earlier = earlier })
  put_none past e f =
      let m : length old.latest ≡ length old.nets = is.one_each in
      elim placed [
        | inl (same, (inside, at)) ↦ absurd (omega arith)
        | inr (last, more, none) ↦
            subst (λ (ks : List Net). IsIndex nets (r + 1) (record { nets = ks; latest = latest; earlier = earlier })) (sym more)
            (subst (λ (l : List ℕ). IsIndex nets (r + 1) (record { nets = old.nets ++ net ∷ []; latest = l; earlier = earlier })) (sym e)
            (subst (λ (l : List (Option ℕ)). IsIndex nets (r + 1) (record { nets = old.nets ++ net ∷ []; latest = old.latest ++ r ∷ []; earlier = l })) (sym f)
            (put_new nets r net old is own none)))
      ]
