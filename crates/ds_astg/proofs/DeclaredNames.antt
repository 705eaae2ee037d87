-- Names that are declared, and the numbers of their events.
use Rattle.std.proofs.Common.{◌≡◌, ℕ, zero, suc, ◌+◌, ◌*◌, ◌<◌, ◌≤◌, false, List, [], ◌∷◌, ◌++◌, length, get_or, take, map, sym, ◌∙◌, ap, subst, arith, inl, inr, None, Some, IfSome, slice_get, sum_by}
use Rattle.std.proofs.lemmas.Bool.{cases_lt}
use Rattle.std.proofs.lemmas.List.{map-append, length-map, length-append, get_or_append_left, take-append-le}
use Rattle.std.proofs.lemmas.List.Sums.{sum_by-append, sum_by_more_le, sum_by-le}
use Rattle.std.proofs.lemmas.Option.{slice_get_past, slice_get-get_or}
use Rattle.std.proofs.Math.Seq.{get_or-append_seam, take-append_seam}
use Rattle.ds_lines.specs.Names.{has_name, place_of_name, with_name}
use Rattle.ds_astg.specs.Signals.{Declared, count_events, event_count, first_event, role_of}
use Rattle.ds_astg.specs.Numbered.{AreNumbered, roles_of}
use Rattle.ds_astg.specs.declared.role.Role.{Role}
use Rattle.ds_astg.specs.declared.role.Role.TheVariants.{Signal, Dummy}
use Rattle.ds_astg.specs.declared.declaration.Declaration.{Declaration}
use Rattle.ds_astg.proofs.Declared.{distinct, length-new}

few_of : (role : Role) → event_count role ≤ 2
few_of Signal = omega arith
few_of Dummy = omega arith

-- at most two events a name
pub count_few : (roles : List Role) → count_events roles ≤ 2 * length roles
count_few roles = (let h = sum_by-le event_count 2 roles (λ k d inside. few_of (get_or roles k d)) in omega (arith, h))

pub count_push : (roles : List Role) (role : Role) → count_events (roles ++ role ∷ []) ≡ count_events roles + event_count role
count_push roles role = sum_by-append event_count roles (role ∷ [])
    ∙ ap (λ (n : ℕ). count_events roles + n) (let e : 0 + event_count role ≡ event_count role = omega arith in e)

pub count_cons : (role : Role) (roles : List Role) → count_events (role ∷ roles) ≡ event_count role + count_events roles
count_cons role roles = sum_by-append event_count (role ∷ []) roles
    ∙ ap (λ (n : ℕ). n + count_events roles) (let e : 0 + event_count role ≡ event_count role = omega arith in e)

-- the events of a name are among all
pub room_at : (roles : List Role) (k : ℕ) → IfSome (slice_get roles k) (λ role. first_event roles k + event_count role ≤ count_events roles)
room_at roles k = elim (cases_lt k (length roles)) [
  | inl low ↦ rw (slice_get-get_or roles k Signal low) (sum_by_more_le event_count roles k Signal low)
  | inr high ↦ rw (slice_get_past roles k high) tt
]

-- few enough for a word
pub all_few : (names : List (List ℕ)) (kept : List Declaration) (events : ℕ) → AreNumbered names kept events → events ≤ 131072
all_few names kept events are =
    let r = count_few (roles_of kept) in
    let l : length (roles_of kept) ≡ length kept = length-map kept (λ (x : Declaration). x.role) in
    omega (arith, r, l, are.all, are.within, are.few)

-- one name more
module _ (names : List (List ℕ)) (kept : List Declaration) (events : ℕ) (word : List ℕ) (are : AreNumbered names kept events) (room : length names < 65536) where
  pub named_one : has_name names word ≡ false → AreNumbered (with_name names word) kept events
  named_one new = record {
    few = length-new word names room;
    distinct = distinct word names are.distinct;
    within = (let h = are.within in let l = length-append names (word ∷ []) in rw new (omega (arith, h, l)));
    firsts = are.firsts;
    all = are.all;
  }

  pub numbered_one : has_name names word ≡ false → (d : Declaration) → d.first ≡ events
      → AreNumbered (with_name names word) (kept ++ d ∷ []) (events + event_count d.role)
  numbered_one new d first = record {
    few = length-new word names room;
    distinct = distinct word names are.distinct;
    within = (let h = are.within in let l = length-append names (word ∷ []) in let m = length-append kept (d ∷ []) in rw new (omega (arith, h, l, m)));
    firsts = λ k e inside. elim (cases_lt k (length kept)) [
      | inl low ↦ ap (λ (x : Declaration). x.first) (get_or_append_left kept (d ∷ []) e k low)
          ∙ (are.firsts k e low ∙ ap (λ (rs : List Role). count_events rs) (sym (earlier k low)))
      | inr high ↦ (let l = length-append kept (d ∷ []) in let at : k ≡ length kept = omega (arith, high, inside, l) in
          ap (λ (n : ℕ). (get_or (kept ++ d ∷ []) n e).first) at ∙ (ap (λ (x : Declaration). x.first) (get_or-append_seam kept d [] e)
          ∙ (first ∙ (are.all ∙ ap (λ (rs : List Role). count_events rs) (sym (ap (λ (n : ℕ). take n (roles_of (kept ++ d ∷ []))) at ∙ all_earlier))))))
    ];
    all = ap (λ (n : ℕ). n + event_count d.role) are.all ∙ (sym (count_push (roles_of kept) d.role) ∙ ap (λ (rs : List Role). count_events rs) (sym pushed));
  }
    where
      pushed : roles_of (kept ++ d ∷ []) ≡ roles_of kept ++ d.role ∷ []
      pushed = map-append (λ (x : Declaration). x.role) kept (d ∷ [])

      size : length (roles_of kept) ≡ length kept
      size = length-map kept (λ (x : Declaration). x.role)

      earlier : (k : ℕ) → k < length kept → take k (roles_of (kept ++ d ∷ [])) ≡ take k (roles_of kept)
      earlier k low = ap (λ (rs : List Role). take k rs) pushed ∙ take-append-le k (roles_of kept) (d.role ∷ []) (omega (arith, low, size))

      all_earlier : take (length kept) (roles_of (kept ++ d ∷ [])) ≡ roles_of kept
      all_earlier = ap (λ (rs : List Role). take (length kept) rs) pushed
          ∙ (ap (λ (n : ℕ). take n (roles_of kept ++ d.role ∷ [])) (sym size) ∙ take-append_seam (roles_of kept) (d.role ∷ []))

-- what is kept of a name
module _ (names : List (List ℕ)) (kept : List Declaration) (events : ℕ) (are : AreNumbered names kept events) (signals : Declared)
    (view : record { names = names; roles = roles_of kept } ≡ signals) (word : List ℕ) where
  pub no_role : (place : ℕ) → place ≡ place_of_name names word → length kept ≤ place → None ≡ role_of signals word
  no_role place at past = subst (λ (s : Declared). None ≡ role_of s word) view
      (sym (ap (slice_get (roles_of kept)) (sym at) ∙ slice_get_past (roles_of kept) place (let l = length-map kept (λ (x : Declaration). x.role) in omega (arith, l, past))))

  pub kept_few : (d : Declaration) (place : ℕ) → place < length kept → d ≡ get_or kept place d → d.first ≤ 131072
  kept_few d place inside is =
      let e : d.first ≡ first_event (roles_of kept) place = ap (λ (x : Declaration). x.first) is ∙ are.firsts place d inside in
      let r = count_few (take place (roles_of kept)) in
      let l : length (roles_of kept) ≡ length kept = length-map kept (λ (x : Declaration). x.role) in
      let t : length (take place (roles_of kept)) ≤ length (roles_of kept) = shorter place (roles_of kept) in
      omega (arith, e, r, l, t, are.within, are.few)
    where
      shorter : (n : ℕ) (rs : List Role) → length (take n rs) ≤ length rs
      shorter zero rs = omega arith
      shorter (suc n) [] = omega arith
      shorter (suc n) (r ∷ rs) = (let h = shorter n rs in omega (arith, h))
