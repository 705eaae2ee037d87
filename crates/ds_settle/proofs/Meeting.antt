-- Nets are met one by one.
use Rattle.std.proofs.Common.{◌≡◌, ◌≢◌, ◌⊎◌, ◌∙◌, ℕ, ◌+◌, ◌<◌, Bool, true, false, not, cond, List, [], ◌∷◌, ◌++◌, Option, Some, None, length, get_or, refl, sym, ap, arith, inl, inr, subst, length-append}
use Rattle.std.specs.Prelude.{All, Any, Contains}
use Rattle.std.proofs.Math.ListN.{set}
use Rattle.std.proofs.lemmas.Bool.{cases_eq, false≢true}
use Rattle.std.proofs.lemmas.List.{get_or-append-add, get_or-set_other, get_or-set_same, get_or_append_left, length-set}
use Rattle.std.proofs.lemmas.List.Elements.{All-append, All-cons, All-head, All-nil, All-push, All-weaker, Contains-append_left, Contains-push}
use Rattle.std.proofs.lemmas.List.Quantifiers.{Any-push, all_pairs_push}
use Rattle.std.proofs.lemmas.List.Sums.{sum_by-set}
use Rattle.ds_design.specs.Circuit.{Circuit}
use Rattle.ds_design.specs.Levels.{table_nets}
use Rattle.ds_settle.specs.Cone.{Parts, ReachesSome, net_of}
use Rattle.ds_settle.specs.Walk.{AreMet, Grows, IsDriver, IsFound, IsMarked, unmarked, with_found}
use Rattle.ds_settle.proofs.CircuitTables.{driver_of}

any_left : {X : Type 0} (P : X → Type 0) (xs ys : List X) → Any P xs → Any P (xs ++ ys)
any_left P xs ys (k, x, inside, is, p) = (k, x, omega (arith, length-append xs ys), get_or_append_left xs ys x k inside ∙ is, p)

all_left : {X : Type 0} (P : X → Type 0) (xs ys : List X) → All P (xs ++ ys) → All P xs
all_left P xs ys all k d inside = subst P (get_or_append_left xs ys d k inside) (all k d (omega (arith, length-append xs ys)))

all_right : {X : Type 0} (P : X → Type 0) (xs ys : List X) → All P (xs ++ ys) → All P ys
all_right P xs ys all k d inside = subst P (get_or-append-add xs ys k d) (all (length xs + k) d (omega (arith, length-append xs ys)))

-- 1 for a net that is not marked
abbrev one_if_free : Bool → ℕ
one_if_free mark = cond (not mark) 1 0

module _ (marks : List Bool) (net : ℕ) (inside : net < length marks) (free : get_or marks net false ≡ false) where
  marked_self : IsMarked (set marks net true) net
  marked_self = get_or-set_same marks net true false inside

  still_marked : (other : ℕ) → IsMarked marks other → IsMarked (set marks net true) other
  still_marked other is = elim (cases_eq other net) [
    | inl e ↦ subst (IsMarked (set marks net true)) (sym e) marked_self
    | inr ne ↦ get_or-set_other marks net other true false ne ∙ is
  ]

  apart : (other : ℕ) → IsMarked marks other → other ≢ net
  apart other is e = false≢true (sym free ∙ (ap (λ (n : ℕ). get_or marks n false) (sym e) ∙ is))

  marked_before : (other : ℕ) → IsMarked (set marks net true) other → (other ≡ net) ⊎ IsMarked marks other
  marked_before other is = elim (cases_eq other net) [
    | inl e ↦ inl e
    | inr ne ↦ inr (sym (get_or-set_other marks net other true false ne) ∙ is)
  ]

  one_less : unmarked (set marks net true) + 1 ≡ unmarked marks
  one_less =
      let here : one_if_free (get_or marks net false) ≡ 1 = ap one_if_free free in
      let total : unmarked (set marks net true) + one_if_free (get_or marks net false) ≡ unmarked marks + 0 = sum_by-set one_if_free marks net true false inside in
      omega arith

module _ (c : Circuit) (marks : List Bool) (found : Parts) (net : ℕ) (low : net < length c.nets) (sizes : length marks ≡ length c.nets) (free : get_or marks net false ≡ false) where
  within : net < length marks
  within = omega arith

  grows_with : (driver : Option ℕ) → Grows marks found (set marks net true) (with_found found net driver)
  grows_with None = record {
    same_length = length-set marks net true;
    marks = still_marked marks net within free;
    longer = omega arith;
    tables = λ i inside. refl;
    work = omega (arith, one_less marks net within free);
  }
  grows_with (Some k) = record {
    same_length = length-set marks net true;
    marks = still_marked marks net within free;
    longer = omega (arith, length-append found.tables (k ∷ []));
    tables = λ i inside. get_or_append_left found.tables (k ∷ []) 0 i inside;
    work = omega (arith, one_less marks net within free, length-append found.tables (k ∷ []));
  }

  module _ (these : List ℕ) (reaches : ReachesSome c these net) (h : IsFound c these marks found) where
    found_source : ¬ Contains (table_nets c) net → IsFound c these (set marks net true) (with_found found net None)
    found_source undriven = record {
      within = h.within;
      once = h.once;
      reach = h.reach;
      marked = All-weaker (λ k. IsMarked marks (net_of c k)) (λ k. IsMarked (set marks net true) (net_of c k)) (λ k is. still_marked marks net within free (net_of c k) is) found.tables h.marked;
      sources_within = All-push (λ net. net < length c.nets) found.sources net h.sources_within low;
      sources_once = all_pairs_push (λ a b. a ≢ b) found.sources net h.sources_once (λ k d inside. apart marks net within free (get_or found.sources k d) (h.sources_marked k d inside));
      sources_free = All-push (λ net. ¬ Contains (table_nets c) net) found.sources net h.sources_free undriven;
      sources_reach = All-push (ReachesSome c these) found.sources net h.sources_reach reaches;
      sources_marked = All-push (IsMarked (set marks net true)) found.sources net (All-weaker (IsMarked marks) (IsMarked (set marks net true)) (still_marked marks net within free) found.sources h.sources_marked) (marked_self marks net within free);
      all = λ other is. elim (marked_before marks net within free other is) [
        | inl e ↦ inl (subst (Contains (found.sources ++ net ∷ [])) (sym e) (Contains-push found.sources net))
        | inr before ↦ elim (h.all other before) [
          | inl source ↦ inl (Contains-append_left found.sources (net ∷ []) other source)
          | inr table ↦ inr table
        ]
      ];
    }

    found_table : (k : ℕ) → k < length c.tables → net_of c k ≡ net → IsFound c these (set marks net true) (with_found found net (Some k))
    found_table k inside drives = record {
      within = All-push (λ k. k < length c.tables) found.tables k h.within inside;
      once = all_pairs_push (λ i j. i ≢ j) found.tables k h.once
          (λ i d below e. apart marks net within free (net_of c (get_or found.tables i d)) (h.marked i d below) (ap (net_of c) e ∙ drives));
      reach = All-push (λ k. ReachesSome c these (net_of c k)) found.tables k h.reach (subst (ReachesSome c these) (sym drives) reaches);
      marked = All-push (λ k. IsMarked (set marks net true) (net_of c k)) found.tables k
          (All-weaker (λ k. IsMarked marks (net_of c k)) (λ k. IsMarked (set marks net true) (net_of c k)) (λ k is. still_marked marks net within free (net_of c k) is) found.tables h.marked)
          (subst (IsMarked (set marks net true)) (sym drives) (marked_self marks net within free));
      sources_within = h.sources_within;
      sources_once = h.sources_once;
      sources_free = h.sources_free;
      sources_reach = h.sources_reach;
      sources_marked = All-weaker (IsMarked marks) (IsMarked (set marks net true)) (still_marked marks net within free) found.sources h.sources_marked;
      all = λ other is. elim (marked_before marks net within free other is) [
        | inl e ↦ inr (Any-push (λ j. net_of c j ≡ other) found.tables k (drives ∙ sym e))
        | inr before ↦ elim (h.all other before) [
          | inl source ↦ inl source
          | inr table ↦ inr (any_left (λ j. net_of c j ≡ other) found.tables (k ∷ []) table)
        ]
      ];
    }

    found_with : (driver : Option ℕ) → IsDriver c (length c.tables) net driver → IsFound c these (set marks net true) (with_found found net driver)
    found_with None is = found_source (λ driven. (let (k, inside, e) = driver_of c net driven in is k inside e))
    found_with (Some k) is = found_table k is.0 is.1

  -- a net that was not marked is met
  pub met_new : (driver : Option ℕ) → IsDriver c (length c.tables) net driver → AreMet c (net ∷ []) marks found (set marks net true) (with_found found net driver)
  met_new driver is = record {
    grows = grows_with driver;
    met = All-cons (IsMarked (set marks net true)) net [] (marked_self marks net within free) (All-nil (IsMarked (set marks net true)));
    found = λ these reach h. found_with these (All-head (ReachesSome c these) net [] reach) h driver is;
  }

module _ (c : Circuit) (marks : List Bool) (found : Parts) where
  grows_none : Grows marks found marks found
  grows_none = record { same_length = refl; marks = λ net is. is; longer = omega arith; tables = λ i inside. refl; work = omega arith }

pub grows_more : (marks0 : List Bool) (found0 : Parts) (marks1 : List Bool) (found1 : Parts) (marks2 : List Bool) (found2 : Parts) → Grows marks0 found0 marks1 found1 → Grows marks1 found1 marks2 found2 → Grows marks0 found0 marks2 found2
grows_more marks0 found0 marks1 found1 marks2 found2 first then = record {
  same_length = then.same_length ∙ first.same_length;
  marks = λ net is. then.marks net (first.marks net is);
  longer = omega (arith, first.longer, then.longer);
  tables = λ i inside. then.tables i (omega (arith, first.longer)) ∙ first.tables i inside;
  work = omega (arith, first.work, then.work);
}

-- more nets are met
pub met_more : (c : Circuit) (xs ys : List ℕ) (marks0 : List Bool) (found0 : Parts) (marks1 : List Bool) (found1 : Parts) (marks2 : List Bool) (found2 : Parts)
    → AreMet c xs marks0 found0 marks1 found1 → AreMet c ys marks1 found1 marks2 found2 → AreMet c (xs ++ ys) marks0 found0 marks2 found2
met_more c xs ys marks0 found0 marks1 found1 marks2 found2 first then = record {
  grows = grows_more marks0 found0 marks1 found1 marks2 found2 first.grows then.grows;
  met = All-append (IsMarked marks2) xs ys (All-weaker (IsMarked marks1) (IsMarked marks2) then.grows.marks xs first.met) then.met;
  found = λ these reach h. then.found these (all_right (ReachesSome c these) xs ys reach) (first.found these (all_left (ReachesSome c these) xs ys reach) h);
}
