-- A walk from its beginning to its end, and the cone that it gives.
use Rattle.std.proofs.Common.{◌≡◌, ◌∙◌, ℕ, ◌+◌, ◌<◌, Bool, false, List, [], length, get_or, sym, ap, arith, inl, inr, subst}
use Rattle.std.specs.Prelude.{All, Any, Contains}
use Rattle.std.proofs.Math.ListN.{replicate}
use Rattle.std.proofs.lemmas.Bool.{cases_eq, cases_lt, false≢true}
use Rattle.std.proofs.lemmas.List.{get_or-replicate, get_or_default, get_or_past, length-replicate}
use Rattle.std.proofs.lemmas.List.Elements.{All-contains, All-nil, All-weaker, Contains-get_or}
use Rattle.std.proofs.lemmas.List.Sorted.{All-permutation, Contains-permutation, IsPermutation-sym}
use Rattle.ds_design.specs.Accepted.{IsAccepted}
use Rattle.ds_design.specs.Circuit.{Circuit}
use Rattle.ds_design.specs.Levels.{AreLevels, IsByLevel, IsSortedByLevel, table_nets}
use Rattle.ds_design.proofs.ByLevel.{differ_sorted}
use Rattle.ds_design.specs.Reach.{Feeds, Reaches, here, through}
use Rattle.ds_design.specs.declared.design.Gate.{Gate}
use Rattle.ds_settle.specs.Cone.{IsCone, Parts, ReachesSome, net_of}
use Rattle.ds_settle.specs.Walk.{AreFollowed, AreMet, AreReached, Grows, IsFound, IsMarked}
use Rattle.ds_settle.proofs.ConeReach.{reaches_some_before}
use Rattle.ds_settle.proofs.LevelOrder.{order_by_level}
use Rattle.ds_settle.proofs.CircuitTables.{net_driven, net_is, same_table}

none_marked : (n net : ℕ) → ¬ IsMarked (replicate n false) net
none_marked n net is = elim (cases_lt net n) [
  | inl low ↦ false≢true (sym (get_or-replicate n net false false low) ∙ is)
  | inr high ↦ false≢true (sym (get_or_past (replicate n false) net false (let long = length-replicate n false in omega arith)) ∙ is)
]

-- before the first net is met
pub found_none : (c : Circuit) (these : List ℕ) (n : ℕ) → IsFound c these (replicate n false) (record { tables = []; sources = [] })
found_none c these n = record {
  within = All-nil (λ k. k < length c.tables);
  once = λ i j d below inside. absurd (omega arith);
  reach = All-nil (λ k. ReachesSome c these (net_of c k));
  marked = All-nil (λ k. IsMarked (replicate n false) (net_of c k));
  sources_within = All-nil (λ net. net < length c.nets);
  sources_once = λ i j d below inside. absurd (omega arith);
  sources_free = All-nil (λ net. ¬ Contains (table_nets c) net);
  sources_reach = All-nil (ReachesSome c these);
  sources_marked = All-nil (IsMarked (replicate n false));
  all = λ net is. absurd (none_marked n net is);
}

-- what is marked stays so
pub marks_kept : (marks : List Bool) (found : Parts) (marks' : List Bool) (found' : Parts) → Grows marks found marks' found' → (nets : List ℕ) → All (IsMarked marks) nets → All (IsMarked marks') nets
marks_kept marks found marks' found' grows nets all = All-weaker (IsMarked marks) (IsMarked marks') grows.marks nets all

-- one more table is followed
module _ (c : Circuit) (these : List ℕ) (marks : List Bool) (found : Parts) (h : IsFound c these marks found) (marks' : List Bool) (found' : Parts) (i : ℕ) (inside : i < length found.tables) (gate : Gate) (gate_is : gate ≡ get_or c.tables (get_or found.tables i 0) gate) (met : AreMet c gate.table.inputs marks found marks' found') where
  low : get_or found.tables i 0 < length c.tables
  low = h.within i 0 inside

  output : gate.output ≡ net_of c (get_or found.tables i 0)
  output = ap (λ (t : Gate). t.output) gate_is ∙ sym (net_is c (get_or found.tables i 0) gate low)

  pub found_more : IsFound c these marks' found'
  found_more = met.found these (λ j d below. reaches_some_before c these (get_or gate.table.inputs j d) (net_of c (get_or found.tables i 0))
      (get_or found.tables i 0, gate, low, sym gate_is, (Contains-get_or gate.table.inputs j d below, output)) (h.reach i 0 inside)) h

  pub followed_more : AreFollowed c marks found.tables i → AreFollowed c marks' found'.tables (i + 1)
  followed_more followed j d below =
      let stays : j < length found.tables → (get_or c.tables (get_or found.tables j 0) d) ≡ (get_or c.tables (get_or found'.tables j 0) d) =
      λ within. ap (λ (k : ℕ). get_or c.tables k d) (sym (met.grows.tables j within)) in
      elim (cases_eq j i) [
        | inl e ↦
            (let at : get_or c.tables (get_or found.tables j 0) d ≡ gate = ap (λ (k : ℕ). get_or c.tables (get_or found.tables k 0) d) e ∙ (get_or_default c.tables (get_or found.tables i 0) d gate low ∙ sym gate_is) in
            subst (λ (t : Gate). All (IsMarked marks') t.table.inputs) (sym at ∙ stays (omega arith)) met.met)
        | inr ne ↦
            subst (λ (t : Gate). All (IsMarked marks') t.table.inputs) (stays (omega arith))
            (All-weaker (IsMarked marks) (IsMarked marks') met.grows.marks (get_or c.tables (get_or found.tables j 0) d).table.inputs (followed j d (omega arith)))
      ]

module _ (c : Circuit) (accepted : IsAccepted c) (these : List ℕ) (marks : List Bool) (found : Parts) (h : IsFound c these marks found) (met : All (IsMarked marks) these) (followed : AreFollowed c marks found.tables (length found.tables)) where
  driven : (b : ℕ) → Any (λ k. net_of c k ≡ b) found.tables → Contains (table_nets c) b
  driven b (j, k, below, at, e) =
      let low : k < length c.tables = subst (λ (n : ℕ). n < length c.tables) at (h.within j k below) in
      subst (Contains (table_nets c)) e (net_driven c k low)

  -- what feeds a net that is marked is marked
  closed : (a b : ℕ) → Feeds c a b → IsMarked marks b → IsMarked marks a
  closed a b (k, t, inside, is, (has, drives)) marked =
      let net : net_of c k ≡ b = net_is c k t inside ∙ (ap (λ (u : Gate). u.output) is ∙ drives) in
      elim (h.all b marked) [
        | inl source ↦ absurd (All-contains (λ net. ¬ Contains (table_nets c) net) found.sources b h.sources_free source (subst (Contains (table_nets c)) net (net_driven c k inside)))
        | inr (j, m, below, at, e) ↦
            let place : get_or found.tables j 0 ≡ m = get_or_default found.tables j 0 m below ∙ at in
            let low : m < length c.tables = subst (λ (n : ℕ). n < length c.tables) at (h.within j m below) in
            let same : m ≡ k = same_table c accepted m k low inside (e ∙ sym net) in
            let table : get_or c.tables (get_or found.tables j 0) t ≡ t = ap (λ (n : ℕ). get_or c.tables n t) (place ∙ same) ∙ is in
            All-contains (IsMarked marks) t.table.inputs a (subst (λ (u : Gate). All (IsMarked marks) u.table.inputs) table (followed j t below)) has
      ]

  back : (a b : ℕ) → Reaches c a b → IsMarked marks b → IsMarked marks a
  back a b here marked = marked
  back a b (through {b = between} reaches feeds) marked = back a between reaches (closed between b feeds marked)

  reaching : (net : ℕ) → ReachesSome c these net → IsMarked marks net
  reaching net (k, x, inside, is, leads) = back net x leads (All-contains (IsMarked marks) these x met (k, inside, is))

  pub reached : AreReached c these found
  reached = record {
    within = h.within;
    once = h.once;
    tables = λ k inside. (
      λ some. All-contains (λ k. ReachesSome c these (net_of c k)) found.tables k h.reach some,
      λ reaches. elim (h.all (net_of c k) (reaching (net_of c k) reaches)) [
        | inl source ↦ absurd (All-contains (λ net. ¬ Contains (table_nets c) net) found.sources (net_of c k) h.sources_free source (net_driven c k inside))
        | inr (j, m, below, at, e) ↦
            let low : m < length c.tables = subst (λ (n : ℕ). n < length c.tables) at (h.within j m below) in
            subst (Contains found.tables) (same_table c accepted m k low inside e) (j, below, at)
      ],
    );
    sources = λ net. (
      λ some. (All-contains (ReachesSome c these) found.sources net h.sources_reach some, All-contains (λ net. ¬ Contains (table_nets c) net) found.sources net h.sources_free some),
      λ (reaches, free). elim (h.all net (reaching net reaches)) [
        | inl source ↦ source
        | inr some ↦ absurd (free (driven net some))
      ],
    );
    sources_within = h.sources_within;
    sources_once = h.sources_once;
  }

-- the tables that are found, sorted
pub is_cone : (c : Circuit) (these : List ℕ) (found : Parts) (sorted levels : List ℕ) → AreReached c these found → AreLevels c levels → IsSortedByLevel c.tables levels found.tables sorted
    → IsCone c these (record { tables = sorted; sources = found.sources })
is_cone c these found sorted levels h are s =
    let by_level : IsByLevel c sorted = record { levels = levels; are = are; rising = s.rising } in
    record {
      order = order_by_level c sorted (All-permutation (λ k. k < length c.tables) found.tables sorted s.permuted h.within) by_level;
      by_level = by_level;
      once = differ_sorted found.tables sorted s.permuted h.once;
      tables = λ k inside. (
        λ some. (h.tables k inside).0 (Contains-permutation sorted found.tables k (IsPermutation-sym found.tables sorted s.permuted) some),
        λ reaches. Contains-permutation found.tables sorted k s.permuted ((h.tables k inside).1 reaches),
      );
      sources = h.sources;
      sources_within = h.sources_within;
      sources_once = h.sources_once;
    }
