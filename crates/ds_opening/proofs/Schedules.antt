-- Tables in an order by ranks.
use Rattle.std.proofs.Common.{◌≡◌, ◌∙◌, ℕ, ◌<◌, ◌≤◌, List, Option, None, Some, length, get_or, refl, sym, ap, subst, arith}
use Rattle.std.specs.Prelude.{All, Contains, MatchOption}
use Rattle.std.proofs.lemmas.List.Elements.{All-contains, Contains-get_or}
use Rattle.std.proofs.lemmas.List.Sorted.{All-permutation, IsPermutation-sym}
use Rattle.std.proofs.lemmas.Option.{MatchOption-at_some}
use Rattle.ds_base.proofs.ListLemmas.{get_or-default}
use Rattle.ds_design.specs.Accepted.{IsAccepted}
use Rattle.ds_design.specs.Circuit.{Circuit}
use Rattle.ds_design.specs.InRange.{IsInRange}
use Rattle.ds_design.specs.Levels.{IsTableOrder}
use Rattle.ds_design.specs.declared.design.Gate.{Gate}
use Rattle.ds_settle.specs.Cone.{net_of}
use Rattle.ds_settle.specs.Walk.{AreDrivers, IsDriver}
use Rattle.ds_settle.proofs.CircuitTables.{net_is, same_table}
use Rattle.ds_opening.specs.Ranked.{AreSortedByRank}
use Rattle.ds_opening.specs.Scheduled.{AreDriversBelow, AreLower, AreReadWithin, AreScheduled, ReadsNothingOf, IsLower, Reads}

-- the driver of a net that a table drives is this table
the_driver : (c : Circuit) (net k : ℕ) (driver : Option ℕ) → IsAccepted c → k < length c.tables → net_of c k ≡ net
    → IsDriver c (length c.tables) net driver → driver ≡ Some k
the_driver c net k None accepted inside is none = absurd (none k inside is)
the_driver c net k (Some j) accepted inside is (low, drives) =
    ap (λ (n : ℕ). Some n) (same_table c accepted j k low inside (drives ∙ sym is))

-- drivers are tables
pub drivers_below : (c : Circuit) (drivers : List (Option ℕ)) → AreDrivers c (length c.tables) drivers
    → AreDriversBelow (length c.tables) drivers
drivers_below c drivers are i d inside j is =
    (MatchOption-at_some ((k : ℕ) → k < length c.tables → net_of c k ≡ i → ⊥) (λ k. (k < length c.tables) × (net_of c k ≡ i)) j
    (sym (get_or-default drivers i d None inside) ∙ is) (are.each i (let size : length drivers ≡ length c.nets = are.one_each in omega (inside, size, arith)))).0

-- tables read nets of the design
pub reads_within : (c : Circuit) → IsInRange c → (gates : List Gate) → gates ≡ c.tables → (drivers : List (Option ℕ)) → length drivers ≡ length c.nets
    → AreReadWithin (length drivers) gates
reads_within c range gates is drivers long =
    subst (λ (gs : List Gate). AreReadWithin (length drivers) gs) (sym is)
    (λ k d inside. subst (λ (n : ℕ). All (λ net. net < n) (get_or c.tables k d).table.inputs) (sym long) (range.tables k d inside).0)

module _ (c : Circuit) (range : IsInRange c) (accepted : IsAccepted c) (order : List ℕ) (ordered : IsTableOrder c order) (numbers : List ℕ) where
  -- the order of the netlist is one
  pub scheduled_order : AreScheduled c numbers order
  scheduled_order = record {
    places = ordered.places;
    all = ordered.all;
    before = λ i j e under inside same d.
        subst (λ (n : ℕ). ¬ Reads c d n (get_or order j e)) (get_or-default order i 0 e (omega (under, inside, arith)))
        (subst (λ (n : ℕ). ¬ Reads c d (get_or order i 0) n) (get_or-default order j 0 e inside)
        (ordered.before i j d (omega (under, arith)) inside));
  }

  module _ (drivers : List (Option ℕ)) (are : AreDrivers c (length c.tables) drivers) (ranks : List ℕ) (lower : AreLower drivers numbers ranks c.tables)
      (sorted : List ℕ) (is : AreSortedByRank ranks order sorted) where
    places : All (λ k. k < length c.tables) sorted
    places = All-permutation (λ k. k < length c.tables) order sorted is.permuted ordered.places

    all : (k : ℕ) → k < length c.tables → Contains sorted k
    all k inside =
        All-contains (Contains sorted) order k
        (All-permutation (Contains sorted) sorted order (IsPermutation-sym order sorted is.permuted) (λ i d low. Contains-get_or sorted i d low))
        (ordered.all k inside)

    -- what a table of a group reads of the same group has a lower rank
    rises : (a b : ℕ) (d : Gate) → a < length c.tables → b < length c.tables → get_or numbers a 0 ≡ get_or numbers b 0
        → Reads c d a b → get_or ranks b 0 < get_or ranks a 0
    rises a b d low_a low_b same reads =
        let net : ℕ = (get_or c.tables b d).output in
        let near : net < length c.nets = (range.tables b d low_b).1 in
        let driver : get_or drivers net None ≡ Some b =
        the_driver c net b (get_or drivers net None) accepted low_b (net_is c b d low_b) (are.each net near) in
        All-contains (λ n. IsLower numbers ranks a (get_or drivers n None)) (get_or c.tables a d).table.inputs net (lower a d low_a) reads b driver (sym same)

    pub scheduled_by_rank : AreScheduled c numbers sorted
    scheduled_by_rank = record {
      places = places;
      all = all;
      before = λ i j e under inside same d reads.
          let up : get_or ranks (get_or sorted i e) 0 ≤ get_or ranks (get_or sorted j e) 0 = is.rising i j e (omega (under, arith)) inside in
          let less : get_or ranks (get_or sorted j e) 0 < get_or ranks (get_or sorted i e) 0 =
          rises (get_or sorted i e) (get_or sorted j e) d (places i e (omega (under, inside, arith))) (places j e inside) same reads in
          omega (up, less, arith);
    }
