-- Cones whose tables are in groups.
use Rattle.std.proofs.Common.{◌≡◌, ◌≢◌, ◌∙◌, ℕ, ◌<◌, ◌≤◌, ◌==◌, Bool, true, false, not, List, []}
use Rattle.std.proofs.Common.{length, get_or, refl, sym, ap, subst, arith, inl, inr}
use Rattle.std.specs.Prelude.{All, AllPairs, Contains, ◌↔◌}
use Rattle.std.specs.List.{list_any}
use Rattle.std.proofs.lemmas.Bool.{cases_eq, cases_lt, eqb-true, false≢true}
use Rattle.std.proofs.lemmas.Bool.Decides.{Decides-eqb, eqb_tells}
use Rattle.std.proofs.lemmas.List.{get_or_default, get_or_past}
use Rattle.std.proofs.lemmas.List.Elements.{All-contains, All-filter, Contains-get_or, filter_passes}
use Rattle.std.proofs.lemmas.List.Kept.{AllPairs-filter}
use Rattle.std.proofs.lemmas.List.Folds.{Any-from_list_any}
use Rattle.std.proofs.lemmas.Map.Steps.{length-le_from_distinct_below}
use Rattle.std.proofs.lemmas.Map.Made.{IsDistinct-from_AllPairs}
use Rattle.std.proofs.Math.Dec.{eqb}
use Rattle.ds_base.proofs.ListLemmas.{cases_Contains, get_or-default}
use Rattle.ds_design.specs.Circuit.{Circuit}
use Rattle.ds_design.specs.Levels.{IsTableOrder}
use Rattle.ds_design.specs.declared.design.Gate.{Gate}
use Rattle.ds_settle.specs.Cone.{AreInOrder, IsCone, Parts as Cone, ReachesSome, net_of}
use Rattle.ds_settle.proofs.ConeReach.{reaches_some_before}
use Rattle.ds_settle.proofs.CircuitTables.{net_is}
use Rattle.ds_opening.specs.Classes.{AreClasses, HasTables, HaveSame}
use Rattle.ds_cover.specs.Bank.{Driven}
use Rattle.ds_design.specs.Banked.{IsBankOf}
use Rattle.ds_opening.specs.Groups.{AreGroupsOf, Grouping, IsGrouped, group_of, tables_in}
use Rattle.ds_opening.specs.Lists.{AreFound, AreLists, IsListOf}
use Rattle.ds_opening.specs.Members.{AreMembers, tables_numbered}
use Rattle.ds_opening.specs.Scheduled.{AreScheduled, ReadsNothingOf, Reads}
use Rattle.ds_opening.specs.Lacking.{AreByLacking, cones_without}
use Rattle.ds_opening.proofs.Concatenation.{filter_has, flat_has, has_filter, has_flat, not_in_nil, pairs_flat}
use Rattle.ds_opening.proofs.Lacks.{count_same, has_true, lacks_false}

-- stands for a cone where there is none
pub no_cone : Cone
no_cone = record { tables = []; sources = [] }

-- an order, by pairs
pub order_from_pairs : (c : Circuit) (xs : List ℕ) → All (λ k. k < length c.tables) xs
    → AllPairs (ReadsNothingOf c) xs → All (λ k. ReadsNothingOf c k k) xs → AreInOrder c xs
order_from_pairs c xs within pairs selves = record {
  within = within;
  before = λ i j d below inside. elim (cases_eq i j) [
    | inl e ↦
        subst (λ (n : ℕ). ¬ Reads c d (get_or xs n 0) (get_or xs j 0)) (sym e) (selves j 0 inside d)
    | inr ne ↦ pairs i j 0 (omega (below, ne, arith)) inside d
  ];
}

-- an order that has each table once is no longer than the tables are many
pub few_order : (count : ℕ) (order : List ℕ) → All (λ k. k < count) order → AllPairs (λ j k. j ≢ k) order
    → length order ≤ count
few_order count order within once =
    length-le_from_distinct_below order count (IsDistinct-from_AllPairs Decides-eqb order once)
    (λ q is.
    let (k, x, inside, at, e) = Any-from_list_any (eqb q) order is in
    elim (eqb_tells q x) [
      | inl (yes_is, same) ↦ omega (same, at, within k x inside, arith)
      | inr (no_is, ne) ↦ absurd (false≢true (sym no_is ∙ e))
    ])

pub have_tables : (c : Circuit) (cones : List Cone) → All (λ cone. (these : List ℕ) × IsCone c these cone) cones
    → All (HasTables (length c.tables)) cones
have_tables c cones are i d inside =
    let (these, is) = are i d inside in record { within = is.order.within; once = is.once }

-- the members of groups are tables
pub members_within : (c : Circuit) (order : List ℕ) → All (λ k. k < length c.tables) order → (numbers : List ℕ) (count : ℕ)
    (groups : List (List ℕ)) → AreMembers order numbers count groups
    → All (λ these. All (λ k. k < length c.tables) these) groups
members_within c order places numbers count groups are a d inside =
    let size : length groups ≡ count = are.one_each in
    let these : get_or groups a d ≡ tables_numbered order numbers a =
    get_or-default groups a d [] inside ∙ are.each a (omega (inside, size, arith)) in
    subst (λ (xs : List ℕ). All (λ k. k < length c.tables) xs) (sym these)
    (All-filter (λ k. get_or numbers k 0 == a) (λ k. k < length c.tables) order places)

module _ (c : Circuit) (order : List ℕ) (ordered : IsTableOrder c order) (cones : List Cone)
    (are_cones : All (λ cone. (these : List ℕ) × IsCone c these cone) cones)
    (numbers : List ℕ) (count : ℕ) (classes : AreClasses cones (length c.tables) numbers)
    (below : All (λ n. n < count) numbers)
    (scheduled : List ℕ) (are_scheduled : AreScheduled c numbers scheduled)
    (groups : List (List ℕ)) (are_members : AreMembers scheduled numbers count groups)
    (lists : List (List ℕ)) (are_lists : AreLists cones numbers lists)
    (rises : AreByLacking cones numbers)
    (bank : List Driven) (is_bank : IsBankOf c.tables bank) (read : List (List ℕ)) where
  abbrev g : Grouping
  g = record { bank = bank; groups = groups; lists = lists; reads = read }

  abbrev number : ℕ → ℕ
  number k = get_or numbers k 0

  long : length numbers ≡ length c.tables
  long = classes.one_each

  number_below : (k : ℕ) → k < length c.tables → number k < count
  number_below k inside = below k 0 (omega (inside, long, arith))

  -- the members of a group
  member_in : (a k : ℕ) → Contains (get_or groups a []) k → (k < length c.tables) × (number k ≡ a)
  member_in a k has = elim (cases_lt a count) [
    | inl low ↦
        (let (in_order, test) = filter_has (λ k. number k == a) scheduled k
        (subst (λ (xs : List ℕ). Contains xs k) (are_members.each a low) has) in (
          All-contains (λ k. k < length c.tables) scheduled k are_scheduled.places in_order,
          elim (eqb_tells (number k) a) [
            | inl (is, e) ↦ e
            | inr (is, ne) ↦ absurd (false≢true (sym is ∙ test))
          ],
        ))
    | inr past ↦
        (let size : length groups ≡ count = are_members.one_each in
        absurd (not_in_nil k (subst (λ (xs : List ℕ). Contains xs k)
        (get_or_past groups a [] (omega (past, size, arith))) has)))
  ]

  member_of : (k : ℕ) → k < length c.tables → Contains (get_or groups (number k) []) k
  member_of k inside =
      subst (λ (xs : List ℕ). Contains xs k) (sym (are_members.each (number k) (number_below k inside)))
      (has_filter (λ j. number j == number k) scheduled k (are_scheduled.all k inside) (same (number k)))
    where
      same : (n : ℕ) → (n == n) ≡ true
      same n = elim (eqb_tells n n) [ inl (is, e) ↦ is | inr (is, ne) ↦ absurd (ne refl) ]

  -- tables of one group are in the same cones
  same_cones : (a b : ℕ) → a < length c.tables → b < length c.tables → number a ≡ number b
      → HaveSame cones a b
  same_cones a b low_a low_b e = (classes.same a b low_a low_b).0 e

  module _ (i : ℕ) (inside : i < length cones) where
    abbrev cone : Cone
    cone = get_or cones i no_cone

    abbrev list : List ℕ
    list = get_or lists i []

    list_of : IsListOf cone.tables numbers (get_or lists i [])
    list_of = are_lists.each i no_cone inside

    found : AreFound cone.tables numbers (get_or lists i [])
    found = list_of.found

    cone_is : (these : List ℕ) × IsCone c these cone
    cone_is = are_cones i no_cone inside

    cone_low : (k : ℕ) → Contains cone.tables k → k < length c.tables
    cone_low k has = All-contains (λ k. k < length c.tables) cone.tables k cone_is.1.order.within has

    -- a group of the list has its tables in the cone
    listed : (k : ℕ) → k < length c.tables → Contains (get_or lists i []) (number k) → Contains cone.tables k
    listed k low has =
        let (j, t, at, is, e) = (found.has (number k)).0 has in
        let in_cone : Contains cone.tables t = (j, at, is) in
        (same_cones t k (cone_low t in_cone) low e i no_cone inside).0 in_cone

    lists_it : (k : ℕ) → Contains cone.tables k → Contains (get_or lists i []) (number k)
    lists_it k (j, at, is) = (found.has (number k)).1 (j, k, at, is, refl)

    same_tables : (k : ℕ) → (Contains (tables_in g list) k ↔ Contains cone.tables k)
    same_tables k = (
      λ has.
          let (j, a, at, is, in_group) = flat_has (group_of g) list k has in
          let (low, e) = member_in a k in_group in
          listed k low (subst (Contains (get_or lists i [])) (sym e) (j, at, is)),
      λ has. has_flat (group_of g) list (number k) k (lists_it k has) (member_of k (cone_low k has)),
    )

    -- what a table of a cone reads of another is in each cone that has the first
    feeds : (d : Gate) (x y : ℕ) → x < length c.tables → y < length c.tables → Reads c d x y
        → Contains cone.tables x → Contains cone.tables y
    feeds d x y low_x low_y reads has =
        let (these, is) = cone_is in
        let reaches : ReachesSome c these (net_of c x) = (is.tables x low_x).0 has in
        (is.tables y low_y).1 (reaches_some_before c these (net_of c y) (net_of c x) (
          x,
          get_or c.tables x d,
          low_x,
          get_or-default c.tables x (get_or c.tables x d) d low_x,
          (subst (Contains (get_or c.tables x d).table.inputs) (sym (net_is c y d low_y)) reads, sym (net_is c x d low_x)),
        )
        reaches)

  -- which cones lack a table
  abbrev lacks : ℕ → Cone → Bool
  lacks k cone = not (list_any (λ j. j == k) cone.tables)

  lacks_true : (k : ℕ) (cone : Cone) → ¬ Contains cone.tables k → lacks k cone ≡ true
  lacks_true k cone free = ap not (lacks_false cone.tables k free)

  lacks_not : (k : ℕ) (cone : Cone) → Contains cone.tables k → lacks k cone ≡ false
  lacks_not k cone has = ap not (has_true cone.tables k has)

  module _ (d : Gate) (x y : ℕ) (low_x : x < length c.tables) (low_y : y < length c.tables) (reads : Reads c d x y)
      (most : cones_without cones x ≤ cones_without cones y) where
    feeds_at : (i : ℕ) (e : Cone) → i < length cones → Contains (get_or cones i e).tables x → Contains (get_or cones i e).tables y
    feeds_at i e inside =
        subst (λ (cone : Cone). Contains cone.tables x → Contains cone.tables y) (sym (get_or-default cones i e no_cone inside))
        (feeds i inside d x y low_x low_y reads)

    fewer : All (λ cone. lacks y cone ≡ true → lacks x cone ≡ true) cones
    fewer i e inside is = elim (cases_Contains (get_or cones i e).tables x) [
      | inl has ↦
          absurd (false≢true (sym (lacks_not y (get_or cones i e) (feeds_at i e inside has)) ∙ is))
      | inr free ↦ lacks_true x (get_or cones i e) free
    ]

    all_lack : All (λ cone. lacks x cone ≡ true → lacks y cone ≡ true) cones
    all_lack = count_same (lacks x) (lacks y) cones fewer most

    have_same : HaveSame cones x y
    have_same i e inside = (
      feeds_at i e inside,
      λ has. elim (cases_Contains (get_or cones i e).tables x) [
        | inl there ↦ there
        | inr free ↦
            (let lacks_y : lacks y (get_or cones i e) ≡ true = all_lack i e inside (lacks_true x (get_or cones i e) free) in
            absurd (false≢true (sym (lacks_not y (get_or cones i e) has) ∙ lacks_y)))
      ],
    )

    pub same_number : number x ≡ number y
    same_number = (classes.same x y low_x low_y).1 have_same

  not_self : (k : ℕ) → k < length c.tables → ReadsNothingOf c k k
  not_self k low d =
      let (i, inside, is) = ordered.all k low in
      let same : get_or order i 0 ≡ k = get_or_default order i 0 k inside ∙ is in
      subst (λ (n : ℕ). ¬ Reads c d n n) same (ordered.before i i d (omega arith) inside)

  -- the members of a group have its number
  numbered : (a i d : ℕ) → i < length (tables_numbered scheduled numbers a) → number (get_or (tables_numbered scheduled numbers a) i d) ≡ a
  numbered a i d inside = eqb-true (number (get_or (tables_numbered scheduled numbers a) i d)) a (filter_passes (λ k. number k == a) scheduled i d inside)

  group_pairs : (a : ℕ) → AllPairs (ReadsNothingOf c) (group_of g a)
  group_pairs a = elim (cases_lt a count) [
    | inl low ↦
        subst (λ (xs : List ℕ). AllPairs (ReadsNothingOf c) xs) (sym (are_members.each a low))
        (λ i j d under inside. AllPairs-filter (λ x y. number x ≡ number y → ReadsNothingOf c x y) (λ k. number k == a) scheduled are_scheduled.before i j d under inside
        (numbered a i d (omega (under, inside, arith)) ∙ sym (numbered a j d inside)))
    | inr past ↦
        (let size : length groups ≡ count = are_members.one_each in
        subst (λ (xs : List ℕ). AllPairs (ReadsNothingOf c) xs) (sym (get_or_past groups a [] (omega (past, size, arith))))
        (λ i j d under inside. absurd (let h : j < 0 = inside in omega (h, arith))))
  ]

  grouped : (i : ℕ) → i < length cones → IsGrouped c g (get_or cones i no_cone) (get_or lists i [])
  grouped i inside =
      let list : List ℕ = get_or lists i [] in
      let list_i : IsListOf (get_or cones i no_cone).tables numbers (get_or lists i []) = list_of i inside in
      let low : (k : ℕ) → Contains (tables_in g list) k → k < length c.tables =
      λ k has. cone_low i inside k ((same_tables i inside k).0 has) in
      record {
        within = λ j e near.
            let a : ℕ = get_or list j e in
            let (m, t, there, is, same) = (list_i.found.has a).0 (Contains-get_or list j e near) in
            let size : length groups ≡ count = are_members.one_each in
            let less : number t < count = number_below t (cone_low i inside t (m, there, is)) in
            omega (less, same, size, arith);
        once = list_i.found.once;
        order = order_from_pairs c (tables_in g list)
            (λ j e near. low (get_or (tables_in g list) j e) (Contains-get_or (tables_in g list) j e near))
            (pairs_flat (ReadsNothingOf c) (group_of g) list (λ j e near. group_pairs (get_or list j e))
            (λ j m e under near x y has_x has_y d reads.
            let (low_x, is_x) = member_in (get_or list j e) x has_x in
            let (low_y, is_y) = member_in (get_or list m e) y has_y in
            let up : get_or list j e ≤ get_or list m e = list_i.rising j m e (omega (under, arith)) near in
            let most : cones_without cones x ≤ cones_without cones y =
            rises x y (omega (low_x, long, arith)) (omega (low_y, long, arith)) (omega (up, is_x, is_y, arith)) in
            list_i.found.once j m e under near (sym is_x ∙ (same_number d x y low_x low_y reads most ∙ is_y))))
            (λ j e near. not_self (get_or (tables_in g list) j e)
            (low (get_or (tables_in g list) j e) (Contains-get_or (tables_in g list) j e near)));
        same = same_tables i inside;
      }

  pub are_groups : AreGroupsOf c cones g
  are_groups = record {
    packed = is_bank;
    one_each = are_lists.one_each;
    each = λ i d inside.
        subst (λ (cone : Cone). IsGrouped c g cone (get_or lists i [])) (get_or-default cones i no_cone d inside) (grouped i inside);
    within = λ a k d inside. (member_in a (get_or (group_of g a) k d) (Contains-get_or (group_of g a) k d inside)).0;
    distinct = λ a b k has_a has_b. sym (member_in a k has_a).1 ∙ (member_in b k has_b).1;
  }
