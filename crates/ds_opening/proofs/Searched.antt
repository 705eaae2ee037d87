-- The slots that groups read, found one by one.
use Rattle.std.proofs.Common.{◌≡◌, ◌∙◌, ◌⊎◌, ℕ, ◌+◌, ◌-◌, ◌<◌, ◌≤◌, ◌^◌, List, [], ◌∷◌, ◌++◌, length, get_or}
use Rattle.std.proofs.Common.{map, replicate, sym, ap, subst, arith, inl, inr, length-append}
use Rattle.std.proofs.Common.{Err, Ok, Result}
use Rattle.std.specs.List.{range_with_len}
use Rattle.std.proofs.lemmas.List.FromFn.{get_or-map-range_with_len, length-map-range_with_len}
use Rattle.ds_base.proofs.ListLemmas.{Contains-head}
use Rattle.std.specs.Prelude.{All, Contains, IfOk, OnOk}
use Rattle.std.proofs.Math.ListN.{set}
use Rattle.std.proofs.lemmas.Bool.{cases_eq, cases_lt}
use Rattle.std.proofs.lemmas.List.{get_or-set_other, get_or_append_left, get_or_past, get_or_push}
use Rattle.std.proofs.lemmas.List.{length-map, length-set}
use Rattle.std.proofs.lemmas.List.Elements.{All-contains, All-nil, All-push, All-replicate, All-set, All-weaker}
use Rattle.std.proofs.lemmas.List.Elements.{Contains-append_left, Contains-push}
use Rattle.std.proofs.lemmas.List.Elements.{Contains-push_cases}
use Rattle.ds_design.specs.Circuit.{Circuit}
use Rattle.ds_design.specs.InRange.{IsInRange}
use Rattle.ds_design.specs.declared.design.Gate.{Gate}
use Rattle.ds_settle.specs.Cone.{nets_of_tables}
use Rattle.ds_opening.specs.NetSlots.{AreNetSlots}
use Rattle.ds_opening.specs.Reads.{IsInSlots, ReadFrom}
use Rattle.ds_opening.specs.Seen.{AreAt, AreReadBy, AreReadsOf, AreSearched, AreSeen, IsReadAt, IsReadBy}

-- the slot of a net is still found where more is
pub at_kept : (net_slots : List ℕ) (own : ℕ) (list more : List ℕ) → ((s : ℕ) → Contains list s → Contains more s)
    → (net : ℕ) → IsReadAt net_slots own list net → IsReadAt net_slots own more net
at_kept net_slots own list more kept net (inl e) = inl e
at_kept net_slots own list more kept net (inr has) = inr (kept (get_or net_slots net 0) has)

-- a slot more
seen_new : (own : ℕ) (seen list : List ℕ) → AreSeen own seen list → (net_slot : ℕ) → net_slot < length seen
    → AreSeen own (set seen net_slot (own + 1)) (list ++ net_slot ∷ [])
seen_new own seen list are net_slot inside =
    let size : length (set seen net_slot (own + 1)) ≡ length seen = length-set seen net_slot (own + 1) in
    record {
      within = subst (λ (n : ℕ). All (λ s. s < n) (list ++ net_slot ∷ [])) (sym size)
          (All-push (λ s. s < length seen) list net_slot are.within inside);
      low = All-set (λ s. s ≤ own + 1) seen net_slot (own + 1) (omega arith) are.low;
      stamped = λ s low is. elim (cases_eq s net_slot) [
        | inl e ↦ inr (subst (Contains (list ++ net_slot ∷ [])) (sym e) (Contains-push list net_slot))
        | inr ne ↦
            elim (are.stamped s (omega (low, size, arith)) (sym (get_or-set_other seen net_slot s (own + 1) 0 ne) ∙ is)) [
              | inl e ↦ inl e
              | inr has ↦ inr (Contains-append_left list (net_slot ∷ []) s has)
            ]
      ];
    }

module _ (net_slots : List ℕ) (own slots : ℕ) (before nets seen list : List ℕ)
    (are : AreSearched net_slots own slots before nets seen list) (net : ℕ)
    (inside : get_or net_slots net 0 < length seen) where
  -- a net whose slot is found
  pub searched_old : get_or seen (get_or net_slots net 0) 0 ≡ own + 1
      → AreSearched net_slots own slots before (nets ++ net ∷ []) seen list
  searched_old is = record {
    found = are.found;
    long = are.long;
    at = All-push (IsReadAt net_slots own list) nets net are.at (are.found.stamped (get_or net_slots net 0) inside is);
    kept = are.kept;
  }

  -- a net with a new one
  pub searched_new : AreSearched net_slots own slots before (nets ++ net ∷ [])
      (set seen (get_or net_slots net 0) (own + 1)) (list ++ get_or net_slots net 0 ∷ [])
  searched_new =
      let net_slot : ℕ = get_or net_slots net 0 in
      let more : (s : ℕ) → Contains list s → Contains (list ++ net_slot ∷ []) s =
      λ s has. Contains-append_left list (net_slot ∷ []) s has in
      record {
        found = seen_new own seen list are.found net_slot inside;
        long = length-set seen net_slot (own + 1) ∙ are.long;
        at = All-push (IsReadAt net_slots own (list ++ net_slot ∷ [])) nets net
            (All-weaker (IsReadAt net_slots own list) (IsReadAt net_slots own (list ++ net_slot ∷ []))
            (at_kept net_slots own list (list ++ net_slot ∷ []) more) nets are.at)
            (inr (Contains-push list net_slot));
        kept = λ s has. more s (are.kept s has);
      }

-- a table more
pub at_more : (c : Circuit) (net_slots : List ℕ) (own : ℕ) (list more done : List ℕ) (table : ℕ)
    → AreAt c net_slots own list done → ((s : ℕ) → Contains list s → Contains more s)
    → ((d : Gate) → All (IsReadAt net_slots own more) (get_or c.tables table d).table.inputs)
    → AreAt c net_slots own more (done ++ table ∷ [])
at_more c net_slots own list more done table are kept step k d has = elim (Contains-push_cases done table k has) [
  | inl early ↦
      All-weaker (IsReadAt net_slots own list) (IsReadAt net_slots own more) (at_kept net_slots own list more kept)
      (get_or c.tables k d).table.inputs (are k d early)
  | inr e ↦
      subst (λ (n : ℕ). All (IsReadAt net_slots own more) (get_or c.tables n d).table.inputs) e (step d)
]

-- before the first group
pub reads_none : (c : Circuit) (net_slots : List ℕ) (slots : ℕ) (groups reads : List (List ℕ)) → reads ≡ []
    → AreReadBy c net_slots slots 0 groups reads
reads_none c net_slots slots groups reads is = record {
  one_each = ap (λ (rs : List (List ℕ)). length rs) is;
  each = λ a low. absurd (omega (low, arith));
}

-- the slot of a net is one that has a place among those seen, or there is none
pub net_slots_low : (c : Circuit) (groups others : List (List ℕ)) (count places : ℕ) (net_slots : List ℕ)
    → AreNetSlots (map (nets_of_tables c) groups ++ others) count net_slots
    → places ≡ length groups + length others
    → All (λ s. (s < places) ⊎ (s ≡ 2 ^ 64 - 1)) net_slots
net_slots_low c groups others count places net_slots are size =
    subst (λ (n : ℕ). All (λ s. (s < n) ⊎ (s ≡ 2 ^ 64 - 1)) net_slots)
    (length-append (map (nets_of_tables c) groups) others
    ∙ (ap (λ (n : ℕ). n + length others) (length-map groups (nets_of_tables c)) ∙ sym size)) are.low

-- where no slot has a stamp
pub unseen_slots : (count : ℕ) (seen : List ℕ) → seen ≡ replicate count 0 → All (λ s. s < 0 + 1) seen
unseen_slots count seen is =
    subst (λ (xs : List ℕ). All (λ s. s < 0 + 1) xs) (sym is)
    (All-replicate (λ s. s < 0 + 1) count 0 (omega arith))

-- where the own slot alone has a stamp
pub seen_own : (own : ℕ) (seen : List ℕ) → own < length seen → All (λ s. s < own + 1) seen
    → AreSeen own (set seen own (own + 1)) []
seen_own own seen inside low = record {
  within = All-nil (λ s. s < length (set seen own (own + 1)));
  low = All-set (λ s. s ≤ own + 1) seen own (own + 1) (omega arith)
      (All-weaker (λ s. s < own + 1) (λ s. s ≤ own + 1) (λ s below. omega (below, arith)) seen low);
  stamped = λ s within is. elim (cases_eq s own) [
    | inl e ↦ inl e
    | inr ne ↦ absurd (let size : length (set seen own (own + 1)) ≡ length seen = length-set seen own (own + 1) in
        let below : get_or seen s 0 < own + 1 = low s 0 (omega (within, size, arith)) in
        omega (below, sym (get_or-set_other seen own s (own + 1) 0 ne) ∙ is, arith))
  ];
}

-- before the first table
pub at_none : (c : Circuit) (net_slots : List ℕ) (own : ℕ) (list : List ℕ) → AreAt c net_slots own list []
at_none c net_slots own list k d has =
    absurd (let (j, inside, is) = has in let h : j < 0 = inside in omega (h, arith))

-- what a table reads has its places among the slots of nets
pub inputs_low : (c : Circuit) → IsInRange c → (gates : List Gate) (gate : Gate) (table : ℕ)
    (inputs net_slots lent : List ℕ) → table < length c.tables → gates ≡ c.tables
    → inputs ≡ (get_or gates table gate).table.inputs → length net_slots ≡ length c.nets → lent ≡ net_slots
    → All (λ net. net < length lent) inputs
inputs_low c in_range gates gate table inputs net_slots lent low same is long at =
    subst (λ (n : ℕ). All (λ net. net < n) inputs) (sym (ap (λ (xs : List ℕ). length xs) at ∙ long))
    (subst (λ (xs : List ℕ). All (λ net. net < length c.nets) xs)
    (sym (is ∙ ap (λ (gs : List Gate). (get_or gs table gate).table.inputs) same)) (in_range.tables table gate low).0)

-- what holds in any case
pub on_ok : {T E : Type 0} (r : Result T E) (P : Type 0) → P → OnOk r P
on_ok (Ok x) P p = p
on_ok (Err e) P p = tt

-- a group more
pub reads_more : (c : Circuit) (net_slots : List ℕ) (slots n : ℕ) (groups reads : List (List ℕ)) (list : List ℕ)
    → AreReadBy c net_slots slots n groups reads → IsReadBy c net_slots slots n (get_or groups n []) list
    → AreReadBy c net_slots slots (n + 1) groups (reads ++ list ∷ [])
reads_more c net_slots slots n groups reads list are step =
    let size : length reads ≡ n = are.one_each in
    record {
      one_each = length-append reads (list ∷ []) ∙ ap (λ (m : ℕ). m + 1) size;
      each = λ a low. elim (cases_eq a n) [
        | inl e ↦
            subst (λ (m : ℕ). IsReadBy c net_slots slots m (get_or groups m []) (get_or (reads ++ list ∷ []) m [])) (sym e)
            (subst (IsReadBy c net_slots slots n (get_or groups n [])) (sym (get_or_push reads list [] n size)) step)
        | inr ne ↦
            (let before : a < n = omega (low, ne, arith) in
            subst (IsReadBy c net_slots slots a (get_or groups a []))
            (sym (get_or_append_left reads (list ∷ []) [] a (omega (before, size, arith)))) (are.each a before))
      ];
    }

-- once all groups have their lists
one_below : (a most : ℕ) → a < most → All (λ s. s < most) (a ∷ [])
one_below a most inside k d low = elim (cases_eq k 0) [
  | inl e ↦ subst (λ (n : ℕ). get_or (a ∷ []) n d < most) (sym e) inside
  | inr ne ↦ absurd (let h : k < 1 = low in omega (h, ne, arith))
]

-- where there is no group, no table reads anything
no_tables : (c : Circuit) (groups slots : List (List ℕ)) (a : ℕ) (list : List ℕ) → length groups ≤ a
    → ReadFrom c slots a list (get_or groups a [])
no_tables c groups slots a list past k d has =
    absurd (let (i, low, is) = subst (λ (xs : List ℕ). Contains xs k) (get_or_past groups a [] past) has in
    let h : i < 0 = low in omega (h, arith))

module _ (c : Circuit) (in_range : IsInRange c) (others groups reads : List (List ℕ)) (net_slots : List ℕ)
    (within : All (λ these. All (λ k. k < length c.tables) these) groups)
    (are_net_slots : AreNetSlots (map (nets_of_tables c) groups ++ others) (length c.nets) net_slots)
    (are : AreReadBy c net_slots (length groups + length others) (length groups) groups reads) where
  abbrev slots : List (List ℕ)
  slots = map (nets_of_tables c) groups ++ others

  many : length slots ≡ length groups + length others
  many = length-append (map (nets_of_tables c) groups) others
      ∙ ap (λ (n : ℕ). n + length others) (length-map groups (nets_of_tables c))

  module _ (a : ℕ) (inside : a < length groups) where
    abbrev list : List ℕ
    list = get_or reads a []

    by : IsReadBy c net_slots (length groups + length others) a (get_or groups a []) (get_or reads a [])
    by = are.each a inside

    found : (net : ℕ) → net < length c.nets → IsReadAt net_slots a list net → IsInSlots slots a list net
    found net low (inl e) =
        (get_or net_slots net 0, inl e, are_net_slots.has net low (omega (e, inside, many, arith)))
    found net low (inr has) =
        let near : get_or net_slots net 0 < length groups + length others =
        All-contains (λ s. s < length groups + length others) list (get_or net_slots net 0) by.within has in
        (get_or net_slots net 0, inr has, are_net_slots.has net low (omega (near, many, arith)))

    all_found : ¬ Contains list a → (k : ℕ) (d : Gate) → Contains (get_or groups a []) k
        → All (IsInSlots slots a list) (get_or c.tables k d).table.inputs
    all_found free k d has i e low =
        let table : k < length c.tables =
        All-contains (λ k. k < length c.tables) (get_or groups a []) k (within a [] inside) has in
        let nets : All (λ net. net < length c.nets) (get_or c.tables k d).table.inputs = (in_range.tables k d table).0 in
        found (get_or (get_or c.tables k d).table.inputs i e) (nets i e low) (by.each free k d has i e low)

  pub are_reads : AreReadsOf c others groups reads
  are_reads bank lists = record {
    one_each = are.one_each;
    within = λ a. elim (cases_lt a (length groups)) [
      | inl inside ↦ (by a inside).within
      | inr past ↦
          (let size : length reads ≡ length groups = are.one_each in
          subst (λ (xs : List ℕ). All (λ s. s < length groups + length others) xs)
          (sym (get_or_past reads a [] (omega (past, size, arith)))) (All-nil (λ s. s < length groups + length others)))
    ];
    each = λ a free. elim (cases_lt a (length groups)) [
      | inl inside ↦ all_found a inside free
      | inr past ↦ no_tables c groups slots a (get_or reads a []) past
    ];
  }

-- what follows where there is an answer
pub if_ok : {T E : Type 0} (r : Result T E) (P Q : T → Type 0) → ((x : T) → P x → Q x) → IfOk r P → IfOk r Q
if_ok (Ok x) P Q so is = so x is
if_ok (Err e) P Q so is = tt

-- a list of the own slot says nothing
pub own_by : (c : Circuit) (net_slots : List ℕ) (slots own : ℕ) (tables list : List ℕ) → own < slots
    → list ≡ own ∷ [] → IsReadBy c net_slots slots own tables list
own_by c net_slots slots own tables these inside is = record {
  within = subst (λ (xs : List ℕ). All (λ s. s < slots) xs) (sym is) (one_below own slots inside);
  each = λ free. absurd (free (subst (λ (xs : List ℕ). Contains xs own) (sym is) (Contains-head own [])));
}

-- lists of own slots say nothing
pub own_read : (c : Circuit) (others groups reads : List (List ℕ))
    → reads ≡ map (λ own. own ∷ []) (range_with_len 0 (length groups))
    → AreReadsOf c others groups reads
own_read c others groups reads is bank lists = record {
  one_each = ap (λ (xs : List (List ℕ)). length xs) is ∙ size;
  within = λ a. elim (cases_lt a count) [
    | inl inside ↦ subst (λ (xs : List ℕ). All (λ s. s < count + length others) xs) (sym (here a inside))
        (one_below a (count + length others) (omega (inside, arith)))
    | inr past ↦ subst (λ (xs : List ℕ). All (λ s. s < count + length others) xs)
        (sym (ap (λ (xs : List (List ℕ)). get_or xs a []) is
        ∙ get_or_past (map (λ own. own ∷ []) (range_with_len 0 count)) a [] (omega (past, size, arith))))
        (All-nil (λ s. s < count + length others))
  ];
  each = λ a free. elim (cases_lt a count) [
    | inl inside ↦ absurd (free (subst (λ (xs : List ℕ). Contains xs a) (sym (here a inside)) (Contains-head a [])))
    | inr past ↦ no_tables c groups (map (nets_of_tables c) groups ++ others) a (get_or reads a []) past
  ];
}
  where
    count : ℕ
    count = length groups

    size : length (map (λ own. own ∷ []) (range_with_len 0 count)) ≡ count
    size = length-map-range_with_len (λ own. own ∷ []) 0 count

    here : (a : ℕ) → a < count → get_or reads a [] ≡ a ∷ []
    here a inside = ap (λ (xs : List (List ℕ)). get_or xs a []) is
        ∙ get_or-map-range_with_len (λ own. own ∷ []) 0 count a a [] inside (omega arith)
