-- The control names, and the nets that are none of them.
use Rattle.std.proofs.Common.{◌≡◌, ◌≢◌, ◌∙◌, ℕ, zero, suc, ◌+◌, ◌<◌, ◌≤◌, Bool, true, false, List, [], ◌∷◌, length, length-append, get_or, refl, sym, ap, arith, inl, inr, eq-eqb, not, ◌==◌, Some, None}
use Rattle.std.specs.Prelude.{All, Contains, IfSome, IsTrue, Option, is_some, ◌||◌}
use Rattle.std.specs.List.{filter, filter_map, cons_option, list_any, range_with_len}
use Rattle.std.proofs.lemmas.Bool.{cases_eq}
use Rattle.std.proofs.lemmas.Bool.Decides.{eqb_tells}
use Rattle.std.proofs.lemmas.List.Folds.{list_any_at, list_any_none}
use Rattle.std.proofs.lemmas.List.Elements.{All-head, All-tail, All-contains, Contains-append_cases}
use Rattle.std.proofs.lemmas.List.{get_or_default}
use Rattle.ds_base.proofs.ListLemmas.{Contains-split}
use Rattle.ds_design.specs.Circuit.{Circuit, control_nets}
use Rattle.ds_design.specs.InRange.{IsInRange}
use Rattle.ds_design.specs.Accepted.{IsAccepted}
use Rattle.ds_design.specs.Levels.{net_count}
use Rattle.ds_design.specs.declared.design.Net.{Net}
use Rattle.ds_design.specs.declared.design.Register.{Register}

-- one name more, where there is one
longer : (o : Option ℕ) (b : Bool) (names : List ℕ) → (IsTrue b → 0 < length names) × (0 < length names → IsTrue b)
    → (IsTrue (is_some o || b) → 0 < length (cons_option o names)) × (0 < length (cons_option o names) → IsTrue (is_some o || b))
longer None b names h = h
longer (Some x) b names h = (λ _. omega arith, λ _. refl)

-- some register names its control where there are names
pub named : (registers : List Register)
    → (IsTrue (list_any (λ r. is_some r.control) registers) → 0 < length (filter_map (λ r. r.control) registers))
    × (0 < length (filter_map (λ r. r.control) registers) → IsTrue (list_any (λ r. is_some r.control) registers))
named [] = (λ h. absurd (cc), λ h. absurd (omega arith))
named (r ∷ rs) = longer r.control (list_any (λ r. is_some r.control) rs) (filter_map (λ r. r.control) rs) (named rs)

-- all nets pass a test that fails at no net
none_fail : (p : ℕ → Bool) (first n : ℕ) → ((net : ℕ) → first ≤ net → net < first + n → p net ≡ true) → length (filter p (range_with_len first n)) ≡ n
none_fail p first zero passes = refl
none_fail p first (suc n) passes =
    rw (passes first (omega arith) (omega arith)) (ap suc (none_fail p (first + 1) n (λ net low high. passes net (omega arith) (omega arith))))

-- all but one pass a test that fails at one
one_fails : (p : ℕ → Bool) (a first n : ℕ) → p a ≡ false → ((net : ℕ) → net ≢ a → p net ≡ true) → first ≤ a → a < first + n
    → length (filter p (range_with_len first n)) + 1 ≡ n
one_fails p a first zero fails passes low high = absurd (omega arith)
one_fails p a first (suc n) fails passes low high = elim (cases_eq first a) [
  | inl e ↦ rw (e, fails) (omega (arith, none_fail p (a + 1) n (λ net above below. passes net (omega arith))))
  | inr ne ↦ rw (passes first ne) (omega (arith, one_fails p a (first + 1) n fails passes (omega arith) (omega arith)))
]

-- whether a net is one of the names
abbrev pub among : List ℕ → ℕ → Bool
among names net = list_any (λ clock. clock == net) names

pub among_yes : (names : List ℕ) (a : ℕ) → Contains names a → among names a ≡ true
among_yes names a (k, inside, is) = list_any_at (λ clock. clock == a) names k a inside (eq-eqb (get_or names k a) a is)

pub among_no : (names : List ℕ) (net : ℕ) → ¬ Contains names net → among names net ≡ false
among_no names net none = list_any_none (λ clock. clock == net) names (λ k d inside.
    elim (eqb_tells (get_or names k d) net) [
      | inl (is, e) ↦ absurd (none (k, inside, rw (sym (get_or_default names k d net inside)) e))
      | inr (is, ne) ↦ is
    ])

-- one more control in front is in range where it is there
fronted : (o : Option ℕ) (names : List ℕ) (n : ℕ) → IfSome o (λ net. net < n) → ((net : ℕ) → Contains names net → net < n)
    → (net : ℕ) → Contains (cons_option o names) net → net < n
fronted None names n one rest net some = rest net some
fronted (Some a) names n one rest net some = elim (Contains-split a names net some) [
  | inl e ↦ rw (sym e) one
  | inr more ↦ rest net more
]

-- the controls of registers are in range
controls_in : (registers : List Register) (n : ℕ) → All (λ r. IfSome r.control (λ net. net < n)) registers
    → (net : ℕ) → Contains (filter_map (λ r. r.control) registers) net → net < n
controls_in [] n all net some = absurd (let none : some.0 < 0 = some.1 in omega arith)
controls_in (r ∷ rs) n all net some = fronted r.control (filter_map (λ r. r.control) rs) n (All-head (λ r. IfSome r.control (λ net. net < n)) r rs all)
    (controls_in rs n (All-tail (λ r. IfSome r.control (λ net. net < n)) r rs all)) net some

module _ (c : Circuit) (in_range : IsInRange c) where
  -- each control name is a net
  pub control_in : (net : ℕ) → Contains (control_nets c) net → net < length c.nets
  control_in net some = elim (Contains-append_cases c.clocks (filter_map (λ r. r.control) c.registers) net some) [
    | inl one ↦ All-contains (λ net. net < length c.nets) c.clocks net in_range.clocks one
    | inr more ↦ controls_in c.registers (length c.nets) (λ k d inside. (in_range.registers k d inside).2) net more
  ]

  -- where there are no control names, all nets are counted
  pub count_all : length (control_nets c) ≡ 0 → length c.nets ≡ net_count c
  count_all none = sym (none_fail (λ net. not (among (control_nets c) net)) 0 (length c.nets)
      (λ net low high. ap not (among_no (control_nets c) net (λ (k, inside, is). omega arith))))

  -- where there are some, which are one net, all nets but that one
  pub count_but_one : IsAccepted c → 0 < length (control_nets c) → length c.nets ≡ net_count c + 1
  count_but_one accepted some =
      let clock : ℕ = get_or (control_nets c) 0 0 in
      let first : Contains (control_nets c) (get_or (control_nets c) 0 0) = (0, some, get_or_default (control_nets c) 0 _ 0 some) in
      sym (one_fails (λ net. not (among (control_nets c) net)) (get_or (control_nets c) 0 0) 0 (length c.nets)
      (ap not (among_yes (control_nets c) (get_or (control_nets c) 0 0) first))
      (λ net other. ap not (among_no (control_nets c) net (λ one. other (accepted.one_clock net (get_or (control_nets c) 0 0) one first))))
      (omega arith) (omega (arith, control_in (get_or (control_nets c) 0 0) first)))

-- the same of what two calls lend
pub lent_all : (c d : Circuit) (nets : List Net) → nets ≡ d.nets → d ≡ c → IsInRange c → ¬ (0 < length (control_nets d)) → length nets ≡ net_count c
lent_all c d nets e same in_range none =
    let size : length nets ≡ length c.nets = ap (λ (xs : List Net). length xs) (e ∙ ap (λ (x : Circuit). x.nets) same) in
    let names : length (control_nets d) ≡ length (control_nets c) = ap (λ (x : Circuit). length (control_nets x)) same in
    size ∙ count_all c in_range (omega (arith, none))

pub lent_but_one : (c d : Circuit) (nets : List Net) → nets ≡ d.nets → d ≡ c → IsInRange c → IsAccepted c → 0 < length (control_nets d)
    → length nets ≡ net_count c + 1
lent_but_one c d nets e same in_range accepted some =
    let size : length nets ≡ length c.nets = ap (λ (xs : List Net). length xs) (e ∙ ap (λ (x : Circuit). x.nets) same) in
    let names : length (control_nets d) ≡ length (control_nets c) = ap (λ (x : Circuit). length (control_nets x)) same in
    size ∙ count_but_one c in_range accepted (omega arith)

-- some name stands on a `.clock` line, or at a register
pub clock_first : (c : Circuit) (clocks : List ℕ) → clocks ≡ c.clocks → (length clocks == 0) ≡ false → 0 < length (control_nets c)
clock_first c clocks e some =
    let other : length clocks ≢ 0 = elim (eqb_tells (length clocks) 0) [ inl (is, e) ↦ absurd (cc) | inr (is, ne) ↦ ne ] in
    let size : length clocks ≡ length c.clocks = ap (λ (xs : List ℕ). length xs) e in
    omega (arith, length-append c.clocks (filter_map (λ r. r.control) c.registers))

pub clock_later : (c : Circuit) (clocks : List ℕ) (registers : List Register) → clocks ≡ c.clocks → length clocks ≡ 0 → registers ≡ c.registers
    → (IsTrue (list_any (λ r. is_some r.control) registers) → 0 < length (control_nets c))
    × (0 < length (control_nets c) → IsTrue (list_any (λ r. is_some r.control) registers))
clock_later c clocks registers e none same =
    let size : length clocks ≡ length c.clocks = ap (λ (xs : List ℕ). length xs) e in
    let both : length (control_nets c) ≡ length (filter_map (λ r. r.control) registers) =
    length-append c.clocks (filter_map (λ r. r.control) c.registers) ∙ (omega arith ∙ ap (λ (xs : List Register). length (filter_map (λ r. r.control) xs)) (sym same)) in
    rw both (named registers)
