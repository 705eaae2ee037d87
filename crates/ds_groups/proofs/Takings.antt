-- What lines take, one register after another.
use Rattle.std.proofs.Common.{◌≡◌, ◌≢◌, ◌∙◌, inl, inr, ℕ, ◌+◌, ◌<◌, ◌≤◌, Bool, true, false, ◌&&◌, ◌||◌, ◌==◌, if◌then◌else◌, List, length, get_or, set, refl, sym, ap, ap₂, subst, arith, None, Some, Option, get_or-set_same, get_or-set_other}
use Rattle.std.specs.Prelude.{nat_lt, is_some}
use Rattle.std.specs.List.{range_with_len}
use Rattle.std.specs.Str.{bytes_eq}
use Rattle.std.proofs.lemmas.Bool.{cases_Bool, cases_eq, cases_order, false≢true, and_parts, and_from, or_cases, or_left, or_right, false_from_ne_true, eqb-true, eq-eqb, ne_eqb, lt-ltb, ltb-true, cond-true, cond-false}
use Rattle.std.proofs.lemmas.Slice.Eq.{bytes_eq-Decides}
use Rattle.std.proofs.lemmas.List.{length-set}
use Rattle.std.proofs.lemmas.List.Folds.{Any-from_list_any, list_any_at}
use Rattle.std.proofs.lemmas.List.FromFn.{length-range_with_len, get_or-range_with_len}
use Rattle.ds_design.specs.declared.design.Net.{Net}
use Rattle.ds_groups.specs.Latest.{drives, driven_net, IsLatest}
use Rattle.ds_groups.specs.Read.{holder, is_free}
use Rattle.ds_groups.specs.Taking.{some_of, TakesAll, TakesFree}
use Rattle.ds_groups.specs.declared.taking.Taking.{Taking}
use Rattle.ds_groups.proofs.Matching.{bool_same}

pub some_true : (n : ℕ) (p : ℕ → Bool) (r : ℕ) → r < n → p r ≡ true → some_of n p ≡ true
some_true n p r inside is =
    let len : length (range_with_len 0 n) ≡ n = length-range_with_len 0 n in
    let at : get_or (range_with_len 0 n) r 0 ≡ 0 + r = get_or-range_with_len 0 n r 0 inside in
    let e : get_or (range_with_len 0 n) r 0 ≡ r = omega arith in
    list_any_at p (range_with_len 0 n) r 0 (omega arith) (ap p e ∙ is)

pub some_find : (n : ℕ) (p : ℕ → Bool) → some_of n p ≡ true → (r : ℕ) × (r < n) × (p r ≡ true)
some_find n p is =
    let (k, x, inside, at, there) = Any-from_list_any p (range_with_len 0 n) is in
    let len : length (range_with_len 0 n) ≡ n = length-range_with_len 0 n in
    let low : k < n = omega arith in
    let here : get_or (range_with_len 0 n) k x ≡ 0 + k = get_or-range_with_len 0 n k x low in
    let e : x ≡ k = omega arith in
    (k, low, ap p (sym e) ∙ there)

pub some_cong : (n : ℕ) (p q : ℕ → Bool) → ((r : ℕ) → r < n → p r ≡ q r) → some_of n p ≡ some_of n q
some_cong n p q same = bool_same (some_of n p) (some_of n q)
    (λ is. let (r, inside, there) = some_find n p is in some_true n q r inside (sym (same r inside) ∙ there))
    (λ is. let (r, inside, there) = some_find n q is in some_true n p r inside (same r inside ∙ there))

pub some_none : (n : ℕ) (p : ℕ → Bool) → ((r : ℕ) → r < n → p r ≡ false) → some_of n p ≡ false
some_none n p none = false_from_ne_true (some_of n p)
    (λ is. let (r, inside, there) = some_find n p is in false≢true (sym (none r inside) ∙ there))

-- one item more passes where a test holds
some_insert : (n : ℕ) (p q : ℕ → Bool) (x : ℕ) (b : Bool) → x < n → ((r : ℕ) → r < n → q r ≡ (p r || ((r == x) && b)))
    → (b || some_of n p) ≡ some_of n q
some_insert n p q x b inside each = bool_same (b || some_of n p) (some_of n q)
    (λ is. elim (or_cases b (some_of n p) is) [
      | inl here ↦ some_true n q x inside (each x inside ∙ or_right (p x) ((x == x) && b) (and_from (x == x) b (eq-eqb x x refl) here))
      | inr there ↦ (let (r, low, at) = some_find n p there in some_true n q r low (each r low ∙ or_left (p r) ((r == x) && b) at))
    ])
    (λ is. let (r, low, at) = some_find n q is in elim (or_cases (p r) ((r == x) && b) (sym (each r low) ∙ at)) [
      | inl there ↦ or_right b (some_of n p) (some_true n p r low there)
      | inr here ↦ or_left b (some_of n p) (and_parts (r == x) b here).1
    ])

pub take_none : (test : ℕ → Bool) (line : ℕ) (old : List ℕ) → ((r : ℕ) → r < length old → test r ≡ false) → TakesFree test line old old false
take_none test line old none = record {
  one_each = refl;
  each = λ r low. sym (cond-false (is_free old r && test r) line (holder old r) (and_second (is_free old r) (test r) (none r low)));
  took = sym (some_none (length old) (λ r. is_free old r && test r) (λ r low. and_second (is_free old r) (test r) (none r low)));
}
  where
    and_second : (a b : Bool) → b ≡ false → (a && b) ≡ false
    and_second true b e = e
    and_second false b e = refl

pub take_same : (test other : ℕ → Bool) (line : ℕ) (old new : List ℕ) (told : Bool) → ((r : ℕ) → r < length old → test r ≡ other r)
    → TakesFree test line old new told → TakesFree other line old new told
take_same test other line old new told same takes = record {
  one_each = takes.one_each;
  each = λ r low. takes.each r low ∙ ap (λ (b : Bool). if is_free old r && b then line else holder old r) (same r low);
  took = takes.took ∙ some_cong (length old) (λ r. is_free old r && test r) (λ r. is_free old r && other r)
      (λ r low. ap (λ (b : Bool). is_free old r && b) (same r low));
}

-- one register more, which has not been looked at
module _ (test more : ℕ → Bool) (line : ℕ) (old mid new : List ℕ) (told : Bool) (x : ℕ)
    (takes : TakesFree test line old mid told) (inside : x < length old) (fresh : test x ≡ false)
    (each : (r : ℕ) → r < length old → more r ≡ (test r || (r == x)))
    (is : new ≡ (if is_free mid x then set mid x line else mid)) where
  and_false : (a : Bool) → (a && false) ≡ false
  and_false true = refl
  and_false false = refl

  kept : holder mid x ≡ holder old x
  kept = takes.each x inside ∙ cond-false (is_free old x && test x) line (holder old x) (ap (λ (b : Bool). is_free old x && b) fresh ∙ and_false (is_free old x))

  free_same : is_free mid x ≡ is_free old x
  free_same = ap (λ (n : ℕ). n == 0) kept

  abbrev size : length mid ≡ length old
  size = takes.one_each

  new_size : length new ≡ length old
  new_size = elim (cases_Bool (is_free mid x)) [
    | inl free ↦ ap length (is ∙ cond-true (is_free mid x) (set mid x line) mid free) ∙ length-set mid x line ∙ takes.one_each
    | inr held ↦ ap length (is ∙ cond-false (is_free mid x) (set mid x line) mid held) ∙ takes.one_each
  ]

  new_each : (r : ℕ) → r < length old → holder new r ≡ (if is_free old r && more r then line else holder old r)
  new_each r low = elim (cases_eq r x) [
    | inl here ↦ (
        let yes : more r ≡ true = each r low ∙ or_right (test r) (r == x) (eq-eqb r x here) in
        let s : length mid ≡ length old = takes.one_each in
        elim (cases_Bool (is_free mid x)) [
          | inl free ↦ (
              let f : is_free old r ≡ true = ap (λ (n : ℕ). is_free old n) here ∙ (sym free_same ∙ free) in
              ap (λ (h : List ℕ). holder h r) (is ∙ cond-true (is_free mid x) (set mid x line) mid free)
              ∙ ap (λ (n : ℕ). holder (set mid x line) n) here ∙ get_or-set_same mid x line 0 (omega arith)
              ∙ sym (cond-true (is_free old r && more r) line (holder old r) (and_from (is_free old r) (more r) f yes)))
          | inr held ↦ (
              let f : is_free old r ≡ false = ap (λ (n : ℕ). is_free old n) here ∙ (sym free_same ∙ held) in
              ap (λ (h : List ℕ). holder h r) (is ∙ cond-false (is_free mid x) (set mid x line) mid held)
              ∙ ap (λ (n : ℕ). holder mid n) here ∙ kept ∙ ap (λ (n : ℕ). holder old n) (sym here)
              ∙ sym (cond-false (is_free old r && more r) line (holder old r) (ap (λ (b : Bool). b && more r) f)))
        ])
    | inr other ↦ (
        let same : test r ≡ more r = sym (each r low ∙ (ap (λ (b : Bool). test r || b) (ne_eqb r x other) ∙ or_nothing (test r))) in
        let stays : holder new r ≡ holder mid r = elim (cases_Bool (is_free mid x)) [
          | inl free ↦ ap (λ (h : List ℕ). holder h r) (is ∙ cond-true (is_free mid x) (set mid x line) mid free) ∙ get_or-set_other mid x r line 0 other
          | inr held ↦ ap (λ (h : List ℕ). holder h r) (is ∙ cond-false (is_free mid x) (set mid x line) mid held)
        ] in
        stays ∙ takes.each r low ∙ ap (λ (b : Bool). if is_free old r && b then line else holder old r) same)
  ]
    where
      or_nothing : (b : Bool) → (b || false) ≡ b
      or_nothing true = refl
      or_nothing false = refl

  pub take_one : TakesFree more line old new (is_free mid x || told)
  take_one = record {
    one_each = new_size;
    each = new_each;
    took = ap₂ (λ (a b : Bool). a || b) free_same takes.took
        ∙ some_insert (length old) (λ r. is_free old r && test r) (λ r. is_free old r && more r) x (is_free old x) inside
        (λ r low. ap (λ (b : Bool). is_free old r && b) (each r low) ∙ spread (is_free old r) (test r) (r == x) (is_free old x)
        (λ e. ap (λ (n : ℕ). is_free old n) (eqb-true r x e)));
  }
    where
      spread : (f t s g : Bool) → (s ≡ true → f ≡ g) → (f && (t || s)) ≡ ((f && t) || (s && g))
      spread true true s g e = refl
      spread true false true g e = e refl
      spread true false false g e = refl
      spread false t true g e = e refl
      spread false t false g e = refl

-- a register drives a net
pub drives_to : (nets : List Net) (net : Net) (r : ℕ) → drives nets net r ≡ true → driven_net nets r ≡ net
drives_to nets net r is =
    let (copy, name) = and_parts (net.copy == (driven_net nets r).copy) (bytes_eq net.name (driven_net nets r).name) is in
    let name_is : net.name ≡ (driven_net nets r).name = (bytes_eq-Decides net.name (driven_net nets r).name).0 name in
    ap (λ (n : ℕ). record { copy = n; name = (driven_net nets r).name }) (sym (eqb-true net.copy (driven_net nets r).copy copy))
    ∙ ap (λ (text : List ℕ). record { copy = net.copy; name = text }) (sym name_is)

pub drives_from : (nets : List Net) (net : Net) (r : ℕ) → driven_net nets r ≡ net → drives nets net r ≡ true
drives_from nets net r is = and_from (net.copy == (driven_net nets r).copy) (bytes_eq net.name (driven_net nets r).name)
    (eq-eqb net.copy (driven_net nets r).copy (ap (λ (n : Net). n.copy) (sym is)))
    ((bytes_eq-Decides net.name (driven_net nets r).name).1 (ap (λ (n : Net). n.name) (sym is)))

-- the registers above the next one are done
abbrev pub is_done : Option ℕ → ℕ → Bool
is_done None r = true
is_done (Some next) r = nat_lt next r

abbrev pub rank_of : Option ℕ → ℕ
rank_of None = 0
rank_of (Some next) = next + 1

module _ (nets : List Net) (net : Net) where
  -- before all
  pub none_done : (next : Option ℕ) → IsLatest nets (length nets) net next → (r : ℕ) → r < length nets → (drives nets net r && is_done next r) ≡ false
  none_done None none r low = false_from_ne_true (drives nets net r && true)
      (λ is. none r low (drives_to nets net r (and_parts (drives nets net r) true is).0))
  none_done (Some l) (inside, at, last) r low = false_from_ne_true (drives nets net r && nat_lt l r)
      (λ is. let (one, other) = and_parts (drives nets net r) (nat_lt l r) is in
      last r (ltb-true l r other) low (drives_to nets net r one))

  -- one more
  pub more_done : (next : Option ℕ) (x : ℕ) → driven_net nets x ≡ net → IsLatest nets x net next → (r : ℕ)
      → (drives nets net r && is_done next r) ≡ ((drives nets net r && is_done (Some x) r) || (r == x))
  more_done next x own latest r = bool_same (drives nets net r && is_done next r) ((drives nets net r && nat_lt x r) || (r == x))
      (λ is. let (one, other) = and_parts (drives nets net r) (is_done next r) is in
      elim (cases_order r x) [
        | inl same ↦ or_right (drives nets net r && nat_lt x r) (r == x) (eq-eqb r x same)
        | inr apart ↦ elim apart [
          | inl below ↦ absurd (not_below next latest r below (drives_to nets net r one) other)
          | inr above ↦ or_left (drives nets net r && nat_lt x r) (r == x) (and_from (drives nets net r) (nat_lt x r) one (lt-ltb x r above))
        ]
      ])
      (λ is. elim (or_cases (drives nets net r && nat_lt x r) (r == x) is) [
        | inl before ↦ (let (one, other) = and_parts (drives nets net r) (nat_lt x r) before in
            and_from (drives nets net r) (is_done next r) one (done_above next latest r (let h : x < r = ltb-true x r other in omega arith)))
        | inr here ↦ and_from (drives nets net r) (is_done next r)
            (drives_from nets net r (ap (λ (n : ℕ). driven_net nets n) (eqb-true r x here) ∙ own)) (done_above next latest r (let h : r ≡ x = eqb-true r x here in omega arith))
      ])
    where
      not_below : (next : Option ℕ) → IsLatest nets x net next → (r : ℕ) → r < x → driven_net nets r ≡ net → is_done next r ≡ true → ⊥
      not_below None none r below is done = none r below is
      not_below (Some l) (inside, at, last) r below is done = last r (ltb-true l r done) below is

      done_above : (next : Option ℕ) → IsLatest nets x net next → (r : ℕ) → x ≤ r → is_done next r ≡ true
      done_above None none r above = refl
      done_above (Some l) (inside, at, last) r above = lt-ltb l r (omega arith)

  -- whether there is one
  pub known_is : (next : Option ℕ) → IsLatest nets (length nets) net next → is_some next ≡ some_of (length nets) (drives nets net)
  known_is None none = sym (some_none (length nets) (drives nets net) (λ r low. false_from_ne_true (drives nets net r) (λ is. none r low (drives_to nets net r is))))
  known_is (Some l) (inside, at, last) = sym (some_true (length nets) (drives nets net) l inside (drives_from nets net l at))

-- the next register drives the net
abbrev pub IsNext : List Net → Net → Option ℕ → Type 0
IsNext nets net None = Unit {0}
IsNext nets net (Some x) = (x < length nets) × (driven_net nets x ≡ net)

pub next_is : (nets : List Net) (net : Net) (count : ℕ) (next : Option ℕ) → count ≤ length nets → IsLatest nets count net next → IsNext nets net next
next_is nets net count None low none = tt
next_is nets net count (Some x) low (inside, at, last) = (omega arith, at)

pub rank_less : (nets : List Net) (net : Net) (x : ℕ) (next : Option ℕ) → IsLatest nets x net next → rank_of next < x + 1
rank_less nets net x None none = omega arith
rank_less nets net x (Some l) (inside, at, last) = omega arith

-- the next register of a key is taken
pub key_step : (nets : List Net) (net : Net) (line : ℕ) (old mid new : List ℕ) (told took : Bool) (before next : Option ℕ) (x : ℕ)
    → length old ≡ length nets → before ≡ Some x
    → TakesFree (λ r. drives nets net r && is_done before r) line old mid told → IsNext nets net before
    → new ≡ (if is_free mid x then set mid x line else mid) → took ≡ (is_free mid x || told)
    → IsLatest nets x (driven_net nets x) next
    → TakesFree (λ r. drives nets net r && is_done next r) line old new took × IsNext nets net next
key_step nets net line old mid new told took before next x size here takes is_next changed took_is latest =
    let (inside, own) = subst (λ (n : Option ℕ). IsNext nets net n) here is_next in
    let last : IsLatest nets x net next = subst (λ (n : Net). IsLatest nets x n next) own latest in
    let so_far : TakesFree (λ r. drives nets net r && nat_lt x r) line old mid told =
    subst (λ (n : Option ℕ). TakesFree (λ r. drives nets net r && is_done n r) line old mid told) here takes in (
      subst (λ (b : Bool). TakesFree (λ r. drives nets net r && is_done next r) line old new b) (sym took_is)
          (take_one (λ r. drives nets net r && nat_lt x r) (λ r. drives nets net r && is_done next r) line old mid new told x so_far (omega arith)
          (false_from_ne_true (drives nets net x && nat_lt x x) (λ e. let h : x < x = ltb-true x x (and_parts (drives nets net x) (nat_lt x x) e).1 in absurd (omega arith)))
          (λ r low. more_done nets net next x own last r) changed),
      next_is nets net x next (omega arith) last,
    )

pub or_true : (a b took : Bool) (free : Bool) → a ≡ free → a ≡ true → took ≡ true → took ≡ (free || b)
or_true a b took free same is took_is = took_is ∙ sym (or_left free b (sym same ∙ is))

pub or_false : (a b took : Bool) (free : Bool) → a ≡ free → a ≡ false → took ≡ b → took ≡ (free || b)
or_false a b took free same is took_is = took_is ∙ ap (λ (f : Bool). f || b) (sym is ∙ same)

pub and_true : (b : Bool) → (b && true) ≡ b
and_true true = refl
and_true false = refl

-- one register more, whose name is looked at
module _ (m : ℕ → Bool) (line : ℕ) (old mid : List ℕ) (told : Bool) (i : ℕ)
    (takes : TakesFree (λ r. m r && nat_lt r i) line old mid told) (inside : i < length old) where
  here_not : (r : ℕ) → r ≢ i → nat_lt r i ≡ nat_lt r (i + 1)
  here_not r other = bool_same (nat_lt r i) (nat_lt r (i + 1))
      (λ is. let h : r < i = ltb-true r i is in lt-ltb r (i + 1) (omega arith))
      (λ is. let h : r < i + 1 = ltb-true r (i + 1) is in lt-ltb r i (omega arith))

  fails_here : (m i && nat_lt i i) ≡ false
  fails_here = false_from_ne_true (m i && nat_lt i i)
      (λ e. let h : i < i = ltb-true i i (and_parts (m i) (nat_lt i i) e).1 in absurd (omega arith))

  more_here : m i ≡ true → (r : ℕ) → (m r && nat_lt r (i + 1)) ≡ ((m r && nat_lt r i) || (r == i))
  more_here fits r = elim (cases_eq r i) [
    | inl here ↦ and_from (m r) (nat_lt r (i + 1)) (ap m here ∙ fits) (lt-ltb r (i + 1) (omega arith))
        ∙ sym (or_right (m r && nat_lt r i) (r == i) (eq-eqb r i here))
    | inr other ↦ ap (λ (b : Bool). m r && b) (sym (here_not r other)) ∙ sym (ap (λ (b : Bool). (m r && nat_lt r i) || b) (ne_eqb r i other) ∙ or_no (m r && nat_lt r i))
  ]
    where
      or_no : (b : Bool) → (b || false) ≡ b
      or_no true = refl
      or_no false = refl

  pub match_taken : (new : List ℕ) (took : Bool) → m i ≡ true → is_free mid i ≡ true → new ≡ (if is_free mid i then set mid i line else mid) → took ≡ true
      → TakesFree (λ r. m r && nat_lt r (i + 1)) line old new took
  match_taken new took fits free is took_is =
      subst (λ (b : Bool). TakesFree (λ r. m r && nat_lt r (i + 1)) line old new b)
      (ap (λ (b : Bool). b || told) free ∙ sym took_is)
      (take_one (λ r. m r && nat_lt r i) (λ r. m r && nat_lt r (i + 1)) line old mid new told i takes inside fails_here (λ r low. more_here fits r) is)

  pub match_fails : m i ≡ false → TakesFree (λ r. m r && nat_lt r (i + 1)) line old mid told
  match_fails fails = take_same (λ r. m r && nat_lt r i) (λ r. m r && nat_lt r (i + 1)) line old mid told
      (λ r low. elim (cases_eq r i) [
        | inl here ↦ ap (λ (b : Bool). b && nat_lt r i) (ap m here ∙ fails) ∙ sym (ap (λ (b : Bool). b && nat_lt r (i + 1)) (ap m here ∙ fails))
        | inr other ↦ ap (λ (b : Bool). m r && b) (here_not r other)
      ]) takes

  pub match_held : is_free mid i ≡ false → TakesFree (λ r. m r && nat_lt r (i + 1)) line old mid told
  match_held held = elim (cases_Bool (m i)) [
    | inl fits ↦ subst (λ (b : Bool). TakesFree (λ r. m r && nat_lt r (i + 1)) line old mid b) (ap (λ (b : Bool). b || told) held)
        (take_one (λ r. m r && nat_lt r i) (λ r. m r && nat_lt r (i + 1)) line old mid mid told i takes inside fails_here (λ r low. more_here fits r)
        (sym (cond-false (is_free mid i) (set mid i line) mid held)))
    | inr fails ↦ match_fails fails
  ]

pub match_none : (m : ℕ → Bool) (line : ℕ) (old : List ℕ) → TakesFree (λ r. m r && nat_lt r 0) line old old false
match_none m line old = take_none (λ r. m r && nat_lt r 0) line old
    (λ r low. false_from_ne_true (m r && nat_lt r 0) (λ e. let h : r < 0 = ltb-true r 0 (and_parts (m r) (nat_lt r 0) e).1 in absurd (omega arith)))

pub match_all : (m : ℕ → Bool) (line : ℕ) (old new : List ℕ) (told : Bool) (i : ℕ) → length old ≤ i
    → TakesFree (λ r. m r && nat_lt r i) line old new told → TakesFree m line old new told
match_all m line old new told i past takes = take_same (λ r. m r && nat_lt r i) m line old new told
    (λ r low. ap (λ (b : Bool). m r && b) (lt-ltb r i (omega arith)) ∙ and_true (m r)) takes

-- where one was taken one passes the test
pub took_known : (test : ℕ → Bool) (line : ℕ) (old new : List ℕ) (told : Bool) → TakesFree test line old new told → told ≡ true → true ≡ some_of (length old) test
took_known test line old new told takes is =
    let (r, low, at) = some_find (length old) (λ r. is_free old r && test r) (sym takes.took ∙ is) in
    sym (some_true (length old) test r low (and_parts (is_free old r) (test r) at).1)

-- two tests, one after the other
module _ (one other : ℕ → Bool) (line : ℕ) (old mid new : List ℕ) (first second : Bool) (some : 0 < line)
    (takes : TakesFree one line old mid first) (takes_too : TakesFree other line mid new second) where
  taken_before : (r : ℕ) → r < length old → (is_free old r && one r) ≡ true → is_free mid r ≡ false
  taken_before r low yes_so = ne_eqb (holder mid r) 0
      (λ e. let h : holder mid r ≡ line = takes.each r low ∙ cond-true (is_free old r && one r) line (holder old r) yes_so in omega arith)

  free_still : (r : ℕ) → r < length old → (is_free old r && one r) ≡ false → holder mid r ≡ holder old r
  free_still r low not_so = takes.each r low ∙ cond-false (is_free old r && one r) line (holder old r) not_so

  spread_out : (f a b : Bool) → (f && a) ≡ false → (f && b) ≡ (f && (a || b))
  spread_out true true b e = absurd (false≢true (sym e))
  spread_out true false b e = refl
  spread_out false a b e = refl

  widen : (f a b : Bool) → (f && a) ≡ true → (f && (a || b)) ≡ true
  widen true true b e = refl
  widen true false b e = absurd (false≢true e)
  widen false a b e = absurd (false≢true e)

  pub two_take : TakesFree (λ r. one r || other r) line old new (first || second)
  two_take =
      let m : length mid ≡ length old = takes.one_each in
      record {
        one_each = takes_too.one_each ∙ takes.one_each;
        each = λ r low. elim (cases_Bool (is_free old r && one r)) [
          | inl so ↦ takes_too.each r (omega arith)
              ∙ cond-false (is_free mid r && other r) line (holder mid r) (ap (λ (b : Bool). b && other r) (taken_before r low so))
              ∙ takes.each r low ∙ cond-true (is_free old r && one r) line (holder old r) so
              ∙ sym (cond-true (is_free old r && (one r || other r)) line (holder old r) (widen (is_free old r) (one r) (other r) so))
          | inr not_so ↦ takes_too.each r (omega arith)
              ∙ ap (λ (h : ℕ). if (h == 0) && other r then line else h) (free_still r low not_so)
              ∙ ap (λ (b : Bool). if b then line else holder old r) (spread_out (is_free old r) (one r) (other r) not_so)
        ];
        took = bool_same (first || second) (some_of (length old) (λ r. is_free old r && (one r || other r)))
            (λ is. elim (or_cases first second is) [
              | inl here ↦ (
                  let (r, low, at) = some_find (length old) (λ r. is_free old r && one r) (sym takes.took ∙ here) in
                  some_true (length old) (λ r. is_free old r && (one r || other r)) r low (widen (is_free old r) (one r) (other r) at))
              | inr there ↦ (
                  let (r, low, at) = some_find (length mid) (λ r. is_free mid r && other r) (sym takes_too.took ∙ there) in
                  let low_too : r < length old = omega arith in
                  let (free, passes) = and_parts (is_free mid r) (other r) at in
                  elim (cases_Bool (is_free old r && one r)) [
                    | inl so ↦ absurd (false≢true (sym (taken_before r low_too so) ∙ free))
                    | inr not_so ↦ some_true (length old) (λ r. is_free old r && (one r || other r)) r low_too
                        (sym (spread_out (is_free old r) (one r) (other r) not_so)
                        ∙ and_from (is_free old r) (other r) (ap (λ (h : ℕ). h == 0) (sym (free_still r low_too not_so)) ∙ free) passes)
                  ])
            ])
            (λ is.
            let (r, low, at) = some_find (length old) (λ r. is_free old r && (one r || other r)) is in
            elim (cases_Bool (is_free old r && one r)) [
              | inl so ↦ or_left first second (takes.took ∙ some_true (length old) (λ r. is_free old r && one r) r low so)
              | inr not_so ↦ (
                  let both : (is_free old r && other r) ≡ true = spread_out (is_free old r) (one r) (other r) not_so ∙ at in
                  let (free, passes) = and_parts (is_free old r) (other r) both in
                  or_right first second (takes_too.took ∙ some_true (length mid) (λ r. is_free mid r && other r) r (omega arith)
                  (and_from (is_free mid r) (other r) (ap (λ (h : ℕ). h == 0) (free_still r low not_so) ∙ free) passes)))
            ]);
      }

pub some_either : (n : ℕ) (p q : ℕ → Bool) → (some_of n p || some_of n q) ≡ some_of n (λ r. p r || q r)
some_either n p q = bool_same (some_of n p || some_of n q) (some_of n (λ r. p r || q r))
    (λ is. elim (or_cases (some_of n p) (some_of n q) is) [
      | inl here ↦ (let (r, low, at) = some_find n p here in some_true n (λ r. p r || q r) r low (or_left (p r) (q r) at))
      | inr there ↦ (let (r, low, at) = some_find n q there in some_true n (λ r. p r || q r) r low (or_right (p r) (q r) at))
    ])
    (λ is. let (r, low, at) = some_find n (λ r. p r || q r) is in elim (or_cases (p r) (q r) at) [
      | inl here ↦ or_left (some_of n p) (some_of n q) (some_true n p r low here)
      | inr there ↦ or_right (some_of n p) (some_of n q) (some_true n q r low there)
    ])

pub take_both : (one other : ℕ → Bool) (line : ℕ) (old mid new : List ℕ) (first second both : Taking) → 0 < line
    → TakesAll one line old mid first → TakesAll other line mid new second
    → both.known ≡ (first.known || second.known) → both.took ≡ (first.took || second.took)
    → TakesAll (λ r. one r || other r) line old new both
take_both one other line old mid new first second both some (takes, known) (takes_too, known_too) known_is took_is = (
  subst (λ (b : Bool). TakesFree (λ r. one r || other r) line old new b) (sym took_is)
      (two_take one other line old mid new first.took second.took some takes takes_too),
  known_is ∙ ap₂ (λ (a b : Bool). a || b) known (known_too ∙ ap (λ (n : ℕ). some_of n other) takes.one_each)
      ∙ some_either (length old) one other,
)
