-- The events of the nodes are distinct: each tells its number.
use Rattle.std.proofs.Common.{◌≡◌, ◌≢◌, ℕ, zero, suc, ◌+◌, ◌*◌, ◌<◌, ◌≤◌, List, [], ◌∷◌, ◌++◌, map, length, get_or, refl, ap, sym, ◌∙◌, arith, AllPairs, ◌==◌, if◌then◌else◌}
use Rattle.std.specs.List.{flat_map, range_with_len}
use Rattle.std.specs.Fmt.{decimal}
use Rattle.std.specs.Str.Parse.{digits_value}
use Rattle.std.proofs.lemmas.Fmt.{decimal_is_IsNumeral}
use Rattle.std.proofs.lemmas.List.{length-map, get_or-map}
use Rattle.std.proofs.lemmas.List.FromFn.{length-range_with_len, get_or-range_with_len}
use Rattle.ds_marked.specs.declared.marked.Event.{Event}
use Rattle.ds_marked.specs.declared.marked.Kind.{Kind}
use Rattle.ds_marked.specs.declared.marked.Kind.TheVariants.{Rise, Fall, Dummy}
use Rattle.ds_latch.specs.Node.{Split}
use Rattle.ds_latch.specs.declared.node.Node.TheVariants.{Master, Slave}
use Rattle.ds_latch.specs.Plan.{node_events, split_events}

-- the number of the node with a name, by its first letter and its digits
abbrev number : List ℕ → ℕ
number [] = 0
number (c ∷ rest) = if c == 77 then 2 * digits_value 10 rest + 2 else (if c == 83 then 2 * digits_value 10 rest + 3 else (if c == 79 then 1 else 0))

abbrev side : Kind → ℕ
side Rise = 0
side Fall = 1
side Dummy = 0

abbrev code : Event → ℕ
code e = 2 * number e.signal + side e.kind

four : {A : Type 0} (a b c d e f g h : A) (xs ys : List A) → a ≡ e → b ≡ f → c ≡ g → d ≡ h → xs ≡ ys → a ∷ b ∷ c ∷ d ∷ xs ≡ e ∷ f ∷ g ∷ h ∷ ys
four a b c d e f g h xs ys p q r s t = rw (p, q, r, s, t) refl

cluster_codes : (a n : ℕ) → a + n ≤ 1048576 → map code (flat_map (λ i. node_events (Master i) ++ node_events (Slave i)) (range_with_len a n)) ≡ range_with_len (4 * a + 4) (4 * n)
cluster_codes a zero few = refl
cluster_codes a (suc n) few =
    let value : digits_value 10 (decimal a) ≡ a = (decimal_is_IsNumeral a (omega arith)).1 in
    let rest : map code (flat_map (λ i. node_events (Master i) ++ node_events (Slave i)) (range_with_len (a + 1) n)) ≡ range_with_len (4 * (a + 1) + 4) (4 * n) = cluster_codes (a + 1) n (omega arith) in
    let up : 4 * (a + 1) + 4 ≡ 4 * a + 4 + 1 + 1 + 1 + 1 = omega arith in
    let size : suc (suc (suc (suc (4 * n)))) ≡ 4 * suc n = omega arith in
    four (2 * (2 * digits_value 10 (decimal a) + 2) + 0) (2 * (2 * digits_value 10 (decimal a) + 2) + 1) (2 * (2 * digits_value 10 (decimal a) + 3) + 0) (2 * (2 * digits_value 10 (decimal a) + 3) + 1)
    (4 * a + 4) (4 * a + 4 + 1) (4 * a + 4 + 1 + 1) (4 * a + 4 + 1 + 1 + 1) _ (range_with_len (4 * a + 4 + 1 + 1 + 1 + 1) (4 * n))
    (omega arith) (omega arith) (omega arith) (omega arith) (rest ∙ ap (λ (b : ℕ). range_with_len b (4 * n)) up)
    ∙ ap (range_with_len (4 * a + 4)) size

event_codes : (s : Split) → length s.clusters ≤ 1048576 → map code (split_events s) ≡ range_with_len 0 (suc (suc (suc (suc (4 * length s.clusters)))))
event_codes s few = ap (λ (xs : List ℕ). 0 ∷ 1 ∷ 2 ∷ 3 ∷ xs) (cluster_codes 0 (length s.clusters) (omega arith))

told : (xs : List Event) (m : ℕ) → map code xs ≡ range_with_len 0 m → (i : ℕ) (d : Event) → i < length xs → code (get_or xs i d) ≡ i
told xs m is i d inside =
    let size : length xs ≡ m = sym (length-map xs code) ∙ (ap (λ (ys : List ℕ). length ys) is ∙ length-range_with_len 0 m) in
    sym (get_or-map code xs i d (code d) inside) ∙ (ap (λ (ys : List ℕ). get_or ys i (code d)) is ∙ (get_or-range_with_len 0 m i (code d) (omega arith) ∙ (let e : 0 + i ≡ i = omega arith in e)))

pub events_once : (s : Split) → length s.clusters ≤ 1048576 → AllPairs (λ a b. a ≢ b) (split_events s)
events_once s few i j d below inside same =
    let m : ℕ = suc (suc (suc (suc (4 * length s.clusters)))) in
    let one : code (get_or (split_events s) i d) ≡ i = told (split_events s) m (event_codes s few) i d (omega arith) in
    let two : code (get_or (split_events s) j d) ≡ j = told (split_events s) m (event_codes s few) j d inside in
    let equal : code (get_or (split_events s) i d) ≡ code (get_or (split_events s) j d) = ap code same in
    absurd (omega arith)
