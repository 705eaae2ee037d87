-- Values, stored rows and plans in windows.
use Rattle.std.proofs.Common.{◌≡◌, ℕ, suc, ◌+◌, ◌-◌, ◌<◌, List, [], ◌++◌, length, map, refl, arith, ap, sym, ◌∙◌, inl, inr, subst, length-append}
use Rattle.std.specs.List.{range_with_len}
use Rattle.std.proofs.lemmas.Bool.{cases_lt}
use Rattle.ds_base.specs.Values.{Row}
use Rattle.std.proofs.lemmas.List.{get_or_past}
use Rattle.std.proofs.lemmas.List.FromFn.{length-map-range_with_len, get_or-map-range_with_len}
use Rattle.ds_base.proofs.ListLemmas.{lists_same}
use Rattle.ds_marked.specs.Graph.{Graph}
use Rattle.ds_latch.specs.Node.{Split, begun}
use Rattle.ds_latch.specs.declared.node.Node.{Node}
use Rattle.ds_latch.specs.declared.node.Node.TheVariants.{In, Out, Master, Slave}
use Rattle.ds_latch.specs.Order.{IsRequired, opens_first, closes_before_next, after_producer, before_reuse, close_tokens}
use Rattle.ds_latch.specs.Plan.{IsSplit, IsPlan, IsController}
use Rattle.ds_latch.specs.Numbered.{numbered}
use Rattle.ds_design.specs.Windows.{later}
use Rattle.ds_base.proofs.AppendedPairs.{get_or-left, get_or-right}
use Rattle.ds_latch.proofs.Remade.{edge_back, node_back}

-- a map over a range in two parts, the second numbered again
map_range : {X : Type 0} (f g h : ℕ → X) (a n m : ℕ) → ((k : ℕ) → k < n → f (a + k) ≡ h (a + k)) → ((k : ℕ) → k < m → g (a + k) ≡ h (a + n + k)) → map f (range_with_len a n) ++ map g (range_with_len a m) ≡ map h (range_with_len a (n + m))
map_range f g h a n m left right =
    let d = h 0 in
    let xs : List _ = map f (range_with_len a n) in
    let ys : List _ = map g (range_with_len a m) in
    let zs : List _ = map h (range_with_len a (n + m)) in
    let long_xs : length xs ≡ n = length-map-range_with_len f a n in
    let long_ys : length ys ≡ m = length-map-range_with_len g a m in
    let long_zs : length zs ≡ n + m = length-map-range_with_len h a (n + m) in
    let long : length (xs ++ ys) ≡ length xs + length ys = length-append xs ys in
    lists_same (xs ++ ys) zs d (omega arith) (λ i.
    elim (cases_lt i n) [
      | inl inside ↦
          get_or-left xs ys i d (omega arith)
          ∙ (get_or-map-range_with_len f a n i (a + i) d inside refl ∙ (left i inside ∙ sym (get_or-map-range_with_len h a (n + m) i (a + i) d (omega arith) refl)))
      | inr past ↦
          elim (cases_lt i (n + m)) [
            | inl within ↦
                get_or-right xs ys (i - n) i d (omega arith)
                ∙ (get_or-map-range_with_len g a m (i - n) (a + (i - n)) d (omega arith) refl
                ∙ (right (i - n) (omega arith) ∙ sym (get_or-map-range_with_len h a (n + m) i (a + n + (i - n)) d within (omega arith))))
            | inr out ↦ get_or_past (xs ++ ys) i d (omega arith) ∙ sym (get_or_past zs i d (omega arith))
          ]
    ])

module _ (s : Split) (row : Row) (one two : List Row) (state nets : ℕ → Row) where
  abbrev Whole : Node → ℕ → Row
  Whole n k = numbered s (one ++ two) state nets n k

  pub values_in_windows : (n : Node) (k : ℕ) → numbered (begun s row) two (later (length one) state) (later (length one) nets) n (suc k) ≡ Whole n (length one + suc k)
  values_in_windows In k = sym (get_or-right one two k (length one + k) [] refl) ∙ ap (Whole In) (let e : suc (length one + k) ≡ length one + suc k = omega arith in e)
  values_in_windows Out k = ap (Whole Out) (let e : suc (length one + k) ≡ length one + suc k = omega arith in e)
  values_in_windows (Master i) k =
      let e : suc (length one + k) ≡ length one + suc k = omega arith in
      ap (λ (j : ℕ). Whole (Slave i) j) (sym e) ∙ ap (Whole (Master i)) e
  values_in_windows (Slave i) k = refl

  -- the values of the first window are those of the whole run
  first_values : (n : Node) (k : ℕ) → k < length one → numbered s one state nets n (suc k) ≡ Whole n (suc k)
  first_values In k below = sym (get_or-left one two k [] below)
  first_values Out k below = refl
  first_values (Master i) k below = refl
  first_values (Slave i) k below = refl

  pub stored_in_windows : (n : Node) → map (numbered s one state nets n) (range_with_len 1 (length one)) ++ map (numbered (begun s row) two (later (length one) state) (later (length one) nets) n) (range_with_len 1 (length two)) ≡ map (Whole n) (range_with_len 1 (length one + length two))
  stored_in_windows n =
      let first : ℕ → Row = numbered s one state nets n in
      let second : ℕ → Row = numbered (begun s row) two (later (length one) state) (later (length one) nets) n in
      map_range first second (Whole n) 1 (length one) (length two)
      (λ k below. ap first (let e : 1 + k ≡ suc k = omega arith in e) ∙ (first_values n k below ∙ ap (Whole n) (let e : suc k ≡ 1 + k = omega arith in e)))
      (λ k below. ap second (let e : 1 + k ≡ suc k = omega arith in e) ∙ (values_in_windows n k ∙ ap (Whole n) (let e : length one + suc k ≡ 1 + length one + k = omega arith in e)))

module _ (s : Split) (row : Row) where
  tokens_back : (p : Node) → close_tokens s p ≡ close_tokens (begun s row) p
  tokens_back In = refl
  tokens_back Out = refl
  tokens_back (Master i) = refl
  tokens_back (Slave i) = refl

  required_back : (u v tokens : ℕ) → IsRequired (begun s row) u v tokens → IsRequired s u v tokens
  required_back _ _ _ (opens_first n is) = opens_first n (node_back s row s.slack n is)
  required_back _ _ _ (closes_before_next n is) = closes_before_next n (node_back s row s.slack n is)
  required_back _ _ _ (after_producer p c edge) = after_producer p c (edge_back s row s.slack p c edge)
  required_back u v _ (before_reuse p c edge) = subst (λ (tokens : ℕ). IsRequired s u v tokens) (tokens_back p) (before_reuse p c (edge_back s row s.slack p c edge))

  split_begins : length row ≡ length s.circuit.registers → IsSplit s → IsSplit (begun s row)
  split_begins long split = record { accepted = split.accepted; covered = split.covered; within = split.within; once = split.once; one_value_each = long }

pub plan_begins : (s : Split) (g : Graph) (row : Row) → length row ≡ length s.circuit.registers → (IsPlan s g → IsPlan (begun s row) g) × (IsController s g → IsController (begun s row) g)
plan_begins s g row long = (
  λ plan. record {
    split = split_begins s row long plan.split;
    extra = plan.extra;
    events = plan.events;
    live = plan.live;
    orders = λ u v tokens required. plan.orders u v tokens (required_back s row u v tokens required);
  },
  λ controller. record {
    split = split_begins s row long controller.split;
    live = controller.live;
    meets = λ count agrees u v tokens required. controller.meets count agrees u v tokens (required_back s row u v tokens required);
  },
)

pub plan_begun : (s : Split) (g : Graph) (row : Row) → length row ≡ length s.circuit.registers → IsPlan s g → IsPlan (begun s row) g
plan_begun s g row long plan = (plan_begins s g row long).0 plan
