-- Clocked runs: there is one, and a loop over the turns finds it.
use Rattle.std.proofs.Common.{◌≡◌, ℕ, zero, suc, ◌+◌, ◌<◌, ◌≤◌, List, [], ◌∷◌, ◌++◌, length, refl, arith, ap, sym, ◌∙◌, subst, add-one, add-zero}
use Rattle.std.specs.List.{flat_map, range_with_len}
use Rattle.ds_cover.specs.Cover.{value_at, values_at}
use Rattle.ds_design.specs.Circuit.{Circuit, columns, data_nets}
use Rattle.std.specs.Prelude.{All}
use Rattle.std.proofs.lemmas.List.{length-map}
use Rattle.std.proofs.lemmas.List.Elements.{All-head, All-tail}
use Rattle.ds_design.specs.InRange.{IsInRange}
use Rattle.ds_design.specs.declared.design.Register.{Register}
use Rattle.ds_design.proofs.Exists.{some_valuation}
use Rattle.ds_design.specs.Accepted.{IsAccepted}
use Rattle.ds_design.specs.Valuation.{IsValuation}
use Rattle.ds_design.specs.Run.{IsRun, row_at}
use Rattle.ds_design.specs.Trace.{IsTraceFrom, AreLines, trace_line, trace_lines}
use Rattle.ds_design.proofs.OneValuation.{one_valuation}
use Rattle.ds_base.specs.Values.{Row}

module _ (c : Circuit) (accepted : IsAccepted c) (start : Row) (vectors : List Row) (state nets state' nets' : ℕ → Row) (one : IsRun c start vectors state nets) (other : IsRun c start vectors state' nets') where
  same_nets : (k : ℕ) → state k ≡ state' k → k < length vectors → nets k ≡ nets' k
  same_nets k same below =
      one_valuation c accepted (state k) (row_at vectors k) (nets k) (nets' k) (one.settles k below)
      (subst (λ s. IsValuation c s (row_at vectors k) (nets' k)) (sym same) (other.settles k below))

  same_state : (k : ℕ) → k ≤ length vectors → state k ≡ state' k
  same_state zero below = one.starts ∙ sym other.starts
  same_state (suc k) below =
      let lower : k < length vectors = omega arith in
      let nets_agree : nets k ≡ nets' k = same_nets k (same_state k (omega arith)) lower in
      let here : state (suc k) ≡ values_at (nets k) (data_nets c) = rw add-one at (one.steps k lower) in
      let there : state' (suc k) ≡ values_at (nets' k) (data_nets c) = rw add-one at (other.steps k lower) in
      here ∙ (ap (λ w. values_at w (data_nets c)) nets_agree ∙ sym there)

  pub one_run : (k : ℕ) → (k ≤ length vectors → state k ≡ state' k) × (k < length vectors → nets k ≡ nets' k)
  one_run k = (same_state k, λ below. same_nets k (same_state k (omega arith)) below)

-- a first value, and then those of a function
abbrev after_first : {X : Type 0} → X → (ℕ → X) → ℕ → X
after_first x f zero = x
after_first x f (suc k) = f k

shift : {X : Type 0} (f : ℕ → List X) (a n : ℕ) → flat_map f (range_with_len (a + 1) n) ≡ flat_map (λ j. f (suc j)) (range_with_len a n)
shift f a zero = refl
shift f a (suc n) = ap (λ xs. xs ++ flat_map f (range_with_len (a + 1 + 1) n)) (ap f (add-one a)) ∙ ap (λ xs. f (suc a) ++ xs) (shift f (a + 1) n)

flat_map_agree : {A X : Type 0} (f g : A → List X) (xs : List A) → ((x : A) → f x ≡ g x) → flat_map f xs ≡ flat_map g xs
flat_map_agree f g [] same = refl
flat_map_agree f g (x ∷ xs) same = ap (λ ys. ys ++ flat_map f xs) (same x) ∙ ap (λ ys. g x ++ ys) (flat_map_agree f g xs same)

first_settles : (c : Circuit) (start first vector : Row) (vectors : List Row) (state nets : ℕ → Row) → IsValuation c start vector first → ((j : ℕ) → j < length vectors → IsValuation c (state j) (row_at vectors j) (nets j)) → (j : ℕ) → j < length (vector ∷ vectors) → IsValuation c (after_first start state j) (row_at (vector ∷ vectors) j) (after_first first nets j)
first_settles c start first vector vectors state nets here others zero below = here
first_settles c start first vector vectors state nets here others (suc j) below = others j (omega arith)

first_steps : (c : Circuit) (start first : Row) (vectors : List Row) (state nets : ℕ → Row) → state 0 ≡ values_at first (data_nets c) → ((j : ℕ) → j < length vectors → state (j + 1) ≡ values_at (nets j) (data_nets c)) → (j : ℕ) → j < suc (length vectors) → after_first start state (j + 1) ≡ values_at (after_first first nets j) (data_nets c)
first_steps c start first vectors state nets starts others zero below = starts
first_steps c start first vectors state nets starts others (suc j) below = rw add-one (rw add-one at (others j (omega arith)))

first_spelt : (c : Circuit) (k : ℕ) (start first : Row) (n : ℕ) (state nets : ℕ → Row) → trace_line k (values_at first c.outputs) start ++ trace_lines c (k + 1) n state nets ≡ trace_lines c k (suc n) (after_first start state) (after_first first nets)
first_spelt c k start first n state nets =
    let line : ℕ → List ℕ = λ j. trace_line (k + j) (values_at (after_first first nets j) c.outputs) (after_first start state j) in
    let rest : trace_lines c (k + 1) n state nets ≡ flat_map line (range_with_len 1 n) =
    flat_map_agree (λ j. trace_line (k + 1 + j) (values_at (nets j) c.outputs) (state j)) (λ j. trace_line (k + suc j) (values_at (nets j) c.outputs) (state j)) (range_with_len 0 n) (λ j. ap (λ m. trace_line m (values_at (nets j) c.outputs) (state j)) (omega arith))
    ∙ sym (shift line 0 n) in
    ap (λ t. trace_line k (values_at first c.outputs) start ++ t) rest
    ∙ ap (λ m. trace_line m (values_at first c.outputs) start ++ flat_map line (range_with_len 1 n)) (sym (add-zero k))

pub trace_by_turns : (c : Circuit) (first : ℕ) (start : Row) (vectors : List Row) (lines : List ℕ) (last : Row) → AreLines c first start vectors lines last → IsTraceFrom c first start vectors lines last
trace_by_turns c k start [] lines last (none, is) = record {
  state = λ _. start;
  nets = λ _. [];
  run = record { starts = refl; settles = λ j below. absurd (omega arith); steps = λ j below. absurd (omega arith) };
  spelt = none;
  ends = is;
}
trace_by_turns c k start (vector ∷ vectors) lines last (first, rest, settled, is_rest, spelt) =
    let parts : IsTraceFrom c (k + 1) (values_at first (data_nets c)) vectors rest last = trace_by_turns c (k + 1) (values_at first (data_nets c)) vectors rest last is_rest in
    record {
      state = after_first start parts.state;
      nets = after_first first parts.nets;
      run = record {
        starts = refl;
        settles = first_settles c start first vector vectors parts.state parts.nets settled parts.run.settles;
        steps = first_steps c start first vectors parts.state parts.nets parts.run.starts parts.run.steps;
      };
      spelt = spelt ∙ (ap (λ t. trace_line k (values_at first c.outputs) start ++ t) parts.spelt ∙ first_spelt c k start first (length vectors) parts.state parts.nets);
      ends = parts.ends;
    }

pub some_run : (c : Circuit) → IsInRange c → IsAccepted c → (start : Row) (vectors : List Row) → length start ≡ length c.registers → All (λ vector. length vector ≡ length (columns c)) vectors → (state nets : ℕ → Row) × IsRun c start vectors state nets
some_run c range accepted start [] long wide = (λ _. start, λ _. [], record { starts = refl; settles = λ j below. absurd (omega arith); steps = λ j below. absurd (omega arith) })
some_run c range accepted start (vector ∷ vectors) long wide =
    let (first, settled) = some_valuation c range accepted start vector long (All-head (λ (vector : Row). length vector ≡ length (columns c)) vector vectors wide) in
    let next_long : length (values_at first (data_nets c)) ≡ length c.registers = length-map (data_nets c) (value_at first) ∙ length-map c.registers (λ (r : Register). r.data_net) in
    let (state, nets, run) = some_run c range accepted (values_at first (data_nets c)) vectors next_long (All-tail (λ (vector : Row). length vector ≡ length (columns c)) vector vectors wide) in (
      after_first start state,
      after_first first nets,
      record {
        starts = refl;
        settles = first_settles c start first vector vectors state nets settled run.settles;
        steps = first_steps c start first vectors state nets run.starts run.steps;
      },
    )

-- a run's lines, turn by turn
turns_from : (c : Circuit) (first : ℕ) (vectors : List Row) (state nets : ℕ → Row) → ((k : ℕ) → k < length vectors → IsValuation c (state k) (row_at vectors k) (nets k)) → ((k : ℕ) → k < length vectors → state (k + 1) ≡ values_at (nets k) (data_nets c))
    → AreLines c first (state 0) vectors (trace_lines c first (length vectors) state nets) (state (length vectors))
turns_from c first [] state nets settles steps = (refl, refl)
turns_from c first (vector ∷ vectors) state nets settles steps =
    let n : ℕ = length vectors in
    let line : ℕ → List ℕ = λ j. trace_line (first + j) (values_at (nets j) c.outputs) (state j) in
    let after : AreLines c (first + 1) (state 1) vectors (trace_lines c (first + 1) n (λ j. state (suc j)) (λ j. nets (suc j))) (state (suc n)) =
    turns_from c (first + 1) vectors (λ j. state (suc j)) (λ j. nets (suc j)) (λ k below. settles (suc k) (omega arith)) (λ k below. ap state (let e : suc (k + 1) ≡ suc k + 1 = omega arith in e) ∙ steps (suc k) (omega arith)) in
    let step : state 1 ≡ values_at (nets 0) (data_nets c) = steps 0 (omega arith) in
    let rest : flat_map line (range_with_len 1 n) ≡ trace_lines c (first + 1) n (λ j. state (suc j)) (λ j. nets (suc j)) =
    shift line 0 n ∙ flat_map_agree (λ j. line (suc j)) (λ j. trace_line (first + 1 + j) (values_at (nets (suc j)) c.outputs) (state (suc j))) (range_with_len 0 n) (λ j. ap (λ m. trace_line m (values_at (nets (suc j)) c.outputs) (state (suc j))) (omega arith)) in (
      nets 0,
      trace_lines c (first + 1) n (λ j. state (suc j)) (λ j. nets (suc j)),
      settles 0 (omega arith),
      subst (λ (row : Row). AreLines c (first + 1) row vectors (trace_lines c (first + 1) n (λ j. state (suc j)) (λ j. nets (suc j))) (state (suc n))) step after,
      ap (λ (t : List ℕ). line 0 ++ t) rest ∙ ap (λ (m : ℕ). trace_line m (values_at (nets 0) c.outputs) (state 0) ++ trace_lines c (first + 1) n (λ j. state (suc j)) (λ j. nets (suc j))) (add-zero first),
    )

pub turns_by_trace : (c : Circuit) (first : ℕ) (start : Row) (vectors : List Row) (lines : List ℕ) (last : Row) → IsTraceFrom c first start vectors lines last → AreLines c first start vectors lines last
turns_by_trace c first start vectors lines last is =
    subst (λ (row : Row). AreLines c first row vectors lines last) is.run.starts
    (subst (λ (text : List ℕ). AreLines c first (is.state 0) vectors text last) (sym is.spelt)
    (subst (λ (row : Row). AreLines c first (is.state 0) vectors (trace_lines c first (length vectors) is.state is.nets) row) (sym is.ends)
    (turns_from c first vectors is.state is.nets is.run.settles is.run.steps)))

pub trace_and_turns : (c : Circuit) (first : ℕ) (start : Row) (vectors : List Row) (lines : List ℕ) (last : Row) → (AreLines c first start vectors lines last → IsTraceFrom c first start vectors lines last) × (IsTraceFrom c first start vectors lines last → AreLines c first start vectors lines last)
trace_and_turns c first start vectors lines last = (trace_by_turns c first start vectors lines last, turns_by_trace c first start vectors lines last)
