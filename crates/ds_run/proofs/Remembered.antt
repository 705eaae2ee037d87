-- What a scratch remembers of a run.
use Rattle.std.proofs.Common.{◌≡◌, ◌∙◌, ℕ, ◌-◌, ◌<◌, ◌≤◌, List, [], length, get_or, map, Bool, true, refl, arith, ap, sym, subst}
use Rattle.std.specs.Prelude.{All}
use Rattle.std.specs.List.{range_with_len}
use Rattle.std.proofs.lemmas.List.FromFn.{get_or-map-range_with_len}
use Rattle.ds_base.specs.Values.{AreKnown, Row}
use Rattle.ds_cover.specs.Cover.{value_at}
use Rattle.ds_design.specs.Circuit.{columns}
use Rattle.ds_design.specs.Rows.{Rows}
use Rattle.ds_design.specs.Run.{IsRun}
use Rattle.ds_design.proofs.ClockedRuns.{one_run}
use Rattle.ds_opening.specs.Groups.{Grouping}
use Rattle.ds_latch.specs.Node.{Split}
use Rattle.ds_rule.specs.Run.{Run}
use Rattle.ds_base.specs.Scratch.{Kept, Remembers, value_in}
use Rattle.ds_opening.specs.Foreseen.{nets_in, state_before}
use Rattle.ds_opening.proofs.Foreseen.{foresees_run_lem}
use Rattle.ds_opening.specs.Learnt.{is_learnt}
use Rattle.ds_opening.specs.Noted.{IsNotedOpening}
use Rattle.ds_opening.specs.TurnOfOpenings.{IsOpeningOf}
use Rattle.ds_opening.specs.declared.opening.Opening.{Opening}
use Rattle.ds_run.specs.Openings.{AreOpenings, memory_of}
use Rattle.ds_run.proofs.ComputedOpenings.{Opens}

module _ {s : Split} {vectors : Rows} {run : Run} {groups : Grouping} {order : List ℕ}
    {starts : List Row} (w : AreOpenings s vectors run groups order starts) where
  wide : All (λ vector. length vector ≡ length (columns s.circuit)) vectors.rows
  wide k d inside = w.one_width k d inside ∙ w.width

  foreseen_run : IsRun s.circuit s.initial vectors.rows
      (state_before s.circuit order s.initial vectors.rows)
      (nets_in s.circuit order s.initial vectors.rows)
  foreseen_run = foresees_run_lem s.circuit order w.range w.split.accepted w.ordered s.initial
      vectors.rows w.split.one_value_each wide

  -- the nets of a turn are those of the run
  pub remembered : (turn : ℕ) → turn - 1 < length vectors.rows → (net : ℕ)
      → value_in (memory_of s groups order vectors.rows) turn net
      ≡ value_at (w.planned.values_are.nets (turn - 1)) net
  remembered turn below net =
      let k : ℕ = turn - 1 in
      let row : get_or (map (nets_in s.circuit order s.initial vectors.rows) (range_with_len 0 (length vectors.rows))) k []
      ≡ nets_in s.circuit order s.initial vectors.rows k =
      get_or-map-range_with_len (nets_in s.circuit order s.initial vectors.rows) 0 (length vectors.rows) k k [] below (omega arith) in
      let same : nets_in s.circuit order s.initial vectors.rows k ≡ w.planned.values_are.nets k =
      (one_run s.circuit w.split.accepted s.initial vectors.rows
      (state_before s.circuit order s.initial vectors.rows) (nets_in s.circuit order s.initial vectors.rows)
      w.planned.values_are.state w.planned.values_are.nets foreseen_run w.planned.values_are.clocked k).1 below in
      ap (λ (r : Row). value_at r net) (row ∙ same)

  -- the opening of a node in a scratch that remembers the run
  module _ {asked : Run} (asked_is : asked ≡ run) {turn : ℕ} (some : 0 < turn) (most : turn ≤ asked.limit)
      (kept : Kept) {number : ℕ} {from : List ℕ}
      (o : Opens w number (turn - 1) (is_learnt (length groups.groups) kept turn) from)
      (opening : Opening) (number_is : opening.number ≡ number) (turn_is : opening.turn ≡ turn)
      (from_is : opening.from.now ≡ from)
      (knows : opening.known ≡ true → AreKnown s.initial × All AreKnown vectors.rows)
      (remembers : Remembers (memory_of s groups order vectors.rows) kept) where
    below : turn - 1 < length vectors.rows
    below =
        let limit_is : asked.limit ≡ length vectors.rows
        = ap (λ (r : Run). r.limit) asked_is ∙ w.planned.limit_is in
        omega (some, most, limit_is, arith)

    -- the rows that are learnt for a turn
    abbrev learnt_in : ℕ → ℕ → Bool
    learnt_in k = is_learnt (length groups.groups) kept k

    opening_is : IsOpeningOf s vectors.rows opening.number (opening.turn - 1)
        (learnt_in opening.turn) opening.from.now o.node o.turn
    opening_is =
        subst (λ (m : ℕ). IsOpeningOf s vectors.rows m (opening.turn - 1) (learnt_in opening.turn)
        opening.from.now o.node o.turn) (sym number_is)
        (subst (λ (m : ℕ). IsOpeningOf s vectors.rows number (m - 1) (learnt_in m)
        opening.from.now o.node o.turn) (sym turn_is)
        (subst (λ (xs : List ℕ). IsOpeningOf s vectors.rows number (turn - 1) (learnt_in turn)
        xs o.node o.turn) (sym from_is) o.opens))

    nets_in_run : (k : ℕ) → o.turn.opened ≡ k → w.planned.values_are.nets k ≡ o.turn.nets o.turn.opened
    nets_in_run k is = sym (o.nets_are k) ∙ ap o.turn.nets (sym is)

    pub noted : IsNotedOpening s vectors.rows groups opening kept o.node o.turn (memory_of s groups order vectors.rows)
    noted = record {
      some = subst (λ (m : ℕ). 0 < m) (sym turn_is) some;
      opening = opening_is;
      memory = record {
        nets = refl;
        slots = refl;
        values = λ net.
            ap (λ (m : ℕ). value_in (memory_of s groups order vectors.rows) m net) turn_is
            ∙ (remembered turn below net ∙ ap (λ (r : Row). value_at r net) (nets_in_run (turn - 1) o.opened_is));
        before = λ later net.
            ap (λ (m : ℕ). value_in (memory_of s groups order vectors.rows) (m - 1) net) turn_is
            ∙ (remembered (turn - 1) (omega (below, arith)) net
            ∙ ap (λ (r : Row). value_at r net)
            (sym (o.nets_are (turn - 1 - 1)) ∙ ap (λ (k : ℕ). o.turn.nets (k - 1)) (sym o.opened_is)));
        remembers = remembers;
      };
      known = knows;
    }
