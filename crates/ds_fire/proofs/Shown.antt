-- What is kept after a firing shows the state after it.
use Rattle.std.proofs.Common.{◌≡◌, ◌≢◌, ◌∙◌, ℕ, suc, ◌+◌, ◌*◌, ◌<◌, ◌≤◌, List, [], ◌∷◌, ◌++◌, length, get_or, refl, arith, ap, sym, subst, inl, inr, add-one}
use Rattle.std.specs.List.{flat_map}
use Rattle.std.proofs.Math.ListN.{set}
use Rattle.std.proofs.Math.Nat.{mul-le-mul_right, suc-mul}
use Rattle.std.proofs.lemmas.Bool.{cases_eq}
use Rattle.std.proofs.lemmas.List.{get_or-set_same, get_or-set_other, length-set, length-append, append-nil}
use Rattle.std.proofs.lemmas.List.Concat.{flat_map-append}
use Rattle.std.proofs.lemmas.Nat.{same_from_place}
use Rattle.ds_base.specs.Values.{Row}
use Rattle.ds_base.proofs.Tests.{test_same, test_other}
use Rattle.ds_marked.specs.Graph.{counted}
use Rattle.ds_marked.proofs.CountLemmas.{counted-same, counted-other}
use Rattle.ds_latch.specs.Node.{Split, IsNode, number_of, nodes, opening, closing, extra_event, place_of, nets_of}
use Rattle.ds_latch.specs.declared.node.Node.{Node}
use Rattle.ds_latch.specs.declared.node.Node.TheVariants.{In, Out, Master, Slave}
use Rattle.ds_latch.specs.Order.{IsDataEdge, to_master, to_out}
use Rattle.ds_latch.specs.Firing.{State, opened_state, closed_state, counted_state, changed, placed, Fires, opens, closes, counts_up, Takes, IsSettled, opening_read, read_rows}
use Rattle.ds_latch.proofs.OrderTokens.{number_below, same_node, cases_changed}
use Rattle.ds_latch.proofs.EventNodes.{IsEvent, is_opening, is_closing, is_extra}
use Rattle.ds_fire.specs.Snapshot.{Snapshot, Shows, split_of, count_of, row_index, rows_of, stored_values, width_of}
use Rattle.ds_fire.specs.Fired.{IsReady, IsFired, IsSnapshotSound}
use Rattle.ds_fire.specs.Turn.{IsOpened, state_with}
use Rattle.ds_fire.proofs.Settles.{place_low}

-- one count more, in a list and as a function
pub counts_shown : (counts : List ℕ) (v : ℕ) → v < length counts → (count : ℕ → ℕ) → ((u : ℕ) → count u ≡ get_or counts u 0) → (u : ℕ) → counted v count u ≡ get_or (set counts v (get_or counts v 0 + 1)) u 0
counts_shown counts v inside count same u =
    elim (cases_eq u v) [
      | inl e ↦
          counted-same v u count e
          ∙ (ap (λ (k : ℕ). k + 1) (ap count e ∙ same v)
          ∙ (sym (get_or-set_same counts v (get_or counts v 0 + 1) 0 inside)
          ∙ ap (λ (w : ℕ). get_or (set counts v (get_or counts v 0 + 1)) w 0) (sym e)))
      | inr ne ↦ counted-other v u count ne ∙ (same u ∙ sym (get_or-set_other counts v u (get_or counts v 0 + 1) 0 ne))
    ]

one_times : (k w : ℕ) → (k + 1) * w ≡ k * w + w
one_times k w = ap (λ (n : ℕ). n * w) (add-one k) ∙ suc-mul k w

-- rows of different nodes, or of different places, are kept at different places
index_same : (s : Split) (n m p q : ℕ) → p ≤ s.slack → q ≤ s.slack → row_index s n p ≡ row_index s m q → (n ≡ m) × (p ≡ q)
index_same s n m p q low few e = same_from_place n p m q (s.slack + 1) (omega arith) (omega arith) e

pub index_inside : (s : Split) (n p : ℕ) → n < nodes s → p ≤ s.slack → row_index s n p < nodes s * (s.slack + 1)
index_inside s n p below low =
    let step : suc n * (s.slack + 1) ≤ nodes s * (s.slack + 1) = mul-le-mul_right (s.slack + 1) (omega arith) in
    let more : suc n * (s.slack + 1) ≡ n * (s.slack + 1) + (s.slack + 1) = suc-mul n (s.slack + 1) in
    omega arith

-- what a firing leaves of rows and of what is stored
pub record Turned (s : Split) (vectors : List Row) (v count : ℕ) (rows rows' stored stored' : List Row) : Type 0 where
  pub opened : (n : Node) → IsNode s n → opening n ≡ v → IsOpened s vectors count n rows rows' × (stored' ≡ stored)
  pub closed : (n : Node) → IsNode s n → closing n ≡ v
      → (rows' ≡ rows) × (stored' ≡ set stored (number_of n) (get_or stored (number_of n) [] ++ rows_of s rows n (place_of s (count + 1))))
  pub passed : (e : ℕ) → extra_event s e ≡ v → (rows' ≡ rows) × (stored' ≡ stored)

-- what is kept with one count more, and with these rows and this stored
abbrev pub kept_next : Snapshot → ℕ → List Row → List Row → Snapshot
kept_next old v rows stored = record {
  planned = old.planned;
  vectors = old.vectors;
  counts = set old.counts v (get_or old.counts v 0 + 1);
  rows = rows;
  stored = stored;
}

slave_there : (s : Split) (i : ℕ) (n : Node) → IsDataEdge s (Slave i) n → i < length s.clusters
slave_there s i _ (to_master source is_p inside supplies) = is_p
slave_there s i _ (to_out source is_p supplies) = is_p

-- what settles for what is read settles for the same read from elsewhere
settled_moved : (s : Split) (n : Node) (shown shown' : Node → Row) → ((p : Node) → IsNode s p → shown p ≡ shown' p) → (row : Row) → IsSettled s shown n row → IsSettled s shown' n row
settled_moved s n shown shown' same row is = record {
  state = is.state;
  vector = is.vector;
  nets = is.nets;
  valuation = is.valuation;
  slaves = λ i edge. is.slaves i edge ∙ same (Slave i) (slave_there s i n edge);
  columns = λ edge. is.columns edge ∙ same In tt;
  row_is = is.row_is;
}

takes_moved : (s : Split) (vectors : List Row) (one other : State) (opened : ℕ) → ((p : Node) → IsNode s p → read_rows s one opened p ≡ read_rows s other opened p) → (n : Node) → IsNode s n → (row : Row) → Takes s vectors one opened n row → Takes s vectors other opened n row
takes_moved s vectors one other opened same In is_node row takes = takes
takes_moved s vectors one other opened same Out is_node row takes = settled_moved s Out (read_rows s one opened) (read_rows s other opened) same row takes
takes_moved s vectors one other opened same (Master i) is_node row takes = settled_moved s (Master i) (read_rows s one opened) (read_rows s other opened) same row takes
takes_moved s vectors one other opened same (Slave i) is_node row takes = takes ∙ same (Master i) is_node

module _ (old : Snapshot) (sound : IsSnapshotSound old) where
  abbrev S : Split
  S = split_of old

  abbrev C : ℕ → ℕ
  C = count_of old

  -- an opening
  module _ (n : Node) (is_node : IsNode S n) (inside : opening n < length old.counts) (rows : List Row) (is : IsOpened S old.vectors (C (opening n)) n old.rows rows) where
    abbrev P : ℕ
    P = place_of S (C (opening n) + 1)

    abbrev at : ℕ
    at = row_index S (number_of n) P

    at_inside : row_index S (number_of n) (place_of S (C (opening n) + 1)) < length old.rows
    at_inside =
        let below : row_index S (number_of n) P < nodes S * (S.slack + 1) = index_inside S (number_of n) P (number_below S n is_node) (place_low S (C (opening n) + 1)) in
        let long : length old.rows ≡ nodes S * (S.slack + 1) = sound.rows in
        omega arith

    row_here : (place : ℕ) → place ≤ S.slack → place ≡ P → rows_of S rows n place ≡ is.row
    row_here place low e =
        ap (λ (rs : List Row). rows_of S rs n place) is.puts
        ∙ (ap (λ (p : ℕ). rows_of S (set old.rows at is.row) n p) e ∙ get_or-set_same old.rows at is.row [] at_inside)

    row_elsewhere : (m : Node) (place : ℕ) → row_index S (number_of m) place ≢ at → rows_of S rows m place ≡ rows_of S old.rows m place
    row_elsewhere m place ne =
        ap (λ (rs : List Row). rows_of S rs m place) is.puts ∙ get_or-set_other old.rows at (row_index S (number_of m) place) is.row [] ne

    module _ (now : State) (shows : Shows old now) where
      place_is : place_of S (now.count (opening n) + 1) ≡ P
      place_is = ap (λ (k : ℕ). place_of S (k + 1)) (shows.counts (opening n))

      here : (place : ℕ) → place ≤ S.slack → placed (place_of S (now.count (opening n) + 1)) is.row (now.rows n) place ≡ rows_of S rows n place
      here place low =
          elim (cases_eq place P) [
            | inl e ↦ test_same place (place_of S (now.count (opening n) + 1)) is.row (now.rows n place) (e ∙ sym place_is) ∙ sym (row_here place low e)
            | inr ne ↦
                test_other place (place_of S (now.count (opening n) + 1)) is.row (now.rows n place) (λ e. ne (e ∙ place_is))
                ∙ (shows.rows n is_node place low
                ∙ sym (row_elsewhere n place (λ e. ne (index_same S (number_of n) (number_of n) place P low (place_low S (C (opening n) + 1)) e).1)))
          ]

      rows_shown : (m : Node) → IsNode S m → (place : ℕ) → place ≤ S.slack → changed n (placed (place_of S (now.count (opening n) + 1)) is.row (now.rows n)) now.rows m place ≡ rows_of S rows m place
      rows_shown m is_m place low =
          elim (cases_changed n (placed (place_of S (now.count (opening n) + 1)) is.row (now.rows n)) now.rows m) [
            | inl (e, same) ↦ ap (λ (f : ℕ → Row). f place) same ∙ (here place low ∙ ap (λ (x : Node). rows_of S rows x place) (sym e))
            | inr (ne, same) ↦
                ap (λ (f : ℕ → Row). f place) same
                ∙ (shows.rows m is_m place low
                ∙ sym (row_elsewhere m place (λ e. ne (index_same S (number_of m) (number_of n) place P low (place_low S (C (opening n) + 1)) e).0)))
          ]

      takes : Takes S old.vectors now (now.count (opening n)) n is.row
      takes =
          subst (λ (k : ℕ). Takes S old.vectors now k n is.row) (sym (shows.counts (opening n)))
          (takes_moved S old.vectors (state_with S old.rows) now (C (opening n))
          (λ p is_p. sym (shows.rows p is_p (place_of S (opening_read p (C (opening n)))) (place_low S (opening_read p (C (opening n))))))
          n is_node is.row is.takes)

      pub opening_fires : (next : State) × Fires S old.vectors now (opening n) next × Shows (kept_next old (opening n) rows old.stored) next
      opening_fires = (
        opened_state S now n is.row,
        opens n is.row is_node takes,
        record {
          counts = counts_shown old.counts (opening n) inside now.count shows.counts;
          rows = rows_shown;
          stored = shows.stored;
          many = λ m is_m. shows.many m is_m ∙ sym (get_or-set_other old.counts (opening n) (closing m) (C (opening n) + 1) 0 (λ e. absurd (omega arith)));
        },
      )

    width_kept : (m : Node) → IsNode S m → (place : ℕ) → place ≤ S.slack → length (rows_of S rows m place) ≡ length (nets_of S m)
    width_kept m is_m place low =
        elim (cases_eq (row_index S (number_of m) place) at) [
          | inl e ↦
              (let (same, at_place) = index_same S (number_of m) (number_of n) place P low (place_low S (C (opening n) + 1)) e in
              let node : m ≡ n = same_node m n same in
              subst (λ (x : Node). length (rows_of S rows x place) ≡ length (nets_of S x)) (sym node) (ap length (row_here place low at_place) ∙ is.width))
          | inr ne ↦ ap length (row_elsewhere m place ne) ∙ sound.widths m is_m place low
        ]

    pub opening_sound : IsSnapshotSound (kept_next old (opening n) rows old.stored)
    opening_sound = record {
      in_range = sound.in_range;
      plan = sound.plan;
      vectors = sound.vectors;
      few = sound.few;
      counts = length-set old.counts (opening n) (C (opening n) + 1) ∙ sound.counts;
      rows = ap length is.puts ∙ (length-set old.rows at is.row ∙ sound.rows);
      widths = width_kept;
      stored = sound.stored;
      lengths = λ m is_m.
          sound.lengths m is_m
          ∙ ap (λ (k : ℕ). k * width_of old m) (sym (get_or-set_other old.counts (opening n) (closing m) (C (opening n) + 1) 0 (λ e. absurd (omega arith))));
    }

  -- a closing
  module _ (n : Node) (is_node : IsNode S n) (inside : closing n < length old.counts) where
    abbrev more : Row
    more = stored_values old n ++ rows_of S old.rows n (place_of S (C (closing n) + 1))

    abbrev stored : List Row
    stored = set old.stored (number_of n) more

    number_inside : number_of n < length old.stored
    number_inside = (let below : number_of n < nodes S = number_below S n is_node in let long : length old.stored ≡ nodes S = sound.stored in omega arith)

    stored_here : get_or stored (number_of n) [] ≡ more
    stored_here = get_or-set_same old.stored (number_of n) more [] number_inside

    stored_elsewhere : (m : Node) → number_of m ≢ number_of n → get_or stored (number_of m) [] ≡ stored_values old m
    stored_elsewhere m ne = get_or-set_other old.stored (number_of n) (number_of m) more [] ne

    module _ (now : State) (shows : Shows old now) where
      one_more : flat_map (λ row. row) (now.stored n ++ now.rows n (place_of S (now.count (closing n) + 1)) ∷ []) ≡ more
      one_more =
          let row_is : now.rows n (place_of S (now.count (closing n) + 1)) ≡ rows_of S old.rows n (place_of S (C (closing n) + 1)) =
          ap (λ (k : ℕ). now.rows n (place_of S (k + 1))) (shows.counts (closing n)) ∙ shows.rows n is_node (place_of S (C (closing n) + 1)) (place_low S (C (closing n) + 1)) in
          flat_map-append (λ row. row) (now.stored n) (now.rows n (place_of S (now.count (closing n) + 1)) ∷ [])
          ∙ (ap (λ (xs : Row). flat_map (λ row. row) (now.stored n) ++ xs) (append-nil (now.rows n (place_of S (now.count (closing n) + 1))))
          ∙ (ap (λ (xs : Row). xs ++ now.rows n (place_of S (now.count (closing n) + 1))) (shows.stored n is_node)
          ∙ ap (λ (xs : Row). stored_values old n ++ xs) row_is))

      stored_shown : (m : Node) → IsNode S m → flat_map (λ row. row) (changed n (now.stored n ++ now.rows n (place_of S (now.count (closing n) + 1)) ∷ []) now.stored m) ≡ get_or stored (number_of m) []
      stored_shown m is_m =
          elim (cases_changed n (now.stored n ++ now.rows n (place_of S (now.count (closing n) + 1)) ∷ []) now.stored m) [
            | inl (e, same) ↦
                ap (λ (rows : List Row). flat_map (λ row. row) rows) same
                ∙ (one_more ∙ (sym stored_here ∙ ap (λ (x : Node). get_or stored (number_of x) []) (sym e)))
            | inr (ne, same) ↦ ap (λ (rows : List Row). flat_map (λ row. row) rows) same ∙ (shows.stored m is_m ∙ sym (stored_elsewhere m ne))
          ]

      many_shown : (m : Node) → IsNode S m → length (changed n (now.stored n ++ now.rows n (place_of S (now.count (closing n) + 1)) ∷ []) now.stored m) ≡ get_or (set old.counts (closing n) (C (closing n) + 1)) (closing m) 0
      many_shown m is_m =
          elim (cases_changed n (now.stored n ++ now.rows n (place_of S (now.count (closing n) + 1)) ∷ []) now.stored m) [
            | inl (e, same) ↦
                (let before : length (now.stored n) ≡ C (closing n) = shows.many n is_node in
                let count : get_or (set old.counts (closing n) (C (closing n) + 1)) (closing n) 0 ≡ C (closing n) + 1 = get_or-set_same old.counts (closing n) (C (closing n) + 1) 0 inside in
                ap length same
                ∙ (length-append (now.stored n) (now.rows n (place_of S (now.count (closing n) + 1)) ∷ [])
                ∙ (ap (λ (k : ℕ). k + 1) before
                ∙ (sym count ∙ ap (λ (x : Node). get_or (set old.counts (closing n) (C (closing n) + 1)) (closing x) 0) (sym e)))))
            | inr (ne, same) ↦
                ap length same
                ∙ (shows.many m is_m ∙ sym (get_or-set_other old.counts (closing n) (closing m) (C (closing n) + 1) 0 (λ e. ne (omega arith))))
          ]

      pub closing_fires : (next : State) × Fires S old.vectors now (closing n) next × Shows (kept_next old (closing n) old.rows stored) next
      closing_fires = (
        closed_state S now n,
        closes n is_node,
        record {
          counts = counts_shown old.counts (closing n) inside now.count shows.counts;
          rows = shows.rows;
          stored = stored_shown;
          many = many_shown;
        },
      )

    lengths_kept : (m : Node) → IsNode S m → length (get_or stored (number_of m) []) ≡ get_or (set old.counts (closing n) (C (closing n) + 1)) (closing m) 0 * width_of old m
    lengths_kept m is_m =
        elim (cases_eq (number_of m) (number_of n)) [
          | inl e ↦
              (let same : m ≡ n = same_node m n e in
              let count : get_or (set old.counts (closing n) (C (closing n) + 1)) (closing n) 0 ≡ C (closing n) + 1 = get_or-set_same old.counts (closing n) (C (closing n) + 1) 0 inside in
              let long : length (stored_values old n) ≡ C (closing n) * width_of old n = sound.lengths n is_node in
              let row : length (rows_of S old.rows n (place_of S (C (closing n) + 1))) ≡ width_of old n = sound.widths n is_node (place_of S (C (closing n) + 1)) (place_low S (C (closing n) + 1)) in
              let step : (C (closing n) + 1) * width_of old n ≡ C (closing n) * width_of old n + width_of old n = one_times (C (closing n)) (width_of old n) in
              let all : length (get_or stored (number_of n) []) ≡ (C (closing n) + 1) * width_of old n =
              ap length stored_here ∙ (length-append (stored_values old n) (rows_of S old.rows n (place_of S (C (closing n) + 1))) ∙ (let sum : length (stored_values old n) + length (rows_of S old.rows n (place_of S (C (closing n) + 1))) ≡ (C (closing n) + 1) * width_of old n = omega arith in sum)) in
              subst (λ (x : Node). length (get_or stored (number_of x) []) ≡ get_or (set old.counts (closing n) (C (closing n) + 1)) (closing x) 0 * width_of old x) (sym same)
              (all ∙ ap (λ (k : ℕ). k * width_of old n) (sym count)))
          | inr ne ↦
              ap length (stored_elsewhere m ne)
              ∙ (sound.lengths m is_m ∙ ap (λ (k : ℕ). k * width_of old m) (sym (get_or-set_other old.counts (closing n) (closing m) (C (closing n) + 1) 0 (λ e. ne (omega arith)))))
        ]

    pub closing_sound : IsSnapshotSound (kept_next old (closing n) old.rows stored)
    closing_sound = record {
      in_range = sound.in_range;
      plan = sound.plan;
      vectors = sound.vectors;
      few = sound.few;
      counts = length-set old.counts (closing n) (C (closing n) + 1) ∙ sound.counts;
      rows = sound.rows;
      widths = sound.widths;
      stored = length-set old.stored (number_of n) more ∙ sound.stored;
      lengths = lengths_kept;
    }

  -- an extra event
  module _ (e : ℕ) (inside : extra_event S e < length old.counts) where
    pub passing_fires : (now : State) → Shows old now → (next : State) × Fires S old.vectors now (extra_event S e) next × Shows (kept_next old (extra_event S e) old.rows old.stored) next
    passing_fires now shows = (
      counted_state now (extra_event S e),
      counts_up e,
      record {
        counts = counts_shown old.counts (extra_event S e) inside now.count shows.counts;
        rows = shows.rows;
        stored = shows.stored;
        many = λ m is_m. shows.many m is_m ∙ sym (get_or-set_other old.counts (extra_event S e) (closing m) (C (extra_event S e) + 1) 0 (λ same. absurd (let below : number_of m < nodes S = number_below S m is_m in omega arith)));
      },
    )

    pub passing_sound : IsSnapshotSound (kept_next old (extra_event S e) old.rows old.stored)
    passing_sound = record {
      in_range = sound.in_range;
      plan = sound.plan;
      vectors = sound.vectors;
      few = sound.few;
      counts = length-set old.counts (extra_event S e) (C (extra_event S e) + 1) ∙ sound.counts;
      rows = sound.rows;
      widths = sound.widths;
      stored = sound.stored;
      lengths = λ m is_m.
          sound.lengths m is_m
          ∙ ap (λ (k : ℕ). k * width_of old m) (sym (get_or-set_other old.counts (extra_event S e) (closing m) (C (extra_event S e) + 1) 0 (λ same. absurd (let below : number_of m < nodes S = number_below S m is_m in omega arith))));
    }

-- what is kept after a turn is what the event leaves
pub fired : (old : Snapshot) → IsSnapshotSound old → (v : ℕ) → IsReady old v → (rows stored : List Row) → Turned (split_of old) old.vectors v (count_of old v) old.rows rows old.stored stored → IsEvent (split_of old) v → IsFired old v (kept_next old v rows stored) × IsSnapshotSound (kept_next old v rows stored)
fired old sound _ ready rows stored turned (is_opening n is_node) =
    let (is, same) = turned.opened n is_node refl in
    let inside : opening n < length old.counts = subst (λ (k : ℕ). opening n < k) (sym sound.counts) ready.event in
    subst (λ (st : List Row). IsFired old (opening n) (kept_next old (opening n) rows st) × IsSnapshotSound (kept_next old (opening n) rows st)) (sym same) (
      record { enabled = ready; planned = refl; vectors = refl; counts = refl; fires = opening_fires old sound n is_node inside rows is },
      opening_sound old sound n is_node inside rows is,
    )
fired old sound _ ready rows stored turned (is_closing n is_node) =
    let (rows_same, is) = turned.closed n is_node refl in
    let inside : closing n < length old.counts = subst (λ (k : ℕ). closing n < k) (sym sound.counts) ready.event in
    let more : List Row = set old.stored (number_of n) (get_or old.stored (number_of n) [] ++ rows_of (split_of old) old.rows n (place_of (split_of old) (count_of old (closing n) + 1))) in
    subst (λ (rs : List Row). IsFired old (closing n) (kept_next old (closing n) rs stored) × IsSnapshotSound (kept_next old (closing n) rs stored)) (sym rows_same)
    (subst (λ (st : List Row). IsFired old (closing n) (kept_next old (closing n) old.rows st) × IsSnapshotSound (kept_next old (closing n) old.rows st)) (sym is) (
      record { enabled = ready; planned = refl; vectors = refl; counts = refl; fires = closing_fires old sound n is_node inside },
      closing_sound old sound n is_node inside,
    ))
fired old sound _ ready rows stored turned (is_extra e) =
    let (rows_same, same) = turned.passed e refl in
    let inside : extra_event (split_of old) e < length old.counts = subst (λ (k : ℕ). extra_event (split_of old) e < k) (sym sound.counts) ready.event in
    subst (λ (rs : List Row). IsFired old (extra_event (split_of old) e) (kept_next old (extra_event (split_of old) e) rs stored) × IsSnapshotSound (kept_next old (extra_event (split_of old) e) rs stored)) (sym rows_same)
    (subst (λ (st : List Row). IsFired old (extra_event (split_of old) e) (kept_next old (extra_event (split_of old) e) old.rows st) × IsSnapshotSound (kept_next old (extra_event (split_of old) e) old.rows st)) (sym same) (
      record { enabled = ready; planned = refl; vectors = refl; counts = refl; fires = passing_fires old sound e inside },
      passing_sound old sound e inside,
    ))
