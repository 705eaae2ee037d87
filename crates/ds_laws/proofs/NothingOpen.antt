-- What a list leaves that has each event as often as it may: nothing is open.
use Rattle.std.proofs.Common.{◌≡◌, ◌∙◌, ℕ, zero, suc, ◌+◌, ◌*◌, ◌<◌, ◌≤◌, List, [], ◌∷◌, ◌++◌, length, inl, inr, refl, arith, ap, ap₂, sym}
use Rattle.std.specs.List.{flat_map, range_with_len}
use Rattle.std.proofs.lemmas.Bool.Decides.{eqb_tells}
use Rattle.std.proofs.lemmas.List.{length-append}
use Rattle.ds_base.specs.Values.{Row}
use Rattle.ds_marked.specs.Graph.{Graph, counts_after}
use Rattle.ds_latch.specs.Node.{Split, IsNode, number_of, opening, closing, nodes}
use Rattle.ds_latch.specs.declared.node.Node.{Node}
use Rattle.ds_latch.specs.declared.node.Node.TheVariants.{In, Out, Master, Slave}
use Rattle.ds_latch.specs.Plan.{IsPlan, split_events}
use Rattle.ds_latch.specs.Firing.{State, FiresAll}
use Rattle.ds_marked.specs.Progress.{HasFiredAll}
use Rattle.ds_latch.proofs.OrderTokens.{number_below}
use Rattle.ds_latch.proofs.Flow.{fires_count}
use Rattle.ds_latch.proofs.OrdersRise.{events_long}
use Rattle.ds_replay.specs.OpenLines.{open_line_of, open_lines, open_pair}

-- firings count as their list does
pub counts_are : (s : Split) (vectors : List Row) (old now : State) (events : List ℕ) → FiresAll s vectors old events now
    → now.count ≡ counts_after old.count events
counts_are s vectors old now [] same = ap (λ (t : State). t.count) same
counts_are s vectors old now (v ∷ events) (next, fires, rest) =
    counts_are s vectors next now events rest
    ∙ ap (λ (count : ℕ → ℕ). counts_after count events) (fires_count s vectors old v next fires)

module _ (s : Split) (g : Graph) (plan : IsPlan s g) (vectors : List Row) (events : List ℕ) (first now : State) (none : first.count ≡ (λ _. 0))
    (full : HasFiredAll g (length vectors) (counts_after (λ _. 0) events)) (fires : FiresAll s vectors first events now) where
  -- both events of a node have fired as often
  closed_as_often : (n : Node) → IsNode s n → now.count (opening n) ≡ now.count (closing n)
  closed_as_often n is_node =
      let long : length (split_events s) ≡ 2 * nodes s = events_long s in
      let all : length g.events ≡ length (split_events s) + length plan.extra = ap length plan.events ∙ length-append (split_events s) plan.extra in
      let below : number_of n < nodes s = number_below s n is_node in
      let counts : now.count ≡ counts_after (λ _. 0) events =
      counts_are s vectors first now events fires ∙ ap (λ (count : ℕ → ℕ). counts_after count events) none in
      let opens : counts_after (λ _. 0) events (opening n) ≡ length vectors = full (opening n) (omega (arith, long, all, below)) in
      let closes : counts_after (λ _. 0) events (closing n) ≡ length vectors = full (closing n) (omega (arith, long, all, below)) in
      ap (λ (count : ℕ → ℕ). count (opening n)) counts ∙ (opens ∙ (sym closes ∙ ap (λ (count : ℕ → ℕ). count (closing n)) (sym counts)))

  -- so no node is open
  pub none_open : (n : Node) → IsNode s n → ¬ (now.count (opening n) ≡ now.count (closing n) + 1)
  none_open n is_node opened = (let same : now.count (opening n) ≡ now.count (closing n) = closed_as_often n is_node in omega (arith, same, opened))

  module _ (shown : Node → Row) where
    no_line : (n : Node) → IsNode s n → open_line_of now.count shown n ≡ []
    no_line n is_node = elim (eqb_tells (now.count (opening n)) (now.count (closing n) + 1)) [
      | inl (is, e) ↦ absurd (none_open n is_node e)
      | inr (is, differ) ↦ rw is refl
    ]

    no_pairs : (a n : ℕ) → a + n ≤ length s.clusters → flat_map (open_pair now.count shown) (range_with_len a n) ≡ []
    no_pairs a zero within = refl
    no_pairs a (suc n) within =
        ap₂ (λ (xs ys : List ℕ). xs ++ ys)
        (ap₂ (λ (xs ys : List ℕ). xs ++ ys) (no_line (Master a) (omega (arith, within))) (no_line (Slave a) (omega (arith, within))))
        (no_pairs (a + 1) n (omega (arith, within)))

    -- and no line is written of one
    pub no_open_lines : open_lines now.count shown (length s.clusters) ≡ []
    no_open_lines =
        ap₂ (λ (xs ys : List ℕ). xs ++ ys) (ap₂ (λ (xs ys : List ℕ). xs ++ ys) (no_line In tt) (no_line Out tt))
        (no_pairs 0 (length s.clusters) (omega arith))
