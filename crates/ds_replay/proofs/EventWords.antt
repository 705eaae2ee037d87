-- Each event of the nodes is written as a word of its own.
use Rattle.std.proofs.Common.{◌≡◌, ◌≢◌, ℕ, zero, suc, ◌+◌, ◌≤◌, ◌^◌, ◌++◌, length, get_or, inl, inr, refl, arith, sym, subst}
use Rattle.std.specs.Prelude.{codes, decimal, All}
use Rattle.std.specs.List.{flat_map, range_with_len}
use Rattle.std.proofs.lemmas.Bool.{cases_lt}
use Rattle.std.proofs.lemmas.List.Elements.{All-append}
use Rattle.ds_marked.specs.Graph.{Graph, IsKept}
use Rattle.ds_marked.specs.declared.marked.Event.{Event}
use Rattle.ds_marked.specs.declared.marked.Kind.TheVariants.{Rise, Fall, Dummy}
use Rattle.ds_marked.specs.Log.{event_text}
use Rattle.ds_latch.specs.Node.{Split}
use Rattle.ds_latch.specs.declared.node.Node.{Node}
use Rattle.ds_latch.specs.declared.node.Node.TheVariants.{In, Out, Master, Slave}
use Rattle.ds_latch.specs.Plan.{node_events, node_name, split_events}
use Rattle.ds_lines.specs.Print.{is_apart, HasNo, IsWord}
use Rattle.ds_lines.proofs.ByteClasses.{number_without, without_both}
use Rattle.ds_replay.specs.Legal.{EndsInSign}
use Rattle.ds_replay.specs.Printed.{HasOwnWords}
use Rattle.ds_replay.proofs.LogLines.{own_texts}

-- what is asked of an event
abbrev pub IsSpelt : Event → Type 0
IsSpelt e = IsWord (event_text e) × (e.kind ≡ Dummy → ¬ EndsInSign e.signal)

pub rise_signed : Rise ≢ Dummy
rise_signed e = cc

pub fall_signed : Fall ≢ Dummy
fall_signed e = cc

-- both events of a node whose name is a word
both_spelt : (n : Node) → IsWord (node_name n) → All IsSpelt (node_events n)
both_spelt n word k d inside = elim (cases_lt k 1) [
  | inl first ↦
      (let at : k ≡ 0 = omega arith in
      subst (λ (j : ℕ). IsSpelt (get_or (node_events n) j d)) (sym at)
      (without_both is_apart (node_name n) (codes "+") word refl, λ dummy. absurd (rise_signed dummy)))
  | inr second ↦
      (let at : k ≡ 1 = omega arith in
      subst (λ (j : ℕ). IsSpelt (get_or (node_events n) j d)) (sym at)
      (without_both is_apart (node_name n) (codes "-") word refl, λ dummy. absurd (fall_signed dummy)))
]

clusters_spelt : (a n : ℕ) → a + n ≤ 2 ^ 64 → All IsSpelt (flat_map (λ i. node_events (Master i) ++ node_events (Slave i)) (range_with_len a n))
clusters_spelt a zero few = λ k d inside. absurd (omega arith)
clusters_spelt a (suc n) few =
    let number : HasNo is_apart (decimal a) = (number_without is_apart refl a (omega arith)).none in
    let master : All IsSpelt (node_events (Master a)) = both_spelt (Master a) (without_both is_apart (codes "M") (decimal a) (record { some = refl; none = refl }) number) in
    let slave : All IsSpelt (node_events (Slave a)) = both_spelt (Slave a) (without_both is_apart (codes "S") (decimal a) (record { some = refl; none = refl }) number) in
    All-append IsSpelt (node_events (Master a) ++ node_events (Slave a)) (flat_map (λ i. node_events (Master i) ++ node_events (Slave i)) (range_with_len (a + 1) n))
    (All-append IsSpelt (node_events (Master a)) (node_events (Slave a)) master slave) (clusters_spelt (a + 1) n (omega arith))

pub all_spelt : (s : Split) → length s.clusters ≤ 2 ^ 64 → All IsSpelt (split_events s)
all_spelt s few =
    All-append IsSpelt (node_events In ++ node_events Out) (flat_map (λ i. node_events (Master i) ++ node_events (Slave i)) (range_with_len 0 (length s.clusters)))
    (All-append IsSpelt (node_events In) (node_events Out) (both_spelt In (record { some = refl; none = refl })) (both_spelt Out (record { some = refl; none = refl })))
    (clusters_spelt 0 (length s.clusters) (omega arith))

-- events of which this is so, none of which is there twice, are written as words of their own
pub spelt_have_own_words : (g : Graph) → IsKept g → All IsSpelt g.events → HasOwnWords g
spelt_have_own_words g kept spelt = record { own = own_texts g kept.once (λ k d inside. (spelt k d inside).1); words = λ k d inside. (spelt k d inside).0 }

pub nodes_have_own_words : (s : Split) (g : Graph) → IsKept g → length s.clusters ≤ 2 ^ 64 → g.events ≡ split_events s → HasOwnWords g
nodes_have_own_words s g kept few events = spelt_have_own_words g kept (subst (All IsSpelt) (sym events) (all_spelt s few))
