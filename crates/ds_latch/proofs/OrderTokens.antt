-- Orders between the events of nodes, and the numbers of nodes.
use Rattle.std.proofs.Common.{◌≡◌, ◌≢◌, ℕ, suc, ◌+◌, ◌*◌, ◌/◌, ◌%◌, ◌<◌, ◌≤◌, refl, arith, ap, ◌⊎◌, inl, inr}
use Rattle.std.specs.Prelude.{All}
use Rattle.std.proofs.lemmas.Bool.{cases_eq, cases_lt}
use Rattle.std.proofs.Math.Nat.{div-add-mod, mul-le-mul_left, mul-suc}
use Rattle.ds_marked.specs.Graph.{Graph, Agrees, IsEnabled, counted}
use Rattle.ds_latch.specs.Node.{Split, IsNode, number_of, nodes, place_of}
use Rattle.ds_latch.specs.declared.node.Node.{Node}
use Rattle.ds_latch.specs.declared.node.Node.TheVariants.{In, Out, Master, Slave}
use Rattle.ds_latch.specs.Order.{IsDataEdge, to_master, to_out, to_slave, IsRequired, opens_first, closes_before_next, after_producer, before_reuse, open_tokens, close_tokens}
use Rattle.ds_latch.specs.Plan.{IsPlan, IsController}
use Rattle.ds_latch.specs.Firing.{changed, opening_read}
use Rattle.ds_base.proofs.Tests.{test_same, test_other}
use Rattle.ds_marked.proofs.CountLemmas.{counted-same, counted-other, agrees_kept, walk_holds}

pub accepted_controls : (s : Split) (g : Graph) → IsPlan s g → IsController s g
accepted_controls s g plan = record {
  split = plan.split;
  live = plan.live;
  meets = λ count agrees u v tokens required.
      let (sum, walk, few) = plan.orders u v tokens required in
      let holds : count v ≤ count u + sum = walk_holds g count agrees u v sum walk in
      omega arith;
}

pub edge_differs : (s : Split) (p c : Node) → IsDataEdge s p c → number_of p ≢ number_of c
edge_differs s In _ (to_master source is_p inside supplies) e = absurd (omega arith)
edge_differs s Out _ (to_master source is_p inside supplies) e = absurd source
edge_differs s (Master d) _ (to_master source is_p inside supplies) e = absurd source
edge_differs s (Slave d) _ (to_master source is_p inside supplies) e = absurd (omega arith)
edge_differs s In _ (to_out source is_p supplies) e = absurd (omega arith)
edge_differs s Out _ (to_out source is_p supplies) e = absurd source
edge_differs s (Master d) _ (to_out source is_p supplies) e = absurd source
edge_differs s (Slave d) _ (to_out source is_p supplies) e = absurd (omega arith)
edge_differs s _ _ (to_slave inside) e = absurd (omega arith)

pub required_differs : (s : Split) (u v tokens : ℕ) → IsRequired s u v tokens → u ≢ v
required_differs s _ _ _ (opens_first n is_node) e = absurd (omega arith)
required_differs s _ _ _ (closes_before_next n is_node) e = absurd (omega arith)
required_differs s _ _ _ (after_producer p c edge) e = edge_differs s p c edge (omega arith)
required_differs s _ _ _ (before_reuse p c edge) e = absurd (omega arith)

-- a required order leaves a token for an event that is enabled
pub order_ready : (s : Split) (g : Graph) → IsController s g → (count : ℕ → ℕ) → All (Agrees count) g.arcs → (limit v : ℕ) → IsEnabled g limit count v → (u tokens : ℕ) → IsRequired s u v tokens → count v + 1 ≤ count u + tokens
order_ready s g controller count agrees limit v enabled u tokens required =
    let after : counted v count v ≤ counted v count u + tokens = controller.meets (counted v count) (agrees_kept g limit count v enabled agrees) u v tokens required in
    let target : counted v count v ≡ count v + 1 = counted-same v v count refl in
    let source : counted v count u ≡ count u = counted-other v u count (required_differs s u v tokens required) in
    omega arith

-- the tokens of an edge's two orders are one more than the slack
pub edge_tokens : (s : Split) (p : Node) → open_tokens p + close_tokens s p ≡ s.slack + 1
edge_tokens s In = omega arith
edge_tokens s Out = omega arith
edge_tokens s (Master i) = omega arith
edge_tokens s (Slave i) = omega arith

-- a consumer reads the opening that it had to wait for
pub read_tokens : (p : Node) (opened : ℕ) → opening_read p opened + open_tokens p ≡ opened + 1
read_tokens In opened = omega arith
read_tokens Out opened = omega arith
read_tokens (Master i) opened = omega arith
read_tokens (Slave i) opened = omega arith

pub number_below : (s : Split) (n : Node) → IsNode s n → number_of n < nodes s
number_below s In is_node = omega arith
number_below s Out is_node = omega arith
number_below s (Master i) is_node = omega arith
number_below s (Slave i) is_node = omega arith

-- places of openings that are no further apart than the slack differ
pub places_differ : (s : Split) (k later : ℕ) → k < later → later ≤ k + s.slack → place_of s later ≢ place_of s k
places_differ s k later above near e =
    let n : ℕ = s.slack + 1 in
    let low : n * (k / n) + k % n ≡ k = div-add-mod k n in
    let high : n * (later / n) + later % n ≡ later = div-add-mod later n in
    let same : later % n ≡ k % n = e in
    elim (cases_lt (k / n) (later / n)) [
      | inl rises ↦
          (let step : n * suc (k / n) ≤ n * (later / n) = mul-le-mul_left n (omega arith) in
          let more : n * suc (k / n) ≡ n * (k / n) + n = mul-suc n (k / n) in
          omega arith)
      | inr falls ↦ (let step : n * (later / n) ≤ n * (k / n) = mul-le-mul_left n (omega arith) in omega arith)
    ]

-- nodes have different numbers
pub same_node : (m n : Node) → number_of m ≡ number_of n → m ≡ n
same_node In In e = refl
same_node In Out e = absurd (omega arith)
same_node In (Master j) e = absurd (omega arith)
same_node In (Slave j) e = absurd (omega arith)
same_node Out In e = absurd (omega arith)
same_node Out Out e = refl
same_node Out (Master j) e = absurd (omega arith)
same_node Out (Slave j) e = absurd (omega arith)
same_node (Master i) In e = absurd (omega arith)
same_node (Master i) Out e = absurd (omega arith)
same_node (Master i) (Master j) e = ap Master (omega arith)
same_node (Master i) (Slave j) e = absurd (omega arith)
same_node (Slave i) In e = absurd (omega arith)
same_node (Slave i) Out e = absurd (omega arith)
same_node (Slave i) (Master j) e = absurd (omega arith)
same_node (Slave i) (Slave j) e = ap Slave (omega arith)

-- either the node that changes or another one
pub cases_changed : {X : Type 0} (n : Node) (x : X) (f : Node → X) (m : Node) → ((m ≡ n) × (changed n x f m ≡ x)) ⊎ ((number_of m ≢ number_of n) × (changed n x f m ≡ f m))
cases_changed n x f m =
    elim (cases_eq (number_of m) (number_of n)) [
      | inl e ↦ inl (same_node m n e, test_same (number_of m) (number_of n) x (f m) e)
      | inr ne ↦ inr (ne, test_other (number_of m) (number_of n) x (f m) ne)
    ]
