-- Where a graph has each event of the nodes, none of them stands twice: it has too few events for so many clusters.
use Rattle.std.proofs.Common.{◌≡◌, ◌≢◌, ◌∙◌, ℕ, zero, suc, ◌+◌, ◌*◌, ◌^◌, ◌<◌, ◌≤◌, List, [], ◌∷◌, ◌++◌, length, get_or, refl, ap, sym, subst, arith, add-one, All, AllPairs, Contains, length-append}
use Rattle.std.specs.Fmt.{decimal}
use Rattle.std.proofs.lemmas.Fmt.{decimal_injective}
use Rattle.std.proofs.lemmas.List.{get_or_append_left}
use Rattle.std.proofs.lemmas.List.Elements.{All-append, All-cons, All-nil}
use Rattle.ds_marked.specs.declared.marked.Event.{Event}
use Rattle.ds_marked.specs.declared.marked.Kind.TheVariants.{Rise, Fall}
use Rattle.ds_latch.specs.Node.{Split}
use Rattle.ds_latch.specs.declared.node.Node.{Node}
use Rattle.ds_latch.specs.declared.node.Node.TheVariants.{In, Out, Master, Slave}
use Rattle.ds_latch.specs.Plan.{node_events, node_name, split_events}
use Rattle.ds_control.specs.Orders.{cluster_events}
use Rattle.ds_control.proofs.TwoForEach.{flat_map_next, pairs_append}
use Rattle.ds_accept.proofs.SubsetLength.{no_more}

-- the events of the nodes of so many clusters
abbrev events_of_clusters : ℕ → List Event
events_of_clusters n = node_events In ++ node_events Out ++ cluster_events n

-- the events of the nodes of one cluster
abbrev events_of_cluster : ℕ → List Event
events_of_cluster n = node_events (Master n) ++ node_events (Slave n)

one_more : (n : ℕ) → events_of_clusters (suc n) ≡ events_of_clusters n ++ events_of_cluster n
one_more n = ap events_of_clusters (sym (add-one n)) ∙ ap (λ (xs : List Event). node_events In ++ node_events Out ++ xs) (flat_map_next events_of_cluster n)

two_all : {X : Type 0} (P : X → Type 0) (x y : X) → P x → P y → All P (x ∷ y ∷ [])
two_all P x y p q = All-cons P x (y ∷ []) p (All-cons P y [] q (All-nil P))

pair_once : (x y : Event) → x ≢ y → AllPairs (λ a b. a ≢ b) (x ∷ y ∷ [])
pair_once x y ne zero (suc zero) d below inside = ne
pair_once x y ne i j d below inside = absurd (let low : j < 2 = inside in omega (below, low, arith))

first_part : {X : Type 0} (P : X → Type 0) (xs ys : List X) → All P (xs ++ ys) → All P xs
first_part P xs ys all k d inside =
    let size : length (xs ++ ys) ≡ length xs + length ys = length-append xs ys in
    subst P (get_or_append_left xs ys d k inside) (all k d (omega (inside, size, arith)))

-- one event of each kind
node_once : (n : Node) → AllPairs (λ a b. a ≢ b) (node_events n)
node_once n = pair_once _ _ (λ e. let kinds : Rise ≡ Fall = ap (λ (x : Event). x.kind) e in absurd (cc))

-- an event with another name is none of a node's
other_name : (x : Event) (n : Node) → x.signal ≢ node_name n → All (λ e. x ≢ e) (node_events n)
other_name x n ne = two_all (λ e. x ≢ e) _ _ (λ e. ne (ap (λ (x : Event). x.signal) e)) (λ e. ne (ap (λ (x : Event). x.signal) e))

two_nodes : (m n : Node) → node_name m ≢ node_name n → AllPairs (λ a b. a ≢ b) (node_events m ++ node_events n)
two_nodes m n ne = pairs_append (λ a b. a ≢ b) (node_events m) (node_events n) (node_once m) (node_once n)
    (two_all (λ x. All (λ e. x ≢ e) (node_events n)) _ _ (other_name _ n ne) (other_name _ n ne))

-- texts that begin with different letters, and those that go on with different numbers
letters : (a b : ℕ) (xs ys : List ℕ) → a ≢ b → a ∷ xs ≢ b ∷ ys
letters a b xs ys ne e = ne (ap (λ (zs : List ℕ). get_or zs 0 0) e)

digits : (a m n : ℕ) → m < n → n < 2 ^ 64 → a ∷ decimal m ≢ a ∷ decimal n
digits a m n low few e = let rest : decimal m ≡ decimal n = cc in let same : m ≡ n = decimal_injective m n (omega (low, few, arith)) few rest in omega (low, same, arith)

-- an event has a name that no node of a cluster has behind so many
abbrev IsBefore : ℕ → Event → Type 0
IsBefore n x = (m : ℕ) → n ≤ m → m < 2 ^ 64 → (x.signal ≢ node_name (Master m)) × (x.signal ≢ node_name (Slave m))

-- the events of so many clusters are so many, and none stands twice
record AreOnce (n : ℕ) : Type 0 where
  size : length (events_of_clusters n) ≡ 4 * n + 4
  before : All (IsBefore n) (events_of_clusters n)
  once : AllPairs (λ a b. a ≢ b) (events_of_clusters n)

none_once : AreOnce 0
none_once = record {
  size = refl;
  before = All-append (IsBefore 0) (node_events In) (node_events Out) (two_all (IsBefore 0) _ _ input input) (two_all (IsBefore 0) _ _ output output);
  once = two_nodes In Out (letters 73 79 _ _ (λ e. omega (e, arith)));
}
  where
    input : (m : ℕ) → 0 ≤ m → m < 2 ^ 64 → (node_name In ≢ node_name (Master m)) × (node_name In ≢ node_name (Slave m))
    input m low few = (letters 73 77 _ (decimal m) (λ e. omega (e, arith)), letters 73 83 _ (decimal m) (λ e. omega (e, arith)))

    output : (m : ℕ) → 0 ≤ m → m < 2 ^ 64 → (node_name Out ≢ node_name (Master m)) × (node_name Out ≢ node_name (Slave m))
    output m low few = (letters 79 77 _ (decimal m) (λ e. omega (e, arith)), letters 79 83 _ (decimal m) (λ e. omega (e, arith)))

module _ (n : ℕ) (are : AreOnce n) (few : n < 2 ^ 64) where
  master : (m : ℕ) → suc n ≤ m → m < 2 ^ 64 → (node_name (Master n) ≢ node_name (Master m)) × (node_name (Master n) ≢ node_name (Slave m))
  master m low high = (digits 77 n m (omega (low, arith)) high, letters 77 83 (decimal n) (decimal m) (λ e. omega (e, arith)))

  slave : (m : ℕ) → suc n ≤ m → m < 2 ^ 64 → (node_name (Slave n) ≢ node_name (Master m)) × (node_name (Slave n) ≢ node_name (Slave m))
  slave m low high = (letters 83 77 (decimal n) (decimal m) (λ e. omega (e, arith)), digits 83 n m (omega (low, arith)) high)

  before_more : All (IsBefore (suc n)) (events_of_clusters n ++ events_of_cluster n)
  before_more = All-append (IsBefore (suc n)) (events_of_clusters n) (events_of_cluster n)
      (λ k d inside m low high. are.before k d inside m (omega (low, arith)) high)
      (All-append (IsBefore (suc n)) (node_events (Master n)) (node_events (Slave n)) (two_all (IsBefore (suc n)) _ _ master master) (two_all (IsBefore (suc n)) _ _ slave slave))

  once_more : AllPairs (λ a b. a ≢ b) (events_of_clusters n ++ events_of_cluster n)
  once_more = pairs_append (λ a b. a ≢ b) (events_of_clusters n) (events_of_cluster n) are.once
      (two_nodes (Master n) (Slave n) (letters 77 83 (decimal n) (decimal n) (λ e. omega (e, arith))))
      (λ k d inside.
      let x : Event = get_or (events_of_clusters n) k d in
      let names : (x.signal ≢ node_name (Master n)) × (x.signal ≢ node_name (Slave n)) = are.before k d inside n (omega arith) few in
      All-append (λ e. x ≢ e) (node_events (Master n)) (node_events (Slave n)) (other_name x (Master n) names.0) (other_name x (Slave n) names.1))

  more_once : AreOnce (suc n)
  more_once = record {
    size = (
        let size : length (events_of_clusters n) ≡ 4 * n + 4 = are.size in
        let both : length (events_of_clusters (suc n)) ≡ length (events_of_clusters n) + 4
        = ap (λ (xs : List Event). length xs) (one_more n) ∙ length-append (events_of_clusters n) (events_of_cluster n) in
        omega (size, both, arith));
    before = subst (All (IsBefore (suc n))) (sym (one_more n)) before_more;
    once = subst (AllPairs (λ a b. a ≢ b)) (sym (one_more n)) once_more;
  }

-- so few events that have those of the clusters are those of few clusters
counted : (events : List Event) → length events < 2 ^ 32 → (n : ℕ) → All (Contains events) (events_of_clusters n) → AreOnce n × (n < 2 ^ 30)
counted events few zero all = (none_once, omega arith)
counted events few (suc n) all =
    let (are, less) = counted events few n (first_part (Contains events) (events_of_clusters n) (events_of_cluster n) (subst (All (Contains events)) (one_more n) all)) in
    let more : AreOnce (suc n) = more_once n are (omega (less, arith)) in
    let size : length (events_of_clusters (suc n)) ≡ 4 * suc n + 4 = more.size in
    let most : length (events_of_clusters (suc n)) ≤ length events = no_more (events_of_clusters (suc n)) events more.once all in
    (more, omega (size, most, few, arith))

-- no event of the nodes stands twice, where few events have them all
pub nodes_once : (s : Split) (events : List Event) → length events < 2 ^ 32 → All (Contains events) (split_events s) → AllPairs (λ a b. a ≢ b) (split_events s)
nodes_once s events few all = let (are, less) = counted events few (length s.clusters) all in are.once
