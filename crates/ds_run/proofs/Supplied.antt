-- The producers of a node and what it reads of them, edge by edge.
use Rattle.std.proofs.Common.{◌≡◌, ◌≢◌, ◌∙◌, ◌⊎◌, ℕ, zero, suc, ◌+◌, ◌-◌, ◌<◌, ◌≤◌, List, Bool, cond, eqb, [], ◌∷◌, ◌++◌, length, get_or, map, take, refl, arith, ap, sym, subst, true, false, inl, inr, append_assoc, eq-eqb, ne_eqb}
use Rattle.std.specs.Prelude.{All, AllPairs, Any, Contains}
use Rattle.std.specs.List.{filter}
use Rattle.std.proofs.lemmas.Bool.{cases_eq, eqb-true}
use Rattle.std.proofs.lemmas.List.{append-nil, get_or-map, length-map, take_all, take_more}
use Rattle.std.proofs.lemmas.List.Elements.{All-cons, All-head, All-nil, All-tail, filter_passes}
use Rattle.std.proofs.lemmas.List.Kept.{AllPairs-filter}
use Rattle.ds_latch.specs.Node.{Split, IsNode, number_of}
use Rattle.ds_latch.specs.declared.node.Node.{Node}
use Rattle.ds_latch.specs.Order.{IsDataEdge, open_tokens}
use Rattle.ds_latch.proofs.OrderTokens.{same_node}
use Rattle.ds_latch.proofs.OrdersRise.{edge_nodes}
use Rattle.ds_opening.specs.Packed.{packed}
use Rattle.ds_opening.specs.TurnOfOpenings.{AreProducers, Turn, read_of, woven}
use Rattle.ds_rule.specs.Run.{Run}
use Rattle.ds_rule.specs.Rows.{row, supply_but}
use Rattle.ds_rule.specs.Sound.{edge_at}
use Rattle.ds_rule.specs.declared.table_run.DataEdge.{DataEdge}
use Rattle.ds_run.specs.RunOfPlan.{AreDataEdges, Joins}

-- the producers of the node with a number
abbrev producers_in : List DataEdge → ℕ → List ℕ
producers_in edges l = map (λ e. e.producer) (filter (λ e. eqb e.consumer l) edges)

-- what a node reads along an edge
abbrev along : Run → (ℕ → Bool) → DataEdge → ℕ → ℕ → List ℕ
along run known e l k =
    cond (eqb e.consumer l)
    (cond (known e.producer) [] (e.producer ∷ row run e.producer (k - e.tokens))) []

-- what a node reads along some edges
abbrev supplied : Run → (ℕ → Bool) → List DataEdge → ℕ → ℕ → List ℕ
supplied run known [] l k = []
supplied run known (e ∷ es) l k = along run known e l k ++ supplied run known es l k

supplied-append : (run : Run) (known : ℕ → Bool) (xs ys : List DataEdge) (l k : ℕ)
    → supplied run known (xs ++ ys) l k ≡ supplied run known xs l k ++ supplied run known ys l k
supplied-append run known [] ys l k = refl
supplied-append run known (e ∷ es) ys l k =
    ap (λ (ws : List ℕ). along run known e l k ++ ws) (supplied-append run known es ys l k)
    ∙ sym (append_assoc (along run known e l k) (supplied run known es l k)
    (supplied run known ys l k))

-- the edges by number, as a list
supply-supplied : (run : Run) (known : ℕ → Bool) (l k n : ℕ) → n ≤ length run.edges
    → supply_but run known l k n ≡ supplied run known (take n run.edges) l k
supply-supplied run known l k zero most = refl
supply-supplied run known l k (suc n) most =
    let d : DataEdge = record { producer = 0; consumer = 0; tokens = 0 } in
    let e : DataEdge = edge_at run n in
    let up : n + 1 ≡ suc n = omega arith in
    let next : take n run.edges ++ e ∷ [] ≡ take (suc n) run.edges
    = sym (take_more run.edges n d (omega arith)) ∙ ap (λ (m : ℕ). take m run.edges) up in
    ap (λ (ws : List ℕ). ws ++ along run known e l k)
    (supply-supplied run known l k n (omega arith))
    ∙ (ap (λ (ws : List ℕ). supplied run known (take n run.edges) l k ++ ws)
    (sym (append-nil (along run known e l k)))
    ∙ (sym (supplied-append run known (take n run.edges) (e ∷ []) l k)
    ∙ ap (λ (es : List DataEdge). supplied run known es l k) next))

Any-split : {X : Type 0} (P : X → Type 0) (x : X) (xs : List X) → Any P (x ∷ xs) → P x ⊎ Any P xs
Any-split P x xs (zero, y, inside, is, p) = inl (subst P (sym is) p)
Any-split P x xs (suc k, y, inside, is, p) = inr (k, y, omega (inside, arith), is, p)

Contains-more : (p q : Node) (ps : List Node) → Contains ps q → Contains (p ∷ ps) q
Contains-more p q ps (k, low, is) = (suc k, omega (low, arith), is)

-- what a node reads in a turn of the producers whose rows are not learnt
module _ (s : Split) (run : Run) (known : ℕ → Bool) (t : Turn) (n : Node)
    (rows_are : (p : Node) → IsNode s p → IsDataEdge s p n
    → row run (number_of p) (suc t.opened - open_tokens p) ≡ packed (read_of s t p)) where
  abbrev IsEdge : DataEdge → Type 0
  IsEdge e = (p c : Node) × IsDataEdge s p c × Joins p c e

  abbrev words_along : List DataEdge → List ℕ
  words_along es = supplied run known es (number_of n) (suc t.opened)

  -- the producers among some edges
  record Reads (es : List DataEdge) : Type 0 where
    nodes : List Node
    are : producers_in es (number_of n) ≡ map number_of nodes
    each : All (λ p. IsNode s p × IsDataEdge s p n) nodes
    all : (p : Node) → IsDataEdge s p n → Any (Joins p n) es → Contains nodes p
    words : words_along es ≡ woven known (read_of s t) nodes

  abbrev leads : DataEdge → Bool
  leads e = eqb e.consumer (number_of n)

  -- the producers and the words, where the first edge leads to the node or does not
  abbrev picked : DataEdge → List DataEdge → Bool → List ℕ
  picked e es b =
      map (λ (x : DataEdge). x.producer) (cond b (e ∷ filter leads es) (filter leads es))

  abbrev words_if : DataEdge → List DataEdge → Bool → List ℕ
  words_if e es b =
      cond b (cond (known e.producer) []
      (e.producer ∷ row run e.producer (suc t.opened - e.tokens))) [] ++ words_along es

  one_more : (e : DataEdge) (es : List DataEdge) (p : Node) → IsDataEdge s p n → Joins p n e
      → Reads es → Reads (e ∷ es)
  one_more e es p edge joins rest =
      let is_p : IsNode s p = (edge_nodes s p n edge).0 in
      let there : leads e ≡ true = eq-eqb e.consumer (number_of n) joins.into in record {
        nodes = p ∷ rest.nodes;
        are = ap (picked e es) there
            ∙ (ap (λ (l : ℕ). l ∷ producers_in es (number_of n)) joins.from
            ∙ ap (λ (ls : List ℕ). number_of p ∷ ls) rest.are);
        each = All-cons (λ q. IsNode s q × IsDataEdge s q n) p rest.nodes (is_p, edge) rest.each;
        all = λ q other any. elim (Any-split (Joins q n) e es any) [
          | inl here ↦
              let some : 0 < length (p ∷ rest.nodes) = omega arith in
              (0, some, same_node p q (sym joins.from ∙ here.from))
          | inr later ↦ Contains-more p q rest.nodes (rest.all q other later)
        ];
        words = ap (words_if e es) there
            ∙ (ap (λ (l : ℕ). cond (known l) [] (l ∷ row run l (suc t.opened - e.tokens))
            ++ words_along es) joins.from
            ∙ (ap (λ (m : ℕ). cond (known (number_of p)) [] (number_of p ∷ row run (number_of p)
            (suc t.opened - m)) ++ words_along es) joins.tokens
            ∙ (ap (λ (ws : List ℕ). cond (known (number_of p)) [] (number_of p ∷ ws)
            ++ words_along es) (rows_are p is_p edge)
            ∙ ap (λ (ws : List ℕ). cond (known (number_of p)) []
            (number_of p ∷ packed (read_of s t p)) ++ ws) rest.words)));
      }

  past : (e : DataEdge) (es : List DataEdge) → e.consumer ≢ number_of n → Reads es → Reads (e ∷ es)
  past e es other rest =
      let away : leads e ≡ false = ne_eqb e.consumer (number_of n) other in record {
        nodes = rest.nodes;
        are = ap (picked e es) away ∙ rest.are;
        each = rest.each;
        all = λ q edge any. elim (Any-split (Joins q n) e es any) [
          | inl here ↦ absurd (other here.into)
          | inr later ↦ rest.all q edge later
        ];
        words = ap (words_if e es) away ∙ rest.words;
      }

  reads : (es : List DataEdge) → All IsEdge es → Reads es
  reads [] each = record {
    nodes = [];
    are = refl;
    each = All-nil (λ q. IsNode s q × IsDataEdge s q n);
    all = λ q edge any. absurd (let past_all : any.0 < 0 = any.2 in omega (past_all, arith));
    words = refl;
  }
  reads (e ∷ es) each =
      let (p, c, edge, joins) = All-head IsEdge e es each in
      let rest : Reads es = reads es (All-tail IsEdge e es each) in
      elim (cases_eq e.consumer (number_of n)) [
        | inl same ↦
            let is : c ≡ n = same_node c n (sym joins.into ∙ same) in
            one_more e es p (subst (λ (x : Node). IsDataEdge s p x) is edge)
            (subst (λ (x : Node). Joins p x e) is joins) rest
        | inr other ↦ past e es other rest
      ]

  -- no producer stands twice
  abbrev Differ : DataEdge → DataEdge → Type 0
  Differ a b = (a.producer ≢ b.producer) ⊎ (a.consumer ≢ b.consumer)

  apart : (es : List DataEdge) → AllPairs Differ es → (ps : List Node)
      → producers_in es (number_of n) ≡ map number_of ps → AllPairs (λ p q. p ≢ q) ps
  apart es once ps are i j d rising low same =
      let d' : DataEdge = record { producer = 0; consumer = 0; tokens = 0 } in
      let kept : List DataEdge = filter leads es in
      let size : length kept ≡ length ps = sym (length-map kept (λ (x : DataEdge). x.producer))
      ∙ (ap (λ (ls : List ℕ). length ls) are ∙ length-map ps number_of) in
      let low_j : j < length kept = omega (size, low, arith) in
      let low_i : i < length kept = omega (low_j, rising, arith) in
      let number : (m : ℕ) → m < length kept
      → (get_or kept m d').producer ≡ number_of (get_or ps m d)
      = λ m inside. sym (get_or-map (λ (x : DataEdge). x.producer) kept m d' 0 inside)
      ∙ (ap (λ (ls : List ℕ). get_or ls m 0) are
      ∙ get_or-map number_of ps m d 0 (omega (size, inside, arith))) in
      let into : (m : ℕ) → m < length kept → (get_or kept m d').consumer ≡ number_of n
      = λ m inside. eqb-true (get_or kept m d').consumer (number_of n)
      (filter_passes leads es m d' inside) in
      elim (AllPairs-filter Differ leads es once i j d' rising low_j) [
        | inl differ ↦ differ (number i low_i ∙ (ap number_of same ∙ sym (number j low_j)))
        | inr differ ↦ differ (into i low_i ∙ sym (into j low_j))
      ]

  module _ (edges_are : AreDataEdges s run.edges) where
    found : Reads run.edges
    found = reads run.edges edges_are.each

    -- the producers that are found
    pub producers : List Node
    producers = found.nodes

    -- these are those of the node
    pub producers_are : AreProducers s n producers
    unfolding producers
    producers_are =
        let r : Reads run.edges = found in
        record {
          each = r.each;
          all = λ p edge. r.all p edge (edges_are.all p n edge);
          once = apart run.edges edges_are.once r.nodes r.are;
        }

    -- the words that are read are those of their rows
    pub supply-woven : supply_but run known (number_of n) (suc t.opened) (length run.edges)
        ≡ woven known (read_of s t) producers
    unfolding producers
    supply-woven =
        let r : Reads run.edges = found in
        supply-supplied run known (number_of n) (suc t.opened) (length run.edges) (omega arith)
        ∙ (ap words_along (take_all (length run.edges) run.edges (omega arith)) ∙ r.words)
