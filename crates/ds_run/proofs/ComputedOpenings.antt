-- What openings compute, in the terms of the run.
use Rattle.std.proofs.Common.{◌≡◌, ◌∙◌, ℕ, suc, ◌-◌, ◌<◌, ◌≤◌, List, length, Bool, refl, arith, ap, sym, subst}
use Rattle.ds_base.specs.Word.{count_of_words}
use Rattle.ds_base.specs.Values.{Row}
use Rattle.ds_latch.specs.Node.{Split, IsNode, number_of, nodes, nets_of}
use Rattle.ds_latch.specs.declared.node.Node.{Node}
use Rattle.ds_latch.specs.Order.{IsDataEdge, open_tokens}
use Rattle.ds_latch.proofs.EventNodes.{node_at}
use Rattle.ds_design.specs.Rows.{Rows}
use Rattle.ds_opening.specs.Groups.{Grouping}
use Rattle.ds_opening.specs.Packed.{packed}
use Rattle.ds_opening.specs.TurnOfOpenings.{IsOpeningOf, Turn, read_of, value_taken}
use Rattle.ds_rule.specs.Run.{Run}
use Rattle.ds_rule.specs.Rows.{row, supply_but}
use Rattle.ds_rule.specs.Words.{width}
use Rattle.ds_rule.proofs.PlaceLaws.{width-is}
use Rattle.ds_run.specs.Openings.{AreOpenings}
use Rattle.ds_run.proofs.Rows.{row-is}
use Rattle.ds_run.proofs.Supplied.{producers, producers_are, supply-woven}

module _ {s : Split} {vectors : Rows} {run : Run} {groups : Grouping} {order : List ℕ}
    {starts : List Row} (w : AreOpenings s vectors run groups order starts) where
  -- a turn of the clocked run
  abbrev turn_at : ℕ → Turn
  turn_at opened = record {
    vectors = vectors.rows;
    state = w.planned.values_are.state;
    nets = w.planned.values_are.nets;
    opened = opened;
  }

  -- a row of the node has as many words as the values of its nets fill
  pub room : (n : Node) → IsNode s n → width run (number_of n) ≡ count_of_words (length (nets_of s n))
  room n is_node =
      width-is run (number_of n) ∙ ap count_of_words (w.planned.lengths_are.of_node n is_node)

  rows_are : (n : Node) (opened : ℕ) → opened < length vectors.rows
      → (p : Node) → IsNode s p → IsDataEdge s p n
      → row run (number_of p) (suc opened - open_tokens p) ≡ packed (read_of s (turn_at opened) p)
  rows_are n opened low p is_p edge =
      row-is w.planned w.sound p is_p (suc opened - open_tokens p) (omega arith)

  -- the opening of a node, and what it gives
  pub record Opens (l opened : ℕ) (known : ℕ → Bool) (from : List ℕ) : Type 0 where
    pub node : Node
    pub turn : Turn
    pub opens : IsOpeningOf s vectors.rows l opened known from node turn
    pub gives : packed (value_taken s turn node) ≡ row run l (suc opened)
    pub nets_are : (j : ℕ) → turn.nets j ≡ w.planned.values_are.nets j
    pub opened_is : turn.opened ≡ opened

  opens_node : (n : Node) → IsNode s n → (opened : ℕ) → opened < length vectors.rows
      → (known : ℕ → Bool) (from : List ℕ)
      → from ≡ supply_but run known (number_of n) (suc opened) (length run.edges)
      → Opens (number_of n) opened known from
  opens_node n is_node opened low known from from_is =
      let t : Turn = turn_at opened in
      let edges = w.planned.edges_are in
      let rows = rows_are n opened low in
      record {
        node = n;
        turn = t;
        opens = record {
          node = is_node;
          is = refl;
          fed = record {
            run = w.planned.values_are.clocked;
            below = low;
            nodes = producers s run known t n rows edges;
            producers = producers_are s run known t n rows edges;
            words = from_is ∙ supply-woven s run known t n rows edges;
          };
          same = refl;
          turn = refl;
        };
        gives = sym (row-is w.planned w.sound n is_node (suc opened) (omega arith));
        nets_are = λ j. refl;
        opened_is = refl;
      }

  -- the opening of the node with a number, as it is asked for
  module _ {asked : Run} (asked_is : asked ≡ run) {l number turn : ℕ} (number_is : number ≡ l)
      (some : 0 < turn) where
    turn_is : suc (turn - 1) ≡ turn
    turn_is = omega (some, arith)

    pub opens_at : l < asked.design_nodes → turn ≤ asked.limit → (known : ℕ → Bool)
        → (from : List ℕ) → from ≡ supply_but asked known l turn (length asked.edges)
        → Opens number (turn - 1) known from
    opens_at near most known from from_is =
        let latches_are : asked.design_nodes ≡ nodes s
        = ap (λ (r : Run). r.design_nodes) asked_is ∙ w.planned.latches_are in
        let limit_is : asked.limit ≡ length vectors.rows
        = ap (λ (r : Run). r.limit) asked_is ∙ w.planned.limit_is in
        let low : number < nodes s = omega (near, latches_are, number_is, arith) in
        let early : turn - 1 < length vectors.rows = omega (some, most, limit_is, arith) in
        let (n, is_node, is) = node_at s number low in
        let words : from ≡ supply_but run known (number_of n) (suc (turn - 1)) (length run.edges)
        = from_is ∙ (ap (λ (r : Run). supply_but r known l turn (length r.edges)) asked_is
        ∙ (ap (λ (m : ℕ). supply_but run known m turn (length run.edges)) (sym number_is ∙ sym is)
        ∙ ap (λ (k : ℕ). supply_but run known (number_of n) k (length run.edges)) (sym turn_is))) in
        subst (λ (m : ℕ). Opens m (turn - 1) known from) is
        (opens_node n is_node (turn - 1) early known from words)

    -- what it gives
    pub gives_row : row run number (suc (turn - 1)) ≡ row asked l turn
    gives_row =
        ap (λ (r : Run). row r number (suc (turn - 1))) (sym asked_is)
        ∙ (ap (λ (m : ℕ). row asked m (suc (turn - 1))) number_is ∙ ap (row asked l) turn_is)

  -- the room that it takes
  module _ {asked : Run} (asked_is : asked ≡ run) {l number : ℕ} (number_is : number ≡ l) where
    pub room_at : (n : Node) → IsNode s n → number_of n ≡ number
        → width asked l ≡ count_of_words (length (nets_of s n))
    room_at n is_node is =
        ap (λ (r : Run). width r l) asked_is
        ∙ (ap (width run) (sym (is ∙ number_is)) ∙ room n is_node)
