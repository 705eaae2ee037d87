-- Which rows are learnt.
use Rattle.std.proofs.Common.{◌≡◌, ◌∙◌, ℕ, ◌+◌, Bool, true, false, eqb, get_or, refl, ap, sym, ◌&&◌}
use Rattle.std.proofs.lemmas.Bool.{and_right, eqb-true, false≢true}
use Rattle.ds_latch.specs.Node.{number_of}
use Rattle.ds_latch.specs.declared.node.Node.{Node}
use Rattle.ds_latch.specs.declared.node.Node.TheVariants.{Master}
use Rattle.ds_base.specs.Scratch.{Kept}
use Rattle.ds_opening.specs.Foreseen.{node_at}
use Rattle.ds_opening.specs.Learnt.{is_learnt, is_no_master}
use Rattle.ds_opening.proofs.ForeseenRows.{node_by_number}

-- the node with the number of a node
pub at_number : (n : Node) (number : ℕ) → number_of n ≡ number → node_at number ≡ n
at_number n number is = ap node_at (sym is) ∙ node_by_number n

-- no row of a master is learnt
pub master_unlearnt : (first : ℕ) (k : Kept) (turn i : ℕ) → is_learnt first k turn (number_of (Master i)) ≡ false
master_unlearnt first k turn i =
    and_right (eqb (get_or k.turns (first + number_of (Master i)) 0) turn) (is_no_master (node_at (number_of (Master i))))
    (ap is_no_master (node_by_number (Master i)))

front : (x y : Bool) → (x && y) ≡ true → x ≡ true
front true y is = refl
front false y is = absurd (false≢true is)

-- where a row is learnt, its slot is noted
pub slot_noted : (first : ℕ) (k : Kept) (turn node : ℕ) → is_learnt first k turn node ≡ true
    → get_or k.turns (first + node) 0 ≡ turn
slot_noted first k turn node is =
    let noted : ℕ = get_or k.turns (first + node) 0 in
    eqb-true noted turn (front (eqb noted turn) (is_no_master (node_at node)) is)
