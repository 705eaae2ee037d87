-- The tickets of an event, and the words of a row, as the history of a node has them.
use Rattle.std.proofs.Common.{◌≡◌, ℕ, ◌+◌, ◌-◌, ◌*◌, ◌/◌, ◌<◌, ◌≤◌, List, [], length, get_or}
use Rattle.std.proofs.Common.{◌∙◌, arith, sym, ap, cond, suc-mul}
use Rattle.std.proofs.lemmas.List.{get_or_past}
use mathlib.Core.Logic.{dite}
use native.Mathlib.Decide.{dec_lt}
use Rattle.ds_rule.specs.Run.{Run, events, node_of, turns, opens, closing}
use Rattle.ds_rule.specs.Words.{width, value}
use Rattle.ds_rule.specs.Rule.{holds, tickets, seen}
use Rattle.ds_rule.specs.declared.view.View.{View}
use Rattle.ds_rule.proofs.EventLaws.{node-low, node-closing, opens_low, turns-low, closing-is}
use Rattle.ds_rule.proofs.GetElemLemmas.{by_bool}
use Rattle.ds_fabric.specs.declared.history.History.{History}
use Rattle.ds_fabric.specs.HistoryList.{stride_of, turns_told, ticket_place, ticket_in, StandsIn}
use Rattle.ds_fabric.specs.Showing.{Tells, IsCounted, IsTold}
use Rattle.ds_fabric.proofs.HistoryLayout.{stride-low, stride-high, ticket_stands, word_stands}
use Rattle.ds_fabric.proofs.HistoryLayout.{row_stands}

-- a turn has a word for each ticket
pub turn_wide : (v : View) (h : History) (words : List ℕ) (room : ℕ) → Tells v h words room
    → 0 < h.stride
turn_wide v h words room t = dite (dec_lt h.node v.run.design_nodes)
    (λ low. omega (arith, t.stride, stride-low v.run h.node low))
    (λ high. omega (arith, t.stride, stride-high v.run h.node (omega arith)))

ticket_place-inside : (run : Run) (e s : ℕ) → 0 < s → ticket_place run e s < s
ticket_place-inside run e s wide = by_bool (ticket_place run e s < s) (opens run e)
    (λ y. let is : ticket_place run e s ≡ s - 2 = ap (λ b. cond b (s - 2) (s - 1)) y in
    omega (arith, is))
    (λ n. let is : ticket_place run e s ≡ s - 1 = ap (λ b. cond b (s - 2) (s - 1)) n in
    omega (arith, is))

-- all that the node has told
abbrev told : View → History → List ℕ
told v h = turns_told v.run (tickets v) h.node (seen v h.node)

-- a word that the node told, where it stands in the list
word_at : (v : View) (h : History) (words : List ℕ) (room k o : ℕ) → Tells v h words room
    → o < h.stride → k * stride_of v.run h.node + o < length (told v h)
    → (get_or words (k * h.step + h.first + o) 0
    ≡ get_or (told v h) (k * stride_of v.run h.node + o) 0)
    × (k * h.step + h.first + o < length words)
word_at v h words room k o t low below =
    let at : k * h.stride ≡ k * stride_of v.run h.node = ap (λ (x : ℕ). k * x) t.stride in (
      t.turns.same k o low (omega (arith, at, below))
          ∙ ap (λ (x : ℕ). get_or (told v h) (x + o) 0) at,
      omega (
        arith,
        t.turns.whole k (omega (arith, at, below)),
        suc-mul k h.step,
        t.turns.inside,
      ),
    )

pub ticket_read : (v : View) (h : History) (words : List ℕ) (room e k : ℕ) → Tells v h words room
    → node_of v.run e ≡ h.node → k < turns v.run e h.fired
    → (ticket_in v.run h words e k ≡ get_or (tickets v e) k 0)
    × (k * h.step + h.first + ticket_place v.run e h.stride < length words)
ticket_read v h words room e k t here below = let l : ℕ = h.node in
    let s : ℕ = stride_of v.run l in let o : ℕ = ticket_place v.run e h.stride in
    let place : o ≡ ticket_place v.run e s = ap (ticket_place v.run e) t.stride in
    let r = ticket_stands v.run (tickets v) l e k (seen v l) here
    (omega (arith, below, ap (turns v.run e) t.fired)) in
    let w = word_at v h words room k o t
    (ticket_place-inside v.run e h.stride (turn_wide v h words room t))
    (omega (arith, r.1, place)) in (
      w.0 ∙ (ap (λ (x : ℕ). get_or (told v h) (k * s + x) 0) place ∙ r.0),
      w.1,
    )

pub stands_in : (v : View) (h : History) (words : List ℕ) (room e : ℕ) → Tells v h words room
    → node_of v.run e ≡ h.node → StandsIn v.run h words e
stands_in v h words room e t here = record {
  wide = turn_wide v h words room t;
  wider = λ o. let low = opens_low v.run e o in let n = node-low v.run e low.0 in
      omega (arith, t.stride, stride-low v.run h.node (omega arith));
  there = λ k below. (ticket_read v h words room e k t here below).1;
}

-- an event has a ticket for each firing
pub counted : (v : View) (h : History) (words : List ℕ) (room e : ℕ) → IsCounted v
    → Tells v h words room → node_of v.run e ≡ h.node
    → turns v.run e h.fired ≡ length (tickets v e)
counted v h words room e c t here = ap (turns v.run e) t.fired
    ∙ (ap (λ (x : ℕ). turns v.run e (seen v x)) (sym here) ∙ c e (ap (holds v) here ∙ t.has))

-- the row of a turn ends inside
pub turn_inside : (v : View) (h : History) (words : List ℕ) (room k : ℕ) → Tells v h words room
    → h.node < v.run.design_nodes → k < turns v.run (closing h.node) h.fired
    → k * h.step + h.first + width v.run h.node < length words
turn_inside v h words room k t low below = let l : ℕ = h.node in let is = closing-is l in
    (word_at v h words room k (width v.run l) t
    (omega (arith, t.stride, stride-low v.run l low))
    (row_stands v.run (tickets v) l k (seen v l) low
    (omega (arith, below, turns-low v.run (closing l) h.fired (omega arith), t.fired)))).1

pub word_read : (v : View) (h : History) (words : List ℕ) (room k i : ℕ) → Tells v h words room
    → h.node < v.run.design_nodes → k < turns v.run (closing h.node) h.fired
    → i < width v.run h.node
    → get_or words (k * h.step + h.first + i) 0 ≡ value v.run h.node (k + 1) i
word_read v h words room k i t low below inside = let l : ℕ = h.node in let is = closing-is l in
    let less : 2 * k < seen v l =
    omega (arith, below, turns-low v.run (closing l) h.fired (omega arith), t.fired) in
    (word_at v h words room k i t
    (omega (arith, t.stride, stride-low v.run l low, inside))
    (omega (arith, inside, row_stands v.run (tickets v) l k (seen v l) low less))).0
    ∙ word_stands v.run (tickets v) l k (seen v l) i low less inside

-- an event that has a ticket is one of the run
pub ticket_inside : (v : View) (e k : ℕ) → length v.tickets ≡ events v.run
    → k < length (tickets v e) → e < events v.run
ticket_inside v e k long below = dite (dec_lt e (events v.run)) (λ low. low)
    (λ high. let none = get_or_past v.tickets e [] (omega (arith, long)) in
    absurd (omega (arith, below, ap (λ (xs : List ℕ). length xs) none)))

-- the ticket of a firing, of a history out of a record
pub ticket_told : (v : View) (l event number k : ℕ) (h : History) (words : List ℕ)
    → IsTold v l h words → number ≡ event → l ≡ node_of v.run number
    → k < length (tickets v event) → (k < turns v.run number h.fired)
    × (ticket_in v.run h words number k ≡ get_or (tickets v event) k 0)
ticket_told v l event number k h words i is on below =
    let here : node_of v.run number ≡ h.node = sym on ∙ sym i.node_is in
    let less : k < turns v.run number h.fired = omega (
      arith,
      below,
      counted v h words i.room number i.counts i.tells here,
      ap (λ (e : ℕ). length (tickets v e)) is,
    ) in (
      less,
      (ticket_read v h words i.room number k i.tells here less).0
          ∙ ap (λ (e : ℕ). get_or (tickets v e) k 0) is,
    )

pub closed_often : (v : View) (l node k : ℕ) (h : History) (words : List ℕ) → IsTold v l h words
    → l ≡ node → node < v.run.design_nodes → k < length (tickets v (closing node))
    → k < turns v.run (closing h.node) h.fired
closed_often v l node k h words t is low below = let on : h.node ≡ node = t.node_is ∙ is in
    let here : node_of v.run (closing h.node) ≡ h.node =
    node-closing v.run h.node (omega (arith, on)) in omega (
      arith,
      below,
      counted v h words t.room (closing h.node) t.counts t.tells here,
      ap (λ (x : ℕ). length (tickets v (closing x))) on,
    )

-- a latch has stored a row for each closing
pub stored_told : (v : View) (l node : ℕ) (h : History) (words : List ℕ) → IsTold v l h words
    → l ≡ node → node < v.run.design_nodes
    → (h.fired / 2 ≡ length (tickets v (closing node)))
    × (length (tickets v (closing node)) ≤ v.run.limit)
stored_told v l node h words t is low = let on : h.node ≡ node = t.node_is ∙ is in
    let here = node-closing v.run node low in let e = closing-is node in (
      omega (
        arith,
        counted v h words t.room (closing node) t.counts t.tells (here ∙ sym on),
        turns-low v.run (closing node) h.fired (omega arith),
      ),
      t.most (closing node) (here ∙ sym is),
    )

-- the row ends inside
pub row_told : (v : View) (l node k : ℕ) (h : History) (words : List ℕ) → IsTold v l h words
    → l ≡ node → node < v.run.design_nodes → k < length (tickets v (closing node))
    → k * h.step + h.first + width v.run node < length words
row_told v l node k h words t is low below = let on : h.node ≡ node = t.node_is ∙ is in
    let r = turn_inside v h words t.room k t.tells (omega (arith, on))
    (closed_often v l node k h words t is low below) in
    omega (arith, r, ap (width v.run) on)

pub word_told : (v : View) (l node k i : ℕ) (h : History) (words : List ℕ) → IsTold v l h words
    → l ≡ node → node < v.run.design_nodes → k < length (tickets v (closing node))
    → i < width v.run node
    → get_or words (k * h.step + h.first + i) 0 ≡ value v.run node (k + 1) i
word_told v l node k i h words t is low below inside =
    let on : h.node ≡ node = t.node_is ∙ is in
    word_read v h words t.room k i t.tells (omega (arith, on))
    (closed_often v l node k h words t is low below)
    (omega (arith, inside, ap (width v.run) on)) ∙ ap (λ (x : ℕ). value v.run x (k + 1) i) on
