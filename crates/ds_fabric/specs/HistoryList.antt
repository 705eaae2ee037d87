-- What the history of a node tells: firing by firing the row, where it is an opening, and the
-- ticket; and where these words stand in a list.
use Rattle.std.specs.Prelude.{◌≡◌, ℕ, ◌+◌, ◌-◌, ◌*◌, ◌<◌, ◌≤◌, List, [], ◌∷◌, ◌++◌, cond, nat_lt}
use Rattle.std.specs.Prelude.{slice_index, length, true, zero, suc, vec_capacity}
use Rattle.ds_rule.specs.Run.{Run, next, turns, opens, opened}
use Rattle.ds_rule.specs.Words.{width}
use Rattle.ds_rule.specs.Rows.{row}
use Rattle.ds_fabric.specs.declared.history.History.{History}
use Rattle.ds_fabric.specs.declared.histories.Histories.{Histories}

-- how many words a turn of the node takes: of a latch a row and two tickets, of another node the
-- ticket of its one event
abbrev pub stride_of : Run → ℕ → ℕ
stride_of run l = cond (nat_lt l run.design_nodes) (width run l + 2) 1

-- the row that firing number f of the node, from 0, puts before its ticket, where it is an opening
abbrev pub new_row : Run → ℕ → ℕ → List ℕ
new_row run l f = cond (opens run (next run l f)) (row run l (opened run l f + 1)) []

-- the ticket of firing number f of the node, from 0, out of those of its events
abbrev pub ticket_of : Run → (ℕ → List ℕ) → ℕ → ℕ → ℕ
ticket_of run tickets l f = slice_index (tickets (next run l f)) (turns run (next run l f) f)

-- the rows and the tickets of the first f firings of the node
abbrev pub turns_told : Run → (ℕ → List ℕ) → ℕ → ℕ → List ℕ
turns_told run tickets l zero = []
turns_told run tickets l (suc f) =
    (turns_told run tickets l f ++ new_row run l f) ++ ticket_of run tickets l f ∷ []

-- the words stand in a list of `step` words a turn, `stride` of them a turn, from word `first` of
-- each turn on; of each turn that has begun the list has all words
pub record StandByTurn (words : List ℕ) (first stride step : ℕ) (told : List ℕ) : Type 0 where
  pub inside : first + stride ≤ step
  pub whole : (k : ℕ) → k * stride < length told → (k + 1) * step ≤ length words
  pub same : (k o : ℕ) → o < stride → k * stride + o < length told
      → slice_index words (k * step + first + o) ≡ slice_index told (k * stride + o)

-- words were written from a place on, and the list has at least `end` words
pub record IsWritten (old new : List ℕ) (start end : ℕ) (told : List ℕ) : Type 0 where
  pub longer : length old ≤ length new
  pub reaches : end ≤ length new
  pub here : (i : ℕ) → i < length told → slice_index new (start + i) ≡ slice_index told i
  pub before : (p : ℕ) → p < start → p < length old → slice_index new p ≡ slice_index old p
  pub behind : (p : ℕ) → start + length told ≤ p → p < length old
      → slice_index new p ≡ slice_index old p

-- the list in which the words of the history stand
abbrev pub list_of_words : Histories → History → List ℕ
list_of_words s h = cond s.apart h.own.items s.together.items

-- how many words that list has room for
abbrev pub list_room : Histories → History → ℕ
list_room s h = cond s.apart (vec_capacity h.own) (vec_capacity s.together)

-- how many turns the next event of the history's node has fired
abbrev pub next_turn_of : Run → History → ℕ
next_turn_of run h = turns run (next run h.node h.fired) h.fired

-- where in its turn the words of that event begin: a row, or the last word of the turn
abbrev pub offset_of : Run → History → ℕ
offset_of run h = cond (opens run (next run h.node h.fired)) 0 (h.stride - 1)

-- where in the list they begin
abbrev pub start_of_words : Run → History → ℕ
start_of_words run h = next_turn_of run h * h.step + h.first + offset_of run h

-- where in the list the turn of that event ends
abbrev pub end_of_turn : Run → History → ℕ
end_of_turn run h = (next_turn_of run h + 1) * h.step

-- where the ticket of the event stands in a turn of so many words: behind that of an opening stands
-- one word, behind any other none
abbrev pub ticket_place : Run → ℕ → ℕ → ℕ
ticket_place run e stride = cond (opens run e) (stride - 2) (stride - 1)

-- the word of the list that is ticket number k of the event, from 0
abbrev pub ticket_in : Run → History → List ℕ → ℕ → ℕ → ℕ
ticket_in run h words e k =
    slice_index words (k * h.step + h.first + ticket_place run e h.stride)

-- a turn of so many words has room for the event, and in the list stand all its tickets
pub record StandsIn (run : Run) (h : History) (words : List ℕ) (e : ℕ) : Type 0 where
  pub wide : 0 < h.stride
  pub wider : opens run e ≡ true → 1 < h.stride
  pub there : (k : ℕ) → k < turns run e h.fired
      → k * h.step + h.first + ticket_place run e h.stride < length words
