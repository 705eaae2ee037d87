-- Histories that get lists of their own.
use Rattle.std.specs.Prelude.{◌≡◌, ℕ, ◌+◌, ◌*◌, ◌<◌, ◌≤◌, List, [], ◌++◌, true, zero, suc, take}
use Rattle.std.specs.Prelude.{drop, false, length, vec_capacity}
use mathlib.Core.Option.{some}
use lib.ListN.{get_elem?}
use Rattle.ds_fabric.specs.declared.history.History.{History}
use Rattle.ds_fabric.specs.declared.histories.Histories.{Histories}

-- a turn of the history has words, they stand in one of its list, and those of so many turns have a
-- length of 64 bits
pub record IsWide (limit : ℕ) (h : History) : Type 0 where
  pub some_word : 0 < h.stride
  pub inside : h.first + h.stride ≤ h.step
  pub small : limit * h.stride < 18446744073709551616

-- so it is of each history
abbrev pub AreWide : ℕ → Histories → Type 0
AreWide limit s = (i : ℕ) (h : History) → get_elem? s.nodes.items i ≡ some h → IsWide limit h

-- the words of the history in the first k turns of a list
abbrev pub words_until : List ℕ → History → ℕ → List ℕ
words_until words h zero = []
words_until words h (suc k) =
    words_until words h k ++ take h.stride (drop (k * h.step + h.first) words)

-- a list of its own, of the words in all whole turns of a list, with room for so many turns
pub record IsOwn (limit : ℕ) (h : History) (words own : List ℕ) (room : ℕ) : Type 0 where
  pub turns : ℕ
  pub all : (k : ℕ) → (k + 1) * h.step ≤ length words → k < turns
  pub whole : turns * h.step ≤ length words
  pub items : own ≡ words_until words h turns
  pub fits : limit * h.stride ≤ room

-- the same history with a list of its own
pub record IsCopy (limit : ℕ) (words : List ℕ) (g h : History) : Type 0 where
  pub node : h.node ≡ g.node
  pub fired : h.fired ≡ g.fired
  pub stride : h.stride ≡ g.stride
  pub first : h.first ≡ 0
  pub step : h.step ≡ g.stride
  pub own : IsOwn limit g words h.own.items (vec_capacity h.own)

-- the same histories, each with a list of its own
pub record AreCopies (limit : ℕ) (s : Histories) (copies : List History) : Type 0 where
  pub long : length copies ≡ length s.nodes.items
  pub each : (i : ℕ) (g h : History) → get_elem? s.nodes.items i ≡ some g
      → get_elem? copies i ≡ some h → IsCopy limit s.together.items g h

-- the histories have lists of their own: nothing is new where they had
pub record AreSeparated (limit : ℕ) (s t : Histories) : Type 0 where
  pub apart : t.apart ≡ true
  pub before : s.apart ≡ true → t ≡ s
  pub copies : s.apart ≡ false → AreCopies limit s t.nodes.items
  pub nodes_room : vec_capacity s.nodes ≤ vec_capacity t.nodes
  pub places : t.places ≡ s.places
  pub buffers : t.buffers ≡ s.buffers
