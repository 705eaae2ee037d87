-- Where the firings of a log begin.
use Rattle.std.proofs.Common.{◌≡◌, ℕ, ◌+◌, ◌<◌, ◌≤◌, true, false, List, [], length, refl, arith}
use Rattle.std.specs.Prelude.{nat_lt}
use Rattle.std.specs.List.{position_or_len}
use Rattle.std.proofs.lemmas.Bool.{lt-ltb, le-ltb}
use Rattle.std.proofs.lemmas.List.Sums.{position_or_len_is}
use Rattle.ds_lines.specs.Line.{Line, line_or_none}
use Rattle.ds_replay.specs.Replay.{is_firings, start_of}

-- the first line with the one word
pub start_here : (lines : List Line) (i : ℕ) → i < length lines → ((k : ℕ) → k < i → is_firings (line_or_none lines k) ≡ false) → is_firings (line_or_none lines i) ≡ true → i + 1 ≡ start_of lines
start_here lines i inside before here =
    let at : position_or_len is_firings lines ≡ i = position_or_len_is is_firings lines i (line_or_none [] 0) (omega arith) before (λ _. here) in
    let some : nat_lt i (length lines) ≡ true = lt-ltb i (length lines) inside in
    rw (at, some) refl

-- no such line
pub start_none : (lines : List Line) (i : ℕ) → length lines ≤ i → i ≤ length lines → ((k : ℕ) → k < i → is_firings (line_or_none lines k) ≡ false) → 0 ≡ start_of lines
start_none lines i past within before =
    let at : position_or_len is_firings lines ≡ i = position_or_len_is is_firings lines i (line_or_none [] 0) within before (λ inside. absurd (omega arith)) in
    let none : nat_lt i (length lines) ≡ false = le-ltb i (length lines) past in
    rw (at, none) refl
