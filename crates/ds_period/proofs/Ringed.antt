-- A ring in which all events wait.
use Rattle.std.proofs.Common.{◌≡◌, ◌∙◌, ◌<◌, ◌≤◌, ◌+◌, ℕ, Bool, List, length, get_or, ap, arith}
use Rattle.std.specs.List.{All, range_with_len}
use Rattle.std.proofs.lemmas.List.FromFn.{length-range_with_len, get_or-range_with_len}

-- the ring has each event once, and so many wait
pub all_wait : (ring : List ℕ) (waits : List Bool) (events : ℕ) → ring ≡ range_with_len 0 events → length waits ≡ events
    → (length waits ≡ length ring) × (events ≤ length ring) × (0 < length ring → 0 < length ring) × All (λ v. v < length ring) ring
all_wait ring waits events is wait =
    let size : length ring ≡ events = ap (λ (xs : List ℕ). length xs) is ∙ length-range_with_len 0 events in (
      omega (arith, size, wait),
      omega (arith, size),
      λ lt. lt,
      λ k d lt. (
          let at : get_or ring k d ≡ 0 + k = ap (λ (xs : List ℕ). get_or xs k d) is ∙ get_or-range_with_len 0 events k d (omega (arith, size, lt)) in
          omega (arith, at, lt)),
    )

-- the events are counted
pub events_are : (ring : List ℕ) (events : ℕ) → ring ≡ range_with_len 0 events → length ring ≡ events
events_are ring events is = ap (λ (xs : List ℕ). length xs) is ∙ length-range_with_len 0 events
