-- Events as they are found by their hash.
use Rattle.std.specs.Prelude.{◌≡◌, ◌≢◌, ℕ, ◌<◌, List, length}
use Rattle.std.specs.List.{HoldsAt}
use Rattle.ds_marked.specs.declared.marked.Event.{Event}
use Rattle.ds_marked.specs.declared.marked.Kind.{Kind}
use Rattle.ds_marked.specs.declared.marked.Kind.TheVariants.{Rise, Fall, Dummy}
use Rattle.ds_accept.specs.declared.numbers.Key.{Key}

-- a signal, and the number of what it does
pub record Code : Type 0 where
  pub signal : List ℕ
  pub sign : ℕ

-- the number of what an event does
abbrev pub sign_of : Kind → ℕ
sign_of Rise = 0
sign_of Fall = 1
sign_of Dummy = 2

-- the code of an event
abbrev pub event_code : Event → Code
event_code event = record { signal = event.signal; sign = sign_of event.kind }

-- the code that a key stands for
abbrev pub key_code : Key → Code
key_code key = record { signal = key.signal.now; sign = key.sign }

-- a code stands at a place
pub record StandsAtCode (codes : List Code) (code : Code) (place : ℕ) : Type 0 where
  pub inside : place < length codes
  pub is : HoldsAt (λ other. other ≡ code) codes place

-- a code stands nowhere
abbrev pub IsMissingCode : List Code → Code → Type 0
IsMissingCode codes code = (k : ℕ) → k < length codes → HoldsAt (λ other. other ≢ code) codes k
