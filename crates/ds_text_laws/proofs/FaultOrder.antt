-- The fault of a line, by its kind of line, is the first in the order of the format.
use Rattle.std.proofs.Common.{◌≡◌, ℕ, List, [], ◌∷◌, Option, None, Some, refl}
use Rattle.ds_lines.specs.First.{first_of}
use Rattle.ds_blif.specs.State.{State, fault_by}
use Rattle.ds_text_laws.specs.BlifOrder.{fault_in_order}
use Rattle.ds_blif.specs.declared.head.Head.{Head}
use Rattle.ds_blif.specs.declared.head.Head.TheVariants.{Row, Names, Model, Inputs, Outputs, Clock, Latch, Subckt, End, Skipped, Unknown}
use Rattle.ds_blif.specs.declared.fault.BlifKind.{BlifKind}

-- the kinds that a line may have stand among those that it cannot have
row_order : (a b c d : Option BlifKind) → first_of (a ∷ first_of (b ∷ c ∷ d ∷ []) ∷ [])
    ≡ first_of (a ∷ b ∷ None ∷ None ∷ None ∷ None ∷ None ∷ c ∷ d ∷ [])
row_order (Some kind) b c d = refl
row_order None (Some kind) c d = refl
row_order None None (Some kind) d = refl
row_order None None None (Some kind) = refl
row_order None None None None = refl

names_order : (a b c : Option BlifKind) → first_of (a ∷ first_of (b ∷ c ∷ []) ∷ [])
    ≡ first_of (a ∷ None ∷ b ∷ c ∷ None ∷ None ∷ None ∷ None ∷ None ∷ [])
names_order (Some kind) b c = refl
names_order None (Some kind) c = refl
names_order None None (Some kind) = refl
names_order None None None = refl

model_order : (a b c : Option BlifKind) → first_of (a ∷ first_of (b ∷ c ∷ []) ∷ [])
    ≡ first_of (a ∷ None ∷ b ∷ None ∷ None ∷ None ∷ c ∷ None ∷ None ∷ [])
model_order (Some kind) b c = refl
model_order None (Some kind) c = refl
model_order None None (Some kind) = refl
model_order None None None = refl

latch_order : (a b c d : Option BlifKind) → first_of (a ∷ first_of (b ∷ c ∷ d ∷ []) ∷ [])
    ≡ first_of (a ∷ None ∷ b ∷ None ∷ c ∷ d ∷ None ∷ None ∷ None ∷ [])
latch_order (Some kind) b c d = refl
latch_order None (Some kind) c d = refl
latch_order None None (Some kind) d = refl
latch_order None None None (Some kind) = refl
latch_order None None None None = refl

other_order : (a : Option BlifKind) → first_of (a ∷ None ∷ [])
    ≡ first_of (a ∷ None ∷ None ∷ None ∷ None ∷ None ∷ None ∷ None ∷ None ∷ [])
other_order (Some kind) = refl
other_order None = refl

subckt_order : (a b : Option BlifKind) → first_of (a ∷ b ∷ [])
    ≡ first_of (a ∷ None ∷ b ∷ None ∷ None ∷ None ∷ None ∷ None ∷ None ∷ [])
subckt_order (Some kind) b = refl
subckt_order None (Some kind) = refl
subckt_order None None = refl

pub in_order : (head : Head) (state : State) (words : List (List ℕ)) → fault_by head state words
    ≡ fault_in_order head state words
in_order Row state words = row_order _ _ _ _
in_order Names state words = names_order _ _ _
in_order Model state words = model_order None _ _
in_order Inputs state words = other_order _
in_order Outputs state words = other_order _
in_order Clock state words = other_order _
in_order Latch state words = latch_order _ _ _ _
in_order Subckt state words = subckt_order _ _
in_order End state words = refl
in_order Skipped state words = refl
in_order Unknown state words = refl
