-- Turns as bytes behind a base.
use Rattle.std.proofs.Common.{◌≡◌, ◌∙◌, ℕ, zero, suc, ◌-◌, ◌<◌, ◌≤◌, List, ◌∷◌, length, get_or, set, replicate, refl, sym, ap, subst, arith, Bool, false}
use Rattle.std.proofs.Math.ListN.{get_or-map}
use Rattle.std.proofs.lemmas.List.{get_or-replicate, get_or-set_other, get_or-set_same, length-map, length-replicate, length-set}
use Rattle.ds_base.specs.Values.{Row}
use Rattle.ds_base.specs.Scratch.{IsNoted, Kept, Memory, Remembers}
use Rattle.ds_base.specs.Turns.{IsSameOrLost, noted_turn, noted_turns}

-- a row beside the turns of bytes
abbrev pub kept : Row → ℕ → List ℕ → List Bool → Kept
kept nets base bytes stayed = record {
  nets = nets;
  turns = noted_turns base bytes;
  stayed = stayed;
}

-- a turn of a slot is that of its byte
pub turn_at : (base : ℕ) (bytes : List ℕ) (s : ℕ) → get_or (noted_turns base bytes) s 0 ≡ noted_turn base (get_or bytes s 0)
turn_at base bytes s = get_or-map (noted_turn base) bytes s 0

-- the base lies before the turn, or both are 0
abbrev pub IsBehind : ℕ → ℕ → Type 0
IsBehind base turn = (0 < turn → base < turn) × (base ≤ turn)

-- the byte of a turn stands for it behind such a base
pub noted_here : (base byte turn : ℕ) → IsBehind base turn → byte ≡ turn - base → noted_turn base byte ≡ turn
noted_here base zero zero behind is = refl
noted_here base zero (suc t) behind is = absurd (let above : base < suc t = behind.0 (omega arith) in omega (above, is, arith))
noted_here base (suc n) turn behind is = omega (behind.1, is, arith)

-- zeros are no turns
pub no_turns : (base n : ℕ) → noted_turns base (replicate n 0) ≡ replicate n 0
no_turns base zero = refl
no_turns base (suc n) = ap (λ (turns : List ℕ). 0 ∷ turns) (no_turns base n)

-- nothing is remembered of no turns
pub no_memory : (nets : Row) (slots : ℕ) (m : Memory) → length nets ≡ m.nets → length m.slots ≡ slots
    → Remembers m (record {
      nets = nets;
      turns = replicate slots 0;
      stayed = replicate slots false;
    })
no_memory nets slots m nets_are slots_are = record {
  nets = nets_are;
  turns = length-replicate slots 0 ∙ sym slots_are;
  stayed = length-replicate slots false ∙ sym slots_are;
  each = λ s inside some. absurd (omega (none s inside, some, arith));
  before = λ s inside some is. absurd (omega (none s inside, some, arith));
}
  where
    zeros : List ℕ
    zeros = replicate slots 0

    none : (s : ℕ) → s < length m.slots → get_or zeros s 0 ≡ 0
    none s inside = get_or-replicate slots s 0 0 (omega (inside, slots_are, arith))

-- a slot whose byte is set once the base has moved is noted
pub now_noted : (nets : Row) (base next slot turn : ℕ) (old moved : List ℕ)
    (flags : List Bool) (stayed : Bool) → slot < length old
    → length moved ≡ length old → IsBehind next turn
    → ((s : ℕ) → IsSameOrLost turn (noted_turn base (get_or old s 0)) (noted_turn next (get_or moved s 0)))
    → IsNoted slot turn stayed (kept nets base old flags)
    (kept nets next (set moved slot (turn - next)) (set flags slot stayed))
now_noted nets base next slot turn old moved flags stayed inside same behind others = record {
  nets = refl;
  stayed = refl;
  turns = length-map bytes (noted_turn next) ∙ (length-set moved slot (turn - next) ∙ (same ∙ sym (length-map old (noted_turn base))));
  here = turn_at next bytes slot
      ∙ noted_here next (get_or bytes slot 0) turn behind (get_or-set_same moved slot (turn - next) 0 (omega (inside, same, arith)));
  others = λ s other.
      subst (λ (before : ℕ). IsSameOrLost turn before (get_or (noted_turns next bytes) s 0)) (sym (turn_at base old s))
      (subst (IsSameOrLost turn (noted_turn base (get_or old s 0)))
      (sym (turn_at next bytes s ∙ ap (noted_turn next) (get_or-set_other moved slot s (turn - next) 0 other))) (others s));
}
  where
    bytes : List ℕ
    bytes = set moved slot (turn - next)
