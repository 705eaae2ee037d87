-- The kinds of the lines that are printed.
use Rattle.std.proofs.Common.{◌≡◌, ℕ, Bool, true, false, List, [], ◌∷◌, codes, refl, ◌==◌, inl, inr, subst}
use Rattle.std.proofs.lemmas.Bool.{cases_Bool, eqb-true, false≢true}
use Rattle.std.specs.List.{list_all}
use Rattle.ds_lines.specs.Words.{word_at}
use Rattle.ds_blif.specs.Head.{head_of, is_skipped}
use Rattle.ds_blif.specs.declared.head.Head.TheVariants.{Row, Names, Model, Inputs as InputsHead, Outputs as OutputsHead, Clock as ClockHead, Latch as LatchHead, Subckt as SubcktHead, End}
use Rattle.ds_blif.specs.Form.{is_plane_byte}
use Rattle.ds_text_laws.specs.BlifText.{bit_word, words_of_row}

-- heads of the commands that are printed
pub head_inputs : head_of (codes ".inputs") ≡ InputsHead
unfolding head_of is_skipped
head_inputs = refl

pub head_outputs : head_of (codes ".outputs") ≡ OutputsHead
unfolding head_of is_skipped
head_outputs = refl

pub head_clock : head_of (codes ".clock") ≡ ClockHead
unfolding head_of is_skipped
head_clock = refl

pub head_names : head_of (codes ".names") ≡ Names
unfolding head_of is_skipped
head_names = refl

pub head_latch : head_of (codes ".latch") ≡ LatchHead
unfolding head_of is_skipped
head_latch = refl

pub head_subckt : head_of (codes ".subckt") ≡ SubcktHead
unfolding head_of is_skipped
head_subckt = refl

pub head_model : head_of (codes ".model") ≡ Model
unfolding head_of is_skipped
head_model = refl

pub head_end : head_of (codes ".end") ≡ End
unfolding head_of is_skipped
head_end = refl

pub head_bit : (on : Bool) → head_of (bit_word on) ≡ Row
unfolding head_of is_skipped
head_bit true = refl
head_bit false = refl

-- a row does not begin with a dot
pub head_plane : (byte : ℕ) (bytes : List ℕ) → list_all is_plane_byte (byte ∷ bytes) ≡ true
    → head_of (byte ∷ bytes) ≡ Row
unfolding head_of is_skipped
head_plane byte bytes all = elim (cases_Bool (byte == 46)) [
  | inl dot ↦ absurd (let e : byte ≡ 46 = eqb-true _ _ dot in let h : list_all is_plane_byte (46
      ∷ bytes) ≡ true = subst (λ (b : ℕ). list_all is_plane_byte (b ∷ bytes) ≡ true) e all in
      false≢true h)
  | inr other ↦ rw other refl
]

pub head_row : (on : Bool) (plane : List ℕ) → list_all is_plane_byte plane ≡ true → head_of (word_at
    (words_of_row on plane) 0) ≡ Row
head_row on [] all = head_bit on
head_row on (byte ∷ bytes) all = head_plane byte bytes all
