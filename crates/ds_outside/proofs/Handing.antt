-- What a sink has while a pen hands bytes on to it: `inner` is what the sink has, `outer` what it
-- has once all is handed on.
use Rattle.std.proofs.Common.{◌≡◌, ℕ, ◌+◌, ◌-◌, ◌≤◌, ◌⊎◌, inl, inr, subst, length-append, List, ◌++◌, length, take, drop, Option, None, Some, refl, sym, ap, ◌∙◌, arith}
use Rattle.std.specs.Prelude.{Result, Ok, Err, IsOk, IsErr, OnOk, OnErr}
use Rattle.std.proofs.lemmas.Bool.{false≢true}
use Rattle.std.proofs.Math.Seq.{take-append-add, take-length}
use Rattle.std.proofs.lemmas.List.{take-take, take-append-drop, take-append-le, take_rest, drop-drop, length-take}
use Rattle.ds_outside.specs.Written.{appended, AppendsPart}
use Rattle.ds_outside.specs.Handing.{Grew, front}
use Rattle.ds_outside.specs.Fault.{Rose}
use Rattle.ds_outside.specs.Writes.{Writes}
use Rattle.ds_outside.proofs.Appended.{appended-append}

-- n bytes of what is left go over, and the others are left
pub handed_more : (inner : Option (List ℕ)) (piece : List ℕ) (i n : ℕ) → appended (appended inner (take n (take (length piece - i) (drop i piece)))) (drop (i + n) piece) ≡ appended inner (drop i piece)
handed_more inner piece i n =
    rw (take_rest piece i, appended-append, ← drop-drop n i piece, take-append-drop n (drop i piece)) refl

-- what grew grows on
pub grew_more : (before inner : Option (List ℕ)) (piece : List ℕ) → Grew before inner → Grew before (appended inner piece)
grew_more None inner piece grew = rw grew refl
grew_more (Some bytes) None piece grew = grew
grew_more (Some bytes) (Some more) piece grew =
    let front_is : take (length bytes) more ≡ bytes = cc in
    let inside : length bytes ≤ length more = omega (arith, length-take (length bytes) more, ap length front_is) in
    ap Some (take-append-le (length bytes) more piece inside) ∙ grew

-- a sink, which had this before, has a first part of what it has once all is handed on
abbrev pub IsBetween : Option (List ℕ) → Option (List ℕ) → Option (List ℕ) → Type 0
IsBetween before inner outer = Grew before inner × Grew inner outer

-- a pen handed on what it kept back: all of it where no write failed, else a first part
pub record HandsOn {T E : Type 0} (so_far result : Result T E)
    (before inner outer : Option (List ℕ)) (faults now : ℕ) : Type 0 where
  pub ok : OnOk result (IsOk so_far × (inner ≡ outer))
  pub part : IsBetween before inner outer
  pub ok_same : OnOk result (now ≡ faults)
  pub never_falls : faults ≤ now
  pub cause : OnErr result (IsErr so_far ⊎ Rose faults now)

-- a front of a text that was appended is a front of the text
between_part : (before inner outer : Option (List ℕ)) (text : List ℕ) → IsBetween before inner outer → AppendsPart before outer text → AppendsPart before inner text
between_part None inner outer text (grew, rest) (n, within, is) = (0, omega arith, grew)
between_part (Some bytes) None outer text (grew, rest) (n, within, is) = absurd (cc grew)
between_part (Some bytes) (Some some) outer text (grew, rest) (n, within, is) =
    let front_is : take (length bytes) some ≡ bytes = cc in
    let more : Some (take (length some) (bytes ++ take n text)) ≡ Some some = subst (λ (w : Option (List ℕ)). front (Some some) w ≡ Some some) is rest in
    let inner_is : take (length some) (bytes ++ take n text) ≡ some = cc in
    let j : ℕ = length some - length bytes in
    let inside : length bytes ≤ length some = omega (arith, length-take (length bytes) some, ap length front_is) in
    let sum : length some ≡ length bytes + j = omega arith in
    let short : length some ≤ length bytes + n = omega (arith, ap length inner_is, length-take (length some) (bytes ++ take n text), length-append bytes (take n text), length-take n text) in
    let parts : some ≡ bytes ++ take j text = sym inner_is ∙ (ap (λ (k : ℕ). take k (bytes ++ take n text)) sum ∙ (take-append-add bytes (take n text) j ∙ ap (λ (t : List ℕ). bytes ++ t) (take-take j n text (omega arith)))) in
    (j, omega arith, ap Some parts)

-- what a call left behind what there was is the text or a first part of it
part_of : {T E : Type 0} (so_far : Result T E) {before outer : Option (List ℕ)} {f0 f1 : ℕ} {text : List ℕ} → Writes so_far before outer f0 f1 text → AppendsPart before outer text
part_of (Ok _) {before = before} {text = text} writes = (length text, omega arith, writes.ok ∙ ap (appended before) (sym (take-length text)))
part_of (Err _) writes = writes.err

rose_after : {T E : Type 0} (so_far : Result T E) {before outer : Option (List ℕ)} {f0 f1 f2 : ℕ} {text : List ℕ} → f1 ≤ f2 → IsErr so_far ⊎ Rose f1 f2 → Writes so_far before outer f0 f1 text → Rose f0 f2
rose_after (Ok _) never_falls (inl err) writes = absurd (false≢true err)
rose_after (Ok _) never_falls (inr rose) writes = omega (arith, writes.never_falls)
rose_after (Err _) never_falls cause writes = omega (arith, writes.cause)

-- what was written to a buffer that handed its bytes on was written to the sink behind it
pub handed_on : {T E : Type 0} (so_far result : Result T E) {before inner outer : Option (List ℕ)} {f0 f1 f2 : ℕ} {text : List ℕ} → HandsOn so_far result before inner outer f1 f2 → Writes so_far before outer f0 f1 text → Writes result before inner f0 f2 text
handed_on (Ok _) (Ok _) hands writes = record { ok = hands.ok.1 ∙ writes.ok; err = tt; ok_same = hands.ok_same ∙ writes.ok_same; never_falls = omega (arith, writes.never_falls); cause = tt }
handed_on (Err _) (Ok _) hands writes = absurd (false≢true hands.ok.0)
handed_on so_far (Err _) {before = before} {inner = inner} {outer = outer} {text = text} hands writes = record {
  ok = tt;
  err = between_part before inner outer text hands.part (part_of so_far writes);
  ok_same = tt;
  never_falls = omega (arith, writes.never_falls);
  cause = rose_after so_far hands.never_falls hands.cause writes;
}
