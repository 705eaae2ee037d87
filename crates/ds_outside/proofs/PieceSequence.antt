-- One piece after another.
use Rattle.std.proofs.Common.{◌≡◌, ℕ, ◌+◌, List, [], ◌++◌, length, take, Option, None, Some, Result, Ok, Err, refl, arith, ap, sym, ◌∙◌, subst, length-append}
use Rattle.std.proofs.lemmas.Bool.{false≢true}
use Rattle.std.proofs.Math.Seq.{take-append-add}
use Rattle.std.proofs.lemmas.List.{append-nil, take-append-le}
use Rattle.ds_outside.specs.Written.{appended, AppendsPart}
use Rattle.ds_outside.proofs.Appended.{appended-append}
use Rattle.ds_outside.specs.Writes.{Writes, GoesOn}

pub appended-nil : (w : Option (List ℕ)) → appended w [] ≡ w
appended-nil None = refl
appended-nil (Some bytes) = ap Some (append-nil bytes)

-- a part of the first piece is a part of both
part_before : (old new : Option (List ℕ)) (p q : List ℕ) → AppendsPart old new p → AppendsPart old new (p ++ q)
part_before old new p q (n, within, is) =
    (n, let long : length (p ++ q) ≡ length p + length q = length-append p q in omega arith, is ∙ ap (appended old) (sym (take-append-le n p q within)))

-- the first piece and a part of the second
part_after : (old mid new : Option (List ℕ)) (p q : List ℕ) → mid ≡ appended old p → AppendsPart mid new q → AppendsPart old new (p ++ q)
part_after old mid new p q whole (n, within, is) = (
  length p + n,
  let long : length (p ++ q) ≡ length p + length q = length-append p q in omega arith,
  is ∙ (ap (λ (w : Option (List ℕ)). appended w (take n q)) whole ∙ (appended-append old p (take n q) ∙ ap (appended old) (sym (take-append-add p q n)))),
)

next : {T E : Type 0} (a b c : Result T E) (w0 w1 w2 : Option (List ℕ)) (f0 f1 f2 : ℕ) (p q : List ℕ) → GoesOn a b w0 w1 f0 f1 p → GoesOn b c w1 w2 f1 f2 q → GoesOn a c w0 w2 f0 f2 (p ++ q)
next (Ok x) (Ok y) (Ok z) w0 w1 w2 f0 f1 f2 p q one two = record {
  on_ok = record {
    ok = two.on_ok.ok ∙ (ap (λ (w : Option (List ℕ)). appended w q) one.on_ok.ok ∙ appended-append w0 p q);
    err = tt;
    ok_same = two.on_ok.ok_same ∙ one.on_ok.ok_same;
    never_falls = omega (arith, one.on_ok.never_falls, two.on_ok.never_falls);
    cause = tt;
  };
  on_err = tt;
}
next (Ok x) (Ok y) (Err e) w0 w1 w2 f0 f1 f2 p q one two = record {
  on_ok = record {
    ok = tt;
    err = part_after w0 w1 w2 p q one.on_ok.ok two.on_ok.err;
    ok_same = tt;
    never_falls = omega (arith, one.on_ok.never_falls, two.on_ok.never_falls);
    cause = omega (arith, one.on_ok.never_falls, two.on_ok.cause);
  };
  on_err = tt;
}
next (Ok x) (Err d) (Ok z) w0 w1 w2 f0 f1 f2 p q one two = absurd (false≢true two.on_err.0)
next (Ok x) (Err d) (Err e) w0 w1 w2 f0 f1 f2 p q one two = record {
  on_ok = record {
    ok = tt;
    err = part_before w0 w2 p q (rw two.on_err.1 one.on_ok.err);
    ok_same = tt;
    never_falls = omega (arith, one.on_ok.never_falls, two.on_err.2);
    cause = omega (arith, one.on_ok.cause, two.on_err.2);
  };
  on_err = tt;
}
next (Err d) (Ok y) c w0 w1 w2 f0 f1 f2 p q one two = absurd (false≢true one.on_err.0)
next (Err d) (Err e) c w0 w1 w2 f0 f1 f2 p q one two = record { on_ok = tt; on_err = (two.on_err.0, two.on_err.1 ∙ one.on_err.1, omega (arith, one.on_err.2, two.on_err.2)) }

-- one piece, and then another
pub goes_on : {T E : Type 0} {a b c : Result T E} {w0 w1 w2 : Option (List ℕ)} {f0 f1 f2 : ℕ} {p q : List ℕ} → GoesOn a b w0 w1 f0 f1 p → GoesOn b c w1 w2 f1 f2 q → GoesOn a c w0 w2 f0 f2 (p ++ q)
goes_on {a} {b} {c} {w0} {w1} {w2} {f0} {f1} {f2} {p} {q} one two = next a b c w0 w1 w2 f0 f1 f2 p q one two

-- nothing was written
pub nothing_written : {T E : Type 0} (a : Result T E) (w : Option (List ℕ)) (f : ℕ) → GoesOn a a w w f f []
nothing_written (Ok x) w f = record { on_ok = record { ok = sym (appended-nil w); err = tt; ok_same = refl; never_falls = omega arith; cause = tt }; on_err = tt }
nothing_written (Err e) w f = record { on_ok = tt; on_err = (refl, refl, omega arith) }

pub with_text : {T E : Type 0} {a b : Result T E} {w0 w1 : Option (List ℕ)} {f0 f1 : ℕ} {p q : List ℕ} → p ≡ q → GoesOn a b w0 w1 f0 f1 p → GoesOn a b w0 w1 f0 f1 q
with_text {a} {b} {w0} {w1} {f0} {f1} e one = subst (λ (t : List ℕ). GoesOn a b w0 w1 f0 f1 t) e one

-- what is written first
pub after_ok : {T E : Type 0} {a : Result T E} {x : T} {w0 w1 : Option (List ℕ)} {f0 f1 : ℕ} {p : List ℕ} → Writes a w0 w1 f0 f1 p → GoesOn (Ok x) a w0 w1 f0 f1 p
after_ok writes = record { on_ok = writes; on_err = tt }
