-- One piece after another, by a pen.
use Rattle.std.proofs.Common.{◌≡◌, ℕ, List, [], ◌++◌, ◌∙◌, Option, None, Some, Result, ap, refl, subst}
use Rattle.std.proofs.Math.Seq.{take-length}
use Rattle.ds_outside.specs.Handing.{Grew}
use Rattle.ds_outside.specs.Pen.{Finishes, Puts, Writing, begun_on}
use Rattle.ds_outside.specs.Writes.{Writes}
use Rattle.ds_outside.specs.declared.sink.WriteFault.{WriteFault}
use Rattle.ds_outside.proofs.Handing.{handed_on}
use Rattle.ds_outside.proofs.PieceSequence.{goes_on, nothing_written}

-- one piece, and then another
pub puts_on : {a b c : Writing} {p q : List ℕ} → Puts a b p → Puts b c q → Puts a c (p ++ q)
puts_on one two = record {
  same = two.same ∙ one.same;
  grew = λ before grew. two.grew before (one.grew before grew);
  goes_on = goes_on one.goes_on two.goes_on;
}

-- nothing was written
pub puts_nothing : (w : Writing) → Puts w w []
puts_nothing w = record { same = refl; grew = λ before grew. grew; goes_on = nothing_written w.so_far w.written w.faults }

-- the same text, written in another way
pub with_put : {a b : Writing} {p q : List ℕ} → p ≡ q → Puts a b p → Puts a b q
with_put {a} {b} e one = subst (λ (t : List ℕ). Puts a b t) e one

-- what a sink holds stands in front of itself
grew_same : (held : Option (List ℕ)) → Grew held held
grew_same None = refl
grew_same (Some bytes) = ap Some (take-length bytes)

finished_from : (result : Result (Unit {0}) WriteFault) (name : ℕ) (held new : Option (List ℕ)) (faults now : ℕ) (at : Writing) (text : List ℕ)
    → Puts (begun_on name held faults) at text → Finishes at result new now → Writes result held new faults now text
finished_from result name held new faults now at text puts ends =
    handed_on at.so_far result
    (record { ok = ends.ok; part = (ends.grew held (puts.grew held (grew_same held)), ends.front); ok_same = ends.ok_same; never_falls = ends.never_falls; cause = ends.cause })
    puts.goes_on.on_ok

-- a text that was begun on a sink and finished was written to it
pub finished : {result : Result (Unit {0}) WriteFault} {name : ℕ} {held new : Option (List ℕ)} {faults now : ℕ} {first at : Writing} {text : List ℕ}
    → first ≡ begun_on name held faults → Puts first at text → Finishes at result new now → Writes result held new faults now text
finished {result = result} {name = name} {held = held} {new = new} {faults = faults} {now = now} {at = at} {text = text} begun puts ends =
    finished_from result name held new faults now at text (subst (λ (w : Writing). Puts w at text) begun puts) ends
