-- A stage that gives something gives one thing, and is not refused, where its file tells what it holds.
use Rattle.std.proofs.Common.{◌≡◌, ◌≢◌, ℕ, List, length, Some, Result, Ok, Err, inl, inr, refl, arith, sym, ◌∙◌, subst}
use Rattle.ds_outside.specs.Held.{Held, untold, absent, bytes}
use Rattle.ds_outside.specs.declared.files.Which.{Which}
use Rattle.ds_outside.specs.declared.files.Which.TheVariants.{Net, Vectors}
use Rattle.ds_lines.specs.Line.{Line}
use Rattle.ds_blif.specs.Text.{models_of_text}
use Rattle.ds_flat.specs.Copies.{flat_of}
use Rattle.ds_design.specs.Circuit.{Circuit, columns}
use Rattle.ds_design.specs.declared.blif.BlifModel.{BlifModel}
use Rattle.ds_netlist.specs.Laws.{FaultsAreRefused}
use Rattle.ds_netlist.specs.declared.fault.NetFault.{NetFault}
use Rattle.ds_netlist.specs.declared.fault.NetFault.TheVariants as net
use Rattle.ds_rows.specs.Vector.{vectors_of}
use Rattle.ds_stage.specs.FaultText.{IsNetFaultText, blif_text, flat_text, net_fault_text, vector_text}
use Rattle.ds_stage.specs.Stage.{Stage, IsExclusive, then_stage}
use Rattle.ds_stage.specs.Stages.{OfBytes, accepted_stage, design_stage, file_stage, lines_stage, netlist_stage, read_or_line, result_stage, rows_stage, text_stage, vectors_stage}

-- stages that are each exclusive are together
pub then_exclusive : {A B : Type 0} (first : Stage A) (next : A → Stage B) → IsExclusive first → ((a : A) → IsExclusive (next a)) → IsExclusive (then_stage first next)
then_exclusive {A} {B} first next one all = record {
  one = λ b d (a, is, then) (x, also, other).
      (all x).one b d (subst (λ (y : A). (next y).means b) (one.one a x is also) then) other;
  not_refused = λ b line (a, is, then) either. elim either [
    | inl refused ↦ one.not_refused a line is refused
    | inr (x, also, refused) ↦ (all x).not_refused b line (subst (λ (y : A). (next y).means b) (one.one a x is also) then) refused
  ];
}

-- a last stage that is not refused where it gives something is enough
pub then_not_refused : {A B : Type 0} (first : Stage A) (next : A → Stage B) → IsExclusive first
    → ((a : A) (b : B) (line : List ℕ) → (next a).means b → ¬ (next a).refused line)
    → (b : B) (line : List ℕ) → (then_stage first next).means b → ¬ (then_stage first next).refused line
then_not_refused {A} {B} first next one last b line (a, is, then) (inl refused) = one.not_refused a line is refused
then_not_refused {A} {B} first next one last b line (a, is, then) (inr (x, also, refused)) =
    last x b line (subst (λ (y : A). (next y).means b) (one.one a x is also) then) refused

one_text : (h : Held) (name : List ℕ) → h ≢ untold → (a b : List Line) → OfBytes h (λ text. (text_stage name text).means a) → OfBytes h (λ text. (text_stage name text).means b) → a ≡ b
one_text untold name told a b is also = absurd (told refl)
one_text absent name told a b is also = absurd is
one_text (bytes text) name told a b (short, are) (few, also) = are ∙ sym also

text_not_refused : (h : Held) (name : List ℕ) → h ≢ untold → (a : List Line) (line : List ℕ) → OfBytes h (λ text. (text_stage name text).means a) → OfBytes h (λ text. (text_stage name text).refused line) → ⊥
text_not_refused untold name told a line is refused = told refl
text_not_refused absent name told a line is refused = is
text_not_refused (bytes text) name told a line (short, are) (long, spelt) = omega arith

pub lines_exclusive : (held : List ℕ → Held) (which : Which) (name : List ℕ) → held name ≢ untold → IsExclusive (lines_stage held which name)
lines_exclusive held which name told = record {
  one = λ a b is also. one_text (held name) name told a b is also;
  not_refused = λ a line is refused. text_not_refused (held name) name told a line is refused;
}

one_ok : {A : Type 0} (r : Result A (List ℕ)) (a b : A) → r ≡ Ok a → r ≡ Ok b → a ≡ b
one_ok r a b is also = cc

ok_or_err : {A : Type 0} (r : Result A (List ℕ)) (a : A) (line : List ℕ) → r ≡ Ok a → r ≡ Err line → ⊥
ok_or_err r a line is also = cc

pub result_exclusive : {A : Type 0} (r : Result A (List ℕ)) → IsExclusive (result_stage r)
result_exclusive r = record { one = λ a b is also. one_ok r a b is also; not_refused = λ a line is refused. ok_or_err r a line is refused }

design_exclusive : (file : List ℕ) (lines : List Line) → IsExclusive (design_stage file lines)
design_exclusive file lines =
    then_exclusive (result_stage (read_or_line file blif_text (models_of_text lines))) (λ (models : List BlifModel). result_stage (read_or_line file flat_text (flat_of models)))
    (result_exclusive (read_or_line file blif_text (models_of_text lines))) (λ models. result_exclusive (read_or_line file flat_text (flat_of models)))

-- a fault that has a text is not want of memory
shown_fault : (c : Circuit) (fault : NetFault) (text : List ℕ) → IsNetFaultText c fault text → fault ≢ net.Memory
shown_fault c fault text shown is =
    let none : net_fault_text c net.Memory ≡ Some text = subst (λ (f : NetFault). net_fault_text c f ≡ Some text) is shown in cc

accepted_exclusive : FaultsAreRefused → (file : List ℕ) (c : Circuit) → IsExclusive (accepted_stage file c)
accepted_exclusive law file c = record {
  one = λ a b is also. is.0 ∙ sym also.0;
  not_refused = λ a line is refused.
      let (fault, text, faulty, shown, spelt) = refused in
      law c fault (shown_fault c fault text shown) faulty is.1;
}

file_exclusive : (held : List ℕ → Held) (file : List ℕ) → held file ≢ untold → IsExclusive (file_stage held file)
file_exclusive held file told =
    then_exclusive (lines_stage held Net file) (design_stage file) (lines_exclusive held Net file told) (design_exclusive file)

pub netlist_exclusive : FaultsAreRefused → (held : List ℕ → Held) (file : List ℕ) → held file ≢ untold → IsExclusive (netlist_stage held file)
netlist_exclusive law held file told =
    then_exclusive (file_stage held file) (accepted_stage file) (file_exclusive held file told) (accepted_exclusive law file)

pub vectors_exclusive : (held : List ℕ → Held) (vec : List ℕ) (c : Circuit) → held vec ≢ untold → IsExclusive (vectors_stage held vec c)
vectors_exclusive held vec c told =
    then_exclusive (lines_stage held Vectors vec) (rows_stage vec (length (columns c))) (lines_exclusive held Vectors vec told)
    (λ lines. result_exclusive (read_or_line vec vector_text (vectors_of (length (columns c)) lines)))
