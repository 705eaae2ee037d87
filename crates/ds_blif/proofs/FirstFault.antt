-- The first fault, by what the lines before leave open.
use Rattle.std.proofs.Common.{◌≡◌, ◌∙◌, ℕ, suc, ◌<◌, List, [], ◌∷◌, length, drop, Option, None}
use Rattle.std.proofs.Common.{Some, ap, refl}
use Rattle.std.proofs.Math.Seq.{drop-cons}
use Rattle.ds_lines.specs.Line.{Line, line_or_none}
use Rattle.ds_lines.specs.declared.at.At.{At}
use Rattle.ds_blif.specs.State.{State, after, fault_in, end_fault, state_of}
use Rattle.ds_blif.specs.State.{fault_of_line, first_fault}
use Rattle.ds_blif.specs.declared.fault.BlifKind.{BlifKind}
use Rattle.ds_base.specs.declared.refusal.Refusal.{Refusal}
use Rattle.ds_base.specs.declared.refusal.Refusal.TheVariants.{Memory as NoMemory, Fault}
use Rattle.ds_base.specs.Refusal.{TellsFault}
use Rattle.ds_lines.specs.First.{fault_or}

-- the first fault of lines after this state
abbrev pub fault_from : State → List Line → Option (At BlifKind)
fault_from state [] = end_fault state.models
fault_from state (line ∷ lines) = fault_or (fault_in state line.words) line.number (fault_from
    (after line.words state) lines)

pub fault_from_is : (earlier lines : List Line) → first_fault earlier lines ≡ fault_from
    (state_of earlier) lines
fault_from_is earlier [] = refl
fault_from_is earlier (line ∷ lines) = ap (fault_or (fault_of_line earlier line) line.number)
    (fault_from_is (line ∷ earlier) lines)

fault_or-some : (fault : Option BlifKind) (number : ℕ) (rest : Option (At BlifKind)) (first : At BlifKind)
    → fault_or fault number None ≡ Some first → fault_or fault number rest ≡ Some first
fault_or-some None number rest first is = absurd (cc)
fault_or-some (Some kind) number rest first is = is

-- a fault of the line that is read is the first of all
pub first_at : (e : Refusal (At BlifKind)) (state : State) (lines : List Line) (i : ℕ)
    (all : Option (At BlifKind)) → i < length lines → all ≡ fault_from state (drop i lines)
    → TellsFault e (fault_or (fault_in state (line_or_none lines i).words)
    (line_or_none lines i).number None) → TellsFault e all
first_at NoMemory state lines i all less so_far is = tt
first_at (Fault first) state lines i all less so_far is =
    let here : drop i lines ≡ line_or_none lines i ∷ drop (suc i) lines = drop-cons lines i
    (record { number = 0; words = [] }) less in
    so_far ∙ (ap (fault_from state) here ∙ fault_or-some (fault_in state
    (line_or_none lines i).words) (line_or_none lines i).number _ first is)
