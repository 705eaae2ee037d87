-- What follows of the text of a netlist, by the definitions.
use Rattle.std.specs.Prelude.{◌≡◌, ℕ, List, [], ◌∷◌, Ok}
use Rattle.std.specs.List.{AllByRecursion}
use Rattle.ds_lines.specs.Line.{Line, lines_of}
use Rattle.ds_lines.specs.Print.{numbered_lines, text_of, IsPlain}
use Rattle.ds_design.specs.Source.{IsBlif}
use Rattle.ds_design.specs.declared.blif.BlifModel.{BlifModel}
use Rattle.ds_blif.specs.State.{State, fault_by}
use Rattle.ds_text_laws.specs.BlifOrder.{fault_in_order}
use Rattle.ds_blif.specs.Text.{models_of_text}
use Rattle.ds_text_laws.specs.BlifText.{model_words, models_at_lines}
use Rattle.ds_text_laws.specs.Printable.{AreModels}
use Rattle.ds_blif.specs.declared.head.Head.{Head}

-- the models that lines stand for are well formed
abbrev pub ModelsAreWellFormed : Type 0
ModelsAreWellFormed = (lines : List Line) (models : List BlifModel)
    → models_of_text lines ≡ Ok models → IsBlif models

-- the fault of a line is the first that holds, in the one order of the format
abbrev pub FaultIsInOrder : Type 0
FaultIsInOrder = (head : Head) (state : State) (words : List (List ℕ))
    → fault_by head state words ≡ fault_in_order head state words

-- the lines that print some models stand for these models, each part at its line
abbrev pub PrintedIsRead : Type 0
PrintedIsRead = (model : BlifModel) (models : List BlifModel) → AreModels [] (model ∷ models)
    → models_of_text (numbered_lines 1 (model_words (model ∷ models)))
    ≡ Ok (models_at_lines 1 (model ∷ models))

-- the text that prints some models stands for these models, each part at its line
abbrev pub PrintedTextIsRead : Type 0
PrintedTextIsRead = (model : BlifModel) (models : List BlifModel) → AreModels [] (model ∷ models)
    → AllByRecursion IsPlain (model_words (model ∷ models))
    → models_of_text (lines_of (text_of (model_words (model ∷ models))))
    ≡ Ok (models_at_lines 1 (model ∷ models))
