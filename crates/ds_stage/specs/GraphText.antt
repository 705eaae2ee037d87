-- The texts of the faults of a graph.
use Rattle.std.specs.Prelude.{◌≡◌, ℕ, List, ◌++◌, Option, None, Some, codes, decimal, map}
use Rattle.ds_marked.specs.Graph.{Graph}
use Rattle.ds_marked.specs.Log.{event_text, text_of_event}
use Rattle.ds_astg.specs.declared.fault.AstgKind.{AstgKind}
use Rattle.ds_astg.specs.declared.fault.AstgKind.TheVariants as astg
use Rattle.ds_accept.specs.declared.fault.AcceptFault.{AcceptFault}
use Rattle.ds_accept.specs.declared.fault.AcceptFault.TheVariants as accept
use Rattle.ds_stage.specs.FaultText.{with_blanks, too_many_text}

-- the fault of a line of a graph
abbrev pub astg_text : AstgKind → List ℕ
astg_text (astg.Unsupported word) = codes "unsupported command " ++ word
astg_text (astg.BadWord word) = codes "bad word " ++ word
astg_text (astg.Instance word) = codes "instance " ++ word
astg_text (astg.UnknownSignal word) = codes "unknown signal " ++ word
astg_text (astg.NotMarkedGraph place) = codes "not a marked graph: " ++ place
astg_text (astg.BadMarking word) = codes "bad marking " ++ word
astg_text (astg.TooMany limit) = too_many_text limit

-- how few tokens there are along a walk, where there is one
abbrev pub walk_text : Option ℕ → List ℕ
walk_text None = codes " (no walk)"
walk_text (Some sum) = codes " (least walk " ++ decimal sum ++ codes ")"

-- the fault of a graph that is not accepted, its events as they stand in it; want of memory is none
abbrev pub accept_text : Graph → AcceptFault → Option (List ℕ)
accept_text g (accept.MissingEvent event) = Some (codes "missing event " ++ event_text event)
accept_text g (accept.MissingOrder from to tokens least numbers) =
    Some (codes "missing order " ++ text_of_event g from ++ codes " to " ++ text_of_event g to
    ++ codes " with " ++ decimal tokens ++ codes " tokens" ++ walk_text least)
accept_text g (accept.TokenFreeCycle events) =
    Some (codes "token-free cycle:" ++ with_blanks (map (text_of_event g) events))
accept_text g accept.Memory = None

-- this is the text of a fault; want of memory has none
abbrev pub IsAcceptText : Graph → AcceptFault → List ℕ → Type 0
IsAcceptText g fault text = accept_text g fault ≡ Some text
