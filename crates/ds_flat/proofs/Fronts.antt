-- Lists that grow turn by turn, beside the front or the rest of another.
use Rattle.std.proofs.Common.{◌≡◌, ℕ, ◌+◌, ◌<◌, ◌≤◌, Bool, false, List, [], ◌∷◌, ◌++◌, take, drop, length, get_or}
use Rattle.std.proofs.Common.{sym, ap, ◌∙◌, if◌then◌else◌, true}
use Rattle.std.proofs.lemmas.List.{take_more, drop_all, append_assoc, append-nil}
use Rattle.ds_design.specs.declared.blif.Command.{Command}
use Rattle.ds_flat.specs.Bare.{adds_nothing, needed}
use Rattle.ds_flat.specs.Copies.{ports_in}
use Rattle.ds_flat.specs.Interface.{with_names, with_ports_of}
use Rattle.ds_flat.proofs.NetNumberLemmas.{names_from}

-- the front with one more item
pub front_more : {X : Type 0} (xs : List X) (i : ℕ) (x y : X) (all more : List X) → i < length xs
    → x ≡ get_or xs i x → y ≡ x → all ≡ take i xs → more ≡ all ++ y ∷ []
    → more ≡ take (i + 1) xs
front_more {X} xs i x y all more inside at same so_far pushed =
    pushed ∙ (ap (λ (front : List X). front ++ y ∷ []) so_far
    ∙ (ap (λ (z : X). take i xs ++ z ∷ []) (same ∙ at) ∙ sym (take_more xs i x inside)))

module _ (commands : List Command) (i : ℕ) (command : Command) (all meant : List Command)
    (at : command ≡ get_or commands i command) (inside : i < length commands)
    (so_far : all ++ needed (drop i commands) ≡ meant) where
  -- what is needed of a command and those behind it
  abbrev needed_with : Bool → List Command
  needed_with nothing = if nothing then needed (drop (i + 1) commands)
      else command ∷ needed (drop (i + 1) commands)

  needed-from : (nothing : Bool) → adds_nothing command.part ≡ nothing
      → needed (drop i commands) ≡ needed_with nothing
  needed-from nothing is = ap needed (names_from commands i command at inside) ∙ ap needed_with is

  -- a command that adds something is kept
  pub needed_kept : (more : List Command) → adds_nothing command.part ≡ false
      → more ≡ all ++ command ∷ [] → more ++ needed (drop (i + 1) commands) ≡ meant
  needed_kept more adds pushed =
      ap (λ (cs : List Command). cs ++ needed (drop (i + 1) commands)) pushed
      ∙ (append_assoc all (command ∷ []) (needed (drop (i + 1) commands))
      ∙ (ap (λ (cs : List Command). all ++ cs) (sym (needed-from false adds)) ∙ so_far))

  -- a command that adds nothing is left out
  pub needed_left : (more : List Command) → adds_nothing command.part ≡ true → more ≡ all
      → more ++ needed (drop (i + 1) commands) ≡ meant
  needed_left more nothing same =
      ap (λ (cs : List Command). cs ++ needed (drop (i + 1) commands)) same
      ∙ (ap (λ (cs : List Command). all ++ cs) (sym (needed-from true nothing)) ∙ so_far)

-- behind the last command all that are needed are there
pub needed_all : (commands : List Command) (i : ℕ) (all meant : List Command) → length commands ≤ i
    → all ++ needed (drop i commands) ≡ meant → all ≡ meant
needed_all commands i all meant past so_far =
    sym (append-nil all)
    ∙ (ap (λ (cs : List Command). all ++ needed cs) (sym (drop_all i commands past)) ∙ so_far)

-- the names of one more command are there
pub ports_step : (commands : List Command) (i : ℕ) (command taken : Command)
    (ports more meant : List (List ℕ)) → command ≡ get_or commands i command
    → i < length commands → taken ≡ command → with_ports_of ports (drop i commands) ≡ meant
    → more ≡ with_names ports (ports_in taken.part)
    → with_ports_of more (drop (i + 1) commands) ≡ meant
ports_step commands i command taken ports more meant at inside same so_far added =
    ap (λ (names : List (List ℕ)). with_ports_of names (drop (i + 1) commands))
    (added ∙ ap (λ (c : Command). with_names ports (ports_in c.part)) same)
    ∙ (ap (with_ports_of ports) (sym (names_from commands i command at inside)) ∙ so_far)

-- behind the last command the names of all are there
pub ports_all : (commands : List Command) (i : ℕ) (ports meant : List (List ℕ))
    → length commands ≤ i → with_ports_of ports (drop i commands) ≡ meant → ports ≡ meant
ports_all commands i ports meant past so_far =
    ap (with_ports_of ports) (sym (drop_all i commands past)) ∙ so_far
