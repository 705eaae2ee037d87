-- A fault that says that models are recursive names a circle of them.
use Rattle.std.proofs.Common.{◌≡◌, ◌≢◌, ◌∙◌, ◌⊎◌, ℕ, zero, suc, ◌<◌, true, false, List, [], ◌∷◌, ◌++◌, length, get_or, Option, None, Some, Result, Ok, Err, refl, sym, ap, subst, inl, inr, arith, nat_lt}
use Rattle.std.specs.Prelude.{AllPairs, Contains}
use Rattle.std.specs.List.{list_any}
use Rattle.std.specs.Str.{bytes_eq}
use Rattle.std.proofs.lemmas.Bool.{cases_Bool}
use Rattle.std.proofs.lemmas.List.Elements.{Contains-append_right}
use Rattle.std.proofs.lemmas.List.Folds.{list_any-append}
use Rattle.std.proofs.lemmas.List.Quantifiers.{all_pairs_push}
use Rattle.std.proofs.lemmas.Slice.Eq.{bytes_eq-Decides}
use Rattle.ds_base.specs.Limit.{most_of}
use Rattle.ds_base.specs.declared.number.Limit.{Limit}
use Rattle.ds_base.specs.declared.number.Limit.TheVariants.{Copies}
use Rattle.ds_lines.specs.declared.at.At.{At}
use Rattle.ds_design.specs.declared.blif.BlifModel.{BlifModel}
use Rattle.ds_design.specs.declared.blif.Command.{Command}
use Rattle.ds_design.specs.declared.blif.UseText.{UseText}
use Rattle.ds_flat.specs.Command.{with_part}
use Rattle.ds_flat.specs.Net.{Scope}
use Rattle.ds_flat.specs.Copies.{Flat, Opened, ◌>>=◌, copy_unless, expand, main_copy, model_named, most_depth, next_copy, open_model, open_use, passed_limit, path_from, ports_of, take_all, take_command, unknown_formal, unless_passed, use_in}
use Rattle.ds_flat.specs.declared.fault.FlatKind.{FlatKind}
use Rattle.ds_flat.specs.declared.fault.FlatKind.TheVariants.{Recursive, TooMany, UnknownFormal, UnknownModel}
use Rattle.ds_flat.proofs.Uses.{named_name}
use Rattle.ds_text_laws.proofs.InCopies.{model_opened}
use Rattle.ds_text_laws.specs.FlatCircles.{AreCircle, IsUsedBy, IsUsedOn, RecursiveFaultsAreCircles, UseInTurn}

bytes_self : (name : List ℕ) → bytes_eq name name ≡ true
bytes_self name = (bytes_eq-Decides name name).1 refl

-- a name that no name of a path is
module _ (name : List ℕ) where
  abbrev IsNew : List (List ℕ) → Type 0
  IsNew path = list_any (bytes_eq name) path ≡ false

  new_at : (names : List (List ℕ)) → IsNew names → (k : ℕ) (d : List ℕ) → k < length names → get_or names k d ≢ name
  new_at [] new k d inside same = absurd (omega arith)
  new_at (other ∷ names) new zero d inside same =
      let e : bytes_eq name other ≡ true = subst (λ (n : List ℕ). bytes_eq name n ≡ true) (sym same) (bytes_self name) in
      absurd (let f : true ≡ false = rw e at new in cc)
  new_at (other ∷ names) new (suc k) d inside same = elim (cases_Bool (bytes_eq name other)) [
    | inl here ↦ absurd (let f : true ≡ false = rw here at new in cc)
    | inr apart ↦ new_at names (rw apart at new) k d (omega arith) same
  ]

  -- a part of a path has no other names
  new_from : (first : List ℕ) (path : List (List ℕ)) → IsNew path → IsNew (path_from first path)
  new_from first [] new = refl
  new_from first (other ∷ path) new = elim (cases_Bool (bytes_eq name other)) [
    | inl here ↦ absurd (let f : true ≡ false = rw here at new in cc)
    | inr apart ↦ elim (cases_Bool (bytes_eq first other)) [
      | inl found ↦ rw (found, apart) refl
      | inr behind ↦
          let front : IsNew (path_from first path) = new_from first path (rw apart at new) in
          rw behind (list_any-append (bytes_eq name) (path_from first path) (other ∷ []) ∙ rw (front, apart) refl)
    ]
  ]

-- what has a fault has it here, or in what comes next
pub fault_of_either : {A B : Type 0} (first : Result A (At FlatKind)) (next : A → Result B (At FlatKind)) (fault : At FlatKind) → (first >>= next) ≡ Err fault
    → (first ≡ Err fault) ⊎ ((a : A) × (first ≡ Ok a) × (next a ≡ Err fault))
fault_of_either (Ok a) next fault is = inr (a, refl, is)
fault_of_either (Err here) next fault is = let same : here ≡ fault = cc in inl (ap (λ (f : At FlatKind). Err f) same)

module _ (models : List BlifModel) where
  -- each model of a path is used by the next, and none is there twice; the nearest is first
  abbrev AreOpen : List (List ℕ) → Type 0
  AreOpen [] = Unit {0}
  AreOpen (name ∷ []) = Unit {0}
  AreOpen (used ∷ user ∷ path) = IsUsedBy models used user × IsNew used (user ∷ path) × AreOpen (user ∷ path)

  open_tail : (name : List ℕ) (path : List (List ℕ)) → AreOpen (name ∷ path) → AreOpen path
  open_tail name [] open_path = tt
  open_tail name (user ∷ path) open_path = open_path.2

  open_new : (name : List ℕ) (path : List (List ℕ)) → AreOpen (name ∷ path) → IsNew name path
  open_new name [] open_path = refl
  open_new name (user ∷ path) open_path = open_path.1

  -- one model more in turn
  turn_more : (user : List ℕ) (names : List (List ℕ)) (line : ℕ) (name : List ℕ) (next : ℕ) (used : List ℕ)
      → UseInTurn models user names line name → IsUsedOn models next used name → UseInTurn models user (names ++ name ∷ []) next used
  turn_more user [] line name next used turn is = ((line, turn), is)
  turn_more user (other ∷ names) line name next used turn is = (turn.0, turn_more other names line name next used turn.1 is)

  -- the part of a path from a model on begins with it, and leads to the nearest
  record Leads (name nearest : List ℕ) (path : List (List ℕ)) : Type 0 where
    others : List (List ℕ)
    is : path_from name path ≡ name ∷ others
    turn : (line : ℕ) (used : List ℕ) → IsUsedOn models line used nearest → UseInTurn models name others line used

  lead_here : (name nearest : List ℕ) (path : List (List ℕ)) → bytes_eq name nearest ≡ true → Leads name nearest (nearest ∷ path)
  lead_here name nearest path here =
      let same : name ≡ nearest = (bytes_eq-Decides name nearest).0 here in
      record {
        others = [];
        is = rw here (ap (λ (n : List ℕ). n ∷ []) (sym same));
        turn = λ line used is. subst (λ (n : List ℕ). IsUsedOn models line used n) (sym same) is;
      }

  lead_behind : (name nearest user : List ℕ) (path : List (List ℕ)) → IsUsedBy models nearest user → bytes_eq name nearest ≡ false
      → Leads name user (user ∷ path) → Leads name nearest (nearest ∷ user ∷ path)
  lead_behind name nearest user path (line, by) behind rest = record {
    others = rest.others ++ nearest ∷ [];
    is = rw behind (ap (λ (ns : List (List ℕ)). ns ++ nearest ∷ []) rest.is);
    turn = λ next used is. turn_more name rest.others line nearest next used (rest.turn line nearest by) is;
  }

  leads : (name nearest : List ℕ) (path : List (List ℕ)) → AreOpen (nearest ∷ path) → list_any (bytes_eq name) (nearest ∷ path) ≡ true
      → Leads name nearest (nearest ∷ path)
  leads name nearest [] open_path there = elim (cases_Bool (bytes_eq name nearest)) [
    | inl here ↦ lead_here name nearest [] here
    | inr behind ↦ absurd (let e : false ≡ true = rw behind at there in cc)
  ]
  leads name nearest (user ∷ path) open_path there = elim (cases_Bool (bytes_eq name nearest)) [
    | inl here ↦ lead_here name nearest (user ∷ path) here
    | inr behind ↦ lead_behind name nearest user path open_path.0 behind (leads name user path open_path.2 (rw behind at there))
  ]

  -- the part of a path has no model twice
  part_once : (name : List ℕ) (path : List (List ℕ)) → AreOpen path → AllPairs (λ one other. one ≢ other) (path_from name path)
  part_once name [] open_path = λ i j d below inside. absurd (omega arith)
  part_once name (nearest ∷ path) open_path = elim (cases_Bool (bytes_eq name nearest)) [
    | inl here ↦ rw here (λ i j d below inside. absurd (omega arith))
    | inr behind ↦ rw behind (all_pairs_push (λ one other. one ≢ other) (path_from name path) nearest (part_once name path (open_tail nearest path open_path))
        (new_at nearest (path_from name path) (new_from nearest name path (open_new nearest path open_path))))
  ]

  circle : (names : List (List ℕ)) (line : ℕ) (name nearest : List ℕ) (path : List (List ℕ)) → names ≡ path_from name (nearest ∷ path)
      → AreOpen (nearest ∷ path) → list_any (bytes_eq name) (nearest ∷ path) ≡ true → IsUsedOn models line name nearest
      → AreCircle models line names
  circle names line name nearest path is open_path there used =
      let lead : Leads name nearest (nearest ∷ path) = leads name nearest path open_path there in
      let same : name ∷ lead.others ≡ names = sym lead.is ∙ sym is in
      let once : AllPairs (λ one other. one ≢ other) (name ∷ lead.others) =
      subst (λ (ns : List (List ℕ)). AllPairs (λ one other. one ≢ other) ns) lead.is (part_once name (nearest ∷ path) open_path) in
      subst (λ (ns : List (List ℕ)). AreCircle models line ns) same (lead.turn line name used, once)

  -- a copy that is being taken: the models of its path, and those of its commands that are left
  record IsOpenCopy (path : List (List ℕ)) (commands : List Command) : Type 0 where
    nearest : List ℕ
    others : List (List ℕ)
    is : path ≡ nearest ∷ others
    are_open : AreOpen (nearest ∷ others)
    model : BlifModel
    named : model_named models nearest ≡ Some model
    within : (command : Command) → Contains commands command → Contains model.commands command

  open_next : (path : List (List ℕ)) (command : Command) (commands : List Command) → IsOpenCopy path (command ∷ commands) → IsOpenCopy path commands
  open_next path command commands copy = record {
    nearest = copy.nearest;
    others = copy.others;
    is = copy.is;
    are_open = copy.are_open;
    model = copy.model;
    named = copy.named;
    within = λ other inside. copy.within other (Contains-append_right (command ∷ []) commands other inside);
  }

  -- its first command is a use by the nearest model
  first_used : (path : List (List ℕ)) (command : Command) (commands : List Command) (copy : IsOpenCopy path (command ∷ commands)) (call : UseText)
      → use_in command.part ≡ Some call → IsUsedOn models command.line call.model copy.nearest
  first_used path command commands copy call is_use = record {
    model = copy.model;
    named = copy.named;
    command = command;
    inside = copy.within command (0, omega arith, refl);
    on_line = refl;
    call = call;
    is_use = is_use;
    of = refl;
  }

  -- the copy that a use opens
  open_copy : (path : List (List ℕ)) (commands : List Command) (copy : IsOpenCopy path commands) (line : ℕ) (name : List ℕ) (model : BlifModel)
      → IsUsedOn models line name copy.nearest → model_named models name ≡ Some model → IsNew name path → IsOpenCopy (model.name ∷ path) model.commands
  open_copy path commands copy line name model used named new =
      let same : name ≡ model.name = sym (named_name models name model named) in
      let by : IsUsedBy models model.name copy.nearest = subst (λ (n : List ℕ). IsUsedBy models n copy.nearest) same (line, used) in
      let fresh : IsNew model.name (copy.nearest ∷ copy.others) =
      subst (λ (n : List ℕ). IsNew n (copy.nearest ∷ copy.others)) same (subst (λ (p : List (List ℕ)). IsNew name p) copy.is new) in
      record {
        nearest = model.name;
        others = copy.nearest ∷ copy.others;
        is = ap (λ (p : List (List ℕ)). model.name ∷ p) copy.is;
        are_open = (by, fresh, copy.are_open);
        model = model;
        named = subst (λ (n : List ℕ). model_named models n ≡ Some model) same named;
        within = λ command inside. inside;
      }

  -- what a fault shows
  abbrev ShowsCircle : At FlatKind → Type 0
  ShowsCircle fault = (names : List (List ℕ)) → fault.kind ≡ Recursive names → AreCircle models fault.line names

  limit_shows : {A : Type 0} (limit : Option Limit) (line : ℕ) (value : A) (fault : At FlatKind) → unless_passed limit line value ≡ Err fault → ShowsCircle fault
  limit_shows None line value fault is names kind = absurd (cc)
  limit_shows (Some limit) line value fault is names kind =
      let same : record { line = line; kind = TooMany limit } ≡ fault = cc in
      absurd (let e : TooMany limit ≡ Recursive names = ap (λ (f : At FlatKind). f.kind) same ∙ kind in cc)

  formal_shows : (formal : Option (List ℕ)) (line : ℕ) (opened : Opened) (fault : At FlatKind) → copy_unless formal line opened ≡ Err fault → ShowsCircle fault
  formal_shows None line opened fault is names kind = limit_shows (passed_limit opened.flat.design) line opened fault is names kind
  formal_shows (Some formal) line opened fault is names kind =
      let same : record { line = line; kind = UnknownFormal formal } ≡ fault = cc in
      absurd (let e : UnknownFormal formal ≡ Recursive names = ap (λ (f : At FlatKind). f.kind) same ∙ kind in cc)

  -- the path of a use, as the fault names it
  path_shows : (path : List (List ℕ)) (commands : List Command) (copy : IsOpenCopy path commands) (line : ℕ) (name : List ℕ) (fault : At FlatKind)
      → IsUsedOn models line name copy.nearest → list_any (bytes_eq name) path ≡ true → fault ≡ record { line = line; kind = Recursive (path_from name path) } → ShowsCircle fault
  path_shows path commands copy line name fault used there is names kind =
      let at : line ≡ fault.line = ap (λ (f : At FlatKind). f.line) (sym is) in
      let both : Recursive names ≡ Recursive (path_from name path) = sym kind ∙ ap (λ (f : At FlatKind). f.kind) is in
      let same : names ≡ path_from name path = cc in
      subst (λ (l : ℕ). AreCircle models l names) at
      (circle names line name copy.nearest copy.others (same ∙ ap (path_from name) copy.is) copy.are_open
      (subst (λ (p : List (List ℕ)). list_any (bytes_eq name) p ≡ true) copy.is there) used)

  -- what a use that is refused shows
  use_shows : (path : List (List ℕ)) (commands : List Command) (copy : IsOpenCopy path commands) (scope : Scope) (line : ℕ) (call : UseText) (flat : Flat) (named : Option BlifModel) (fault : At FlatKind)
      → IsUsedOn models line call.model copy.nearest → open_model path scope line call flat named ≡ Err fault → ShowsCircle fault
  use_shows path commands copy scope line call flat None fault used is names kind =
      let same : record { line = line; kind = UnknownModel call.model } ≡ fault = cc in
      absurd (let e : UnknownModel call.model ≡ Recursive names = ap (λ (f : At FlatKind). f.kind) same ∙ kind in cc)
  use_shows path commands copy scope line call flat (Some model) fault used is names kind = elim (cases_Bool (list_any (bytes_eq call.model) path)) [
    | inl there ↦
        let given : Err (record { line = line; kind = Recursive (path_from call.model path) }) ≡ Err fault = rw there at is in
        let same : record { line = line; kind = Recursive (path_from call.model path) } ≡ fault = cc in
        path_shows path commands copy line call.model fault used there (sym same) names kind
    | inr new ↦ elim (cases_Bool (nat_lt flat.copies (most_of Copies))) [
      | inl few ↦ formal_shows (unknown_formal (ports_of model.commands) call.pairs) line (next_copy path scope call model flat) fault (rw (new, few) at is) names kind
      | inr many ↦ limit_shows {A = Opened} (Some Copies) line (next_copy path scope call model flat) fault (rw (new, many) at is) names kind
    ]
  ]

  -- the model of a use that is opened is not being copied
  opened_new : (path : List (List ℕ)) (scope : Scope) (line : ℕ) (call : UseText) (flat : Flat) (named : Option BlifModel) (opened : Opened)
      → open_model path scope line call flat named ≡ Ok opened → IsNew call.model path
  opened_new path scope line call flat None opened is = absurd (cc)
  opened_new path scope line call flat (Some model) opened is = elim (cases_Bool (list_any (bytes_eq call.model) path)) [
    | inl there ↦ absurd (let e = rw there at is in cc)
    | inr new ↦ new
  ]

  -- each copy shows a circle where its fault is that models are recursive
  abbrev ShowCircles : (Opened → Result Flat (At FlatKind)) → Type 0
  ShowCircles callee = (opened : Opened) (fault : At FlatKind) → IsOpenCopy opened.frame.path opened.frame.commands → callee opened ≡ Err fault → ShowsCircle fault

  module _ (callee : Opened → Result Flat (At FlatKind)) (show : ShowCircles callee) (path : List (List ℕ)) (scope : Scope) where
    command_shows : (command : Command) (commands : List Command) (call : Option UseText) (flat : Flat) (fault : At FlatKind) → use_in command.part ≡ call
        → IsOpenCopy path (command ∷ commands) → take_command callee models path scope command call flat ≡ Err fault → ShowsCircle fault
    command_shows command commands None flat fault is_use copy is =
        let next = with_part scope command.line command.part flat.design in
        limit_shows {A = Flat} (passed_limit next) command.line (record { copies = flat.copies; design = next }) fault is
    command_shows command commands (Some call) flat fault is_use copy is =
        let used : IsUsedOn models command.line call.model copy.nearest = first_used path command commands copy call is_use in
        elim (fault_of_either (open_use models path scope command.line call flat) callee fault is) [
          | inl here ↦ use_shows path (command ∷ commands) copy scope command.line call flat (model_named models call.model) fault used here
          | inr behind ↦
              let (opened, is_open, is_behind) = behind in
              let (model, named, is_next) = model_opened path scope command.line call flat (model_named models call.model) opened is_open in
              let next : Opened = next_copy path scope call model flat in
              let new : IsNew call.model path = opened_new path scope command.line call flat (model_named models call.model) opened is_open in
              show next fault (open_copy path (command ∷ commands) copy command.line call.model model used named new)
              (subst (λ (o : Opened). callee o ≡ Err fault) is_next is_behind)
        ]

    all_show : (commands : List Command) (flat : Flat) (fault : At FlatKind) → IsOpenCopy path commands
        → take_all callee models path scope commands flat ≡ Err fault → ShowsCircle fault
    all_show [] flat fault copy is = absurd (cc)
    all_show (command ∷ commands) flat fault copy is =
        elim (fault_of_either (take_command callee models path scope command (use_in command.part) flat) (take_all callee models path scope commands) fault is) [
          | inl here ↦ command_shows command commands (use_in command.part) flat fault refl copy here
          | inr behind ↦ let (next, before, later) = behind in all_show commands next fault (open_next path command commands copy) later
        ]

  copies_show : (depth : ℕ) → ShowCircles (expand depth models)
  copies_show zero opened fault copy is = limit_shows {A = Flat} (Some Copies) 0 opened.flat fault is
  copies_show (suc depth) opened fault copy is =
      all_show (expand depth models) (copies_show depth) opened.frame.path opened.frame.scope opened.frame.commands opened.flat fault copy is

-- the main model is found by its name
main_open : (main : BlifModel) (models : List BlifModel) → IsOpenCopy (main ∷ models) (main.name ∷ []) main.commands
main_open main models = record {
  nearest = main.name;
  others = [];
  is = refl;
  are_open = tt;
  model = main;
  named = rw (bytes_self main.name) refl;
  within = λ command inside. inside;
}

-- the models that such a fault names are a circle
pub recursive_faults_are_circles_lem : RecursiveFaultsAreCircles
recursive_faults_are_circles_lem [] fault names is kind = absurd (cc)
recursive_faults_are_circles_lem (main ∷ models) fault names is kind =
    elim (fault_of_either (expand most_depth (main ∷ models) (main_copy main)) (λ (flat : Flat). Ok flat.design) fault is) [
      | inl here ↦ copies_show (main ∷ models) most_depth (main_copy main) fault (main_open main models) here names kind
      | inr behind ↦ absurd (let later = behind.2 in cc)
    ]
