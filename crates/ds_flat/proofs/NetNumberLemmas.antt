-- Numbers of nets.
use Rattle.std.proofs.Common.{◌≡◌, ℕ, suc, ◌+◌, ◌<◌, ◌≤◌, List, [], ◌∷◌, ◌++◌, map, length}
use Rattle.std.proofs.Common.{sym, ap, ◌∙◌, inl, inr, arith, Option, None, Some, subst, length-append, get_or, drop, add-one, append_assoc}
use Rattle.std.proofs.Math.Seq.{drop-cons}
use Rattle.std.specs.Prelude.{slice_index_or}
use Rattle.std.proofs.lemmas.Bool.{cases_Bool}
use Rattle.ds_design.specs.declared.design.Net.{Net}
use Rattle.std.specs.Option.{option_map}
use Rattle.ds_design.specs.declared.blif.LatchText.{LatchText}
use Rattle.ds_flat.specs.declared.fault.NoNumber.{NoNumber}
use Rattle.ds_flat.specs.declared.fault.NoNumber.TheVariants.{TooManyNets, Memory}
use Rattle.ds_flat.specs.Net.{Scope, Numbered, has_net, number_of_net, with_net, net_of_name, numbered_nets, numbered_names}
use Rattle.ds_flat.specs.Command.{numbered_latch, latch_names}
use Rattle.ds_flat.specs.Keys.{IsNoNumber, numbered_behind}

-- nets are only added
pub length-with_net : (nets : List Net) (net : Net) → length nets ≤ length (with_net nets net)
length-with_net nets net = elim (cases_Bool (has_net nets net)) [
  | inl here ↦ rw here (omega arith)
  | inr other ↦ rw other (omega (arith, length-append nets (net ∷ [])))
]

pub length-numbered : (nets more : List Net) → length nets ≤ length (numbered_nets nets more).nets
length-numbered nets [] = omega arith
length-numbered nets (net ∷ more) = omega (
  arith,
  length-with_net nets net,
  length-numbered
      (with_net nets net) more,
)

-- a stop is one of more nets too
pub stop_grows : (stop : NoNumber) (nets more : List Net) → length nets ≤ length more
    → IsNoNumber stop nets → IsNoNumber stop more
stop_grows TooManyNets nets more longer is = omega arith
stop_grows Memory nets more longer is = tt

pub stop_names : (stop : NoNumber) (scope : Scope) (nets first : List Net) (numbers : List ℕ)
    (names rest all : List (List ℕ)) (name : List ℕ) → names ≡ name ∷ rest
    → numbered_behind numbers (numbered_names scope nets names) ≡ numbered_names scope first all
    → IsNoNumber stop (with_net nets (net_of_name scope name))
    → IsNoNumber stop (numbered_names scope first all).nets
stop_names stop scope nets first numbers names rest all name next so_far is =
    let longer = length-numbered (with_net nets (net_of_name scope name)) (map (net_of_name scope) rest) in
    let here : IsNoNumber stop (numbered_names scope nets (name ∷ rest)).nets =
    stop_grows stop _ _ longer is in
    let there : IsNoNumber stop (numbered_names scope nets names).nets =
    subst (λ (ns : List (List ℕ)). IsNoNumber stop (numbered_names scope nets ns).nets) (sym next)
    here in
    subst (λ (n : Numbered). IsNoNumber stop n.nets) so_far there

-- what stands from a place on
pub names_from : {X : Type 0} (names : List X) (i : ℕ) (name : X) → name ≡ get_or names i name
    → i < length names → drop i names ≡ name ∷ drop (i + 1) names
names_from {X} names i name is inside = rw (add-one, drop-cons names i name inside)
    (ap (λ (n : X). n ∷ drop (suc i) names) (sym is))

-- what stands from a word on
pub word_from : (names : List (List ℕ)) (i : ℕ) (name : List ℕ) → name ≡ slice_index_or names i []
    → i < length names → drop i names ≡ name ∷ drop (i + 1) names
word_from names i name is inside = rw (add-one, drop-cons names i [] inside)
    (ap (λ (n : List ℕ). n ∷ drop (suc i) names) (sym is))

-- one more name is numbered
pub step_names : (scope : Scope) (nets next : List Net) (numbers more : List ℕ) (found : ℕ)
    (name : List ℕ) (names rest : List (List ℕ)) (all : Numbered) → names ≡ name ∷ rest
    → numbered_behind numbers (numbered_names scope nets names) ≡ all
    → found ≡ number_of_net nets (net_of_name scope name) → next ≡ with_net nets (net_of_name scope name)
    → more ≡ numbers ++ found ∷ [] → numbered_behind more (numbered_names scope next rest) ≡ all
step_names scope nets next numbers more found name names rest all first so_far number added pushed =
    let r : Numbered = numbered_names scope (with_net nets (net_of_name scope name)) rest in
    let n : ℕ = number_of_net nets (net_of_name scope name) in
    rw (pushed, added, number)
    (ap (λ (ns : List ℕ). record { numbers = ns; nets = r.nets }) (append_assoc numbers (n ∷ [])
    r.numbers)
    ∙ (ap (λ (ns : List (List ℕ)). numbered_behind numbers (numbered_names scope nets ns)) (sym first)
    ∙ so_far))

-- the numbers of a latch, one after the other
pub latch_none_at : (scope : Scope) (nets : List Net) (text : LatchText) (one two : List Net)
    (data_net output : ℕ)
    → data_net ≡ number_of_net nets (net_of_name scope text.data_net)
    → one ≡ with_net nets (net_of_name scope text.data_net)
    → output ≡ number_of_net one (net_of_name scope text.output)
    → two ≡ with_net one (net_of_name scope text.output) → text.control ≡ None
    → record { data_net = data_net; output = output; control = None; nets = two }
    ≡ latch_names scope nets text
latch_none_at scope nets text one two data_net output d n1 o n2 is =
    rw (d, o, n2, n1) (ap (λ (c : Option (List ℕ)). numbered_latch nets
    (net_of_name scope text.data_net) (net_of_name scope text.output) (option_map (net_of_name scope) c)) (sym is))

pub latch_some_at : (scope : Scope) (nets : List Net) (text : LatchText) (name : List ℕ)
    (one two three : List Net) (data_net output control : ℕ)
    → data_net ≡ number_of_net nets (net_of_name scope text.data_net)
    → one ≡ with_net nets (net_of_name scope text.data_net)
    → output ≡ number_of_net one (net_of_name scope text.output)
    → two ≡ with_net one (net_of_name scope text.output)
    → control ≡ number_of_net two (net_of_name scope name) → three ≡ with_net two (net_of_name scope name)
    → text.control ≡ Some name
    → record { data_net = data_net; output = output; control = Some control; nets = three }
    ≡ latch_names scope nets text
latch_some_at scope nets text name one two three data_net output control d n1 o n2 c n3 is =
    rw (d, o, c, n3, n2, n1) (ap (λ (c : Option (List ℕ)). numbered_latch nets
    (net_of_name scope text.data_net) (net_of_name scope text.output) (option_map (net_of_name scope) c)) (sym is))

pub latch_grows : (nets : List Net) (data_key output_key : Net) (control : Option Net)
    → length (with_net (with_net nets data_key) output_key)
    ≤ length (numbered_latch nets data_key output_key control).nets
latch_grows nets data_key output_key None = omega arith
latch_grows nets data_key output_key (Some net) =
    length-with_net (with_net (with_net nets data_key) output_key) net
