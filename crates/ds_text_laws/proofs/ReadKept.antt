-- A graph that is read is kept: its arcs join its events and are in order, and no event stands twice.
use Rattle.std.proofs.Common.{◌≡◌, ◌≢◌, ◌⊎◌, ℕ, suc, ◌+◌, ◌<◌, ◌≤◌, ◌==◌, ◌||◌, Bool, true, false, not, List, [], ◌∷◌, ◌++◌, length, drop, map, Option, None, Some, Result, Ok, Err, nat_lt, ltb-true, if◌then◌else◌, refl, arith, inl, inr, sym, subst}
use Rattle.std.specs.Prelude.{All, AllPairs}
use Rattle.std.proofs.lemmas.Bool.{cases_Bool}
use Rattle.std.proofs.lemmas.List.{length-map}
use Rattle.std.proofs.lemmas.List.Elements.{All-cons}
use Rattle.ds_lines.specs.First.{unless_fault, behind_line}
use Rattle.ds_lines.specs.Words.{word_at}
use Rattle.ds_lines.specs.Line.{Line}
use Rattle.ds_lines.specs.Names.{has_name, with_name}
use Rattle.ds_lines.specs.declared.at.At.{At}
use Rattle.ds_marked.specs.Graph.{AreEnds, Graph, IsKept}
use Rattle.ds_marked.specs.declared.marked.Arc.{Arc}
use Rattle.ds_astg.specs.Line.{State, start, step, step_by, graph_head_of, may_declare, declare, declare_all, declaration_line, with_signals, with_places, with_marking, body_line, entries_line}
use Rattle.ds_astg.specs.Links.{graph_line}
use Rattle.ds_astg.specs.Marking.{entries_of, mark_all}
use Rattle.ds_astg.specs.Place.{Places}
use Rattle.ds_astg.specs.Read.{all_events, arc_of, end_of, ends, graph_from, graph_of_lines, graph_of_parts, in_order, lacking, stands_before, with_arc}
use Rattle.ds_astg.specs.Signals.{Declared, count_events, with_declared}
use Rattle.ds_astg.specs.Sound.{IsStateSound}
use Rattle.ds_astg.specs.declared.fault.AstgKind.{AstgKind}
use Rattle.ds_astg.specs.declared.head.Head.{Head}
use Rattle.ds_astg.specs.declared.head.Head.TheVariants.{Body, Model, Signals, Dummies, Graph as GraphPart, Marking, End, Unknown}
use Rattle.ds_astg.specs.declared.role.Role.{Role}
use Rattle.ds_astg.specs.declared.role.Role.TheVariants.{Signal, Dummy}
use Rattle.ds_astg.proofs.Declared.{distinct, length-new}
use Rattle.ds_astg.proofs.GraphOfText.{ends_are, events_count, events_distinct}
use Rattle.ds_astg.proofs.ArcOrder.{pairs_in_order}
use Rattle.ds_astg.proofs.DeclaredNames.{count_few}
use Rattle.ds_astg.proofs.Soundness.{one_value, then_was, all_stay, step_sound}

-- a choice that is a fault or a value
pub if_was : {A E : Type 0} (test : Bool) (x y : Result A E) (a : A) → (if test then x else y) ≡ Ok a → ((test ≡ true) × (x ≡ Ok a)) ⊎ ((test ≡ false) × (y ≡ Ok a))
if_was true x y a is = inl (refl, is)
if_was false x y a is = inr (refl, is)

-- the names that are declared are few, and each stands once
record AreFew (signals : Declared) : Type 0 where
  once : AllPairs (λ a b. a ≢ b) signals.names
  few : length signals.names ≤ 65536

declare_few : (role : Role) (ps : Places) (word : List ℕ) (signals more : Declared) → AreFew signals → declare role ps word signals ≡ Ok more → AreFew more
declare_few role ps word signals more are is = elim (if_was (not (may_declare role ps word signals)) _ _ more is) [
  | inl (bad, fault) ↦ absurd (cc)
  | inr (good, next) ↦ elim (if_was (has_name signals.names word) _ _ more next) [
    | inl (has, same) ↦ subst AreFew (one_value signals more same) are
    | inr (new, last) ↦ elim (if_was (nat_lt (length signals.names) 65536) _ _ more last) [
      | inl (room, same) ↦
          (let added : with_name signals.names word ≡ signals.names ++ word ∷ [] = rw new refl in
          subst AreFew (one_value (with_declared role word signals) more same) (record {
            once = subst (λ (names : List (List ℕ)). AllPairs (λ a b. a ≢ b) names) added (distinct word signals.names are.once);
            few = subst (λ (names : List (List ℕ)). length names ≤ 65536) added (length-new word signals.names (ltb-true _ _ room));
          }))
      | inr (full, fault) ↦ absurd (cc)
    ]
  ]
]

-- the names of a state
abbrev HasFew : State → Type 0
HasFew state = AreFew state.signals

declaration_few : (role : Role) (words : List (List ℕ)) (state next : State) → HasFew state → declaration_line role words state ≡ Ok next → HasFew next
declaration_few role words state next are is =
    let (signals, one, last) = then_was (declare_all role state.places (drop 1 words) state.signals) (λ signals. Ok (with_signals state signals)) next is in
    subst HasFew (one_value (with_signals state signals) next last)
    (all_stay AreFew (declare role state.places) (λ word s t p step. declare_few role state.places word s t p step) (drop 1 words) state.signals signals are one)

body_few : (line : ℕ) (words : List (List ℕ)) (state next : State) → HasFew state → body_line line words state ≡ Ok next → HasFew next
body_few line words state next are is = elim (if_was state.is_open _ _ next is) [
  | inl (open_part, step) ↦
      (let (places, one, last) = then_was (graph_line state.signals line words state.places) (λ places. Ok (with_places state places)) next step in
      subst HasFew (one_value (with_places state places) next last) are)
  | inr (closed_part, fault) ↦ absurd (cc)
]

entries_few : (word : List ℕ) (entries : Option (List (List ℕ))) (state next : State) → HasFew state → entries_line word entries state ≡ Ok next → HasFew next
entries_few word None state next are is = absurd (cc)
entries_few word (Some entries) state next are is =
    let (places, one, last) = then_was (mark_all state.signals entries state.places) (λ places. Ok (with_marking state places)) next is in
    subst HasFew (one_value (with_marking state places) next last) are

-- what was read keeps few names
step_few : (head : Head) (line : ℕ) (words : List (List ℕ)) (state next : State) → HasFew state → step_by head line words state ≡ Ok next → HasFew next
step_few Body line words state next are is = body_few line words state next are is
step_few Model line words state next are is = elim (if_was (state.is_named || not (length words == 2)) _ _ next is) [
  | inl (bad, fault) ↦ absurd (cc)
  | inr (good, same) ↦ subst HasFew (one_value _ next same) are
]
step_few Signals line words state next are is = declaration_few Signal words state next are is
step_few Dummies line words state next are is = declaration_few Dummy words state next are is
step_few GraphPart line words state next are is = subst HasFew (one_value _ next is) are
step_few Marking line words state next are is = elim (if_was state.is_marked _ _ next is) [
  | inl (marked, fault) ↦ absurd (cc)
  | inr (unmarked, step) ↦ entries_few (word_at words 0) (entries_of (drop 1 words)) state next are step
]
step_few End line words state next are is = subst HasFew (one_value state next is) are
step_few Unknown line words state next are is = absurd (cc)

-- what holds of each arc holds of each in order
all_with : (P : Arc → Type 0) (a : Arc) (arcs : List Arc) → P a → All P arcs → All P (with_arc a arcs)
all_with P a [] here all = All-cons P a [] here all
all_with P a (other ∷ arcs) here all = elim (cases_Bool (stands_before a other)) [
  | inl e ↦ rw e (All-cons P a (other ∷ arcs) here all)
  | inr e ↦ rw e (All-cons P other (with_arc a arcs) (all 0 other (omega arith)) (all_with P a arcs here (λ k d inside. all (suc k) d (omega (arith, inside)))))
]

all_in_order : (P : Arc → Type 0) (arcs : List Arc) → All P arcs → All P (in_order arcs)
all_in_order P [] all = all
all_in_order P (a ∷ arcs) all = all_with P a (in_order arcs) (all 0 a (omega arith)) (all_in_order P arcs (λ k d inside. all (suc k) d (omega (arith, inside))))

-- and there are as many
length_with : (a : Arc) (arcs : List Arc) → length (with_arc a arcs) ≡ length arcs + 1
length_with a [] = refl
length_with a (other ∷ arcs) = elim (cases_Bool (stands_before a other)) [
  | inl e ↦ rw e (omega arith)
  | inr e ↦ rw e (let h = length_with a arcs in omega (arith, h))
]

length_in_order : (arcs : List Arc) → length (in_order arcs) ≡ length arcs
length_in_order [] = refl
length_in_order (a ∷ arcs) = let h = length_with a (in_order arcs) in let g = length_in_order arcs in omega (arith, h, g)

-- where nothing is at fault, the graph of the parts is given
pub given_of : (fault : Option (At AstgKind)) (given g : Graph) → unless_fault fault given ≡ Ok g → (fault ≡ None) × (given ≡ g)
given_of None given g is = (refl, (cc))
given_of (Some fault) given g is = absurd (cc)

-- an arc joins events, of which there are so many
abbrev JoinsEvents : ℕ → Arc → Type 0
JoinsEvents events arc = (arc.source < events) × (arc.target < events)

-- the parts of a sound state, where no place lacks an end
parts_kept : (state : State) → IsStateSound state → HasFew state → lacking state.places.keys state.places.places ≡ None → IsKept (graph_of_parts state.signals state.places)
parts_kept state sound are whole =
    let arcs : List Arc = map arc_of state.places.places in
    let size : length (all_events state.signals.names state.signals.roles) ≡ count_events state.signals.roles = events_count state.signals.names state.signals.roles sound.each in
    let each_end : AreEnds (count_events state.signals.roles) arcs =
    ends_are (count_events state.signals.roles) state.places.keys state.places.places whole sound.places.each sound.places.ends in
    record {
      ends = all_in_order (JoinsEvents (length (all_events state.signals.names state.signals.roles))) arcs (subst (λ (n : ℕ). AreEnds n arcs) (sym size) each_end);
      sorted = pairs_in_order arcs;
      once = events_distinct state.signals.names state.signals.roles are.once;
      few_events = (let c = count_few state.signals.roles in let few = are.few in let each = sound.each in omega (arith, size, few, c, each));
      few_arcs = (let l = length_in_order arcs in let m = length-map state.places.places arc_of in let few = sound.places.few in let each = sound.places.each in omega (arith, l, m, few, each));
    }

end_kept : (state : State) (g : Graph) → IsStateSound state → HasFew state → end_of state ≡ Ok g → IsKept g
end_kept state g sound are is =
    let (whole, same) = given_of (lacking state.places.keys state.places.places) (graph_of_parts state.signals state.places) g is in
    subst IsKept same (parts_kept state sound are whole)

-- what goes on behind a line goes on behind one without a fault
pub behind_was : (line : ℕ) (r : Result State AstgKind) (rest : State → Result Graph (At AstgKind)) (g : Graph) → behind_line line r rest ≡ Ok g → (state : State) × (r ≡ Ok state) × (rest state ≡ Ok g)
behind_was line (Ok state) rest g is = (state, refl, is)
behind_was line (Err kind) rest g is = absurd (cc)

from_kept : (lines : List Line) (state : State) (g : Graph) → IsStateSound state → HasFew state → graph_from lines state ≡ Ok g → IsKept g
from_kept [] state g sound are is = end_kept state g sound are is
from_kept (line ∷ lines) state g sound are is = elim (if_was (ends (graph_head_of (word_at line.words 0))) _ _ g is) [
  | inl (last, done) ↦ end_kept state g sound are done
  | inr (more, next) ↦
      (let (state', one, rest) = behind_was line.number (step line state) (graph_from lines) g next in
      from_kept lines state' g
      (step_sound (graph_head_of (word_at line.words 0)) line.number line.words state state' sound one)
      (step_few (graph_head_of (word_at line.words 0)) line.number line.words state state' are one) rest)
]

-- before all lines
pub start_sound : IsStateSound start
start_sound = record {
  each = refl;
  places = record { each = refl; few = omega arith; ends = λ k d inside. absurd (omega arith) };
}

-- the graph of lines is kept
pub read_kept : (lines : List Line) (g : Graph) → graph_of_lines lines ≡ Ok g → IsKept g
read_kept lines g is =
    from_kept lines start g start_sound (record { once = λ i j d below inside. absurd (omega arith); few = omega arith }) is
