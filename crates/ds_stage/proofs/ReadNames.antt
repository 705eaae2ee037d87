-- The events of a graph that is read are written as words, and no dummy's name ends in a sign.
use Rattle.std.proofs.Common.{◌≡◌, ◌⊎◌, ◌∙◌, ℕ, ◌+◌, ◌-◌, ◌==◌, ◌||◌, ◌&&◌, Bool, true, false, not, List, [], ◌∷◌, ◌++◌, length, get_or, drop, Option, None, Some, Result, Ok, Err, nat_lt, if◌then◌else◌, refl, arith, ap, inl, inr, sym, subst}
use Rattle.std.specs.Prelude.{All}
use Rattle.std.specs.List.{list_any, AllByRecursion}
use Rattle.std.specs.Str.{bytes_eq}
use Rattle.std.proofs.lemmas.Bool.{false≢true}
use Rattle.std.proofs.lemmas.List.{append-nil, length-append}
use Rattle.std.proofs.lemmas.List.Elements.{All-cons}
use Rattle.std.proofs.Math.Seq.{get_or-append_seam}
use Rattle.ds_lines.specs.First.{unless_fault, behind_line}
use Rattle.ds_lines.specs.Words.{word_at}
use Rattle.ds_lines.specs.Line.{Line}
use Rattle.ds_lines.specs.Print.{is_apart, IsWord}
use Rattle.ds_lines.proofs.ByteClasses.{without_both}
use Rattle.ds_marked.specs.Graph.{Graph}
use Rattle.ds_marked.specs.declared.marked.Event.{Event}
use Rattle.ds_marked.specs.declared.marked.Kind.TheVariants.{Rise, Fall, Dummy as DummyKind}
use Rattle.ds_astg.specs.Line.{State, start, step, step_by, graph_head_of, may_declare, declare, declare_all, declaration_line, with_signals, with_places, with_marking, body_line, entries_line}
use Rattle.ds_astg.specs.Links.{graph_line}
use Rattle.ds_astg.specs.Marking.{entries_of, mark_all}
use Rattle.ds_astg.specs.Place.{Places}
use Rattle.ds_astg.specs.Read.{all_events, end_of, ends, graph_from, graph_of_lines, graph_of_parts, lacking}
use Rattle.ds_astg.specs.Signals.{Declared, with_declared}
use Rattle.ds_astg.specs.Word.{has_reserved, has_slash, is_signal, is_signed, last_byte}
use Rattle.ds_lines.specs.declared.at.At.{At}
use Rattle.ds_astg.specs.declared.fault.AstgKind.{AstgKind}
use Rattle.ds_astg.specs.declared.head.Head.{Head}
use Rattle.ds_astg.specs.declared.head.Head.TheVariants.{Body, Model, Signals, Dummies, Graph as GraphPart, Marking, End, Unknown}
use Rattle.ds_astg.specs.declared.role.Role.{Role}
use Rattle.ds_astg.specs.declared.role.Role.TheVariants.{Signal, Dummy}
use Rattle.ds_astg.proofs.Soundness.{one_value, then_was}
use Rattle.ds_replay.specs.Legal.{EndsInSign}
use Rattle.ds_replay.proofs.EventWords.{IsSpelt, rise_signed, fall_signed}
use Rattle.ds_stage.proofs.LineWords.{HaveWords, both_all}

-- a choice that is a fault or a value
if_was : {A E : Type 0} (test : Bool) (x y : Result A E) (a : A) → (if test then x else y) ≡ Ok a → ((test ≡ true) × (x ≡ Ok a)) ⊎ ((test ≡ false) × (y ≡ Ok a))
if_was true x y a is = inl (refl, is)
if_was false x y a is = inr (refl, is)

-- a name is a word without a sign
record IsName (name : List ℕ) : Type 0 where
  word : IsWord name
  plain : is_signed name ≡ false

-- of three tests of which none holds, the last
last_fails : (a b c : Bool) → (not a && (not b && not c)) ≡ true → c ≡ false
last_fails true b c e = cc
last_fails false true c e = cc
last_fails false false true e = cc
last_fails false false false e = refl

-- of two tests that hold, the first
first_holds : (a b : Bool) → not (a && b) ≡ false → a ≡ true
first_holds true b e = refl
first_holds false b e = cc

-- names that are declared
abbrev AreNames : Declared → Type 0
AreNames signals = AllByRecursion IsName signals.names

declare_named : (role : Role) (ps : Places) (word : List ℕ) (signals more : Declared) → IsWord word → AreNames signals → declare role ps word signals ≡ Ok more → AreNames more
declare_named role ps word signals more is_word are is = elim (if_was (not (may_declare role ps word signals)) _ _ more is) [
  | inl (bad, fault) ↦ absurd (cc)
  | inr (good, next) ↦ elim (if_was (list_any (bytes_eq word) signals.names) _ _ more next) [
    | inl (has, same) ↦ subst AreNames (one_value signals more same) are
    | inr (new, last) ↦ elim (if_was (nat_lt (length signals.names) 65536) _ _ more last) [
      | inl (room, same) ↦
          (let plain : is_signed word ≡ false = last_fails (has_slash word) (has_reserved word) (is_signed word) (first_holds (is_signal word) _ good) in
          subst AreNames (one_value (with_declared role word signals) more same)
          (both_all IsName signals.names (word ∷ []) are (record { word = is_word; plain = plain }, tt)))
      | inr (full, fault) ↦ absurd (cc)
    ]
  ]
]

declare_all_named : (role : Role) (ps : Places) (words : List (List ℕ)) (signals more : Declared) → AllByRecursion IsWord words → AreNames signals
    → declare_all role ps words signals ≡ Ok more → AreNames more
declare_all_named role ps [] signals more are_words are is = subst AreNames (one_value signals more is) are
declare_all_named role ps (word ∷ words) signals more (is_word, are_words) are is =
    let (next, one, rest) = then_was (declare role ps word signals) (declare_all role ps words) more is in
    declare_all_named role ps words next more are_words (declare_named role ps word signals next is_word are one) rest

-- all words but the first
rest_are : (words : List (List ℕ)) → AllByRecursion IsWord words → AllByRecursion IsWord (drop 1 words)
rest_are [] are = tt
rest_are (word ∷ words) (is_word, are) = are

abbrev HasNames : State → Type 0
HasNames state = AreNames state.signals

declaration_named : (role : Role) (words : List (List ℕ)) (state next : State) → AllByRecursion IsWord words → HasNames state → declaration_line role words state ≡ Ok next → HasNames next
declaration_named role words state next are_words are is =
    let (signals, one, last) = then_was (declare_all role state.places (drop 1 words) state.signals) (λ signals. Ok (with_signals state signals)) next is in
    subst HasNames (one_value (with_signals state signals) next last)
    (declare_all_named role state.places (drop 1 words) state.signals signals (rest_are words are_words) are one)

body_named : (line : ℕ) (words : List (List ℕ)) (state next : State) → HasNames state → body_line line words state ≡ Ok next → HasNames next
body_named line words state next are is = elim (if_was state.is_open _ _ next is) [
  | inl (open_part, step) ↦
      (let (places, one, last) = then_was (graph_line state.signals line words state.places) (λ places. Ok (with_places state places)) next step in
      subst HasNames (one_value (with_places state places) next last) are)
  | inr (closed_part, fault) ↦ absurd (cc)
]

entries_named : (word : List ℕ) (entries : Option (List (List ℕ))) (state next : State) → HasNames state → entries_line word entries state ≡ Ok next → HasNames next
entries_named word None state next are is = absurd (cc)
entries_named word (Some entries) state next are is =
    let (places, one, last) = then_was (mark_all state.signals entries state.places) (λ places. Ok (with_marking state places)) next is in
    subst HasNames (one_value (with_marking state places) next last) are

-- what was read stays so
step_named : (head : Head) (line : ℕ) (words : List (List ℕ)) (state next : State) → AllByRecursion IsWord words → HasNames state → step_by head line words state ≡ Ok next → HasNames next
step_named Body line words state next are_words are is = body_named line words state next are is
step_named Model line words state next are_words are is = elim (if_was (state.is_named || not (length words == 2)) _ _ next is) [
  | inl (bad, fault) ↦ absurd (cc)
  | inr (good, same) ↦ subst HasNames (one_value _ next same) are
]
step_named Signals line words state next are_words are is = declaration_named Signal words state next are_words are is
step_named Dummies line words state next are_words are is = declaration_named Dummy words state next are_words are is
step_named GraphPart line words state next are_words are is = subst HasNames (one_value _ next is) are
step_named Marking line words state next are_words are is = elim (if_was state.is_marked _ _ next is) [
  | inl (marked, fault) ↦ absurd (cc)
  | inr (unmarked, step) ↦ entries_named (word_at words 0) (entries_of (drop 1 words)) state next are step
]
step_named End line words state next are_words are is = subst HasNames (one_value state next is) are
step_named Unknown line words state next are_words are is = absurd (cc)

-- a name that ends in a sign is signed
last_is : (front : List ℕ) (b : ℕ) → last_byte (front ++ b ∷ []) ≡ b
last_is front b =
    let long : length (front ++ b ∷ []) ≡ length front + 1 = length-append front (b ∷ []) in
    let at : length (front ++ b ∷ []) - 1 ≡ length front = omega (arith, long) in
    ap (λ (k : ℕ). get_or (front ++ b ∷ []) k 0) at ∙ get_or-append_seam front b [] 0

ends_signed : (name : List ℕ) → EndsInSign name → is_signed name ≡ true
unfolding is_signed
ends_signed name (front, inl is) =
    ap (λ (b : ℕ). (b == 43) || (b == 45)) (ap last_byte is ∙ last_is front 43)
ends_signed name (front, inr is) =
    ap (λ (b : ℕ). (b == 43) || (b == 45)) (ap last_byte is ∙ last_is front 45)

not_signed : (name : List ℕ) → is_signed name ≡ false → ¬ EndsInSign name
not_signed name plain ends_so = false≢true (sym plain ∙ ends_signed name ends_so)

-- so the events of names are written
events_spelt : (names : List (List ℕ)) (roles : List Role) → AllByRecursion IsName names → All IsSpelt (all_events names roles)
events_spelt [] roles are = λ k d inside. absurd (omega arith)
events_spelt (name ∷ names) [] are = λ k d inside. absurd (omega arith)
events_spelt (name ∷ names) (Signal ∷ roles) (is, are) =
    let rise : Event = record { signal = name; kind = Rise } in
    let fall : Event = record { signal = name; kind = Fall } in
    All-cons IsSpelt rise (fall ∷ all_events names roles) (without_both is_apart name (43 ∷ []) is.word refl, λ e. absurd (rise_signed e))
    (All-cons IsSpelt fall (all_events names roles) (without_both is_apart name (45 ∷ []) is.word refl, λ e. absurd (fall_signed e)) (events_spelt names roles are))
events_spelt (name ∷ names) (Dummy ∷ roles) (is, are) =
    let dummy : Event = record { signal = name; kind = DummyKind } in
    All-cons IsSpelt dummy (all_events names roles) (subst IsWord (sym (append-nil name)) is.word, λ e. not_signed name is.plain) (events_spelt names roles are)

-- where nothing is at fault, the graph of the parts is given
given_of : (fault : Option (At AstgKind)) (given g : Graph) → unless_fault fault given ≡ Ok g → given ≡ g
given_of None given g is = cc
given_of (Some fault) given g is = cc

end_spelt : (state : State) (g : Graph) → HasNames state → end_of state ≡ Ok g → All IsSpelt g.events
end_spelt state g are is =
    let same : graph_of_parts state.signals state.places ≡ g = given_of (lacking state.places.keys state.places.places) (graph_of_parts state.signals state.places) g is in
    subst (λ (h : Graph). All IsSpelt h.events) same (events_spelt state.signals.names state.signals.roles are)

-- what goes on behind a line goes on behind one without a fault
behind_was : (line : ℕ) (r : Result State AstgKind) (rest : State → Result Graph (At AstgKind)) (g : Graph) → behind_line line r rest ≡ Ok g → (state : State) × (r ≡ Ok state) × (rest state ≡ Ok g)
behind_was line (Ok state) rest g is = (state, refl, is)
behind_was line (Err kind) rest g is = absurd (cc)

from_spelt : (lines : List Line) (state : State) (g : Graph) → HaveWords lines → HasNames state → graph_from lines state ≡ Ok g → All IsSpelt g.events
from_spelt [] state g have are is = end_spelt state g are is
from_spelt (line ∷ lines) state g (words, have) are is = elim (if_was (ends (graph_head_of (word_at line.words 0))) _ _ g is) [
  | inl (last, done) ↦ end_spelt state g are done
  | inr (more, next) ↦
      (let (state', one, rest) = behind_was line.number (step line state) (graph_from lines) g next in
      from_spelt lines state' g have (step_named (graph_head_of (word_at line.words 0)) line.number line.words state state' words are one) rest)
]

pub graph_spelt : (lines : List Line) (g : Graph) → HaveWords lines → graph_of_lines lines ≡ Ok g → All IsSpelt g.events
graph_spelt lines g have is = from_spelt lines start g have tt is
