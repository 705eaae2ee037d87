-- The lines of firings, one by one.
use Rattle.std.proofs.Common.{◌≡◌, ◌∙◌, ℕ, ◌+◌, ◌<◌, ◌≤◌, List, [], ◌∷◌, ◌++◌, length, get_or, codes, decimal, Option, Some, refl, ap, sym, subst, arith, inl, inr}
use Rattle.std.specs.Prelude.{All, IsSomeAnd, slice_get, slice_index}
use Rattle.std.specs.Option.{option_map_or}
use Rattle.std.proofs.Math.ListN.{set}
use Rattle.std.proofs.lemmas.Bool.{cases_eq}
use Rattle.std.proofs.lemmas.List.{get_or-set_other, get_or-set_same, append-nil}
use Rattle.std.proofs.lemmas.List.Elements.{All-cons, All-nil}
use Rattle.std.proofs.lemmas.Option.{slice_get_read}
use Rattle.ds_base.proofs.ListLemmas.{get_or-self}
use Rattle.ds_marked.specs.Graph.{Graph, IsLegalFrom, counted, counts_after}
use Rattle.ds_marked.specs.declared.marked.Event.{Event}
use Rattle.ds_marked.specs.declared.marked.Kind.TheVariants.{Dummy}
use Rattle.ds_marked.proofs.CountLemmas.{counted-same, counted-other}
use Rattle.ds_marked.specs.Log.{IsEventText, IsLog, IsLogFrom, event_text, text_of_event}
use Rattle.ds_marked.proofs.LogWindows.{logs_in_windows}
use Rattle.ds_rows.specs.Log.{firing_text}

-- each event of a legal list is one of the graph
pub legal_events : (g : Graph) (limit : ℕ) (count : ℕ → ℕ) (events : List ℕ)
    → IsLegalFrom g limit count events → All (λ v. v < length g.events) events
legal_events g limit count [] legal = All-nil (λ v. v < length g.events)
legal_events g limit count (v ∷ events) (enabled, legal) =
    All-cons (λ u. u < length g.events) v events enabled.event
    (legal_events g limit (counted v count) events legal)

-- the counts after one firing more
pub counts_more : (count : ℕ → ℕ) (events : List ℕ) (v u : ℕ)
    → counts_after count (events ++ v ∷ []) u ≡ counted v (counts_after count events) u
counts_more count [] v u = refl
counts_more count (x ∷ events) v u = counts_more (counted x count) events v u

-- no event has fired more often than there were firings
counts_few : (count : ℕ → ℕ) (events : List ℕ) (u : ℕ)
    → counts_after count events u ≤ count u + length events
counts_few count [] u = omega arith
counts_few count (x ∷ events) u =
    let rest : counts_after (counted x count) events u ≤ counted x count u + length events =
    counts_few (counted x count) events u in
    elim (cases_eq u x) [
      | inl e ↦ omega (arith, counted-same x u count e)
      | inr ne ↦ omega (arith, counted-other x u count ne)
    ]

-- an event of the graph has its text
named : (o : Option Event) (e : Event) → o ≡ Some e
    → IsSomeAnd o (λ e. option_map_or event_text o [] ≡ event_text e)
named o e is = subst (λ (o : Option Event). IsSomeAnd o (λ e. option_map_or event_text o []
    ≡ event_text e)) (sym is) refl

event_named : (g : Graph) (v : ℕ) → v < length g.events → IsEventText g v (text_of_event g v)
event_named g v inside =
    let none : Event = record { signal = []; kind = Dummy } in
    let e : Event = get_or g.events v none in
    named (slice_get g.events v) e
    (slice_get_read g.events (length g.events) v e refl inside
    (sym (get_or-self g.events v none inside)))

-- the line of a firing is a log of one
one_firing : (g : Graph) (count : ℕ → ℕ) (v turn : ℕ) → v < length g.events → turn ≡ count v + 1
    → IsLogFrom g count (v ∷ []) (firing_text g v turn)
one_firing g count v turn inside is = (
  text_of_event g v,
  [],
  event_named g v inside,
  refl,
  ap (λ (n : ℕ). text_of_event g v ++ codes " " ++ decimal n ++ codes "\n") is
      ∙ sym (append-nil (text_of_event g v ++ codes " " ++ decimal (count v + 1) ++ codes "\n")),
)

-- one line more
pub log_more : (g : Graph) (events : List ℕ) (v turn : ℕ) (text : List ℕ) → v < length g.events
    → turn ≡ counts_after (λ _. 0) events v + 1
    → IsLog g events text → IsLog g (events ++ v ∷ []) (text ++ firing_text g v turn)
log_more g events v turn text inside is log =
    logs_in_windows g (λ _. 0) events (v ∷ []) text (firing_text g v turn) log
    (one_firing g (counts_after (λ _. 0) events) v turn inside is)

-- there is room for one firing more
pub counts_room : (events : List ℕ) (u : ℕ) → counts_after (λ _. 0) events u ≤ length events
counts_room events u = omega (arith, counts_few (λ _. 0) events u)

-- counts that show those of some firings show those of one more
pub counts_shown : (counts events more : List ℕ) (n v : ℕ) → length counts ≡ n → v < n
    → more ≡ events ++ v ∷ []
    → ((u : ℕ) → u < n → slice_index counts u ≡ counts_after (λ _. 0) events u)
    → (u : ℕ) → u < n → slice_index (set counts v (slice_index counts v + 1)) u
    ≡ counts_after (λ _. 0) more u
counts_shown counts events more n v long inside is shown u below =
    let next : counts_after (λ _. 0) more u ≡ counted v (counts_after (λ _. 0) events) u =
    ap (λ (es : List ℕ). counts_after (λ _. 0) es u) is ∙ counts_more (λ _. 0) events v u in
    elim (cases_eq u v) [
      | inl e ↦
          ap (λ (w : ℕ). slice_index (set counts v (slice_index counts v + 1)) w) e
          ∙ (get_or-set_same counts v (slice_index counts v + 1) 0 (omega arith)
          ∙ (ap (λ (k : ℕ). k + 1) (shown v inside)
          ∙ (ap (λ (w : ℕ). counts_after (λ _. 0) events w + 1) (sym e)
          ∙ (sym (counted-same v u (counts_after (λ _. 0) events) e) ∙ sym next))))
      | inr ne ↦
          get_or-set_other counts v u (slice_index counts v + 1) 0 ne
          ∙ (shown u below ∙ (sym (counted-other v u (counts_after (λ _. 0) events) ne) ∙ sym next))
    ]
