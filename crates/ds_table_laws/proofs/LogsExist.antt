-- Legal lists have logs.
use Rattle.std.proofs.Common.{◌≡◌, ℕ, ◌+◌, ◌<◌, List, [], ◌∷◌, ◌++◌, length, get_or, codes, decimal, Option, Some, refl, sym, subst}
use Rattle.std.specs.Prelude.{IsSomeAnd, slice_get}
use Rattle.std.specs.Option.{option_map_or}
use Rattle.std.proofs.lemmas.Option.{slice_get_read}
use Rattle.ds_base.proofs.ListLemmas.{get_or-self}
use Rattle.ds_marked.specs.Graph.{Graph, IsLegalFrom, counted}
use Rattle.ds_marked.specs.Log.{IsEventText, IsLogFrom, event_text, text_of_event}
use Rattle.ds_marked.specs.declared.marked.Event.{Event}
use Rattle.ds_marked.specs.declared.marked.Kind.TheVariants.{Dummy}
use Rattle.ds_table_laws.specs.Texts.{LogsExist}

-- an event that is there has its text
named : (o : Option Event) (e : Event) → o ≡ Some e → IsSomeAnd o (λ e. option_map_or event_text o [] ≡ event_text e)
named o e is = subst (λ (o : Option Event). IsSomeAnd o (λ e. option_map_or event_text o [] ≡ event_text e)) (sym is) refl

event_named : (g : Graph) (v : ℕ) → v < length g.events → IsEventText g v (text_of_event g v)
event_named g v inside =
    let none : Event = record { signal = []; kind = Dummy } in
    let e : Event = get_or g.events v none in
    named (slice_get g.events v) e (slice_get_read g.events (length g.events) v e refl inside (sym (get_or-self g.events v none inside)))

-- from these counts on, the lines of a legal list
log_from : (g : Graph) (turns : ℕ) (count : ℕ → ℕ) (events : List ℕ) → IsLegalFrom g turns count events → (log : List ℕ) × IsLogFrom g count events log
log_from g turns count [] legal = ([], refl)
log_from g turns count (v ∷ events) (enabled, legal) =
    let (rest, is) = log_from g turns (counted v count) events legal in (
      text_of_event g v ++ codes " " ++ decimal (count v + 1) ++ codes "\n" ++ rest,
      (text_of_event g v, rest, event_named g v enabled.event, is, refl),
    )

-- a legal list of firings has a log
pub logs_exist : LogsExist
logs_exist g turns events legal = log_from g turns (λ _. 0) events legal
