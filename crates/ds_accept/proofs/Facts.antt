-- What is known of a graph once its events have places, and what follows.
use Rattle.std.proofs.Common.{◌≡◌, ◌≢◌, ℕ, ◌<◌, List, ◌++◌, length, get_or, map, sym, ◌∙◌, ap, subst, All, AllPairs, Result, Ok, Err, Some, slice_index}
use Rattle.std.specs.Prelude.{Contains, IsErr, IsErrAnd, MatchResult}
use Rattle.std.specs.List.{HoldsAt}
use Rattle.std.proofs.lemmas.List.{get_or-map, get_or_default, length-map}
use Rattle.std.proofs.lemmas.List.Elements.{All-contains, All-map}
use Rattle.ds_base.proofs.ListLemmas.{get_or-self}
use Rattle.ds_accept.specs.Given.{IsFirstUnmet, IsGiven}
use Rattle.ds_marked.specs.Graph.{Graph, AreEnds, IsKept}
use Rattle.ds_marked.specs.declared.marked.Arc.{Arc}
use Rattle.ds_marked.specs.declared.marked.Event.{Event}
use Rattle.ds_latch.specs.Node.{Split}
use Rattle.ds_latch.specs.Plan.{IsPlan, split_events}
use Rattle.ds_control.specs.Control.{AreOrders}
use Rattle.ds_accept.specs.Accept.{AreGiven, AreThere, EventStandsAt, extra_events, others_of}
use Rattle.ds_accept.specs.Fault.{IsAcceptFault, IsFirstMissing, IsFirstWithout}
use Rattle.ds_accept.specs.Steps.{AreAsked, AreEventPlaces, AreLeft, AreWalked, IsLacking, IsMoved, IsOrdered, IsUnmet, moved}
use Rattle.ds_accept.specs.declared.fault.AcceptFault.{AcceptFault}
use Rattle.ds_accept.specs.declared.fault.AcceptFault.TheVariants.{MissingEvent, MissingOrder, TokenFreeCycle, Memory}
use Rattle.ds_accept.proofs.Moved.{acceptable, given, missing, plan, reorders, there}

-- the ends of orders that are left have places
pub left_ends : (orders arcs left : List Arc) → AreLeft orders arcs left → (places : List ℕ) → AreEnds (length places) orders → AreEnds (length places) left
left_ends orders arcs left are places ends k d inside =
    All-contains (λ (x : Arc). (x.source < length places) × (x.target < length places)) orders (get_or left k d) ends (are.some k d inside)

-- what follows of the error that a call passes on
pub matched : {T E : Type 0} (P : T → Type 0) (Q R : E → Type 0) (r : Result T E) → IsErr r × IsErrAnd r R → ((e : E) → R e → Q e) → MatchResult r P Q
matched P Q R (Ok x) (_, is) so = absurd is
matched P Q R (Err e) (_, is) so = so e is

-- the graph of the required orders
pub record Facts (s : Split) (g required : Graph) : Type 0 where
  pub plan : IsPlan s required
  pub events : required.events ≡ split_events s
  pub orders : AreOrders s required
  pub kept : IsKept required × IsKept g

-- events that have places stand there
pub required_there : (required events : List Event) (places : List ℕ) → AreEventPlaces required events places → All (Contains events) required
required_there required events places are v d inside =
    (slice_index places v, are.inside v 0 (rw are.one_each inside), are.same v (get_or required v d) inside ∙ get_or-self required v d inside)

-- an event that lacks is a fault
pub lacking : (s : Split) (g required : Graph) → required.events ≡ split_events s → (fault : AcceptFault)
    → IsLacking required.events g.events fault → IsAcceptFault s g fault
lacking s g required events (MissingEvent event) (k, first, is) = (
  k,
  subst (λ (es : List Event). IsFirstWithout (Contains g.events) es k) events first,
  subst (λ (es : List Event). HoldsAt (λ e. e ≡ event) es k) events is,
)
lacking s g required events (MissingOrder from to tokens least numbers) is = absurd is
lacking s g required events (TokenFreeCycle cycle) is = absurd is
lacking s g required events Memory is = tt

module _ (s : Split) (g required : Graph) (f : Facts s g required) where
  once : AllPairs (λ a b. a ≢ b) (split_events s)
  once = subst (AllPairs (λ a b. a ≢ b)) f.events f.kept.0.once

  module _ (places : List ℕ) (are : AreEventPlaces required.events g.events places) where
    placed : (v : ℕ) → v < length (split_events s) → EventStandsAt s g v (slice_index places v)
    placed v low =
        let inside : v < length required.events = subst (λ (es : List Event). v < length es) (sym f.events) low in record {
          number = low;
          inside = are.inside v 0 (rw are.one_each inside);
          event = λ d. subst (λ (es : List Event). get_or g.events (slice_index places v) d ≡ get_or es v d) f.events (are.same v d inside);
        }

    ends : AreEnds (length (split_events s)) required.arcs
    ends = subst (λ (es : List Event). AreEnds (length es) required.arcs) f.events f.kept.0.ends

    module _ (to : Graph) (m : IsMoved g required.events to) (left : List Arc) (l : AreLeft required.arcs to.arcs left) where
      -- the places of the ends of orders that are left are events of the graph
      ends_there : AreEnds (length g.events) (map (moved (slice_index places)) left)
      ends_there = All-map (λ (arc : Arc). (arc.source < length g.events) × (arc.target < length g.events)) (moved (slice_index places)) left (λ k d inside.
          let both : ((get_or left k d).source < length places) × ((get_or left k d).target < length places) = left_ends required.arcs to.arcs left l places (rw are.one_each f.kept.0.ends) k d inside in
          (are.inside (get_or left k d).source 0 both.0, are.inside (get_or left k d).target 0 both.1))

      to_events : to.events ≡ split_events s ++ extra_events s g
      to_events = m.events ∙ ap (λ (es : List Event). es ++ others_of es g.events) f.events

      numbered : (p : ℕ) (d : Event) → p < length g.events
          → (slice_index m.numbers p < length to.events) × (get_or to.events (slice_index m.numbers p) d ≡ get_or g.events p d)
      numbered p d inside = (m.are.inside p 0 (rw m.are.one_each inside), m.are.same p d inside)

      all_there : AreThere s g
      all_there = there s g to (slice_index m.numbers) (slice_index places) f.kept.1 once numbered placed to_events m.arcs

      all_given : All (IsGiven g) (map (moved (slice_index places)) left) → AreGiven s g
      all_given = given s g to (slice_index m.numbers) (slice_index places) f.kept.1 once numbered placed to_events m.arcs required f.orders f.kept.0.sorted ends left l

      -- an order that no walk gives is a fault
      missing_at : (k from target tokens : ℕ) → IsFirstUnmet g (map (moved (slice_index places)) left) (Some k)
          → HoldsAt (λ (x : Arc). x ≡ record { source = from; target = target; tokens = tokens }) (map (moved (slice_index places)) left) k
          → IsFirstMissing s g from target tokens
      missing_at k from target tokens first is =
          let any : Arc = record { source = 0; target = 0; tokens = 0 } in
          let order : Arc = get_or left k any in
          let inside : k < length left = rw (length-map left (moved (slice_index places))) at first.0 in
          let own : order ≡ get_or left k order = get_or_default left k any order inside in
          let at : moved (slice_index places) order ≡ record { source = from; target = target; tokens = tokens } =
          sym (get_or-map (moved (slice_index places)) left k any any inside) ∙ is any in
          let shown : IsFirstMissing s g (slice_index places order.source) (slice_index places order.target) order.tokens =
          missing s g to (slice_index m.numbers) (slice_index places) f.kept.1 once numbered placed to_events m.arcs required f.orders f.kept.0.sorted ends left l k order own first in
          subst (λ (x : Arc). IsFirstMissing s g x.source x.target x.tokens) at shown

      -- what lacks walks, or turns, is a fault
      unmet_left : (fault : AcceptFault) → IsUnmet g (map (moved (slice_index places)) left) fault → IsAcceptFault s g fault
      unmet_left (MissingEvent event) is = absurd is
      unmet_left (MissingOrder from target tokens least numbers) (k, first, shows, is) = (all_there, missing_at k from target tokens first is, shows)
      unmet_left (TokenFreeCycle cycle) (all, is) = (all_there, all_given all, is)
      unmet_left Memory is = tt

      -- else the graph is accepted
      accepted_left : AreWalked g (map (moved (slice_index places)) left) → IsOrdered s g to
      accepted_left walked =
          let acc = acceptable s g to (slice_index m.numbers) (slice_index places) f.kept.1 once numbered placed to_events m.arcs (all_given walked.given) walked.ranks walked.are in record {
            acceptable = acc;
            events = to_events;
            reorders = reorders s g to (slice_index m.numbers) (slice_index places) f.kept.1 once numbered placed to_events m.arcs;
            plan = plan s g to (slice_index m.numbers) (slice_index places) f.kept.1 once numbered placed to_events m.arcs f.plan.split acc;
            kept = m.kept;
          }

    module _ (to : Graph) (m : IsMoved g required.events to) (asked : List Arc)
        (a : AreAsked required.arcs to.arcs (slice_index places) asked) where
      pub asked_ends : AreEnds (length g.events) asked
      asked_ends = subst (AreEnds (length g.events)) (sym a.moved) (ends_there to m a.left a.are)

      pub unmet : (fault : AcceptFault) → IsUnmet g asked fault → IsAcceptFault s g fault
      unmet fault is = unmet_left to m a.left a.are fault (subst (λ (xs : List Arc). IsUnmet g xs fault) a.moved is)

      pub accepted : AreWalked g asked → IsOrdered s g to
      accepted walked = accepted_left to m a.left a.are (subst (AreWalked g) a.moved walked)
