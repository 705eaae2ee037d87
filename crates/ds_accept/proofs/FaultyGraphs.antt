-- A graph with a fault is not acceptable.
use Rattle.std.proofs.Common.{◌≡◌, ℕ, ◌<◌, refl, subst, All}
use Rattle.ds_rank.specs.Rank.{HasFreeArc}
use Rattle.ds_marked.specs.Graph.{Graph}
use Rattle.ds_marked.specs.declared.marked.Arc.{Arc}
use Rattle.ds_latch.specs.Node.{Split}
use Rattle.ds_accept.specs.Accept.{IsAcceptable}
use Rattle.ds_accept.specs.Fault.{IsAcceptFault}
use Rattle.ds_accept.specs.declared.fault.AcceptFault.{AcceptFault}
use Rattle.ds_accept.specs.Laws.{AcceptFaultsAreRefused}
use Rattle.ds_accept.specs.declared.fault.AcceptFault.TheVariants.{MissingEvent, MissingOrder, TokenFreeCycle, Memory}
use Rattle.ds_rank.proofs.RankedEdges.{no_cycle}
use Rattle.ds_accept.proofs.SubsetLength.{some_event}

free_rises : (g : Graph) (rank : ℕ → ℕ) → All (λ arc. arc.tokens ≡ 0 → rank arc.source < rank arc.target) g.arcs
    → (u v : ℕ) → HasFreeArc g u v → rank u < rank v
free_rises g rank rises u v (k, arc, inside, is, (source, target, free)) =
    let up : arc.tokens ≡ 0 → rank arc.source < rank arc.target = subst (λ (a : Arc). a.tokens ≡ 0 → rank a.source < rank a.target) is (rises k arc inside) in
    rw (← source, ← target) (up free)

pub faults_are_refused_lem : AcceptFaultsAreRefused
faults_are_refused_lem s g (MissingEvent event) some (k, first, is) acc = first.without some_event (acc.there k some_event first.inside)
faults_are_refused_lem s g (MissingOrder from to tokens least numbers) some (there, first, shows) acc = first.lacks (acc.given first.u first.v tokens first.required)
faults_are_refused_lem s g (TokenFreeCycle events) some (there, given, cycle) acc =
    no_cycle (HasFreeArc g) acc.rank (free_rises g acc.rank acc.rises) events cycle
faults_are_refused_lem s g Memory some is acc = some refl

-- an acceptable graph has no fault, but memory may be wanted
pub memory_alone : (s : Split) (g : Graph) → IsAcceptable s g → (fault : AcceptFault) → IsAcceptFault s g fault → fault ≡ Memory
memory_alone s g acc (MissingEvent event) is = absurd (faults_are_refused_lem s g (MissingEvent event) (λ e. absurd (cc)) is acc)
memory_alone s g acc (MissingOrder from to tokens least numbers) is = absurd (faults_are_refused_lem s g (MissingOrder from to tokens least numbers) (λ e. absurd (cc)) is acc)
memory_alone s g acc (TokenFreeCycle events) is = absurd (faults_are_refused_lem s g (TokenFreeCycle events) (λ e. absurd (cc)) is acc)
memory_alone s g acc Memory is = refl
