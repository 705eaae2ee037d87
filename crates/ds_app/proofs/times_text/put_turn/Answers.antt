use Rattle.std.proofs.Common.{◌≡◌, ◌∙◌, ◌<◌, ◌+◌, ◌++◌, ◌∷◌, ℕ, List, [], length, get_or, take, arith, ap, refl, sym, subst}
use Rattle.std.specs.Prelude.{All}
use Rattle.std.proofs.lemmas.List.{take_all, take_more}
use Rattle.std.specs.List.{flat_map}
use Rattle.ds_outside.proofs.Pens.{puts_nothing, puts_on, with_put}
use Rattle.ds_times.specs.Order.{firings_in}
use Rattle.ds_stage.specs.TimesStage.{time_line}
use Rattle.ds_app.proofs.TimesTexts.{event_more}
use Rattle.ds_app.proofs.times_text.put_turn.Goals as goal

-- an event of the order is one of the graph
inside : (order : List ℕ) (count i v : ℕ) → All (λ v. v < count) order → i < length order → v ≡ get_or order i v → v < count
inside order count i v all below at = subst (λ (u : ℕ). u < count) (sym at) (all i v below)

pub time-time-requires-clause-inside : goal.time-time-requires-clause-inside
time-time-requires-clause-inside g c =
    let below : c.loop-i.i < length c.args.order.now = omega arith in
    let low = inside c.args.order.now (length c.args.plan.now.graph.events) c.loop-i.i c.index-order-i.result c.requires.order below c.index-order-i.is in
    omega (arith, low, c.requires.events)

pub put_time-requires : goal.put_time-requires
put_time-requires g c =
    let below : c.loop-i.i < length c.args.order.now = omega arith in
    inside c.args.order.now (length c.args.plan.now.graph.events) c.loop-i.i c.index-order-i.result c.requires.order below c.index-order-i.is

pub loop-i-init : goal.loop-i-init
loop-i-init g c = record { same = refl; written = λ turns time low schedule. puts_nothing (g.P.Pen.writing c.args.pen.now) }

pub loop-i-preserved : goal.loop-i-preserved
loop-i-preserved g c =
    let order : List ℕ = c.args.order.now in
    let i : ℕ = c.loop-i.i in
    let v : ℕ = c.index-order-i.result in
    let below : c.loop-i.i < length c.args.order.now = omega arith in
    let more : take (c.loop-i.i + 1) c.args.order.now ≡ take c.loop-i.i c.args.order.now ++ c.index-order-i.result ∷ [] =
    take_more order i v below ∙ ap (λ (u : ℕ). take i order ++ u ∷ []) (sym c.index-order-i.is) in
    record {
      same = c.put_time.ensures.same ∙ c.loop-i.invariant.same;
      written = λ turns time low schedule.
          let at = c.time-time.ensures turns time (omega (arith, low, c.requires.begun.1)) schedule
          ∙ ap (time v) c.requires.begun.1 in
          with_put (event_more c.args.plan.now.graph time order c.args.turn i v c.time-time.result below more at)
          (puts_on (c.loop-i.invariant.written turns time low schedule) c.put_time.ensures);
    }

pub returns-clause-same : goal.returns-clause-same
returns-clause-same g c = c.loop-i.invariant.same

pub returns-clause-lines : goal.returns-clause-lines
returns-clause-lines g c turns time low schedule =
    with_put (ap (λ (vs : List ℕ). flat_map (time_line c.args.plan.now.graph time) (firings_in vs c.args.turn))
    (take_all c.loop-i.i c.args.order.now (omega arith)))
    (c.loop-i.invariant.written turns time low schedule)
