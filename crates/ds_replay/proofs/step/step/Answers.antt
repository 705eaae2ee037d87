use Rattle.std.proofs.Common.{◌∙◌, ℕ, None, Some, map, sym, subst}
use Rattle.ds_fire.specs.Snapshot.{graph_of, limit_of, count_of}
use Rattle.ds_fire.specs.Fired.{IsFired}
use Rattle.ds_replay.proofs.Blocking.{bad_line, found_event, line_is, unknown_line}
use Rattle.ds_replay.proofs.step.step.Goals as goal

pub returns-in-Ok : goal.returns-in-Ok
returns-in-Ok c = let (fired, now_fired) = c.in-Ok.ensures in
    let now = c.args.state.now in
    let words = map (λ w. w.now) c.args.words.now in
    let (at, inside) = found_event (graph_of now) c.args.events.now words c.word-named.result.now c.in-Some-find.event c.requires c.word-named.ensures c.in-Some-find.ensures in (
      line_is (graph_of now) (limit_of now) (count_of now) words c.in-Some.turn c.in-Some-find.event None (sym c.turn_of.ensures ∙ c.in-Some.is) at inside fired,
      subst (λ (v : ℕ). IsFired now v c.fire.new.state) at now_fired,
    )

pub returns-in-Err : goal.returns-in-Err
returns-in-Err c =
    let now = c.args.state.now in
    let words = map (λ w. w.now) c.args.words.now in
    let (at, inside) = found_event (graph_of now) c.args.events.now words c.word-named.result.now c.in-Some-find.event c.requires c.word-named.ensures c.in-Some-find.ensures in
    line_is (graph_of now) (limit_of now) (count_of now) words c.in-Some.turn c.in-Some-find.event (Some c.in-Err.kind) (sym c.turn_of.ensures ∙ c.in-Some.is) at inside c.in-Err.ensures

pub returns-in_default : goal.returns-in_default
returns-in_default c =
    let now = c.args.state.now in
    bad_line (graph_of now) (limit_of now) (count_of now) (map (λ w. w.now) c.args.words.now) (sym c.turn_of.ensures ∙ c.in_default.is)

pub returns-in_default-find : goal.returns-in_default-find
returns-in_default-find c =
    let now = c.args.state.now in
    unknown_line (graph_of now) (limit_of now) (count_of now) c.args.events.now (map (λ w. w.now) c.args.words.now) c.word-named.result.now c.in-Some.turn
    c.in_ok-unknown.field-0 (sym c.turn_of.ensures ∙ c.in-Some.is) c.requires c.word-named.ensures c.in_default-find.ensures c.in_ok-unknown.ensures

pub fire-requires : goal.fire-requires
fire-requires c =
    (found_event (graph_of c.args.state.now) c.args.events.now (map (λ w. w.now) c.args.words.now) c.word-named.result.now c.in-Some-find.event
    c.requires c.word-named.ensures c.in-Some-find.ensures).1
