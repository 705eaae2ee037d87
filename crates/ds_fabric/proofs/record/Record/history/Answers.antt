use Rattle.std.proofs.Common.{◌<◌, ◌∙◌, [], ℕ, List, get_or, sym, refl, ap, arith, subst}
use Rattle.ds_rule.specs.Run.{Run}
use Rattle.ds_rule.specs.Sound.{IsSound}
use Rattle.ds_rule.specs.Rule.{tickets}
use Rattle.ds_rule.specs.declared.view.View.{View}
use Rattle.ds_fabric.specs.HistoryList.{list_room}
use Rattle.ds_fabric.specs.Showing.{Recorder, IsTold}
use Rattle.ds_fabric.specs.declared.histories.Histories.{Histories}
use Rattle.ds_fabric.specs.declared.history.History.{History}
use Rattle.ds_fabric.proofs.PassMemory.{reads}
use Rattle.ds_fabric.proofs.Finds.{indexed_same, stands_same, stands_below}
use Rattle.ds_fabric.proofs.RowReads.{tickets_most}
use Rattle.ds_fabric.proofs.record.Record.history.Goals as goal

pub find-at-requires-clause-indexed : goal.find-at-requires-clause-indexed
find-at-requires-clause-indexed c = let s : Histories = c.self.inside.histories in (
  c.self.inside.shown.value.view.run.nodes,
  c.self.inside.shown.value.room,
  indexed_same c.self.inside.shown.value.view.run.nodes c.self.inside.shown.value.room s.nodes.items
      c.as_slice-nodes.result.now s.places.items c.as_slice.result.now
      c.as_slice-nodes.ensures.value c.as_slice.ensures.value c.self.invariant.indexed,
)

pub find-at-requires-clause-there : goal.find-at-requires-clause-there
find-at-requires-clause-there c = let q = c.self.invariant in let l : ℕ = c.args.node in
    let near = subst (λ (x : Recorder). IsSound x.shown.view.run → l < x.shown.view.run.nodes)
    (sym c.self.view_is) c.requires q.sound in
    stands_same c.self.inside.histories.nodes.items c.as_slice-nodes.result.now l l
    c.as_slice-nodes.ensures.value refl (q.keeps.found l (q.all l near))

pub bounds-nodes-at : goal.bounds-nodes-at
bounds-nodes-at c = stands_below c.as_slice-nodes.result.now c.as_slice-nodes.result.now
    c.find-at.result c.args.node refl c.find-at.ensures

pub offset_bounds-nodes-at : goal.offset_bounds-nodes-at
offset_bounds-nodes-at c = omega (
  arith,
  stands_below c.as_slice-nodes.result.now c.as_slice-nodes.result.now c.find-at.result
      c.args.node refl c.find-at.ensures,
  c.as_slice-nodes.type_inv,
)

pub returns : goal.returns
returns c = let q = c.self.invariant in let v : View = c.self.inside.shown.value.view in
    let s : Histories = c.self.inside.histories in let h : History = c.index-nodes-at.result in
    let run : Run = v.run in let l : ℕ = c.args.node in let at : ℕ = c.find-at.result in
    let f = reads (v, []) s c.as_slice-nodes.result.now at l h c.as_slice-nodes.ensures.value
    q.keeps c.find-at.ensures
    (c.index-nodes-at.is
    ∙ ap (λ (xs : List History). get_or xs at h) c.as_slice-nodes.ensures.value) in
    subst (λ (x : Recorder). IsTold x.shown.view l h c.words.result.now) c.self.view_is
    (subst (λ (ws : List ℕ). IsTold v l h ws) (sym c.words.ensures) (record {
      node_is = f.node_is;
      room = list_room s h;
      tells = f.tells;
      counts = q.keeps.counts;
      sound = q.sound;
      most = λ e here. tickets_most run (tickets v) c.self.inside.many e q.recorded
          (omega (arith, here, f.near));
    }))
