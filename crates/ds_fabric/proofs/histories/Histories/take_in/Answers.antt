use Rattle.std.proofs.Common.{◌≡◌, ◌≤◌, ◌∙◌, ◌++◌, ℕ, List, length, vec_capacity}
use Rattle.std.proofs.Common.{ap, subst, sym, arith}
use Rattle.ds_fabric.specs.declared.history.History.{History}
use Rattle.ds_fabric.specs.declared.buffers.Buffers.{Buffers}
use Rattle.ds_fabric.specs.Indexed.{IsIndexed, AreBelow}
use Rattle.ds_fabric.specs.Joined.{AreWidened}
use Rattle.ds_fabric.proofs.histories.Histories.take_in.Goals as goal

pub returns-clause-joined : goal.returns-clause-joined
returns-clause-joined c = let e = c.take_words.ensures in let a = c.in-Ok.ensures in record {
  nodes = ap (λ v. v.items) e.same.0 ∙ a.items;
  nodes_room = omega (arith, ap (λ v. vec_capacity v) e.same.0, a.capacity);
  apart = e.apart;
  kept = e.kept;
  taken = e.taken;
  buffers = subst (λ (b : Buffers). AreWidened b c.args.other.buffers c.widen.new.self) e.same.2
      c.widen.ensures;
}

pub returns-clause-indexed : goal.returns-clause-indexed
returns-clause-indexed c many room q =
    let e = c.take_words.ensures in
    let ns : List History = c.args.self.now.nodes.items in
    let os : List History = c.args.other.nodes.items in
    let zs : List History = c.as_slice.result.now in
    let ps : List ℕ = c.args.self.now.places.items in
    let qs : List ℕ = c.note_from.new.places.items in
    let both : zs ≡ ns ++ os = c.as_slice.ensures.value ∙ c.in-Ok.ensures.items in
    let first : length ns ≡ c.len-first.result = omega (arith, c.len-first.ensures) in
    let o = c.note_from.ensures many room
    (subst (λ (n : ℕ). IsIndexed many room n zs ps) first
    (subst (λ (l : List History). IsIndexed many room (length ns) l ps) (sym both) q.indexed))
    (subst (λ (l : List History). length l ≤ room) (sym both) q.within)
    (subst (λ (l : List History). AreBelow l many) (sym both) q.below) in
    let items : zs ≡ c.take_words.new.self.nodes.items = c.as_slice.ensures.value
    ∙ sym (ap (λ v. v.items) e.same.0) in
    let rs : List ℕ = c.take_words.new.self.places.items in
    subst (λ (l : List History). IsIndexed many room (length l) l rs)
    items (subst (λ (l : List ℕ). IsIndexed many room (length zs) zs l)
    (sym (ap (λ v. v.items) e.same.1)) o)
