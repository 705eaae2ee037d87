use Rattle.std.proofs.Common.{◌≡◌, ◌<◌, ◌+◌, ℕ, List, ap, arith, sym, refl, length, ◌∙◌, slice_index_or}
use Rattle.std.proofs.Common.{get_or, set, length-set}
use Rattle.atomic_table.proofs.Lists.{at_index}
use Rattle.ds_rule.proofs.GetElemLemmas.{at_below, at_get}
use Rattle.ds_rule.specs.Run.{Run}
use Rattle.ds_rule.specs.Sound.{IsSound, edge_at, read_words}
use Rattle.ds_rule.specs.Words.{width}
use Rattle.ds_rule.specs.declared.table_run.DataEdge.{DataEdge}
use Rattle.ds_rule.proofs.RowLaws.{reads-into, reads_up}
use Rattle.ds_fabric.proofs.Laying.{reads_next}
use Rattle.ds_fabric.proofs.EdgeRanges.{edge_read}
use Rattle.ds_fabric.proofs.build.reads.Given
use Rattle.ds_fabric.proofs.build.reads.Goals as goal
use Rattle.ds_fabric.proofs.build.reads.Goals.{After-index-edges-i, After-index_mut}

-- what is counted for the edge's consumer, before and after the edge
grown : (run : Run) (sound : IsSound run) (i k : ℕ) (ts : List ℕ) (was w : ℕ) → i < length run.edges
    → length ts ≡ run.nodes
    → ((x : ℕ) → x < run.nodes → get_or ts x 0 ≡ read_words run x i) → k ≡ (edge_at run i).consumer
    → k < run.nodes
    → was ≡ slice_index_or ts k was → w ≡ 1 + width run (edge_at run i).producer
    → (was ≡ get_or ts k 0) × (was + w < 9223372036854775808)
grown run sound i k ts was w h long old k-is near at wide =
    let was-is : was ≡ get_or ts k 0 = sym (at_get ts k was 0
    (at_index ts k was (omega arith) at)) in (
      was-is,
      omega (
        arith,
        was-is,
        old k near,
        wide,
        reads-into run k i (sym k-is),
        reads_up run k (i + 1) (length run.edges) (omega arith),
        sound.reads k,
      ),
    )

-- an edge alone counts no more than all of its consumer
edge_few : (run : Run) (sound : IsSound run) (i : ℕ) → i < length run.edges
    → 1 + width run (edge_at run i).producer < 9223372036854775808
edge_few run sound i h = let k : ℕ = (edge_at run i).consumer in omega (
  arith,
  reads-into run k i refl,
  reads_up run k (i + 1) (length run.edges) (omega arith),
  sound.reads k,
)

-- the edge that is read
record Edge (run : Run) (i : ℕ) (e : DataEdge) : Type 0 where
  near : i < length run.edges
  same : edge_at run i ≡ e
  from : e.producer < run.nodes
  into : e.consumer < run.nodes

edge_is : (g : Given.Over) (c : After-index-edges-i g)
    → Edge c.args.run.now c.loop-i.i c.index-edges-i.result
edge_is g c = let run : Run = c.args.run.now in let i : ℕ = c.loop-i.i in
    let e : DataEdge = c.index-edges-i.result in
    let r = edge_read run c.edges-edges.result.now i e c.edges-edges.ensures c.loop-i-test.true
    c.index-edges-i.is in
    let d = c.requires.orders i e r.0 in record {
      near = at_below run.edges i e r.0;
      same = r.1;
      from = omega (arith, d.from, c.requires.among);
      into = omega (arith, d.into, c.requires.among);
    }

-- what is counted for it
wide : (run : Run) (i p w : ℕ) (e : DataEdge) → Edge run i e → p ≡ e.producer → w ≡ width run p
    → 1 + w ≡ 1 + width run (edge_at run i).producer
wide run i p w e r p-is w-is = ap (λ (x : ℕ). 1 + x) (w-is
    ∙ (ap (width run) p-is ∙ ap (λ (x : DataEdge). width run x.producer) (sym r.same)))

pub width-requires : goal.width-requires
width-requires g c =
    let r = edge_is g (goal.at.width-requires g c).After-index-edges-i in
    omega (arith, r.from, c.requires.rows_of_all, c.index.ensures)

pub overflow_add-width : goal.overflow_add-width
overflow_add-width g c =
    let r = edge_is g (goal.at.overflow_add-width g c).After-index-edges-i in
    let run : Run = c.args.run.now in let i : ℕ = c.loop-i.i in
    omega (
      arith,
      edge_few run c.requires i r.near,
      wide run i c.index.result c.width.result _ r c.index.ensures c.width.ensures,
    )

pub index_mut-requires : goal.index_mut-requires
index_mut-requires g c =
    let r = edge_is g (goal.at.index_mut-requires g c).After-index-edges-i in
    omega (arith, r.into, c.loop-i.invariant.long, c.index-in-loop-i.ensures)

-- what the total of the edge's consumer was, and what it is
record Counted (run : Run) (i k was n : ℕ) (ts : List ℕ) : Type 0 where
  is : was ≡ get_or ts k 0
  few : was + n < 9223372036854775808
  next : (x : ℕ) → x < run.nodes → get_or (set ts k (get_or ts k 0 + n)) x 0
      ≡ read_words run x (i + 1)

counted : (g : Given.Over) (c : After-index_mut g)
    → Edge c.args.run.now c.loop-i.i c.index-edges-i.result
    → Counted c.args.run.now c.loop-i.i c.index-in-loop-i.result c.index_mut.result.now
    (1 + c.width.result) c.loop-i.totals.items
counted g c r = let run : Run = c.args.run.now in let i : ℕ = c.loop-i.i in
    let k : ℕ = c.index-in-loop-i.result in let ts : List ℕ = c.loop-i.totals.items in
    let n : ℕ = 1 + c.width.result in let inv = c.loop-i.invariant in
    let k-is : k ≡ (edge_at run i).consumer = c.index-in-loop-i.ensures
    ∙ ap (λ (x : DataEdge). x.consumer) (sym r.same) in
    let n-is = wide run i c.index.result c.width.result _ r c.index.ensures c.width.ensures in
    let near : k < run.nodes = omega (arith, r.into, c.index-in-loop-i.ensures) in
    let q = grown run c.requires i k ts c.index_mut.result.now n r.near inv.long inv.each k-is near
    c.index_mut.ensures.value n-is in record {
      is = q.0;
      few = q.1;
      next = reads_next run ts i k n k-is n-is inv.long near inv.each;
    }

pub overflow_add-index_mut : goal.overflow_add-index_mut
overflow_add-index_mut g c = let at = goal.at.overflow_add-index_mut g c in
    omega (arith, (counted g at.After-index_mut (edge_is g at.After-index-edges-i)).few)

pub loop-i-preserved : goal.loop-i-preserved
loop-i-preserved g c = let at = goal.at.loop-i-preserved g c in
    let k : ℕ = c.index-in-loop-i.result in let ts : List ℕ = c.loop-i.totals.items in
    let n : ℕ = 1 + c.width.result in
    let s = counted g at.After-index_mut (edge_is g at.After-index-edges-i) in record {
      long = length-set ts k (c.index_mut.result.now + n) ∙ c.loop-i.invariant.long;
      each = λ x h. ap (λ (y : ℕ). get_or (set ts k (y + n)) x 0) s.is ∙ s.next x h;
    }
