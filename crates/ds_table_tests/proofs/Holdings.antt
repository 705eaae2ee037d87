-- Passes of the fabric of the tests: which nodes they hold after each call.
use Rattle.std.proofs.Common.{◌≡◌, ◌<◌, ◌+◌, ◌||◌, ℕ, zero, suc, List, Bool, true, false, length, get_or, set, replicate, [], ◌∷◌, sym, ap, ◌∙◌, subst, arith}
use Rattle.ds_rule.specs.Run.{Run, events}
use Rattle.ds_rule.proofs.EventLaws.{events-is}
use Rattle.ds_rule.specs.Rule.{holds}
use Rattle.ds_rule.specs.declared.view.View.{View}
use Rattle.ds_base.specs.Scratch.{Remembers}
use Rattle.ds_fabric.specs.Base.{Base}
use Rattle.ds_fabric.specs.Showing.{Showing, IsFabricBegun, IsDealt, IsLeft, Stays}
use Rattle.ds_table_tests.specs.Toggle.{toggle, Holding, HoldsBoth, HoldsSlave, HoldsMaster}

-- a node that is held
pub held : (held : List Bool) (many room : ℕ) (f : Base) (p : Showing)
    → Holding held many room f p → (l : ℕ) → get_or held l false ≡ true → holds p.view l ≡ true
held hs many room f p h l is = ap (λ (xs : List Bool). get_or xs l false) h.held_are ∙ is

-- the first pass
pub begun : (run : Run) (f : Base) (p : Showing) → run ≡ toggle → IsFabricBegun run f p → HoldsBoth f p
begun run f p is b = record {
  run_is = b.run_is ∙ is;
  belongs = b.belongs;
  held_are = ap (λ (v : View). v.holds) b.view ∙ ap (λ (r : Run). replicate r.nodes true) is;
  many_are = b.many ∙ ap (λ (r : Run). r.nodes) is;
  room_is = b.room ∙ ap (λ (r : Run). r.nodes) is;
}

-- a step
pub stays : (held : List Bool) (many room : ℕ) (f : Base) (old p : Showing)
    → Holding held many room f old → Stays f.memory old p → Holding held many room f p
stays held many room f old p h s = record {
  run_is = h.run_is;
  belongs = record {
    table = s.table ∙ h.belongs.table;
    run = s.run ∙ h.belongs.run;
    remembers = s.remembers h.belongs.remembers;
  };
  held_are = s.holds_same ∙ h.held_are;
  many_are = s.many ∙ h.many_are;
  room_is = s.room ∙ h.room_is;
}

-- a deal of the master
pub dealt : (f : Base) (old p : Showing) → HoldsBoth f old → IsDealt old 1 1 p
    → Remembers f.memory p.scratch → HoldsMaster f p
dealt f old p h d fresh = record {
  run_is = h.run_is;
  belongs = record {
    table = d.table ∙ h.belongs.table;
    run = ap (λ (v : View). v.run) d.view ∙ h.belongs.run;
    remembers = fresh;
  };
  held_are = ap (λ (v : View). v.holds) d.view
      ∙ ap (λ (xs : List Bool). set (replicate (length xs) false) 1 true) h.held_are;
  many_are = d.many;
  room_is = d.room_is;
}

pub left : (f : Base) (old p : Showing) → HoldsBoth f old → IsLeft old 1 p → HoldsSlave f p
left f old p h d = record {
  run_is = h.run_is;
  belongs = record {
    table = d.table ∙ h.belongs.table;
    run = ap (λ (v : View). v.run) d.view ∙ h.belongs.run;
    remembers = subst (Remembers f.memory) (sym d.scratch) h.belongs.remembers;
  };
  held_are = ap (λ (v : View). v.holds) d.view
      ∙ ap (λ (xs : List Bool). set xs 1 false) h.held_are;
  many_are = omega (arith, d.many, h.many_are);
  room_is = d.room ∙ h.room_is;
}

-- the events and the rows of the run
pub few_events : (run : Run) (e : ℕ) → run ≡ toggle → e < 4 → e < events run
few_events run e is h = omega (arith, ap events is, events-is toggle)

pub few_latches : (run : Run) (l : ℕ) → run ≡ toggle → l < 2 → l < run.design_nodes
few_latches run l is h = subst (λ (r : Run). l < r.design_nodes) (sym is) h

pub few_nodes : (run : Run) (l : ℕ) → run ≡ toggle → l < 2 → l < run.nodes
few_nodes run l is h = subst (λ (r : Run). l < r.nodes) (sym is) h

pub one_value : (run : Run) (l : ℕ) → run ≡ toggle → l < 2 → get_or run.lengths l 0 ≡ 1
one_value run zero is h = ap (λ (r : Run). get_or r.lengths 0 0) is
one_value run (suc zero) is h = ap (λ (r : Run). get_or r.lengths 1 0) is
one_value run (suc (suc l)) is h = absurd (omega arith)
