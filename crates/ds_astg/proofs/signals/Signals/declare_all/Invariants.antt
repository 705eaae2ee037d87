use Rattle.std.proofs.Common.{◌≡◌, drop}
use Rattle.ds_lines.specs.Words.{texts}
use Rattle.ds_astg.specs.Line.{declare_all as declare_words}
use Rattle.ds_astg.proofs.signals.Signals.declare_all.Given as goal

abbrev pub invariant-loop-i : goal.invariant-loop-i
invariant-loop-i l = declare_words l.role l.places (texts l.words) l.fn.self ≡ declare_words l.role l.places (drop l.i (texts l.words)) l.self
