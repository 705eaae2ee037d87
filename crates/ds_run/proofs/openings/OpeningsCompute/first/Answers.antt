use Rattle.std.proofs.Common.{◌≡◌, ◌<◌, ◌∙◌, ap, arith, length, refl, sym}
use Rattle.ds_latch.specs.Node.{number_of}
use Rattle.ds_latch.specs.declared.node.Node.TheVariants.{In, Out, Master, Slave}
use Rattle.ds_run.specs.Openings.{RunWithMemory}
use Rattle.ds_run.proofs.InitialWords.{first_start, first_zero, start_inside, start_wide}
use Rattle.ds_run.proofs.openings.OpeningsCompute.first.Goals as goal

pub index-requires : goal.index-requires
index-requires c =
    let run_is = ap (λ (m : RunWithMemory). m.run) c.self.view_is in
    let is : number_of (Slave c.in-Slave.cluster) ≡ c.args.node = ap number_of (sym c.in-Slave.is) ∙ c.of.ensures in
    let low : c.in-Slave.cluster < length c.self.inside.starts.items
    = start_inside c.self.invariant.openings (sym run_is) c.requires.word c.in-Slave.cluster is in
    omega (low, c.self.inside.starts.ok.0, arith)

pub word-requires : goal.word-requires
word-requires c =
    let run_is = ap (λ (m : RunWithMemory). m.run) c.self.view_is in
    let is : number_of (Slave c.in-Slave.cluster) ≡ c.args.node = ap number_of (sym c.in-Slave.is) ∙ c.of.ensures in
    start_wide c.self.invariant.openings (sym run_is) c.requires.word c.in-Slave.cluster is c.index.ensures

pub returns-in-Slave : goal.returns-in-Slave
returns-in-Slave c =
    let run_is = ap (λ (m : RunWithMemory). m.run) c.self.view_is in
    let is : number_of (Slave c.in-Slave.cluster) ≡ c.args.node = ap number_of (sym c.in-Slave.is) ∙ c.of.ensures in
    c.word.ensures ∙ first_start c.self.invariant.openings (sym run_is) c.requires.word c.in-Slave.cluster is c.index.ensures

pub returns-in-In : goal.returns-in-In
returns-in-In c =
    let run_is = ap (λ (m : RunWithMemory). m.run) c.self.view_is in
    first_zero c.self.invariant.openings (sym run_is) c.requires.word In (ap number_of (sym c.in-In.is) ∙ c.of.ensures) refl

pub returns-in-Out : goal.returns-in-Out
returns-in-Out c =
    let run_is = ap (λ (m : RunWithMemory). m.run) c.self.view_is in
    first_zero c.self.invariant.openings (sym run_is) c.requires.word Out (ap number_of (sym c.in-Out.is) ∙ c.of.ensures) refl

pub returns-in-Master : goal.returns-in-Master
returns-in-Master c =
    let run_is = ap (λ (m : RunWithMemory). m.run) c.self.view_is in
    first_zero c.self.invariant.openings (sym run_is) c.requires.word (Master c.in-Master.field-0) (ap number_of (sym c.in-Master.is) ∙ c.of.ensures) refl
