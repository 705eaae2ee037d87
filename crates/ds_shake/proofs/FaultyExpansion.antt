-- Where there is a fault there is no expansion, and there are never too many arcs.
use Rattle.std.proofs.Common.{◌≡◌, List, length, refl, ap, arith}
use Rattle.ds_base.specs.declared.number.Limit.{Limit}
use Rattle.ds_base.specs.declared.number.Limit.TheVariants as limit
use Rattle.ds_marked.specs.Graph.{Graph}
use Rattle.ds_latch.specs.Node.{Split}
use Rattle.ds_shake.specs.Expansion.{HasTooMany, HasTooManySignals, IsExpansion}
use Rattle.ds_shake.specs.Laws.{ArcsFit, ShakeFaultsAreRefused}
use Rattle.ds_shake.specs.declared.fault.ShakeFault.TheVariants.{TooMany, Memory}
use Rattle.ds_shake.specs.declared.handshake.Handshake.{Handshake}
use Rattle.ds_shake.proofs.OneExpansion.{one_list}

pub arcs_fit_lem : ArcsFit
arcs_fit_lem s too_many = omega (too_many.few, too_many.many, arith)

signals_fit : (s : Split) (g : Graph) → HasTooManySignals s → ¬ IsExpansion s g
signals_fit s g too_many e =
    let same : length too_many.handshakes ≡ length e.handshakes = ap (λ (all : List Handshake). length all) (one_list s too_many.handshakes e.handshakes too_many.are e.are) in
    omega (same, too_many.many, e.few, arith)

not_too_many : (s : Split) (g : Graph) (which : Limit) → HasTooMany s which → ¬ IsExpansion s g
not_too_many s g limit.Bytes is e = is
not_too_many s g limit.TableInputs is e = is
not_too_many s g limit.Copies is e = is
not_too_many s g limit.Nets is e = is
not_too_many s g limit.Tables is e = is
not_too_many s g limit.Registers is e = is
not_too_many s g limit.Clusters is e = is
not_too_many s g limit.Arcs is e = arcs_fit_lem s is
not_too_many s g limit.Signals is e = signals_fit s g is e
not_too_many s g limit.Vectors is e = is

pub faults_are_refused_lem : ShakeFaultsAreRefused
faults_are_refused_lem s g (TooMany which) some is e = not_too_many s g which is e
faults_are_refused_lem s g Memory some is e = some refl
