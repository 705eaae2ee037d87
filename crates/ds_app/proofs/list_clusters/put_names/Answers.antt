use Rattle.std.proofs.Common.{◌≡◌, ◌∙◌, ℕ, ◌<◌, List, [], map, arith, length, get_or, subst, sym, ap}
use Rattle.std.proofs.lemmas.List.{get_or_default, take_all}
use Rattle.ds_design.specs.Circuit.{Circuit}
use Rattle.ds_lines.specs.Print.{line_text}
use Rattle.ds_rows.specs.Nets.{register_of}
use Rattle.ds_groups.specs.Names.{register_names}
use Rattle.ds_groups.specs.Read.{register_name}
use Rattle.ds_outside.proofs.Pens.{puts_nothing, puts_on, with_put}
use Rattle.ds_app.proofs.Listing.{name_is, name_more}
use Rattle.ds_app.proofs.list_clusters.put_names.Goals as goal

pub loop-k-init : goal.loop-k-init
loop-k-init g c = record { written = puts_nothing (g.P.Pen.writing c.args.pen.now) }

pub put_register_name-requires : goal.put_register_name-requires
put_register_name-requires g c =
    let registers : List ℕ = c.args.registers.now in
    let low : c.loop-k.k < length registers = omega arith in
    let is : c.index.result ≡ get_or registers c.loop-k.k 0 = c.index.ensures ∙ (c.index-registers-k.is ∙ get_or_default registers c.loop-k.k c.index-registers-k.result 0 low) in
    subst (λ (r : ℕ). r < length c.args.design.now.registers) (sym is) (c.requires c.loop-k.k 0 low)

pub loop-k-preserved : goal.loop-k-preserved
loop-k-preserved g c =
    let design : Circuit = c.args.design.now in
    let registers : List ℕ = c.args.registers.now in
    let k : ℕ = c.loop-k.k in
    let low : c.loop-k.k < length registers = omega arith in
    let is : c.index.result ≡ get_or registers c.loop-k.k 0 = c.index.ensures ∙ (c.index-registers-k.is ∙ get_or_default registers c.loop-k.k c.index-registers-k.result 0 low) in
    let name : register_of design c.index.result ≡ register_name (register_names design) (get_or registers c.loop-k.k 0) =
    ap (register_of design) is ∙ name_is design (get_or registers k 0) (c.requires k 0 low) in
    record {
      written = with_put (sym (name_more (register_name (register_names design)) registers k low))
          (puts_on (puts_on c.loop-k.invariant.written c.put_blank.ensures) (with_put name c.put_register_name.ensures));
    }

pub returns : goal.returns
returns g c =
    let all : c.loop-k.k ≡ length c.args.registers.now = omega arith in
    with_put (ap (λ (rs : List ℕ). line_text (map (register_name (register_names c.args.design.now)) rs)) (take_all c.loop-k.k c.args.registers.now (omega (arith, all)))) c.loop-k.invariant.written
