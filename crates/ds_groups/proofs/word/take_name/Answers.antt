use Rattle.std.proofs.Common.{◌∙◌, ◌||◌, ℕ, List, map, sym, ap, arith}
use Rattle.std.specs.Str.{bytes_eq}
use Rattle.ds_rows.specs.Nets.{net_text}
use Rattle.ds_groups.specs.Latest.{drives}
use Rattle.ds_groups.specs.Read.{register_name}
use Rattle.ds_groups.proofs.Copies.{named_none, named_copied}
use Rattle.ds_groups.proofs.PatternWords.{name_of, takes_as}
use Rattle.ds_groups.proofs.Takings.{take_both}
use Rattle.ds_groups.proofs.word.take_name.Goals as goal

pub returns-in-None : goal.returns-in-None
returns-in-None c = takes_as (drives c.args.named.now (record { copy = 0; name = c.args.word.now })) (λ r. bytes_eq c.args.word.now (register_name (map net_text c.args.named.now) r))
    c.args.line c.args.holders.now c.take_key-own.new.holders c.take_key-own.result
    (λ r low. named_none c.args.named.now c.args.word.now c.count-count.ensures.short c.in-None.ensures.none r
    ∙ ap (λ (t : List ℕ). bytes_eq c.args.word.now t) (sym (name_of c.args.named.now r (omega (arith, c.requires.one_each)))))
    c.take_key-own.ensures

pub returns-in-Some : goal.returns-in-Some
returns-in-Some c = takes_as (λ r. drives c.args.named.now (record { copy = 0; name = c.args.word.now }) r || drives c.args.named.now (record { copy = c.in-Some.copied.copy; name = c.in-Some.copied.name.now }) r)
    (λ r. bytes_eq c.args.word.now (register_name (map net_text c.args.named.now) r))
    c.args.line c.args.holders.now c.take_key-other.new.holders c.either.result
    (λ r low. named_copied c.args.named.now c.args.word.now c.count-count.ensures.short c.in-Some.copied.copy c.in-Some.copied.name.now c.in-Some.ensures.above c.in-Some.ensures.few c.in-Some.ensures.some r
    ∙ ap (λ (t : List ℕ). bytes_eq c.args.word.now t) (sym (name_of c.args.named.now r (omega (arith, c.requires.one_each)))))
    (take_both (drives c.args.named.now (record { copy = 0; name = c.args.word.now })) (drives c.args.named.now (record { copy = c.in-Some.copied.copy; name = c.in-Some.copied.name.now }))
    c.args.line c.args.holders.now c.take_key-own.new.holders c.take_key-other.new.holders c.take_key-own.result c.take_key-other.result c.either.result c.requires.line
    c.take_key-own.ensures c.take_key-other.ensures c.either.ensures.known c.either.ensures.took)
