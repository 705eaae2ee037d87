use Rattle.std.proofs.Common.{◌∙◌, List, length, ap, sym, None}
use Rattle.std.specs.Option.{option_or}
use Rattle.ds_design.specs.Circuit.{drivers, used}
use Rattle.ds_design.specs.declared.design.Net.{Net}
use Rattle.ds_netlist.specs.Fault.{undriven}
use Rattle.ds_netlist.proofs.FaultEvidence.{are_drivers, drivers_low, free_found, none_free, none_twice, times_are, twice_found, twice_long, used_low}
use Rattle.ds_netlist.proofs.faults.driver_fault.Goals as goal

pub counts_of-requires : goal.counts_of-requires
counts_of-requires c =
    let d = c.args.design.now in
    let e = are_drivers d c.args.columns.now c.args.driven.now c.as_slice.result.now c.requires.columns c.requires.driven (c.as_slice.ensures.value ∙ c.in_ok-drivers.ensures.ok) in
    record { inside = drivers_low d c.requires.in_range c.as_slice.result.now (length c.nets-count.result.now) e (ap (λ (xs : List Net). length xs) c.nets-count.ensures) }

pub driven_twice-requires-clause-twice : goal.driven_twice-requires-clause-twice
driven_twice-requires-clause-twice c =
    let d = c.args.design.now in
    let e = are_drivers d c.args.columns.now c.args.driven.now c.as_slice.result.now c.requires.columns c.requires.driven (c.as_slice.ensures.value ∙ c.in_ok-drivers.ensures.ok) in
    let h = times_are c.nets-count.result.now d.nets c.as_slice.result.now (drivers d) c.in_ok-counts.counts.items c.as_slice-2.result.now c.nets-count.ensures e c.as_slice-2.ensures.value c.in_ok-counts.ensures.ok in
    rw c.new.ensures (twice_long d c.as_slice-2.result.now h c.in-Some.net c.in-Some.ensures.value)

pub returns-in-Some : goal.returns-in-Some
returns-in-Some c =
    let d = c.args.design.now in
    let e = are_drivers d c.args.columns.now c.args.driven.now c.as_slice.result.now c.requires.columns c.requires.driven (c.as_slice.ensures.value ∙ c.in_ok-drivers.ensures.ok) in
    let h = times_are c.nets-count.result.now d.nets c.as_slice.result.now (drivers d) c.in_ok-counts.counts.items c.as_slice-2.result.now c.nets-count.ensures e c.as_slice-2.ensures.value c.in_ok-counts.ensures.ok in
    let twice = twice_found d c.as_slice-2.result.now h c.in-Some.net c.in-Some.ensures.value c.in_ok-fault.fault (rw c.new.ensures at c.in_ok-fault.ensures.ok) in
    record { ok = sym (ap (λ o. option_or o (option_or (undriven d) None)) twice) }

pub counts_of-requires-2 : goal.counts_of-requires-2
counts_of-requires-2 c = record {
  inside = used_low c.args.design.now c.requires.in_range c.args.used.now (length c.nets-count.result.now) c.requires.used (ap (λ (xs : List Net). length xs) c.nets-count.ensures);
}

pub returns-in-Some-first_free : goal.returns-in-Some-first_free
returns-in-Some-first_free c =
    let d = c.args.design.now in
    let e = are_drivers d c.args.columns.now c.args.driven.now c.as_slice.result.now c.requires.columns c.requires.driven (c.as_slice.ensures.value ∙ c.in_ok-drivers.ensures.ok) in
    let h = times_are c.nets-count.result.now d.nets c.as_slice.result.now (drivers d) c.in_ok-counts.counts.items c.as_slice-2.result.now c.nets-count.ensures e c.as_slice-2.ensures.value c.in_ok-counts.ensures.ok in
    let h4 = times_are c.nets-count.result.now d.nets c.as_slice.result.now (drivers d) c.in_ok-counts.counts.items c.as_slice-4.result.now c.nets-count.ensures e c.as_slice-4.ensures.value c.in_ok-counts.ensures.ok in
    let u = times_are c.nets-count.result.now d.nets c.args.used.now (used d) c.in_ok-uses.uses.items c.as_slice-3.result.now c.nets-count.ensures c.requires.used c.as_slice-3.ensures.value c.in_ok-uses.ensures.ok in
    let once = none_twice d c.as_slice-2.result.now h c.in_default.ensures.value in
    let free = free_found d c.as_slice-4.result.now h4 c.as_slice-3.result.now u c.in-Some-first_free.net c.in-Some-first_free.ensures.value in
    record { ok = rw c.new-in-Some-first_free.ensures (sym (ap (λ o. option_or o (option_or (undriven d) None)) once ∙ ap (λ o. option_or o None) free)) }

pub returns : goal.returns
returns c =
    let d = c.args.design.now in
    let e = are_drivers d c.args.columns.now c.args.driven.now c.as_slice.result.now c.requires.columns c.requires.driven (c.as_slice.ensures.value ∙ c.in_ok-drivers.ensures.ok) in
    let h = times_are c.nets-count.result.now d.nets c.as_slice.result.now (drivers d) c.in_ok-counts.counts.items c.as_slice-2.result.now c.nets-count.ensures e c.as_slice-2.ensures.value c.in_ok-counts.ensures.ok in
    let h4 = times_are c.nets-count.result.now d.nets c.as_slice.result.now (drivers d) c.in_ok-counts.counts.items c.as_slice-4.result.now c.nets-count.ensures e c.as_slice-4.ensures.value c.in_ok-counts.ensures.ok in
    let u = times_are c.nets-count.result.now d.nets c.args.used.now (used d) c.in_ok-uses.uses.items c.as_slice-3.result.now c.nets-count.ensures c.requires.used c.as_slice-3.ensures.value c.in_ok-uses.ensures.ok in
    let once = none_twice d c.as_slice-2.result.now h c.in_default.ensures.value in
    let free = none_free d c.as_slice-4.result.now h4 c.as_slice-3.result.now u c.in-None.ensures.value in
    record { ok = sym (ap (λ o. option_or o (option_or (undriven d) None)) once ∙ ap (λ o. option_or o None) free) }
