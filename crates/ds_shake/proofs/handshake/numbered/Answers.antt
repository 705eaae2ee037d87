use Rattle.std.proofs.Common.{◌≡◌, length, map, refl, arith, rules, tests}
use Rattle.std.specs.List.{range_with_len, zip}
use Rattle.std.proofs.lemmas.Iterator.{items_from_collect, YieldsList-from_map, YieldsList-from_range, YieldsList-from_slice, YieldsList-from_zip}
use Rattle.std.proofs.lemmas.Iterator.Consumers.{YieldsList-at}
use Rattle.std.proofs.lemmas.Result.{IfOk-weaker}
use Rattle.ds_shake.specs.Steps.{AreNumberedEnds}
use Rattle.ds_shake.proofs.NumberedHandshakes.{all_numbered, numbered_pair}
use Rattle.ds_shake.proofs.handshake.numbered.Goals as goal

pub returns : goal.returns
returns c =
    let pairs = c.args.pairs.now in
    IfOk-weaker c.collect.result (λ all. all.items ≡ map numbered_pair (zip (range_with_len 0 (length pairs)) pairs))
    (λ all. AreNumberedEnds pairs all.items) (λ all is. all_numbered pairs all.items is)
    (items_from_collect _ c.collect.ensures.ran (YieldsList-from_map _ numbered_pair
    (YieldsList-at c.map.ensures.source (YieldsList-from_zip (YieldsList-at c.zip.ensures.first (YieldsList-from_range 0 (length pairs) (length pairs) refl (omega arith))) (YieldsList-from_slice pairs cc)))
    c.map.ensures.closure (λ x r q k. search (rules, tests))))
