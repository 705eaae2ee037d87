use Rattle.std.proofs.Common.{◌≡◌, ◌<◌, ℕ, map, Contains, arith, rules}
use Rattle.std.specs.List.{range_with_len}
use Rattle.std.proofs.lemmas.Iterator.{items_from_collect, YieldsList-from_map, YieldsList-from_range}
use Rattle.std.proofs.lemmas.Result.{IfOk-weaker}
use Rattle.ds_accept.proofs.ByRank.{in_turn}
use Rattle.ds_accept.proofs.ranked.in_turn.Goals as goal

pub returns : goal.returns
returns c = IfOk-weaker c.collect.result (λ order. order.items ≡ map (λ (n : ℕ). n) (range_with_len 0 c.args.events))
    (λ order. (v : ℕ) → v < c.args.events → Contains order.items v) (λ order is. in_turn c.args.events order.items is)
    (items_from_collect _ c.collect.ensures.ran (YieldsList-from_map _ (λ n. n) (YieldsList-from_range 0 c.args.events c.args.events (cc) (omega arith)) c.map.ensures.closure (λ x r q k. search rules)))
