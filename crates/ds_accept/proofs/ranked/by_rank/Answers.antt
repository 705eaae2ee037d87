use Rattle.std.proofs.Common.{◌≡◌, ◌∙◌, ◌<◌, ℕ, List, ap, map, Contains}
use Rattle.std.proofs.lemmas.Result.{IfOk-weaker}
use Rattle.ds_accept.specs.declared.ranked.EventRank.{EventRank}
use Rattle.ds_accept.proofs.ByRank.{all_ranked}
use Rattle.ds_accept.proofs.ranked.by_rank.Goals as goal

pub returns : goal.returns
returns c = IfOk-weaker c.events_of.result (λ v. v.items ≡ map (λ (r : EventRank). r.event) c.as_slice.result.now)
    (λ v. (w : ℕ) → w < c.args.events → Contains v.items w)
    (λ v is. all_ranked c.args.events c.in_ok-all.all.items c.sort_by_rank.new.all.items v.items c.in_ok-all.ensures c.sort_by_rank.ensures
    (is ∙ ap (λ (rs : List EventRank). map (λ (r : EventRank). r.event) rs) c.as_slice.ensures.value)) c.events_of.ensures
