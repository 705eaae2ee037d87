use Rattle.ds_accept.specs.Codes.{event_code}
use Rattle.ds_accept.proofs.EventKeys.{put_behind}
use Rattle.ds_accept.proofs.numbers.Numbers.put.Goals as goal

pub returns : goal.returns
returns c = put_behind c.key_of.result c.self.inside.keys.keys c.args.self.now c.self.view_is (event_code c.args.event.now) c.key_of.ensures
    c.requires c.insert_full.new.self.keys c.in_ok-insert_full.ensures.keys
