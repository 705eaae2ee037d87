use Rattle.std.proofs.Common.{◌<◌, ◌≤◌, length, arith, sym}
use Rattle.ds_fire.proofs.PushedRow.{all_pushed, none_pushed, one_pushed, pushed, room_left, room_same, room_up}
use Rattle.ds_fire.proofs.stored_rows.push_all.Goals as goal

pub loop-i-init : goal.loop-i-init
loop-i-init c = record { items = none_pushed c.args.values.now.items c.args.row.now; room = room_same _ }

pub loop-i-preserved : goal.loop-i-preserved
loop-i-preserved c =
    let i = c.loop-i.invariant in
    let old = c.args.values.now in
    let inside : c.loop-i.i < length c.args.row.now = omega (arith, c.loop-i-test.true) in
    let left = room_left c.args.values.now.items c.loop-i.values.items c.args.row.now c.loop-i.i c.args.values.now.len c.loop-i.values.len
    c.args.values.now.cap c.loop-i.values.cap i.items inside (sym c.args.values.now.ok.0) (sym c.loop-i.values.ok.0) c.requires i.room in
    record {
      items = one_pushed c.args.values.now.items c.loop-i.values.items c.push.new.self.items c.args.row.now c.loop-i.i c.value.result i.items inside
          c.value.ensures (pushed c.loop-i.values.items c.push.new.self.items c.value.result c.push.result (c.push.ensures.succeeds left) c.push.ensures.items);
      room = room_up _ _ _ i.room c.push.ensures.capacity;
    }

pub returns : goal.returns
returns c =
    let end : length c.args.row.now ≤ c.loop-i.i = omega (arith, c.loop-i-test.false) in
    record {
      items = all_pushed c.args.values.now.items c.loop-i.values.items c.args.row.now c.loop-i.i c.loop-i.invariant.items end;
      room = c.loop-i.invariant.room;
    }
