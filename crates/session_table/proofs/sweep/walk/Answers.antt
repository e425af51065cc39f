use Rattle.std.proofs.Common.{◌<◌, length, arith}
use Rattle.session_table.proofs.Walking.{next_room, behind_on, walk_on, behind_off, walk_off}
use Rattle.session_table.proofs.sweep.walk.Goals as goal

pub loop-place-preserved-then-happen : goal.loop-place-preserved-then-happen
loop-place-preserved-then-happen c =
    let within : c.loop-place.place < length c.loop-place.sessions.items = omega arith in
    record {
      walked = walk_on c.args.event c.args.sessions.now.items c.loop-place.sessions.items c.loop-place.place c.args.machine.now c.loop-place.machine c.happen.new.machine c.args.told.now.items c.loop-place.told.items c.happen.new.told.items c.index_mut.result.now c.happen.new.session within c.index_mut.ensures.value c.loop-place.invariant.walked c.if-happen.ensures.swept;
      room = next_room c.args.event c.args.sessions.now.items c.loop-place.sessions.items c.loop-place.place c.args.machine.now c.loop-place.machine c.happen.new.machine c.args.told.now.items c.loop-place.told.items c.happen.new.told.items c.index_mut.result.now c.happen.new.session within c.index_mut.ensures.value c.loop-place.invariant.walked
          _ _ _ _ _ (behind_on c.args.event c.args.sessions.now.items c.loop-place.sessions.items c.loop-place.place c.args.machine.now c.loop-place.machine c.happen.new.machine c.args.told.now.items c.loop-place.told.items c.happen.new.told.items c.index_mut.result.now c.happen.new.session within c.index_mut.ensures.value c.loop-place.invariant.walked) c.loop-place.invariant.room c.happen.ensures.len c.happen.ensures.capacity;
    }

pub loop-place-preserved : goal.loop-place-preserved
loop-place-preserved c =
    let within : c.loop-place.place < length c.loop-place.sessions.items = omega arith in
    record {
      walked = walk_off c.args.event c.args.sessions.now.items c.loop-place.sessions.items c.loop-place.place c.args.machine.now c.loop-place.machine c.happen.new.machine c.args.told.now.items c.loop-place.told.items c.happen.new.told.items c.index_mut.result.now c.happen.new.session within c.index_mut.ensures.value c.loop-place.invariant.walked c.remove.new.sessions.items c.remove.ensures.items c.if-happen.ensures.swept;
      room = next_room c.args.event c.args.sessions.now.items c.loop-place.sessions.items c.loop-place.place c.args.machine.now c.loop-place.machine c.happen.new.machine c.args.told.now.items c.loop-place.told.items c.happen.new.told.items c.index_mut.result.now c.happen.new.session within c.index_mut.ensures.value c.loop-place.invariant.walked
          _ _ _ _ _ (behind_off c.args.event c.args.sessions.now.items c.loop-place.sessions.items c.loop-place.place c.args.machine.now c.loop-place.machine c.happen.new.machine c.args.told.now.items c.loop-place.told.items c.happen.new.told.items c.index_mut.result.now c.happen.new.session within c.index_mut.ensures.value c.loop-place.invariant.walked c.remove.new.sessions.items c.remove.ensures.items) c.loop-place.invariant.room c.happen.ensures.len c.happen.ensures.capacity;
    }
