use Rattle.std.proofs.Common.{◌≡◌, ◌<◌, ◌≤◌, length, ap, ◌∙◌, arith}
use Rattle.std.specs.Prelude.{vec_capacity}
use Rattle.page_store.specs.Laying.{length_of, length_at}
use Rattle.page_store.proofs.ReadPages.{room_more}
use Rattle.page_store.proofs.files.make_room_for.Goals as goal

pub loop-i-preserved : goal.loop-i-preserved
loop-i-preserved c =
    let log = c.args.log.now in
    let i = c.loop-i.i in
    let inside : i < length log.lengths = omega (arith, c.loop-i-test.true, c.requires.within, c.len-len.ensures.same) in
    let stated : c.length_of.result ≡ length_at c.args.parity log.lengths i = c.length_of.ensures ∙ ap (length_of c.args.parity) c.lengths.ensures in
    let fits : c.length_of.result ≤ vec_capacity c.make_room.new.file = c.in_ok-make_room.ensures.room in
    record {
      items = c.in_ok-make_room.ensures.kept ∙ c.loop-i.invariant.items;
      room =
          room_more c.args.parity log.lengths i (vec_capacity c.loop-i.file) (vec_capacity c.make_room.new.file) inside c.loop-i.invariant.room c.in_ok-make_room.ensures.capacity (omega arith);
    }
