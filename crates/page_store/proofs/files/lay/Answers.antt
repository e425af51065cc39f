use Rattle.std.proofs.Common.{◌≡◌, ◌<◌, ◌≤◌, length, ap, ◌∙◌, arith}
use Rattle.std.specs.Prelude.{vec_capacity}
use Rattle.page_store.specs.Laying.{length_of, length_at}
use Rattle.page_store.proofs.ReadPages.{room_at, lay_more}
use Rattle.page_store.proofs.files.lay.Goals as goal

pub lay_one-requires : goal.lay_one-requires
lay_one-requires c =
    let log = c.args.log.now in
    let le : c.args.count ≤ length log.lengths = omega (arith, c.requires.within, c.len-len.ensures.same) in
    let fits : length_at c.args.parity log.lengths c.loop-i.i ≤ vec_capacity c.args.file.now =
    room_at c.args.parity log.lengths c.args.count (vec_capacity c.args.file.now) c.loop-i.i c.requires.room le c.loop-i-test.true in
    let more : vec_capacity c.args.file.now ≤ vec_capacity c.loop-i.file = c.loop-i.invariant.capacity in
    let stated : length_of c.args.parity c.lengths.result ≡ length_at c.args.parity log.lengths c.loop-i.i = ap (length_of c.args.parity) c.lengths.ensures in
    omega arith

pub loop-i-preserved : goal.loop-i-preserved
loop-i-preserved c =
    let log = c.args.log.now in
    let i = c.loop-i.i in
    let in_pages : i < length log.pages = omega (arith, c.loop-i-test.true, c.requires.within) in
    let in_lengths : i < length log.lengths = omega (arith, c.loop-i-test.true, c.requires.within, c.len-len.ensures.same) in
    let before : vec_capacity c.args.file.now ≤ vec_capacity c.loop-i.file = c.loop-i.invariant.capacity in
    let after : vec_capacity c.loop-i.file ≤ vec_capacity c.lay_one.new.file = c.lay_one.ensures.capacity in
    record {
      items =
          c.lay_one.ensures.items
          ∙ lay_more c.args.parity log.pages log.lengths c.args.file.now.items i c.page.result.now c.lengths.result c.loop-i.file.items in_pages in_lengths c.page.ensures.value c.lengths.ensures c.loop-i.invariant.items;
      capacity = omega arith;
    }
