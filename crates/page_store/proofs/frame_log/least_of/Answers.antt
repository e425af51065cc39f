use Rattle.std.proofs.Common.{◌≡◌, ℕ, ◌-◌, ◌<◌, ◌≤◌, sym, subst, refl, arith}
use Rattle.page_store.specs.Laying.{length_at}
use Rattle.page_store.specs.Log.{lengths_of}
use Rattle.page_store.proofs.LeastLengths.{Least, least_at, least_join}
use Rattle.page_store.proofs.FramesKept.{least_alone}
use Rattle.page_store.proofs.frame_log.least_of.Goals as goal

pub loop-from-init : goal.loop-from-init
loop-from-init c =
    record {
      order = c.requires.order;
      within = omega arith;
      main = least_alone c.args.frames.now.items c.index.result.now 0 c.args.last c.requires.within c.index.ensures;
      side = least_alone c.args.frames.now.items c.index.result.now 1 c.args.last c.requires.within c.index.ensures;
    }

pub loop-from-preserved : goal.loop-from-preserved
loop-from-preserved c =
    let from : ℕ = c.loop-from.from in
    let count : ℕ = c.stretch-count.result.0 in
    let s = c.stretch-count.ensures in
    let inv = c.loop-from.invariant in
    let above : c.args.first < from = c.loop-from-test.true in
    let some : 1 ≤ count = s.from_one in
    let near : count ≤ from - c.args.first = s.not_beyond in
    let under : from ≤ c.args.last = inv.within in
    record {
      order = omega arith;
      within = omega arith;
      main =
          subst (Least (length_at 0 (lengths_of c.args.frames.now.items)) (from - count) c.args.last) (sym c.lesser-least.ensures.main)
          (least_join (length_at 0 (lengths_of c.args.frames.now.items)) (from - count) from c.args.last c.stretch-count.result.1.main c.loop-from.least.main (omega arith) under s.main inv.main);
      side =
          subst (Least (length_at 1 (lengths_of c.args.frames.now.items)) (from - count) c.args.last) (sym c.lesser-least.ensures.side)
          (least_join (length_at 1 (lengths_of c.args.frames.now.items)) (from - count) from c.args.last c.stretch-count.result.1.side c.loop-from.least.side (omega arith) under s.side inv.side);
    }

pub returns-clause-main : goal.returns-clause-main
returns-clause-main c =
    let at : c.loop-from.from ≡ c.args.first = omega (arith, c.loop-from-test.false, c.loop-from.invariant.order) in
    least_at (length_at 0 (lengths_of c.args.frames.now.items)) c.loop-from.from c.args.last c.args.first c.args.last c.loop-from.least.main at refl c.loop-from.invariant.main

pub returns-clause-side : goal.returns-clause-side
returns-clause-side c =
    let at : c.loop-from.from ≡ c.args.first = omega (arith, c.loop-from-test.false, c.loop-from.invariant.order) in
    least_at (length_at 1 (lengths_of c.args.frames.now.items)) c.loop-from.from c.args.last c.args.first c.args.last c.loop-from.least.side at refl c.loop-from.invariant.side
