use Rattle.std.proofs.Common.{◌<◌, ◌≤◌, ◌^◌, ◌∙◌, sym, arith}
use Rattle.sqlite_files.proofs.TakenPages.{main_page_same, side_page_same, changed_none, changed_two_more, steps_of_one, steps_within, steps_of_two}
use Rattle.sqlite_files.specs.Recording.{since}
use Rattle.sqlite_files.proofs.taking.push_changed.Goals as goal

pub loop-index-init : goal.loop-index-init
loop-index-init g c = record { pages = c.requires.empty ∙ sym (changed_none c.args.before.now c.args.after.now 2); cost = omega arith }

pub overflow_mul-number : goal.overflow_mul-number
overflow_mul-number g c =
    let few : c.longer-index-end.result ≤ 2 ^ 52 = c.longer-index-end.ensures.small in
    let below : c.loop-index.index < c.longer-index-end.result = c.loop-index-test.true in
    omega arith

pub overflow_add-number-in-loop-index : goal.overflow_add-number-in-loop-index
overflow_add-number-in-loop-index g c =
    let few : c.longer-index-end.result ≤ 2 ^ 52 = c.longer-index-end.ensures.small in
    let below : c.loop-index.index < c.longer-index-end.result = c.loop-index-test.true in
    omega arith

pub push_page-requires : goal.push_page-requires
push_page-requires g c clean = main_page_same c.args.before.now c.args.after.now c.loop-index.index (since 0 c.args.main.now) c.requires.main
    (sym c.is_touched.ensures ∙ clean)

pub push_page-requires-in-loop-index : goal.push_page-requires-in-loop-index
push_page-requires-in-loop-index g c clean =
    side_page_same c.args.before.now c.args.after.now c.loop-index.index (since 0 c.args.side.now) c.requires.side
    (sym c.is_touched-in-loop-index.ensures ∙ clean)

pub returns-in_err-push_page-clause-cost : goal.returns-in_err-push_page-clause-cost
returns-in_err-push_page-clause-cost g c = steps_of_one (since 0 c.args.main.now)
    (since 0 c.args.side.now) c.loop-index.index c.args.steps.now c.loop-index.steps c.loop-index.invariant.cost _ _ c.is_touched.ensures c.push_page.ensures.cost

pub returns-in_err-push_page-2-clause-cost : goal.returns-in_err-push_page-2-clause-cost
returns-in_err-push_page-2-clause-cost g c =
    steps_within (since 0 c.args.main.now) (since 0 c.args.side.now) c.loop-index.index c.args.steps.now c.loop-index.steps c.loop-index.invariant.cost
    _ _ _ _ c.is_touched.ensures c.is_touched-in-loop-index.ensures c.push_page.ensures.cost c.push_page-in-loop-index.ensures.cost

pub loop-index-preserved : goal.loop-index-preserved
loop-index-preserved g c = record {
  pages = changed_two_more c.args.before.now c.args.after.now c.loop-index.index _ _ _ c.loop-index.invariant.pages c.in_ok-push_page.ensures.pages c.in_ok-push_page-2.ensures.pages;
  cost = steps_of_two (since 0 c.args.main.now) (since 0 c.args.side.now) c.loop-index.index c.args.steps.now c.loop-index.steps c.loop-index.invariant.cost
      _ _ _ _ c.is_touched.ensures c.is_touched-in-loop-index.ensures c.push_page.ensures.cost c.push_page-in-loop-index.ensures.cost;
}
