use Rattle.log_commands.specs.Splitting.{split_from, before_last}
use Rattle.log_commands.proofs.SplitFits.{split_more, split_last}
use Rattle.log_commands.proofs.splitting.split_pages.Goals as goal

pub loop-rest-preserved : goal.loop-rest-preserved
loop-rest-preserved c =
    let total = split_from (before_last c.args.pages.now) c.args.name.now c.args.tx c.args.pages.now in
    rw (c.in_ok-push.ensures.items, c.in_ok-frames.ensures, c.split_at.ensures.front, c.split_at.ensures.back)
    (split_more c.loop-rest.commands.items c.args.name.now c.args.tx c.loop-rest.rest.now total c.loop-rest-test.true c.loop-rest.invariant)

pub returns : goal.returns
returns c =
    let total = split_from (before_last c.args.pages.now) c.args.name.now c.args.tx c.args.pages.now in
    rw (c.in_ok-push-2.ensures.items, c.in_ok-frames-2.ensures, c.count_stated-truncate.ensures)
    (split_last c.loop-rest.commands.items c.args.name.now c.args.tx c.loop-rest.rest.now total c.loop-rest-test.false c.loop-rest.invariant)
