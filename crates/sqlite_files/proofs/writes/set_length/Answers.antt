use Rattle.std.proofs.Common.{◌≡◌, ◌+◌, ◌-◌, ◌^◌, min, max, length, rules}
use Rattle.sqlite_files.proofs.StampedPages.{since_cut}
use Rattle.sqlite_files.proofs.writes.set_length.Goals as goal

pub returns-clause-since : goal.returns-clause-since
returns-clause-since c past was =
    let from_is : c.min.result ≡ min c.args.len (length c.args.file.now.items) = search rules in
    let to_is : c.max.result ≡ max c.args.len (length c.args.file.now.items) = search rules in
    let more : c.saturating_add.result ≡ min (c.args.writes.now + 1) (2 ^ 64 - 1) = search rules in
    since_cut past _ _ _ _ more was _ _ _ _ c.in_ok-touch.ensures.ok _ from_is to_is c.resize.ensures.others
