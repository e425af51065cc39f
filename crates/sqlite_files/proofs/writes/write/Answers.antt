use Rattle.std.proofs.Common.{◌≡◌, ◌+◌, ◌-◌, ◌^◌, min, length, rules}
use Rattle.sqlite_files.proofs.StampedPages.{since_torn}
use Rattle.sqlite_files.proofs.writes.write.Goals as goal

pub returns-clause-since : goal.returns-clause-since
returns-clause-since c past was =
    let from_is : c.min.result ≡ min c.args.at (length c.args.file.now.items) = search rules in
    let to_is : c.in_ok-end.end ≡ c.args.at + length c.args.bytes.now = search rules in
    let more : c.saturating_add.result ≡ min (c.args.writes.now + 1) (2 ^ 64 - 1) = search rules in
    since_torn past _ _ _ _ more was _ _ _ _ c.in_ok-touch.ensures.ok _ _ from_is to_is c.overwrite.ensures.others
