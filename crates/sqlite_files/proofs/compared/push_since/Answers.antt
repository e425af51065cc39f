use Rattle.std.proofs.Common.{◌≡◌, false, rules}
use Rattle.sqlite_files.specs.Pairs.{piece_of, page_of}
use Rattle.sqlite_files.specs.Recording.{since, is_touched}
use Rattle.sqlite_files.proofs.StampedPages.{unlisted}
use Rattle.sqlite_files.proofs.compared.push_since.Goals as goal

pub returns-then-not-is_touched : goal.returns-then-not-is_touched
returns-then-not-is_touched c =
    let clean : is_touched (since c.args.now.now.mark c.args.now.now.stamps.now) c.args.index ≡ false = search rules in
    unlisted c.args.pages.now.items c.args.number (page_of (piece_of c.args.before.now c.args.index))
    (page_of (piece_of c.args.now.now.bytes.now c.args.index)) (c.requires.same clean)
