use Rattle.log_commands.specs.Spelling.{number_words, page_bytes, flag}
use Rattle.wire_words.specs.Items.{word, pair}
use Rattle.std.proofs.Common.{◌≡◌, ◌++◌, length}
use Rattle.log_commands.proofs.InTurn.{five}
use Rattle.log_commands.proofs.writing.put_frames.Goals as goal

pub returns-clause-bytes : goal.returns-clause-bytes
returns-clause-bytes c =
    let ends : c.pair.new.self ≡ c.word.new.self ++ pair c.args.truncate (flag c.args.commit) = rw (← c.flag.ensures) c.in_ok-pair.ensures in
    let sizes : c.pair-2.new.self ≡ c.pair.new.self ++ pair (length c.args.pages.now) 4096 = c.in_ok-pair-2.ensures in
    five c.put_pages.result c.args.out.now c.word.new.self c.pair.new.self c.pair-2.new.self c.put_numbers.new.out c.put_pages.new.out
    (word c.args.tx) (pair c.args.truncate (flag c.args.commit)) (pair (length c.args.pages.now) 4096) (number_words c.args.pages.now) (page_bytes c.args.pages.now)
    c.in_ok-word.ensures ends sizes c.in_ok-put_numbers.ensures.bytes c.put_pages.ensures.bytes
