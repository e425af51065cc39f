use Rattle.std.proofs.Common.{◌*◌, drop, sym, arith, rules, take, ap}
use Rattle.std.proofs.lemmas.List.{drop_all, length-drop}
use Rattle.sqlite_files.proofs.ComparedPages.{cut}
use Rattle.sqlite_files.proofs.compared.piece.Goals as goal

pub returns-then-start-file-clause-bytes : goal.returns-then-start-file-clause-bytes
returns-then-start-file-clause-bytes c = sym (ap (take 4096) (drop_all (c.args.page * 4096) c.args.file.now (omega arith)))

pub returns-clause-bytes : goal.returns-clause-bytes
returns-clause-bytes c = cut 4096 (drop (c.args.page * 4096) c.args.file.now) _ _ (length-drop (c.args.page * 4096) c.args.file.now) (search rules)
