use Rattle.std.proofs.Common.{◌≡◌, List, ◌++◌, length, OnOk, subst, rules}
use Rattle.dq_base.specs.declared.pages.NumberedPage.{NumberedPage}
use Rattle.sqlite_files.proofs.ComparedPages.{other_piece}
use Rattle.sqlite_files.proofs.compared.push_piece.Goals as goal

pub returns-then-before-now : goal.returns-then-before-now
returns-then-before-now c =
    let long : length c.args.before.now ≡ length c.args.now.now = search rules in
    subst (λ (added : List NumberedPage). OnOk c.push_new.result (c.push_new.new.pages.items ≡ c.args.pages.now.items ++ added))
    (other_piece c.args.number c.args.before.now c.args.now.now long c.requires.now (c.is_same.ensures.other c.if-is_same.false)) c.push_new.ensures
