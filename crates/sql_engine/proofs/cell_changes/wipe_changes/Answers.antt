use Rattle.std.proofs.Common.{◌≡◌, ◌≤◌, ◌<◌, ◌*◌, ◌++◌, ◌∷◌, [], max, length, refl, sym, ap, ◌∙◌, arith}
use Rattle.dq_base.specs.declared.sizes.Lengths.{Lengths}
use Rattle.sql_engine.specs.CellChanges.{count_page}
use Rattle.sql_engine.proofs.CellChanged.{sizes_with, wipe_lists, wipe_nothing}
use Rattle.sql_engine.proofs.cell_changes.wipe_changes.Goals as goal

pub returns-then-lengths-kept : goal.returns-then-lengths-kept
returns-then-lengths-kept c =
    let main : c.args.lengths.main ≡ length c.args.image.now.main = ap (λ (l : Lengths). l.main) c.requires.lengths in
    let short = c.if-lengths-kept.true in
    let le : length c.args.image.now.main ≤ 4096 * c.args.pages = omega arith in
    c.new-changes.ensures.items ∙ sym (wipe_nothing c.args.image.now c.args.pages le)

pub returns : goal.returns
returns c =
    let image = c.args.image.now in
    let main : c.args.lengths.main ≡ length image.main = ap (λ (l : Lengths). l.main) c.requires.lengths in
    let side : c.args.lengths.side ≡ length image.side = ap (λ (l : Lengths). l.side) c.requires.lengths in
    let long = c.if-lengths-kept.false in
    let shorter : 4096 * c.args.pages < length image.main = omega arith in
    let side_is : c.max.result ≡ max (length image.side) 4096 = rw (c.max.ensures, side) refl in
    let last = sizes_with (4096 * c.args.pages) (max (length image.side) 4096) in
    c.in_ok-list_sizes.ensures
    ∙ ap (λ n. c.list_count.new.pages.items ++ sizes_with (4096 * c.args.pages) n ∷ []) side_is
    ∙ ap (λ ps. ps ++ last ∷ []) (c.in_ok-list_count.ensures ∙ ap (λ ps. ps ++ count_page image ∷ []) c.new-changes.ensures.items)
    ∙ sym (wipe_lists image c.args.pages shorter)
