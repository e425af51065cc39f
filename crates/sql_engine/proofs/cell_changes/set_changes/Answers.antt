use Rattle.std.proofs.Common.{◌≡◌, ◌++◌, ◌∷◌, [], ◌-◌, ◌*◌, max, length, refl, ap, ◌∙◌}
use Rattle.dq_base.specs.declared.sizes.Lengths.{Lengths}
use Rattle.sql_engine.specs.CellChanges.{cells_from}
use Rattle.sql_engine.proofs.CellChanged.{first_page, sizes_with, set_made}
use Rattle.sql_engine.proofs.cell_changes.set_changes.Goals as goal

pub returns : goal.returns
returns c =
    let image = c.args.image.now in
    let main : c.args.lengths.main ≡ length image.main = ap (λ (l : Lengths). l.main) c.requires.lengths in
    let side : c.args.lengths.side ≡ length image.side = ap (λ (l : Lengths). l.side) c.requires.lengths in
    let first : c.min-first.result ≡ first_page image c.args.page = rw (c.min-first.ensures, c.pages_in.ensures, main) refl in
    let main_is : c.max-2.result ≡ max (length image.main) (4096 * c.args.page) = rw (c.max-2.ensures, main) refl in
    let side_is : c.max-3.result ≡ max (length image.side) 4096 = rw (c.max-3.ensures, side) refl in
    set_made image c.args.page c.args.value c.min-first.result c.max.result c.max-2.result
    c.list_cells.new.pages.items c.list_count.new.pages.items c.list_cells-2.new.pages.items c.list_sizes.new.pages.items
    c.requires.page.0 first c.max.ensures main_is
    (c.in_ok-list_cells.ensures ∙ ap (λ ps. ps ++ cells_from image c.args.page c.args.value c.min-first.result (2 - c.min-first.result)) c.new-pages.ensures.items)
    c.in_ok-list_count.ensures c.in_ok-list_cells-2.ensures
    (c.in_ok-list_sizes.ensures ∙ ap (λ n. c.list_cells-2.new.pages.items ++ sizes_with c.max-2.result n ∷ []) side_is)
