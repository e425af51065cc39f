use Rattle.std.proofs.Common.{◌≡◌, ◌∙◌, Some, refl, sym, subst}
use Rattle.std.specs.Option.{IsSome}
use Rattle.dq_base.specs.Images.{page_at}
use Rattle.dq_base.proofs.ChangedPages.{page_at-one}
use Rattle.page_store.specs.Store.{newest_image}
use Rattle.database_state.proofs.WrittenLogs.{image_written}
use Rattle.database_state.proofs.logs.put_image_log.Goals as goal

pub unwrap-sizes-requires : goal.unwrap-sizes-requires
unwrap-sizes-requires c = subst IsSome (sym (c.newest_page.ensures ∙ page_at-one (newest_image c.args.store.now) 1 refl)) refl

pub returns : goal.returns
returns c =
    let image = newest_image c.args.store.now in
    let sizes : Some c.unwrap-sizes.result ≡ page_at image 1 = cc in
    image_written c.frame.result image c.numbers_above_one.result c.page_count.result c.unwrap-sizes.result c.args.out.now.items c.begin.new.out.items c.put_pages_above_one.new.out.items c.frame.new.out.items
    c.in_ok-writer.writer c.put_pages_above_one.new.writer c.frame.new.self c.in_ok-writer.ensures.ok c.in_ok-put_pages_above_one.ensures c.numbers_above_one.ensures sizes c.page_count.ensures c.frame.ensures.ok
