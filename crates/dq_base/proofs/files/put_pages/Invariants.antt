use Rattle.std.proofs.Common.{◌≡◌, drop}
use Rattle.dq_base.specs.Images.{is_page_of}
use Rattle.dq_base.specs.Applying.{put_pages}
use Rattle.dq_base.proofs.files.put_pages.Given as goal

abbrev pub invariant-loop-page : goal.invariant-loop-page
invariant-loop-page l = put_pages (is_page_of l.parity) (drop l.page-index l.pages) l.file ≡ put_pages (is_page_of l.parity) l.pages l.initial.file
