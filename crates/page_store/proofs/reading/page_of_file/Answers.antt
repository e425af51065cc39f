use Rattle.std.proofs.Common.{◌-◌, ◌%◌, ℕ, get_or, take, sym, ap, ◌∙◌, subst}
use Rattle.dq_base.specs.Images.{resized, page_from}
use Rattle.page_store.specs.Log.{PageOfBase}
use Rattle.page_store.proofs.LaidBytes.{after_frames, frame_page, base_page}
use Rattle.page_store.proofs.ReadPages.{no_page, last_of, none_of}
use Rattle.page_store.proofs.reading.page_of_file.Goals as goal

pub returns-in-Some : goal.returns-in-Some
returns-in-Some c =
    let log = c.args.log.now in
    let number = c.args.number in
    let count = c.args.count in
    let frame = c.in-Some.frame in
    let start = c.requires.place in
    let f = c.page_of_frame.ensures in
    let last = last_of log number count frame no_page c.requires.within c.len-len.ensures.same c.len-len.ensures.sized c.requires.above c.in-Some.ensures in
    f.bytes no_page
    ∙ ap (λ (s : ℕ). resized 4096 (take (f.least - s) (get_or log.pages (frame - 1) no_page).page)) start
    ∙ sym (frame_page (number % 2) log.pages log.lengths c.args.file.now (frame - 1) count number f.least no_page last f.is_least)
    ∙ ap (page_from (after_frames (number % 2) log.pages log.lengths c.args.file.now count)) (sym start)

pub returns-in-None : goal.returns-in-None
returns-in-None c =
    let log = c.args.log.now in
    let number = c.args.number in
    let count = c.args.count in
    let start = c.requires.place in
    let base = none_of log number count no_page c.requires.within c.len-len.ensures.same c.len-len.ensures.sized c.requires.above c.in-None.ensures in
    base_page (number % 2) log c.args.file.now c.page_of_base.result count number no_page base (subst (λ (s : ℕ). PageOfBase log c.args.file.now count (number % 2) s c.page_of_base.result) start c.page_of_base.ensures)
    ∙ ap (page_from (after_frames (number % 2) log.pages log.lengths c.args.file.now count)) (sym start)
