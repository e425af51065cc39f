-- What follows the name of a Frames command is read exactly if the bytes are its encoding.
use Rattle.std.proofs.Common.{◌≡◌, ℕ, ◌<◌, ◌≤◌, ◌^◌, Bool, true, false, cond, eqb, leb, ◌&&◌, List, ◌++◌, length, Ok, Err, refl, sym, ap, subst, ◌∙◌, arith}
use Rattle.std.proofs.lemmas.Bool.{eqb-true, eqb-false, leb-true, le-leb}
use Rattle.dq_base.specs.declared.pages.NumberedPage.{NumberedPage}
use Rattle.wire_words.specs.Items.{word, pair, AreBytes}
use Rattle.wire_words.specs.Reading.{◌>>=◌, Unread, word_at}
use Rattle.wire_words.proofs.ReadBack.{bind_ok, ok_is, passed}
use Rattle.log_commands.specs.declared.command.Command.{Command}
use Rattle.log_commands.specs.declared.command.Command.TheVariants.{Frames}
use Rattle.log_commands.specs.declared.fault.CommandFault.TheVariants.{PageSize, Number}
use Rattle.log_commands.specs.declared.items.FrameItems.{FrameItems}
use Rattle.log_commands.specs.Numbers.{frames_fit}
use Rattle.log_commands.specs.Spelling.{flag, number_words, page_bytes, frames_bytes, HaveNumbers, HaveSizes}
use Rattle.log_commands.specs.Reading.{in_command, flagged_at, sized_at, numbers_at, pages_at, frame_items_at, frames_of, frames_at}
use Rattle.log_commands.proofs.ItemFacts.{in_command_ok, command_is, both_true}
use Rattle.wire_words.proofs.Passing.{Passed, passed_both, between, passed_first, passed_second, bytes_after, word_passed, word_stood}
use Rattle.log_commands.proofs.Halves.{PassedPair, flagged_passed, flagged_stood, sized_passed, sized_stood}
use Rattle.log_commands.proofs.PageLaws.{words_of, AreWords, PassedNumbers, PassedPages, numbers_passed, numbers_stood, pages_passed, pages_stood, words_are, numbers_have, as_many}

abbrev pub after_sizes : List NumberedPage → List ℕ
after_sizes pages = number_words pages ++ page_bytes pages

abbrev pub after_flag : ℕ → List NumberedPage → List ℕ
after_flag size pages = pair (length pages) size ++ after_sizes pages

abbrev pub after_tx : ℕ → ℕ → ℕ → List NumberedPage → List ℕ
after_tx truncate flag size pages = pair truncate flag ++ after_flag size pages

-- the bytes of the items
abbrev pub items_bytes : FrameItems → List ℕ
items_bytes items = word items.tx ++ after_tx items.truncate items.flag items.size items.pages

-- what the types of the items hold
pub record AreItems (items : FrameItems) : Type 0 where
  pub tx_fits : items.tx < 2 ^ 64
  pub truncate_fits : items.truncate < 2 ^ 32
  pub flag_fits : items.flag < 256
  pub size_fits : items.size < 65536
  pub few : length items.pages < 2 ^ 32
  pub numbers : HaveNumbers items.pages
  pub sizes : HaveSizes items.pages

abbrev items_from : ℕ → ℕ × ℕ → ℕ → List NumberedPage → FrameItems
items_from tx flagged size pages = record { tx = tx; truncate = flagged.0; flag = flagged.1; size = size; pages = pages }

pub record PassedItems (items : FrameItems) (old new : Unread) : Type 0 where
  pub are : AreItems items
  pub stood : Passed (items_bytes items) old new

-- items that stood one after the other
items_stand : (old m1 m2 m3 m4 new : Unread) (tx : ℕ) (flagged sized : ℕ × ℕ) (ns : List ℕ) (ps : List NumberedPage) → (tx < 2 ^ 64) × Passed (word tx) old m1 → PassedPair flagged.0 flagged.1 256 m1 m2
    → PassedPair sized.0 sized.1 65536 m2 m3 → PassedNumbers sized.0 ns m3 m4 → PassedPages ns ps m4 new → PassedItems (items_from tx flagged sized.1 ps) old new
items_stand old m1 m2 m3 m4 new tx flagged sized ns ps first second third numbers pages =
    let count : sized.0 ≡ length ps = sym numbers.many ∙ ap length (sym pages.numbers) ∙ as_many ps in
    let words : words_of ns ≡ number_words ps = ap words_of (sym pages.numbers) ∙ words_are ps in
    let number_part : Passed (number_words ps) m3 m4 = subst (λ (x : List ℕ). Passed x m3 m4) words numbers.passed in
    let size_part : Passed (pair (length ps) sized.1) m2 m3 = subst (λ (n : ℕ). Passed (pair n sized.1) m2 m3) count third.passed in
    let part3 = passed_both m3 m4 new (number_words ps) (page_bytes ps) number_part pages.passed in
    let part2 = passed_both m2 m3 new (pair (length ps) sized.1) (after_sizes ps) size_part part3 in
    let part1 = passed_both m1 m2 new (pair flagged.0 flagged.1) (after_flag sized.1 ps) second.passed part2 in
    record {
      are = record {
        tx_fits = first.0;
        truncate_fits = second.first_fits;
        flag_fits = second.second_fits;
        size_fits = third.second_fits;
        few = subst (λ (n : ℕ). n < 2 ^ 32) count third.first_fits;
        numbers = numbers_have ps (subst AreWords (sym pages.numbers) numbers.fit);
        sizes = pages.sizes;
      };
      stood = passed_both old m1 new (word tx) (after_tx flagged.0 flagged.1 sized.1 ps) first.1 part1;
    }

pub items_passed : (old new : Unread) (items : FrameItems) → AreBytes old.bytes → frame_items_at old ≡ Ok (items, new) → PassedItems items old new
unfolding frame_items_at
items_passed old new items fits e =
    let a = bind_ok (word_at old) (λ tx. flagged_at tx.1 >>= λ flagged. sized_at flagged.1 >>= λ sized. numbers_at sized.0.0 sized.1 >>= λ numbers. pages_at numbers.0 numbers.1 >>= λ pages. Ok (items_from tx.0 flagged.0 sized.0.1 pages.0, pages.1)) (items, new) e in
    let b = bind_ok (flagged_at a.0.1) (λ flagged. sized_at flagged.1 >>= λ sized. numbers_at sized.0.0 sized.1 >>= λ numbers. pages_at numbers.0 numbers.1 >>= λ pages. Ok (items_from a.0.0 flagged.0 sized.0.1 pages.0, pages.1)) (items, new) a.2 in
    let c = bind_ok (sized_at b.0.1) (λ sized. numbers_at sized.0.0 sized.1 >>= λ numbers. pages_at numbers.0 numbers.1 >>= λ pages. Ok (items_from a.0.0 b.0.0 sized.0.1 pages.0, pages.1)) (items, new) b.2 in
    let d = bind_ok (numbers_at c.0.0.0 c.0.1) (λ numbers. pages_at numbers.0 numbers.1 >>= λ pages. Ok (items_from a.0.0 b.0.0 c.0.0.1 pages.0, pages.1)) (items, new) c.2 in
    let f = bind_ok (pages_at d.0.0 d.0.1) (λ pages. Ok (items_from a.0.0 b.0.0 c.0.0.1 pages.0, pages.1)) (items, new) d.2 in
    let tx = word_passed old a.0.1 a.0.0 fits a.1 in
    let fits1 = bytes_after (word a.0.0) old a.0.1 tx.1 fits in
    let flagged = flagged_passed a.0.1 b.0.1 b.0.0 fits1 b.1 in
    let fits2 = bytes_after (pair b.0.0.0 b.0.0.1) a.0.1 b.0.1 flagged.passed fits1 in
    let sized = sized_passed b.0.1 c.0.1 c.0.0 fits2 c.1 in
    let fits3 = bytes_after (pair c.0.0.0 c.0.0.1) b.0.1 c.0.1 sized.passed fits2 in
    let numbers = numbers_passed c.0.0.0 c.0.1 d.0.1 d.0.0 fits3 d.1 in
    let pages = pages_passed d.0.0 d.0.1 f.0.1 f.0.0 f.1 in
    let made : FrameItems × Unread = (items_from a.0.0 b.0.0 c.0.0.1 f.0.0, f.0.1) in
    subst (λ (x : FrameItems × Unread). PassedItems x.0 old x.1) {x = made} (ok_is made (items, new) f.2)
    (items_stand old a.0.1 b.0.1 c.0.1 d.0.1 f.0.1 a.0.0 b.0.0 c.0.0 d.0.0 f.0.0 tx flagged sized numbers pages)

pub items_stood : (items : FrameItems) (old new : Unread) → AreItems items → Passed (items_bytes items) old new → frame_items_at old ≡ Ok (items, new)
unfolding frame_items_at
items_stood items old new are p =
    let ps = items.pages in
    let tail1 = after_tx items.truncate items.flag items.size ps in
    let tail2 = after_flag items.size ps in
    let tail3 = after_sizes ps in
    let mid1 = between old (word items.tx) tail1 new in
    let p1 = passed_second old new (word items.tx) tail1 p in
    let mid2 = between mid1 (pair items.truncate items.flag) tail2 new in
    let p2 = passed_second mid1 new (pair items.truncate items.flag) tail2 p1 in
    let mid3 = between mid2 (pair (length ps) items.size) tail3 new in
    let p3 = passed_second mid2 new (pair (length ps) items.size) tail3 p2 in
    let mid4 = between mid3 (number_words ps) (page_bytes ps) new in
    let tx = word_stood old mid1 items.tx are.tx_fits (passed_first old new (word items.tx) tail1 p) in
    let flagged = flagged_stood mid1 mid2 items.truncate items.flag are.truncate_fits are.flag_fits (passed_first mid1 new (pair items.truncate items.flag) tail2 p1) in
    let sized = sized_stood mid2 mid3 (length ps) items.size are.few are.size_fits (passed_first mid2 new (pair (length ps) items.size) tail3 p2) in
    let numbers = numbers_stood ps mid3 mid4 are.numbers (passed_first mid3 new (number_words ps) (page_bytes ps) p3) in
    let pages = pages_stood ps mid4 new are.sizes (passed_second mid3 new (number_words ps) (page_bytes ps) p3) in
    rw (tx, flagged, sized, numbers, pages) refl

-- ---- the command of the items

-- how the command of the items came about
pub record WasFrames (name : List ℕ) (items : FrameItems) (command : Command) : Type 0 where
  pub size : items.size ≡ 4096
  pub few : items.flag ≤ 1
  pub fits : frames_fit items.truncate (eqb items.flag 1) items.pages ≡ true
  pub is : Frames name items.tx items.truncate (eqb items.flag 1) items.pages ≡ command

was_frames : (name : List ℕ) (items : FrameItems) (command : Command) → frames_of name items ≡ Ok command → WasFrames name items command
was_frames name items command e =
    let commit = eqb items.flag 1 in
    let made : Command = Frames name items.tx items.truncate commit items.pages in
    let fits = frames_fit items.truncate commit items.pages in
    let a = passed (eqb items.size 4096) PageSize (cond (leb items.flag 1 && fits) (Ok made) (Err Number)) command e in
    let b = passed (leb items.flag 1 && fits) Number (Ok made) command a.1 in
    let both = both_true (leb items.flag 1) fits b.0 in
    record { size = eqb-true items.size 4096 a.0; few = leb-true items.flag 1 both.0; fits = both.1; is = command_is made command b.1 }

zero_or_one : (n : ℕ) (b : Bool) → eqb n 1 ≡ b → n ≤ 1 → flag b ≡ n
zero_or_one n true e few = sym (eqb-true n 1 e)
zero_or_one n false e few = omega (arith, eqb-false n 1 e)

pub flag_back : (n : ℕ) → n ≤ 1 → flag (eqb n 1) ≡ n
flag_back n few = zero_or_one n (eqb n 1) refl few

flag_few : (commit : Bool) → flag commit ≤ 1
flag_few true = omega arith
flag_few false = omega arith

flag_again : (commit : Bool) → eqb (flag commit) 1 ≡ commit
flag_again true = refl
flag_again false = refl

-- what was where the rest of a Frames command was read
pub record PassedFrames (name : List ℕ) (command : Command) (old new : Unread) : Type 0 where
  pub tx : ℕ
  pub truncate : ℕ
  pub commit : Bool
  pub pages : List NumberedPage
  pub is : Frames name tx truncate commit pages ≡ command
  pub tx_fits : tx < 2 ^ 64
  pub truncate_fits : truncate < 2 ^ 32
  pub numbers : HaveNumbers pages
  pub sizes : HaveSizes pages
  pub fits : frames_fit truncate commit pages ≡ true
  pub stood : Passed (frames_bytes tx truncate commit pages) old new

pub frames_passed : (name : List ℕ) (old new : Unread) (command : Command) → AreBytes old.bytes → frames_at name old ≡ Ok (command, new) → PassedFrames name command old new
unfolding frames_at
frames_passed name old new command fits e =
    let a = bind_ok (in_command (frame_items_at old)) (λ items. frames_of name items.0 >>= λ c. Ok (c, items.1)) (command, new) e in
    let b = bind_ok (frames_of name a.0.0) (λ c. Ok (c, a.0.1)) (command, new) a.2 in
    let items = a.0.0 in
    let p = items_passed old a.0.1 items fits (in_command_ok (frame_items_at old) a.0 a.1) in
    let w = was_frames name items b.0 b.1 in
    let made : Command × Unread = (b.0, a.0.1) in
    let flags : pair items.truncate items.flag ≡ pair items.truncate (flag (eqb items.flag 1)) = ap (pair items.truncate) (sym (flag_back items.flag w.few)) in
    let bytes : items_bytes items ≡ frames_bytes items.tx items.truncate (eqb items.flag 1) items.pages =
    ap (λ (x : List ℕ). word items.tx ++ (x ++ after_flag items.size items.pages)) flags
    ∙ ap (λ (n : ℕ). word items.tx ++ (pair items.truncate (flag (eqb items.flag 1)) ++ after_flag n items.pages)) w.size in
    subst (λ (x : Command × Unread). PassedFrames name x.0 old x.1) (command_is made (command, new) b.2)
    (record {
      tx = items.tx;
      truncate = items.truncate;
      commit = eqb items.flag 1;
      pages = items.pages;
      is = w.is;
      tx_fits = p.are.tx_fits;
      truncate_fits = p.are.truncate_fits;
      numbers = p.are.numbers;
      sizes = p.are.sizes;
      fits = w.fits;
      stood = subst (λ (x : List ℕ). Passed x old a.0.1) bytes p.stood;
    })

pub frames_stood : (name : List ℕ) (tx truncate : ℕ) (commit : Bool) (pages : List NumberedPage) (old new : Unread) → tx < 2 ^ 64 → truncate < 2 ^ 32 → length pages ≤ 64 → HaveNumbers pages → HaveSizes pages → frames_fit truncate commit pages ≡ true
    → Passed (frames_bytes tx truncate commit pages) old new → frames_at name old ≡ Ok (Frames name tx truncate commit pages, new)
unfolding frames_at
frames_stood name tx truncate commit pages old new tx_fits truncate_fits few numbers sizes fits p =
    let items : FrameItems = record { tx = tx; truncate = truncate; flag = flag commit; size = 4096; pages = pages } in
    let one = flag_few commit in
    let are : AreItems items = record { tx_fits = tx_fits; truncate_fits = truncate_fits; flag_fits = omega (arith, one); size_fits = omega arith; few = omega (arith, few); numbers = numbers; sizes = sizes } in
    rw (items_stood items old new are p, le-leb (flag commit) 1 one, flag_again commit, fits) refl
