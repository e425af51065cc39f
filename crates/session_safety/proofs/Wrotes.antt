-- What a proposed change of pages makes of the log.
use Rattle.std.proofs.Common.{◌≡◌, ℕ, suc, ◌+◌, ◌-◌, ◌<◌, ◌≤◌, true, List, ◌++◌, length, drop, refl, sym, ap, ◌∙◌, subst, arith, length-append}
use Rattle.std.specs.Prelude.{None}
use Rattle.std.proofs.lemmas.List.{length-map, take_all, drop_all, drop_at}
use Rattle.dq_base.specs.declared.images.Image.{Image}
use Rattle.dq_base.specs.Changes.{changed}
use Rattle.log_commands.specs.Splitting.{before_last, split}
use Rattle.database_state.specs.Files.{image_after}
use Rattle.sql_engine.specs.Replies.{Statement, Reply}
use Rattle.sql_engine.specs.Meanings.{Meaning, IsShort}
use Rattle.sql_engine.specs.Runs.{RanAll}
use Rattle.session_spec.specs.Entries.{Content, Entry, entries_of, tx_of}
use Rattle.session_spec.specs.Machine.{Base, Machine, files, files_from, base_at, image_at, part}
use Rattle.session_spec.specs.Engines.{takes}
use Rattle.session_spec.proofs.Images.{apply_changed}
use Rattle.session_safety.specs.Replies.{CommitOk, change_entries, StandsAt}
use Rattle.session_safety.proofs.Files.{Free, files_append, base_append, alike_between, contents_of, split_makes, split_some, Splits}
use Rattle.session_safety.proofs.Invariant.{Calm}
use Rattle.session_safety.proofs.Weaves.{last_stands}

-- the commands of a change of pages, as the next entries of a log
abbrev pub block_for : List Entry → ℕ → List ℕ → Image → Image → List Content
block_for log term name from to = contents_of (split name (record { tx = tx_of term (suc (length log)); pages = changed from to }))

-- its last entry follows the log
pub block_end : (log : List Entry) (term : ℕ) (name : List ℕ) (from to : Image) → (content : Content) × StandsAt (log ++ entries_of term (block_for log term name from to)) (length log + length (block_for log term name from to)) term content
block_end log term name from to = last_stands log term (block_for log term name from to) (split_some name (tx_of term (suc (length log))) (before_last (changed from to)) (changed from to))

-- the entries of a change of pages from one image to another, after a log at whose applied index nothing of the database is on its way
module _ (log : List Entry) (applied term : ℕ) (name : List ℕ) (from to : Image) (low : applied ≤ length log) (calm : Calm name applied log) (is : image_at log applied name ≡ from) (fits : takes (changed from to) ≡ true) (short : IsShort to) where
  end_base : (xs : List Entry) (n : List ℕ) → base_at xs (length xs) n ≡ (files xs).base n
  end_base xs n = ap (λ l. (files l).base n) (take_all (length xs) xs (omega arith))

  now : (files log).base name ≡ base_at log (length log) name
  now = sym (end_base log name)

  still : ((files log).base name).pending ≡ None
  still = ap (λ (d : Base). d.pending) now ∙ (alike_between log applied (length log) name low calm.free).pending ∙ calm.still

  image_now : ((files log).base name).image ≡ from
  image_now = ap (λ (d : Base). d.image) now ∙ (alike_between log applied (length log) name low calm.free).image ∙ is

  made : Splits ((files log).base name) ((files_from (files log) (entries_of term (block_for log term name from to))).base name) (changed from to)
  made = split_makes term name (record { tx = tx_of term (suc (length log)); pages = changed from to }) (files log) still

  pub wrote_last : length log + length (block_for log term name from to) ≡ length (log ++ entries_of term (block_for log term name from to))
  wrote_last = sym (length-append log _ ∙ ap (λ k. length log + k) (length-map (block_for log term name from to) (λ (c : Content). record { term = term; content = c })))

  pub wrote_some : 0 < length (block_for log term name from to)
  wrote_some = split_some name (tx_of term (suc (length log))) (before_last (changed from to)) (changed from to)

  log_base : base_at (log ++ entries_of term (block_for log term name from to)) (length (log ++ entries_of term (block_for log term name from to))) name ≡ (files_from (files log) (entries_of term (block_for log term name from to))).base name
  log_base = end_base (log ++ entries_of term (block_for log term name from to)) name ∙ ap (λ (m : Machine). m.base name) (files_append log (entries_of term (block_for log term name from to)))

  pub wrote_calm : Calm name (length log + length (block_for log term name from to)) (log ++ entries_of term (block_for log term name from to))
  wrote_calm = subst (λ k. Calm name k (log ++ entries_of term (block_for log term name from to))) (sym wrote_last) (record {
    free = subst (Free name) (sym (drop_all _ (log ++ entries_of term (block_for log term name from to)) (omega arith))) tt;
    still = ap (λ (d : Base). d.pending) log_base ∙ made.pending;
  })

  after : image_at (log ++ entries_of term (block_for log term name from to)) (length (log ++ entries_of term (block_for log term name from to))) name ≡ to
  after = ap (λ (d : Base). d.image) log_base ∙ made.image ∙ ap (λ i. image_after i (changed from to)) image_now ∙ apply_changed from to short fits

  before : image_at (log ++ entries_of term (block_for log term name from to)) (suc (length log) - 1) name ≡ from
  before =
      let e : suc (length log) - 1 ≡ length log = omega arith in
      ap (λ k. image_at (log ++ entries_of term (block_for log term name from to)) k name) e
      ∙ ap (λ (d : Base). d.image) (base_append log (entries_of term (block_for log term name from to)) (length log) name (omega arith) ∙ sym now) ∙ image_now

  whole : part (log ++ entries_of term (block_for log term name from to)) (suc (length log)) (length (log ++ entries_of term (block_for log term name from to))) ≡ entries_of term (block_for log term name from to)
  whole =
      let e : suc (length log) - 1 ≡ length log = omega arith in
      let all = take_all (length (log ++ entries_of term (block_for log term name from to))) (log ++ entries_of term (block_for log term name from to)) (omega arith) in
      ap (drop (suc (length log) - 1)) all ∙ ap (λ k. drop k (log ++ entries_of term (block_for log term name from to))) e ∙ drop_at log _ (length log) refl

  pub wrote_commit : (mean : Meaning) (ss : List Statement) (gs : List Reply) → RanAll mean from ss to gs → CommitOk mean (log ++ entries_of term (block_for log term name from to)) (record { name = name; first = suc (length log); last = length log + length (block_for log term name from to); term = term; statements = ss })
  wrote_commit mean ss gs ran =
      let last = wrote_last in
      let some = wrote_some in
      let image_last : image_at (log ++ entries_of term (block_for log term name from to)) (length log + length (block_for log term name from to)) name ≡ to = ap (λ k. image_at (log ++ entries_of term (block_for log term name from to)) k name) wrote_last ∙ after in
      record {
        low = omega arith;
        order = omega arith;
        within = omega arith;
        entries = ap (part (log ++ entries_of term (block_for log term name from to)) (suc (length log))) wrote_last ∙ whole ∙ ap (λ i. change_entries term (suc (length log)) name i to) (sym before) ∙ ap (λ i. change_entries term (suc (length log)) name (image_at (log ++ entries_of term (block_for log term name from to)) (suc (length log) - 1) name) i) (sym image_last);
        replies = gs;
        ran = subst (λ i. RanAll mean i ss (image_at (log ++ entries_of term (block_for log term name from to)) (length log + length (block_for log term name from to)) name) gs) (sym before) (subst (λ i. RanAll mean from ss i gs) (sym image_last) ran);
      }
