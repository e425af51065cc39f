-- Frames that are alike represent the same pages.
use Rattle.std.proofs.Common.{◌≡◌, ℕ, suc, zero, ◌<◌, ◌≤◌, cond, eqb, List, length, refl, sym, ap, ap₂, subst, ◌∙◌, inl, inr, arith}
use Rattle.std.proofs.lemmas.Bool.{cases_eq}
use Rattle.sqlite_wal.specs.Format.{page_number, content}
use Rattle.sqlite_wal.specs.Recovery as raw
use Rattle.sqlite_wal.specs.Recovery.{Pages, Image, IsIgnored, AreFramesOf, frame, page_count, page_after, pages_after}
use Rattle.sqlite_wal.specs.PageSize.{size_in_file}
use Rattle.sqlite_wal.proofs.FormatLemmas.{be32-part}
use Rattle.sqlite_wal.proofs.RecoveryLemmas as below
use Rattle.sqlite_wal.proofs.RecoveryLemmas.{replays_once}
use Rattle.sqlite_pages.specs.PageMap.{PageMap}
use Rattle.sqlite_pool.specs.Stored.{reserved, stored_size, Adopts}
use Rattle.sqlite_pool.proofs.ProbeLemmas.{size_by_log, size_by_file}
use Rattle.sqlite_trees.specs.Tree.{Trees}
use Rattle.sqlite.specs.Files.{HoldsDatabase}
use Rattle.sqlite_facts.specs.Alike.{HoldAlike, IsAlikeAt, AreAlike}

-- the same frames over the same file, up to a count of them
module _ (size : ℕ) (one other db : List ℕ) (numbers : List ℕ) (first : AreFramesOf size one numbers) (second : AreFramesOf size other numbers) (alike : (i : ℕ) → i < length numbers → IsAlikeAt size one other i) where
  same_number : (i : ℕ) → i < length numbers → page_number (frame size other i) ≡ page_number (frame size one i)
  same_number i low = sym (second.1 i low) ∙ first.1 i low

  same_count : (k : ℕ) → k ≤ length numbers → page_count size other db k ≡ page_count size one db k
  same_count zero low = refl
  same_count (suc i) low = sym (alike i (omega (arith, low))).0

  same_page : (n k : ℕ) → k ≤ length numbers → page_after size other db n k ≡ page_after size one db n k
  same_page n zero low = refl
  same_page n (suc i) low =
      let here : i < length numbers = omega (arith, low) in
      let number = same_number i here in
      let bytes : content (frame size other i) ≡ content (frame size one i) = sym (alike i here).1 in
      let rest = same_page n i (omega (arith, low)) in
      ap (λ (m : ℕ). cond (eqb m n) (content (frame size other i)) (page_after size other db n i)) number
      ∙ ap₂ (λ (b r : List ℕ). cond (eqb (page_number (frame size one i)) n) b r) bytes rest

  same_after : pages_after size other db (length numbers) ≡ pages_after size one db (length numbers)
  same_after =
      below.same_pages size one db other db (length numbers) (length numbers) (same_count (length numbers) (omega arith)) λ n low high.
      same_page n (length numbers) (omega arith)

  recovers : (pages : Pages) → raw.Recovers size (record { log = one; db = db }) pages → raw.Recovers size (record { log = other; db = db }) pages
  recovers pages found =
      let count : length numbers ≡ found.frames = replays_once size one (length numbers) found.frames first.0 found.replays in
      record {
        frames = length numbers;
        replays = second.0;
        present = found.present;
        gives = same_after ∙ ap (pages_after size one db) count ∙ found.gives;
      }

  -- frames for other numbers would be as many, and for the same pages
  frames_too : (list : List ℕ) → AreFramesOf size one list → AreFramesOf size other list
  frames_too list it =
      let count : length numbers ≡ length list = replays_once size one (length numbers) (length list) first.0 it.0 in (
        subst (raw.Replays size other) count second.0,
        λ i low. it.1 i low ∙ sym (same_number i (omega (arith, low, count))),
      )

module _ (one other db : List ℕ) (size : ℕ) (alike : AreAlike (stored_size size) one other) where
  adopts : (pages : PageMap) → Adopts size (record { log = one; db = db }) pages → Adopts size (record { log = other; db = db }) pages
  adopts pages it = record {
    stored = it.stored;
    found = recovers (stored_size size) one other db alike.numbers alike.first alike.second alike.alike it.stored it.found;
    whole = it.whole;
    numbers = it.numbers;
    frames = frames_too (stored_size size) one other db alike.numbers alike.first alike.second alike.alike it.numbers it.frames;
    sealed = it.sealed;
    shows = it.shows;
  }

large : {image : Image} {db : Trees} (held : HoldsDatabase image db) → 504 ≤ held.0
large held = let few : reserved held.0 ≤ 8 = grind arith in omega (arith, held.1.0)

-- a database that these files hold has the size of a page that the log, or the file without one, names
stored_named : (size : ℕ) (image : Image) (numbers : List ℕ) (trees : Trees) → AreFramesOf size image.log numbers → size_in_file image.db ≡ size → (held : HoldsDatabase image trees) → stored_size held.0 ≡ size
stored_named size image numbers trees frames named held = elim (cases_eq (stored_size held.0) size) [
  | inl same ↦ same
  | inr other ↦
      let by_log : ¬ IsIgnored image.log → stored_size held.0 ≡ size = λ read. elim frames.0 [
        | inl ignored ↦ absurd (read ignored.0)
        | inr taken ↦ sym (size_by_log held.0 image held.2.pages held.2.found read) ∙ sym (be32-part image.log 0 32 8 (omega arith)) ∙ taken.0.head.size
      ] in
      let by_file : IsIgnored image.log → stored_size held.0 ≡ size = λ ignored.
      sym (size_by_file held.0 image held.2.pages held.2.found (large held) held.2.ours.file.sound ignored) ∙ named in
      absurd (other (by_log λ ignored. other (by_file ignored)))
]

pub hold_alike : (db one other : List ℕ) → size_in_file db ≡ 4096 → AreAlike 4096 one other → HoldAlike (record { log = one; db = db }) (record { log = other; db = db })
hold_alike db one other named alike trees held =
    let size : stored_size held.0 ≡ 4096 = stored_named 4096 (record { log = one; db = db }) alike.numbers trees alike.first named held in
    let here : AreAlike (stored_size held.0) one other = subst (λ n. AreAlike n one other) (sym size) alike in (
      held.0,
      held.1,
      record {
        pages = held.2.pages;
        wanted = held.2.wanted;
        schema = held.2.schema;
        found = adopts one other db held.0 here held.2.pages held.2.found;
        ours = held.2.ours;
        reads = held.2.reads;
        sound = held.2.sound;
      },
    )
