-- Two files hold at most one database.
use Rattle.std.proofs.Common.{◌≡◌, ℕ, ◌+◌, ◌*◌, ◌<◌, ◌≤◌, List, map, take, is_some, option_map, Option, Some, None, refl, sym, ap, subst, ◌∙◌, inl, inr, arith}
use Rattle.std.proofs.lemmas.Bool.{cases_Bool, cases_eq}
use Rattle.sqlite_wal.specs.Recovery as raw
use Rattle.sqlite_wal.specs.Recovery.{Pages, Image, IsIgnored}
use Rattle.sqlite_wal.specs.Format.{be32}
use Rattle.sqlite_wal.proofs.RecoveryLemmas as below
use Rattle.sqlite_pages.specs.PageMap.{PageMap}
use Rattle.sqlite_pool.specs.Stored.{reserved, stored_size, sealed, is_among, resealed, trimmed, Recovers}
use Rattle.sqlite_pool.specs.File.{in_use, version_in}
use Rattle.sqlite_pool.proofs.ProbeLemmas.{size_by_log, size_by_file, reserved_word}
use Rattle.sqlite_pool.proofs.ResealLemmas.{adopted, still_whole}
use Rattle.sqlite_trees.specs.Tree.{Trees}
use Rattle.sqlite_trees.specs.Objects.{with_version}
use Rattle.sqlite_trees.specs.declared.store.Shape.TheVariants.{Table}
use Rattle.sqlite_store.specs.Db.{rows_at}
use Rattle.sqlite_store.specs.Roots.{has_index_root}
use Rattle.sqlite_store.specs.Listing.{file_trees}
use Rattle.sqlite_store.proofs.AlikeLemmas.{same_file}
use Rattle.sqlite.specs.Opening.{HoldsAt, HoldsIn, Meets, unrooted}
use Rattle.sqlite.specs.Files.{HoldsDatabase}
use Rattle.sqlite.proofs.OpenLemmas.{meets}
use Rattle.sqlite_facts.proofs.FlatFile.{recovers_flat}
use Rattle.sqlite_facts.proofs.CatalogRows.{met_once}

large : {image : Image} {db : Trees} (held : HoldsDatabase image db) → 504 ≤ held.0
large held = let few : reserved held.0 ≤ 8 = grind arith in omega (arith, held.1.0)

-- what the catalog says of files that hold a database, also if the pages of the log have no sums
met : {size : ℕ} {image : Image} {db : Trees} (some : 0 < size) (held : HoldsIn size image db)
    → Meets held.schema held.wanted (map unrooted (rows_at size (in_use size held.pages) Table 1)) (map (has_index_root (in_use size held.pages)) (rows_at size (in_use size held.pages) Table 1))
unfolding resealed
met {size} {image} {db} some held =
    let it = held.found in
    let kept : (n : ℕ) → is_some (resealed size it.numbers it.stored n) ≡ is_some (it.stored n) = λ n. elim (cases_Bool (is_among it.numbers n)) [ inl among ↦ rw among (there (it.stored n)) | inr other ↦ rw other ] in
    let flat = recovers_flat (stored_size size) image it.stored (resealed size it.numbers it.stored) (omega (arith, some)) it.found (still_whole size it.numbers it.stored it.whole) kept in
    let whole : HoldsAt size flat.0 db = record {
      pages = held.pages;
      wanted = held.wanted;
      schema = held.schema;
      found = adopted size it.numbers image flat.0 it.frames (record { stored = it.stored; found = it.found; whole = it.whole; now = flat.1 }) held.pages it;
      ours = held.ours;
      reads = held.reads;
      sound = held.sound;
    } in
    meets whole
  where
    there : (page : Option (List ℕ)) → is_some (option_map (λ bytes. sealed (take size bytes)) page) ≡ is_some page
    there None = refl
    there (Some bytes) = refl

-- at one size
module _ (size : ℕ) (some : 0 < size) (image : Image) (a b : Trees) where
  same_at : HoldsIn size image a → HoldsIn size image b → a ≡ b
  same_at p q =
      let pages : q.pages ≡ p.pages = sym q.found.shows ∙ ap (trimmed size) (below.recovers_once _ image _ _ q.found.found p.found.found) ∙ p.found.shows in
      let rows = λ (x : PageMap). map unrooted (rows_at size (in_use size x) Table 1) in
      let roots = λ (x : PageMap). map (has_index_root (in_use size x)) (rows_at size (in_use size x) Table 1) in
      let other = subst (λ (x : PageMap). Meets q.schema q.wanted (rows x) (roots x)) pages (met some q) in
      let listed = met_once p.schema q.schema p.wanted q.wanted (rows p.pages) (roots p.pages) (met some p) other in
      let read : b ≡ file_trees size q.wanted p.pages = q.reads ∙ ap (file_trees size q.wanted) pages in
      let trees = (same_file size p.wanted q.wanted p.pages (sym listed) p.ours).1 in
      p.reads ∙ ap (λ t. with_version t (version_in p.pages)) (sym trees) ∙ sym read

module _ (image : Image) (a b : Trees) (p : HoldsDatabase image a) (q : HoldsDatabase image b) where
  stored_once : stored_size p.0 ≡ stored_size q.0
  stored_once = elim (cases_eq (stored_size p.0) (stored_size q.0)) [
    | inl same ↦ same
    | inr other ↦
        let read : ¬ ¬ IsIgnored image.log = λ seen. other (sym (size_by_log p.0 image p.2.pages p.2.found seen) ∙ size_by_log q.0 image q.2.pages q.2.found seen) in
        absurd (read λ ignored. other (sym (size_by_file p.0 image p.2.pages p.2.found (large p) p.2.ours.file.sound ignored) ∙ size_by_file q.0 image q.2.pages q.2.found (large q) q.2.ours.file.sound ignored))
  ]

  size_once : p.0 ≡ q.0
  size_once =
      let same = stored_once in
      let x = reserved_word p.0 image p.2.pages p.2.found (large p) p.2.ours.file.sound in
      let y = reserved_word q.0 image q.2.pages q.2.found (large q) q.2.ours.file.sound in
      let pages = below.recovers_once _ image _ _ (subst (λ n. raw.Recovers n image p.2.found.stored) same p.2.found.found) q.2.found.found in
      let firsts = sym x.1 ∙ ap (λ (s : Pages). s 1) pages ∙ y.1 in
      let first : x.0 ≡ y.0 = cc in
      let words : reserved p.0 * 0x100_0000 + 0x0040_2020 ≡ reserved q.0 * 0x100_0000 + 0x0040_2020 = sym x.3 ∙ ap (λ bytes. be32 bytes 20) first ∙ y.3 in
      omega (arith, same, words)

pub one_database : (image : Image) (a b : Trees) → HoldsDatabase image a → HoldsDatabase image b → a ≡ b
one_database image a b p q = same_at p.0 (omega (arith, large p)) image a b p.2 (subst (λ n. HoldsIn n image b) (sym (size_once image a b p q)) q.2)
