-- The databases after entries.
use Rattle.std.proofs.Common.{◌≡◌, ◌≢◌, ℕ, zero, suc, ◌+◌, ◌-◌, ◌<◌, ◌≤◌, Bool, true, false, true≢false, List, [], ◌∷◌, ◌++◌, length, take, drop, map, refl, sym, ap, ◌∙◌, subst, arith, append_assoc, take-append-drop}
use Rattle.std.specs.Prelude.{◌==◌, bytes_eq, is_none, Some, None}
use Rattle.std.proofs.lemmas.List.{take-append-le, drop-append-le, take-take, drop-take}
use Rattle.std.proofs.lemmas.Bool.{cond_both, cond-true, cond-false, eq-eqb}
use Rattle.dq_base.specs.declared.pages.NumberedPage.{NumberedPage}
use Rattle.dq_base.specs.declared.pages.PageSet.{PageSet}
use Rattle.dq_base.specs.Applying.{page_fault}
use Rattle.log_commands.specs.declared.command.Command.{Command}
use Rattle.log_commands.specs.declared.command.Command.TheVariants.{OpenDb, Frames, Undo, Checkpoint}
use Rattle.log_commands.specs.Splitting.{split_from, before_last, split}
use Rattle.database_state.specs.Files.{image_after, pending_of}
use Rattle.session_spec.specs.Entries.{Content, Does, Configures, Other, Entry, entries_of}
use Rattle.session_spec.specs.Machine.{Base, Machine, nothing, with_commit, framed, checked, act, done, files_from, files, base_at}
use Rattle.session_spec.proofs.Names.{same_name, names_apart}

-- ---- what leaves a database alone

-- whether a command may do something to the image or the pending pages of a name
abbrev pub touches_by : List ℕ → Command → Bool
touches_by name (OpenDb other) = false
touches_by name (Frames other tx truncate commit pages) = bytes_eq name other
touches_by name (Undo tx) = true
touches_by name (Checkpoint other) = false

abbrev pub touches : List ℕ → Content → Bool
touches name (Does command) = touches_by name command
touches name (Configures servers) = false
touches name Other = false

-- no entry does
abbrev pub Free : List ℕ → List Entry → Type 0
Free name [] = Unit {0}
Free name (e ∷ es) = (touches name e.content ≡ false) × Free name es

-- the same image, pending pages and number of commits
pub record Alike (d e : Base) : Type 0 where
  pub image : d.image ≡ e.image
  pub pending : d.pending ≡ e.pending
  pub newest : d.newest ≡ e.newest

pub alike_refl : (d : Base) → Alike d d
alike_refl d = record { image = refl; pending = refl; newest = refl }

pub alike_trans : {d e f : Base} → Alike d e → Alike e f → Alike d f
alike_trans a b = record { image = a.image ∙ b.image; pending = a.pending ∙ b.pending; newest = a.newest ∙ b.newest }

act_alike : (m : Machine) (c : Command) (name : List ℕ) → touches_by name c ≡ false → Alike ((act m c).base name) (m.base name)
unfolding act
act_alike m (OpenDb other) name e = alike_refl _
act_alike m (Frames other tx truncate commit pages) name e =
    subst (λ d. Alike d (m.base name)) (sym (cond-false (bytes_eq name other) (framed tx commit pages (m.base name)) (m.base name) e)) (alike_refl _)
act_alike m (Undo tx) name e = absurd (true≢false e)
act_alike m (Checkpoint other) name e = cond_both (bytes_eq name other) (checked (m.base name)) (m.base name) (λ d. Alike d (m.base name)) (λ x. record { image = refl; pending = refl; newest = refl }) (λ x. alike_refl _)

done_alike : (m : Machine) (c : Content) (name : List ℕ) → touches name c ≡ false → Alike ((done m c).base name) (m.base name)
done_alike m (Does command) name e = act_alike m command name e
done_alike m (Configures servers) name e = alike_refl _
done_alike m Other name e = alike_refl _

pub free_alike : (es : List Entry) (m : Machine) (name : List ℕ) → Free name es → Alike ((files_from m es).base name) (m.base name)
free_alike [] m name f = alike_refl _
free_alike (e ∷ es) m name f = alike_trans (free_alike es (done m e.content) name f.1) (done_alike m e.content name f.0)

pub free_append : (xs ys : List Entry) (name : List ℕ) → Free name xs → Free name ys → Free name (xs ++ ys)
free_append [] ys name a b = b
free_append (x ∷ xs) ys name a b = (a.0, free_append xs ys name a.1 b)

pub free_drop : (k : ℕ) (xs : List Entry) (name : List ℕ) → Free name xs → Free name (drop k xs)
free_drop zero xs name a = a
free_drop (suc k) [] name a = tt
free_drop (suc k) (x ∷ xs) name a = free_drop k xs name a.1

pub free_grown : (k : ℕ) (log es : List Entry) (name : List ℕ) → k ≤ length log → Free name (drop k log) → Free name es → Free name (drop k (log ++ es))
free_grown k log es name l a b = subst (Free name) (sym (drop-append-le k log es l)) (free_append (drop k log) es name a b)

pub free_take : (k : ℕ) (xs : List Entry) (name : List ℕ) → Free name xs → Free name (take k xs)
free_take zero xs name a = tt
free_take (suc k) [] name a = tt
free_take (suc k) (x ∷ xs) name a = (a.0, free_take k xs name a.1)

-- ---- fronts of lists

pub files_append : (xs ys : List Entry) → files (xs ++ ys) ≡ files_from (files xs) ys
unfolding files
files_append xs ys = go nothing xs
  where
    go : (m : Machine) (xs : List Entry) → files_from m (xs ++ ys) ≡ files_from (files_from m xs) ys
    go m [] = refl
    go m (x ∷ xs) = go (done m x.content) xs

pub base_append : (xs ys : List Entry) (p : ℕ) (name : List ℕ) → p ≤ length xs → base_at (xs ++ ys) p name ≡ base_at xs p name
base_append xs ys p name h = ap (λ l. (files l).base name) (take-append-le p xs ys h)

pub base_take : (xs : List Entry) (p k : ℕ) (name : List ℕ) → p ≤ k → base_at (take k xs) p name ≡ base_at xs p name
base_take xs p k name h = ap (λ l. (files l).base name) (take-take p k xs h)

-- ---- the entries of a change of pages

-- what they make of their database
pub record Splits (d e : Base) (pages : List NumberedPage) : Type 0 where
  pub image : e.image ≡ image_after d.image pages
  pub pending : e.pending ≡ None

own_pending : (tx : ℕ) (pages : List NumberedPage) → pending_of tx (Some (record { tx = tx; pages = pages })) ≡ pages
own_pending tx pages = cond-true (tx == tx) pages [] (eq-eqb tx tx refl)

-- the commands of a change as what entries are for
abbrev pub contents_of : List Command → List Content
contents_of commands = map Does commands

pub committed_image : (pages : List NumberedPage) (base : Base) → (with_commit pages base).image ≡ image_after base.image pages
unfolding with_commit
committed_image pages base =
    cond_both (is_none (page_fault pages)) _ base (λ d. d.image ≡ image_after base.image pages)
    (λ e. refl)
    (λ e. sym (cond-false (is_none (page_fault pages)) _ base.image e))

pub splits_from : (t : ℕ) (name : List ℕ) (tx more : ℕ) (pages : List NumberedPage) (m : Machine) → Splits (m.base name) ((files_from m (entries_of t (contents_of (split_from more name tx pages)))).base name) (pending_of tx (m.base name).pending ++ pages)
unfolding act framed split_from
splits_from t name tx zero pages m =
    let here = cond-true (bytes_eq name name) (framed tx true pages (m.base name)) (m.base name) (same_name name) in
    subst (λ d. Splits (m.base name) d (pending_of tx (m.base name).pending ++ pages)) (sym here)
    (record { image = committed_image (pending_of tx (m.base name).pending ++ pages) (m.base name); pending = refl })
splits_from t name tx (suc more) pages m =
    let v = act m (Frames name tx 0 false (take 64 pages)) in
    let here : v.base name ≡ framed tx false (take 64 pages) (m.base name) = cond-true (bytes_eq name name) (framed tx false (take 64 pages) (m.base name)) (m.base name) (same_name name) in
    let rest = splits_from t name tx more (drop 64 pages) v in
    let joined : pending_of tx (v.base name).pending ≡ pending_of tx (m.base name).pending ++ take 64 pages = ap (λ (d : Base). pending_of tx d.pending) here ∙ own_pending tx (pending_of tx (m.base name).pending ++ take 64 pages) in
    let all : pending_of tx (v.base name).pending ++ drop 64 pages ≡ pending_of tx (m.base name).pending ++ pages = ap (λ l. l ++ drop 64 pages) joined ∙ append_assoc (pending_of tx (m.base name).pending) (take 64 pages) (drop 64 pages) ∙ ap (λ l. pending_of tx (m.base name).pending ++ l) (take-append-drop 64 pages) in
    record { image = rest.image ∙ ap (λ (d : Base). image_after d.image (pending_of tx (v.base name).pending ++ drop 64 pages)) here ∙ ap (image_after (m.base name).image) all; pending = rest.pending }

pub split_makes : (t : ℕ) (name : List ℕ) (set : PageSet) (m : Machine) → (m.base name).pending ≡ None → Splits (m.base name) ((files_from m (entries_of t (contents_of (split name set)))).base name) set.pages
split_makes t name set m e = subst (λ o. Splits (m.base name) ((files_from m (entries_of t (contents_of (split name set)))).base name) (pending_of set.tx o ++ set.pages)) e (splits_from t name set.tx (before_last set.pages) set.pages m)

-- the other databases are left alone
pub split_free : (t : ℕ) (name : List ℕ) (tx more : ℕ) (pages : List NumberedPage) (other : List ℕ) → other ≢ name → Free other (entries_of t (contents_of (split_from more name tx pages)))
unfolding split_from
split_free t name tx zero pages other e = (names_apart other name e, tt)
split_free t name tx (suc more) pages other e = (names_apart other name e, split_free t name tx more (drop 64 pages) other e)

pub split_some : (name : List ℕ) (tx more : ℕ) (pages : List NumberedPage) → 0 < length (contents_of (split_from more name tx pages))
unfolding split_from
split_some name tx zero pages = omega arith
split_some name tx (suc more) pages = omega arith

-- ---- commits are counted

-- if none was made, the image is the same
pub record Counts (d e : Base) : Type 0 where
  pub up : d.newest ≤ e.newest
  pub same : e.newest ≡ d.newest → e.image ≡ d.image

counts_refl : (d : Base) → Counts d d
counts_refl d = record { up = omega arith; same = λ e. refl }

counts_commit : (pages : List NumberedPage) (d : Base) → Counts d (with_commit pages d)
unfolding with_commit
counts_commit pages d = cond_both (is_none (page_fault pages)) _ d (Counts d) (λ x. record { up = omega arith; same = λ e. absurd (omega (arith, e)) }) (λ x. counts_refl d)

counts_framed : (tx : ℕ) (commit : Bool) (pages : List NumberedPage) (d : Base) → Counts d (framed tx commit pages d)
unfolding framed
counts_framed tx true pages d = let c = counts_commit (pending_of tx d.pending ++ pages) d in record { up = c.up; same = c.same }
counts_framed tx false pages d = record { up = omega arith; same = λ e. refl }

counts_act : (m : Machine) (c : Command) (name : List ℕ) → Counts (m.base name) ((act m c).base name)
unfolding act
counts_act m (OpenDb other) name = counts_refl _
counts_act m (Frames other tx truncate commit pages) name = cond_both (bytes_eq name other) (framed tx commit pages (m.base name)) (m.base name) (Counts (m.base name)) (λ x. counts_framed tx commit pages (m.base name)) (λ x. counts_refl _)
counts_act m (Undo tx) name = record { up = omega arith; same = λ e. refl }
counts_act m (Checkpoint other) name = cond_both (bytes_eq name other) (checked (m.base name)) (m.base name) (Counts (m.base name)) (λ x. record { up = omega arith; same = λ e. refl }) (λ x. counts_refl _)

counts_done : (m : Machine) (c : Content) (name : List ℕ) → Counts (m.base name) ((done m c).base name)
counts_done m (Does command) name = counts_act m command name
counts_done m (Configures servers) name = counts_refl _
counts_done m Other name = counts_refl _

counts_trans : {d e f : Base} → Counts d e → Counts e f → Counts d f
counts_trans {d} {e} {f} a b = record {
  up = omega (arith, a.up, b.up);
  same = λ x.
      let l = a.up in
      let k = b.up in
      let y : e.newest ≡ d.newest = omega (arith, x) in
      let z : f.newest ≡ e.newest = omega (arith, x) in
      b.same z ∙ a.same y;
}

counts_from : (es : List Entry) (m : Machine) (name : List ℕ) → Counts (m.base name) ((files_from m es).base name)
counts_from [] m name = counts_refl _
counts_from (e ∷ es) m name = counts_trans (counts_done m e.content name) (counts_from es (done m e.content) name)

-- ---- between two indexes

pub files_between : (log : List Entry) (i k : ℕ) → i ≤ k → files (take k log) ≡ files_from (files (take i log)) (drop i (take k log))
files_between log i k h =
    let front : take k log ≡ take i log ++ drop i (take k log) = sym (take-append-drop i (take k log)) ∙ ap (λ l. l ++ drop i (take k log)) (take-take i k log h) in
    ap files front ∙ files_append (take i log) (drop i (take k log))

pub counts_between : (log : List Entry) (i k : ℕ) (name : List ℕ) → i ≤ k → Counts (base_at log i name) (base_at log k name)
counts_between log i k name h =
    subst (λ m. Counts (base_at log i name) (m.base name)) (sym (files_between log i k h)) (counts_from (drop i (take k log)) (files (take i log)) name)

pub free_between : (log : List Entry) (i k : ℕ) (name : List ℕ) → i ≤ k → Free name (drop i log) → Free name (drop i (take k log))
free_between log i k name h f =
    let e : i + (k - i) ≡ k = omega arith in
    subst (Free name) (sym (drop-take i (k - i) log) ∙ ap (λ j. drop i (take j log)) e) (free_take (k - i) (drop i log) name f)

pub alike_between : (log : List Entry) (i k : ℕ) (name : List ℕ) → i ≤ k → Free name (drop i log) → Alike (base_at log k name) (base_at log i name)
alike_between log i k name h f = subst (λ m. Alike (m.base name) (base_at log i name)) (sym (files_between log i k h)) (free_alike (drop i (take k log)) (files (take i log)) name (free_between log i k name h f))
