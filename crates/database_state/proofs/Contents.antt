-- What commands do to databases under readers is what they do to the files that these show.
use Rattle.std.proofs.Common.{◌≡◌, ℕ, Bool, true, false, cond, List, [], ◌∷◌, ◌++◌, drop, take, map, fold, None, Result, Ok, Err, refl, sym, ap, ◌∙◌}
use Rattle.std.specs.Prelude.{is_none, length, OnOk}
use Rattle.std.proofs.lemmas.List.{take-append-drop}
use Rattle.dq_base.specs.declared.images.Image.{Image}
use Rattle.dq_base.specs.declared.pages.NumberedPage.{NumberedPage}
use Rattle.dq_base.specs.Applying.{applied, page_fault}
use Rattle.log_commands.specs.declared.command.Command.{Command}
use Rattle.log_commands.specs.declared.command.Command.TheVariants.{OpenDb, Frames, Undo, Checkpoint}
use Rattle.page_store.specs.Store.{Store, after_sets, newest_image, committed, checkpointed, sets_to_move}
use Rattle.page_store.proofs.Shown.{after_sets-append}
use Rattle.database_state.specs.declared.database.Database.{Database}
use Rattle.database_state.specs.Files.{Content, pending_of, image_after}
use Rattle.database_state.specs.Files as files
use Rattle.database_state.specs.Databases.{content_of, contents_of, has_name, opened, grown, with_commit, with_pending, frames, undone, moved, changed, act}
use Rattle.database_state.proofs.Named.{map_at_name, map_change_first}

pub committed_image : (store : Store) (pages : List NumberedPage) → newest_image (committed store pages) ≡ applied (newest_image store) pages
committed_image store pages = after_sets-append store.base store.sets (pages ∷ [])

-- a checkpoint changes no image
pub checkpointed_image : (store : Store) → newest_image (checkpointed store) ≡ newest_image store
checkpointed_image store =
    let n : ℕ = sets_to_move store in
    sym (after_sets-append store.base (take n store.sets) (drop n store.sets)) ∙ ap (after_sets store.base) (take-append-drop n store.sets)

commit_shown : (pages : List NumberedPage) (d : Database) → content_of (with_pending None (with_commit pages d)) ≡ record { name = d.name; image = image_after (newest_image d.store) pages; pending = None }
commit_shown pages d = by (is_none (page_fault pages))
  where
    by : (b : Bool) → content_of (with_pending None (cond b (record { name = d.name; place = d.place; store = committed d.store pages; pending = d.pending; since = grown d.since (length pages) }) d)) ≡ record { name = d.name; image = cond b (applied (newest_image d.store) pages) (newest_image d.store); pending = None }
    by true = ap (λ (image : Image). record { name = d.name; image = image; pending = None }) (committed_image d.store pages)
    by false = refl

frames_shown : (tx : ℕ) (commit : Bool) (pages : List NumberedPage) (d : Database) → content_of (frames tx commit pages d) ≡ files.frames tx commit pages (content_of d)
unfolding frames files.frames
frames_shown tx true pages d = commit_shown (pending_of tx d.pending ++ pages) d
frames_shown tx false pages d = refl

changed_shown : (name : List ℕ) (f : Database → Database) (g : Content → Content) → ((d : Database) → content_of (f d) ≡ g (content_of d)) → (ds : List Database) → contents_of (changed name f ds) ≡ files.changed name g (contents_of ds)
changed_shown name f g does ds = map_at_name content_of (λ d. d.name) (λ c. c.name) (opened (length ds) name) name f g (λ d. refl) does ds

each_shown : (tx : ℕ) (ds : List Database) → contents_of (map (undone tx) ds) ≡ map (files.undone tx) (contents_of ds)
each_shown tx [] = refl
each_shown tx (d ∷ ds) = ap (λ (cs : List Content). files.undone tx (content_of d) ∷ cs) (each_shown tx ds)

moved_shown : (d : Database) → content_of (moved d) ≡ content_of d
moved_shown d = ap (λ (image : Image). record { name = d.name; image = image; pending = d.pending }) (checkpointed_image d.store)

pub act_shown : (ds : List Database) (command : Command) → contents_of (act ds command) ≡ files.act (contents_of ds) command
unfolding act files.act
act_shown ds (OpenDb name) = changed_shown name (λ d. d) (λ c. c) (λ d. refl) ds
act_shown ds (Frames name tx truncate commit pages) = changed_shown name (frames tx commit pages) (files.frames tx commit pages) (frames_shown tx commit pages) ds
act_shown ds (Undo tx) = each_shown tx ds
act_shown ds (Checkpoint name) = map_change_first content_of (has_name name) moved moved_shown ds

pub fold_shown : (ds : List Database) (commands : List Command) → contents_of (fold act ds commands) ≡ fold files.act (contents_of ds) commands
fold_shown ds [] = refl
fold_shown ds (command ∷ commands) = fold_shown (act ds command) commands ∙ ap (λ (cs : List Content). fold files.act cs commands) (act_shown ds command)

pub files_shown : (commands : List Command) → contents_of (fold act [] commands) ≡ files.files commands
files_shown commands = fold_shown [] commands

pub shown_after : {F : Type 0} (result : Result (Unit {0}) F) (old new : List Database) (command : Command) → OnOk result (new ≡ act old command) → OnOk result (contents_of new ≡ files.act (contents_of old) command)
shown_after (Ok done) old new command ok = ap contents_of ok ∙ act_shown old command
shown_after (Err fault) old new command ok = tt
