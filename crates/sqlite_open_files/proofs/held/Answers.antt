use Rattle.std.proofs.Common.{refl, ap}
use Rattle.sqlite_wal.proofs.StateLemmas.{clean_of}
use Rattle.sqlite_trees.specs.View.{IsClean, doubt}
use Rattle.sqlite_store.specs.FileStore.{state, view, files}
use Rattle.sqlite_pool.specs.Pool as pool
use Rattle.sqlite_open_files.specs.Held.{image_in}
use Rattle.sqlite_open_files.proofs.OpenFiles.{holds_open}
use Rattle.sqlite_open_files.proofs.held.Goals as goal

pub returns : goal.returns
unfolding pool.state pool.files doubt
returns c is_open =
    let it = c.args.conn.now.store in
    let conn = c.connected.ensures in
    let clean : IsClean (view it) = ap doubt (clean_of (state it) is_open) in
    holds_open it (λ file. refl) is_open (conn.numbered clean) (conn.found clean) (image_in (files it)) (refl, (refl, refl))
