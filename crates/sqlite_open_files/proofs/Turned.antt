-- What is owned of a connection over files at one pin is owned of it over files at another, if these are pinned so.
use mathlib.Core.Path.{◌≡◌, sym, subst}
use mathlib.Core.List.{List, [], ◌∷◌}
use seplogic.Ra.Ura.{Ura}
use mir.Val.{Val}
use base.Fraction.{full_share}
use base.Logic.{ent, id⊢}
use base.Fml.{ftrue, fsep}
use types.Logic.{Logic, sem}
use types.Kit.{‵, ◌$◌, ◌∵◌, !, qed, move, use1, fsplit, fjoin, fpick, fpack, done}
use denote.RattleType.{RattleType, Valss}
use denote.Memory.{cell_at, part_of, raw_all}
use denote.RawPtr.{Ptr, block_ptr, null_ptr, lies_at}
use denote.Struct.Struct.{Struct, within}
use denote.Struct.Declared.{Declared, shape}
use Rattle.sqlite_open_files.specs.declared.pinned_file.Pin as pin
use Rattle.sqlite_files.specs.Recording.{Recorded}
use Rattle.sqlite_open_files.specs.Pins.{IsPinned}
use Rattle.sqlite_open_files.specs.contracts.pinned_file.PinnedFile as disk
use Rattle.sqlite_open_files.specs.contracts.pinned_file.PinnedFile.TheInside as disk_inside
use Rattle.sqlite_open_files.specs.declared.pinned_file.PinnedFile.TheInside as inside_disk
use Rattle.sqlite_open_files.specs.contracts.pinned_file.PinnedFileDisk.TheImpl as as_disk
use Rattle.sqlite_disk.specs.declared.Disk as disks
use Rattle.sqlite_wal.specs.contracts.log.Log as log
use Rattle.sqlite_pager.specs.contracts.pager.Pager as pager
use Rattle.sqlite_pool.specs.contracts.backing.Backing as backing
use Rattle.sqlite_pool.specs.contracts.pool.Pool as pool
use Rattle.sqlite_store.specs.contracts.store.FileStore as filestore
use Rattle.sqlite_store.specs.contracts.store.FileStoreStore.TheImpl as as_store
use Rattle.sqlite_store.specs.FileStore.{files}
use Rattle.sqlite_pool.specs.Pool as pools
use Rattle.sqlite.specs.contracts.connection.Connection as connection
use Rattle.std.specs.contracts.alloc.Global as global
use Rattle.std.specs.contracts.boxed.Box as boxes
use Rattle.std.specs.contracts.impls.GlobalAllocator.TheImpl as heap
use Rattle.std.specs.contracts.mem.ManuallyDrop as kept
use Rattle.sqlite.specs.contracts.connection.Connection.TheInside as conn_inside

module _ (K : RattleType) (g : pin.Ghosts K.Denot) where
  abbrev pub Disk : RattleType
  Disk = disk.the_row K g

  abbrev pub AsDisk : disks.Ghosts Recorded
  AsDisk = as_disk.ghosts K g as_disk.no_dict

  abbrev pub Log : Declared
  Log = log.the_type Disk AsDisk

  abbrev pub Pager : Declared
  Pager = pager.the_type Disk AsDisk

  abbrev pub Backing : Declared
  Backing = backing.the_type Disk AsDisk

  abbrev pub Pool : Declared
  Pool = pool.the_type Disk AsDisk

  abbrev pub Store : Declared
  Store = filestore.the_type Disk AsDisk

  abbrev pub StoreRow : RattleType
  StoreRow = filestore.the_row Disk AsDisk

  abbrev pub Conn : RattleType
  Conn = connection.the_row StoreRow (as_store.ghosts Disk AsDisk as_store.no_dict)

  abbrev pub Boxed : RattleType
  Boxed = boxes.the_row Conn global.the_row heap.ghosts

  abbrev pub Kept : Declared
  Kept = kept.the_type Boxed

  abbrev pub KeptRow : RattleType
  KeptRow = kept.the_row Boxed

  abbrev pub ConnType : Declared
  ConnType = conn_inside.the_type StoreRow (as_store.ghosts Disk AsDisk as_store.no_dict)

  abbrev pub ConnInside : RattleType
  ConnInside = conn_inside.the_row StoreRow (as_store.ghosts Disk AsDisk as_store.no_dict)

module _ (K N : RattleType) (g : pin.Ghosts K.Denot) (h : pin.Ghosts N.Denot) {M : Type 1} {𝓤 : Ura M} (𝓛 : Logic 𝓤) where
  abbrev Is : Recorded → Type 0
  Is d = IsPinned h.pinned d

  pub disk_turned : (d : Recorded) → Is d → (vs : List Val) → ent 𝓤 (sem 𝓛 ((Disk K g).own_val d vs)) (sem 𝓛 ((Disk N h).own_val d vs))
  disk_turned d is vs =
      qed 𝓛 (‵ ((Disk K g).own_val d vs) ∷ []) ∵ fpick ! (λ x. fsplit ! $
      let a : inside_disk.Inside N.Denot = record { file = x.0.file; of = record {} } in
      use1 𝓛 (‵ ((disk_inside.the_row N h).own_val a vs)) (id⊢ 𝓤 _) $ fjoin ! $
      fpack ! ((b : inside_disk.Inside N.Denot) × ((disk.the_view N h b ≡ d) × disk.the_invariant N h b))
      (λ y. fsep ((disk_inside.the_row N h).own_val y.0 vs) ftrue) (a, (x.1.0, subst Is (sym x.1.0) is)) $ done !)

  pub log_turned : (l : (Log K g).D) → Is l.log → Is l.db → (vs : List Val)
      → ent 𝓤 (sem 𝓛 ((Struct (shape (Log K g))).own_val ((Log K g).to l) vs)) (sem 𝓛 ((Struct (shape (Log N h))).own_val ((Log N h).to l) vs))
  log_turned l is-log is-db vs =
      qed 𝓛 (‵ ((Struct (shape (Log K g))).own_val ((Log K g).to l) vs) ∷ []) ∵ fpick ! (λ vss. fsplit ! $ move ! (1 ∷ []) $ fsplit ! $
      use1 𝓛 (‵ ((Disk N h).own_val l.log vss.0)) (disk_turned l.log is-log vss.0) $ move ! (1 ∷ []) $ fsplit ! $
      use1 𝓛 (‵ ((Disk N h).own_val l.db vss.1.0)) (disk_turned l.db is-db vss.1.0) $
      -- [the file; the other fields; the log; the equation]
      fjoin ! $ move ! (1 ∷ 0 ∷ []) $ fjoin ! $ move ! (1 ∷ 0 ∷ []) $ fjoin ! $
      fpack ! (Valss (shape (Log N h)).fields) (within (shape (Log N h)) ((Log N h).to l) vs) vss $ done !)

  pub pager_turned : (p : (Pager K g).D) → Is p.log.log → Is p.log.db → (vs : List Val)
      → ent 𝓤 (sem 𝓛 ((Struct (shape (Pager K g))).own_val ((Pager K g).to p) vs)) (sem 𝓛 ((Struct (shape (Pager N h))).own_val ((Pager N h).to p) vs))
  pager_turned p is-log is-db vs =
      qed 𝓛 (‵ ((Struct (shape (Pager K g))).own_val ((Pager K g).to p) vs) ∷ []) ∵ fpick ! (λ vss. fsplit ! $ move ! (1 ∷ []) $ fsplit ! $
      use1 𝓛 (‵ ((Struct (shape (Log N h))).own_val ((Log N h).to p.log) vss.0)) (log_turned p.log is-log is-db vss.0) $
      fjoin ! $ move ! (1 ∷ 0 ∷ []) $ fjoin ! $
      fpack ! (Valss (shape (Pager N h)).fields) (within (shape (Pager N h)) ((Pager N h).to p) vs) vss $ done !)

  pub backing_turned : (p : (Backing K g).D) → Is p.pager.log.log → Is p.pager.log.db → (vs : List Val)
      → ent 𝓤 (sem 𝓛 ((Struct (shape (Backing K g))).own_val ((Backing K g).to p) vs)) (sem 𝓛 ((Struct (shape (Backing N h))).own_val ((Backing N h).to p) vs))
  backing_turned p is-log is-db vs =
      qed 𝓛 (‵ ((Struct (shape (Backing K g))).own_val ((Backing K g).to p) vs) ∷ []) ∵ fpick ! (λ vss. fsplit ! $ move ! (1 ∷ []) $ fsplit ! $
      use1 𝓛 (‵ ((Struct (shape (Pager N h))).own_val ((Pager N h).to p.pager) vss.0)) (pager_turned p.pager is-log is-db vss.0) $
      fjoin ! $ move ! (1 ∷ 0 ∷ []) $ fjoin ! $
      fpack ! (Valss (shape (Backing N h)).fields) (within (shape (Backing N h)) ((Backing N h).to p) vs) vss $ done !)

  pub pool_turned : (p : (Pool K g).D) → Is p.backing.pager.log.log → Is p.backing.pager.log.db → (vs : List Val)
      → ent 𝓤 (sem 𝓛 ((Struct (shape (Pool K g))).own_val ((Pool K g).to p) vs)) (sem 𝓛 ((Struct (shape (Pool N h))).own_val ((Pool N h).to p) vs))
  pool_turned p is-log is-db vs =
      qed 𝓛 (‵ ((Struct (shape (Pool K g))).own_val ((Pool K g).to p) vs) ∷ []) ∵ fpick ! (λ vss. fsplit ! $ move ! (1 ∷ []) $ fsplit ! $
      use1 𝓛 (‵ ((Struct (shape (Backing N h))).own_val ((Backing N h).to p.backing) vss.0)) (backing_turned p.backing is-log is-db vss.0) $
      fjoin ! $ move ! (1 ∷ 0 ∷ []) $ fjoin ! $
      fpack ! (Valss (shape (Pool N h)).fields) (within (shape (Pool N h)) ((Pool N h).to p) vs) vss $ done !)

  pub store_turned : (p : (Store K g).D) → Is p.pool.backing.pager.log.log → Is p.pool.backing.pager.log.db → (vs : List Val)
      → ent 𝓤 (sem 𝓛 ((StoreRow K g).own_val p vs)) (sem 𝓛 ((StoreRow N h).own_val p vs))
  store_turned p is-log is-db vs =
      qed 𝓛 (‵ ((StoreRow K g).own_val p vs) ∷ []) ∵ fpick ! (λ vss. fsplit ! $ move ! (1 ∷ []) $ fsplit ! $
      use1 𝓛 (‵ ((Struct (shape (Pool N h))).own_val ((Pool N h).to p.pool) vss.0)) (pool_turned p.pool is-log is-db vss.0) $
      fjoin ! $ move ! (1 ∷ 0 ∷ []) $ fjoin ! $
      fpack ! (Valss (shape (Store N h)).fields) (within (shape (Store N h)) ((Store N h).to p) vs) vss $ done !)

  -- a connection is seen as the fields that it has
  abbrev Shown : (Conn N h).Denot → (ConnInside N h).Denot → Type 0
  Shown c a = (connection.the_view (StoreRow N h) (as_store.ghosts (Disk N h) (AsDisk N h) as_store.no_dict) a ≡ c)
      × connection.the_invariant (StoreRow N h) (as_store.ghosts (Disk N h) (AsDisk N h) as_store.no_dict) a

  pub inside_turned : (c : (ConnInside K g).Denot) → Is (files c.store).0 → Is (files c.store).1 → (vs : List Val)
      → ent 𝓤 (sem 𝓛 ((ConnInside K g).own_val c vs)) (sem 𝓛 ((ConnInside N h).own_val c vs))
  unfolding pools.files
  inside_turned c is-log is-db vs =
      qed 𝓛 (‵ ((ConnInside K g).own_val c vs) ∷ []) ∵ fpick ! (λ vss. fsplit ! $ move ! (1 ∷ []) $ fsplit ! $
      use1 𝓛 (‵ ((StoreRow N h).own_val c.store vss.0)) (store_turned c.store is-log is-db vss.0) $
      fjoin ! $ move ! (1 ∷ 0 ∷ []) $ fjoin ! $
      fpack ! (Valss (shape (ConnType N h)).fields) (within (shape (ConnType N h)) ((ConnType N h).to c) vs) vss $ done !)

  pub conn_turned : (c : (Conn K g).Denot) → Is (files c.store).0 → Is (files c.store).1 → (vs : List Val)
      → ent 𝓤 (sem 𝓛 ((Conn K g).own_val c vs)) (sem 𝓛 ((Conn N h).own_val c vs))
  conn_turned c is-log is-db vs =
      qed 𝓛 (‵ ((Conn K g).own_val c vs) ∷ []) ∵ fpick ! (λ x. fsplit ! $
      use1 𝓛 (‵ ((ConnInside N h).own_val x.0 vs))
      (inside_turned x.0 (subst (λ (d : (Conn K g).Denot). Is (files d.store).0) (sym x.1.0) is-log)
      (subst (λ (d : (Conn K g).Denot). Is (files d.store).1) (sym x.1.0) is-db) vs) $ fjoin ! $
      fpack ! ((a : (ConnInside N h).Denot) × Shown c a) (λ y. fsep ((ConnInside N h).own_val y.0 vs) ftrue) x $ done !)

  -- a connection that lies at a place
  lies_turned : (p : Ptr) (c : (Conn K g).Denot) → Is (files c.store).0 → Is (files c.store).1
      → ent 𝓤 (sem 𝓛 (lies_at (Conn K g) full_share p c)) (sem 𝓛 (lies_at (Conn N h) full_share p c))
  unfolding part_of
  lies_turned null_ptr c is-log is-db = id⊢ 𝓤 _
  lies_turned (block_ptr b o) c is-log is-db =
      qed 𝓛 (‵ (lies_at (Conn K g) full_share (block_ptr b o) c) ∷ []) ∵ fpick ! (λ vs. fsplit ! $ move ! (1 ∷ []) $
      use1 𝓛 (‵ ((Conn N h).own_val c vs)) (conn_turned c is-log is-db vs) $ move ! (1 ∷ 0 ∷ []) $ fjoin ! $
      fpack ! (List Val) (λ us. fsep (cell_at full_share (raw_all (Conn N h).mir) us b o) ((Conn N h).own_val c us)) vs $ done !)

  pub boxed_turned : (d : (Boxed K g).Denot) → Is (files d.value.store).0 → Is (files d.value.store).1 → (vs : List Val)
      → ent 𝓤 (sem 𝓛 ((Boxed K g).own_val d vs)) (sem 𝓛 ((Boxed N h).own_val d vs))
  boxed_turned d is-log is-db vs =
      -- [its fields; what lies at the pointer; the right to free it]
      qed 𝓛 (‵ ((Boxed K g).own_val d vs) ∷ []) ∵ fsplit ! $ move ! (1 ∷ []) $ fsplit ! $
      use1 𝓛 (‵ (lies_at (Conn N h) full_share d.ptr d.value)) (lies_turned d.ptr d.value is-log is-db) $ fjoin ! $ move ! (1 ∷ 0 ∷ []) $ fjoin ! $ done !

  pub kept_turned : (c : (Kept K g).D) → Is (files c.value.value.store).0 → Is (files c.value.value.store).1 → (vs : List Val)
      → ent 𝓤 (sem 𝓛 ((KeptRow K g).own_val c vs)) (sem 𝓛 ((KeptRow N h).own_val c vs))
  kept_turned c is-log is-db vs =
      qed 𝓛 (‵ ((KeptRow K g).own_val c vs) ∷ []) ∵ fpick ! (λ vss. fsplit ! $ move ! (1 ∷ []) $ fsplit ! $
      use1 𝓛 (‵ ((Boxed N h).own_val c.value vss.0)) (boxed_turned c.value is-log is-db vss.0) $
      fjoin ! $ move ! (1 ∷ 0 ∷ []) $ fjoin ! $
      fpack ! (Valss (shape (Kept N h)).fields) (within (shape (Kept N h)) ((Kept N h).to c) vs) vss $ done !)
