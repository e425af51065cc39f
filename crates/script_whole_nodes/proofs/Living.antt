-- How the life of a node at its place continues, and that it leads where its turns do.
use Rattle.std.proofs.Common.{inl, inr, ◌≡◌, ◌⊎◌, ◌≤◌, ℕ, zero, suc, Bool, true, false, leb, List, [], ◌∷◌, ◌++◌, length, take, drop, Option, Some, None, refl, sym, ap, subst, ◌∙◌, arith}
use Rattle.std.proofs.lemmas.List.{append_assoc, append-nil, length-append, take_all, drop_at}
use Rattle.std.proofs.lemmas.Bool.{leb-true, le-leb, true≢false}
use Rattle.sql_engine.specs.declared.kind.EngineKind.{EngineKind}
use Rattle.sql_engine.specs.Meanings.{Meaning}
use Rattle.disk_model.specs.Disk.{Disk, Held, no_files}
use Rattle.disk_model.specs.Rest.{Rest}
use Rattle.disk_model.specs.Trait.{Text}
use Rattle.raft_safety.specs.Members.{Setup}
use Rattle.store_laws.specs.Chance.{NoChance, MetaGenuine, BatchesGenuine, SnapGenuine}
use Rattle.store_laws.specs.Store.{Format, reader, Outcome as Found, Loaded, Damaged, NoMeta, Gap}
use Rattle.store_format.specs.NodeFormat.{node_format}
use Rattle.segment_store.specs.Keeps.{folder}
use Rattle.segment_store.specs.Loading.{kept_in}
use Rattle.node_core.specs.declared.running.Running.{Running}
use Rattle.script_cluster.specs.Outcomes.{Ending, Steps, Starts, Stops, Fails, Unreadable, Turn, Does, Crashes}
use Rattle.script_safety.specs.Slots.{Seat, Runs, Rests, SlotPath}
use Rattle.script_safety.specs.Places.{Led, IsLeft, IsFair, IsPlaced}
use Rattle.script_safety.proofs.Placing.{places_begin_hold, disks_crash_on_hold}
use Rattle.script_whole_nodes.specs.Lives.{Find, turns_to, Begins, ReachesSlot, FoundBy, IsFoundAfter, Stands, LeavesFound, Lives, IsFairWithin}

-- ---- a disk at rest

same_front : (xs : List ℕ) (n : ℕ) → take (length (take n xs)) xs ≡ take n xs
same_front [] zero = refl
same_front [] (suc n) = refl
same_front (x ∷ xs) zero = refl
same_front (x ∷ xs) (suc n) = ap (λ (ys : List ℕ). x ∷ ys) (same_front xs n)

whole_front : (xs : List ℕ) → take (length xs) xs ≡ xs
whole_front xs = take_all (length xs) xs (omega arith)

meta_rests : (f : Format) (side : _) (h : Held) (c : List ℕ) → h.bytes ≡ c → MetaGenuine f side h c
meta_rests f side h c same = record { whole = λ some. record { why = inl (ap (λ (xs : List ℕ). take (length c) xs) same ∙ whole_front c) } }

-- what follows a front of a file, read at the end of that front
stood : (front rest xs : List ℕ) (n : ℕ) → xs ≡ front ++ rest → take (length (take n rest)) (drop (length front) xs) ≡ take n rest
stood front rest xs n is =
    ap (λ (ys : List ℕ). take (length (take n rest)) (drop (length front) ys)) is
    ∙ ap (take (length (take n rest))) (drop_at front rest (length front) refl)
    ∙ same_front rest n

batches_rest : (f : Format) (h : Held) (c : List ℕ) → h.bytes ≡ c → BatchesGenuine f h c
batches_rest f h c same = record {
  each = λ front rest is whole some. record { why = inl (stood front rest h.bytes (reader f c rest).size (same ∙ is)) };
}

snapshot_rests : (f : Format) (j : ℕ) (h : Held) (c : List ℕ) → h.bytes ≡ c → SnapGenuine f j h c
snapshot_rests f j h c same = record { whole = λ some. inl (sym same) }

-- what lies on a disk at rest was written
pub rest_is_fair : (e : Disk Text) → ((n : Text) → Rest (e.held n) (e.read n)) → IsFair e
rest_is_fair e rest = record {
  first = meta_rests node_format _ _ _ (rest _).bytes;
  second = meta_rests node_format _ _ _ (rest _).bytes;
  segment = λ k. batches_rest node_format _ _ (rest _).bytes;
  snapshot = λ j. snapshot_rests node_format j _ _ (rest _).bytes;
}

none_rests : (n : Text) → Rest ((no_files {N = Text}).held n) ((no_files {N = Text}).read n)
none_rests n = record { since = refl; bytes = refl; standing = refl; empty = λ q. refl }

-- ---- fronts

abbrev first_of : Turn → List Turn → Turn
first_of d [] = d
first_of d (x ∷ l) = x

abbrev rest_of : List Turn → List Turn
rest_of [] = []
rest_of (x ∷ l) = l

cut_front : (xs ys front rest : List Turn) → xs ++ ys ≡ front ++ rest → length front ≤ length xs → Begins front xs
cut_front xs ys [] rest same few = (xs, refl)
cut_front [] ys (t ∷ front) rest same few = absurd (omega (arith, few))
cut_front (x ∷ xs) ys (t ∷ front) rest same few =
    let more = cut_front xs ys front rest (ap rest_of same) (omega (arith, few)) in
    (more.0, (λ i. ap (first_of x) same i ∷ more.1 i))

either : {A B C : Type 0} → A ⊎ B → (A → C) → (B → C) → C
either (inl a) f g = f a
either (inr b) f g = g b

le_by : (a b : ℕ) (least : Bool) → leb a b ≡ least → (a ≤ b) ⊎ (a ≤ b → ⊥)
le_by a b true is = inl (leb-true a b is)
le_by a b false is = inr (λ q. true≢false (sym (le-leb a b q) ∙ is))

le_or : (a b : ℕ) → (a ≤ b) ⊎ (a ≤ b → ⊥)
le_or a b = le_by a b (leb a b) refl

-- ---- paths

module _ (m : Meaning) (kind : EngineKind) (setup : Setup) (n : ℕ) where
  front_leads : (old new : Seat) (front rest : List Turn) → SlotPath m kind setup n old (front ++ rest) new → (mid : Seat) × SlotPath m kind setup n old front mid
  front_leads old new [] rest p = (old, refl)
  front_leads old new (turn ∷ front) rest p = let more = front_leads p.0 new front rest p.2 in (more.0, (p.0, p.1, more.1))

  begins_leads : (front turns : List Turn) (seat : Seat) → Begins front turns → Led m kind setup n turns seat → (mid : Seat) × Led m kind setup n front mid
  begins_leads front turns seat begins led = front_leads _ seat front begins.0 (subst (λ (ts : List Turn). Led m kind setup n ts seat) begins.1 led)

  left_seat : (turns : List Turn) (found : Found) → IsLeft (λ kept. Led m kind setup n turns (Rests kept)) found → (seat : Seat) × Led m kind setup n turns seat
  left_seat turns (Loaded kept) led = (Rests kept, led)
  left_seat turns Damaged led = absurd led
  left_seat turns NoMeta led = absurd led
  left_seat turns (Gap first last) led = absurd led

  -- the seat to which the turns have led at a place
  pub seat_of : (turns : List Turn) (d : Disk Text) (node : Option Running) → Stands m kind setup n turns d node → (seat : Seat) × Led m kind setup n turns seat
  seat_of turns d (Some node) stands = (Runs node, stands.0)
  seat_of turns d None stands = left_seat turns (kept_in (folder d).read) (stands.0.crash (folder d).read stands.0.seen stands.1)

  -- ---- a life continues

  pub life_begins : (states : Disk Text → Type 0) → states no_files → Lives m kind setup n zero states [] None
  life_begins states told = (no_files, told, (places_begin_hold m kind setup n, rest_is_fair no_files none_rests))

  begins_on : (turns : List Turn) (turn : Turn) (front : List Turn) → Begins front turns → Begins front (turns ++ turn ∷ [])
  begins_on turns turn front begins = (begins.0 ++ turn ∷ [], ap (λ (ts : List Turn). ts ++ turn ∷ []) begins.1 ∙ append_assoc front begins.0 (turn ∷ []))

  comes_on : (turns : List Turn) (turn : Turn) (find : Find) → ReachesSlot m kind setup n turns find → ReachesSlot m kind setup n (turns ++ turn ∷ []) find
  comes_on turns turn find comes = record { begins = begins_on turns turn (turns_to find) comes.begins; seat = comes.seat; led = comes.led; left = comes.left; came = comes.came }

  -- by a turn that leads on from each state of the disk
  pub life_on : (finds : ℕ) (old new : Disk Text → Type 0) (turns : List Turn) (turn : Turn) (was now : Option Running)
      → ((d : Disk Text) → old d → Stands m kind setup n turns d was → (e : Disk Text) × new e × Stands m kind setup n (turns ++ turn ∷ []) e now)
      → Lives m kind setup n finds old turns was → Lives m kind setup n finds new (turns ++ turn ∷ []) now
  life_on zero old new turns turn was now on life = on life.0 life.1 life.2
  life_on (suc finds) old new turns turn was now on life = (life.0, comes_on turns turn life.0 life.1, λ fair. life_on finds old new turns turn was now on (life.2 fair))

  same_fair : (turns : List Turn) (before found : Disk Text) → IsPlaced m kind setup n turns before None → found ≡ before → NoChance node_format (folder before) (folder found).read → Stands m kind setup n turns found None
  same_fair turns before found left same fair = (
    subst (λ (d : Disk Text). IsPlaced m kind setup n turns d None) (sym same) left,
    subst (λ (d : Disk Text). NoChance node_format (folder d) (folder found).read) (sym same) fair,
  )

  found_by : (ending : Ending) (turns : List Turn) (before found : Disk Text) → IsPlaced m kind setup n turns before None → FoundBy ending before found → NoChance node_format (folder before) (folder found).read
      → Stands m kind setup n turns found None
  found_by (Stops keeps) turns before found left crashed fair = (disks_crash_on_hold m kind setup n turns before found left crashed fair, rest_is_fair found crashed.rest)
  found_by (Fails keeps) turns before found left same fair = same_fair turns before found left same fair
  found_by Unreadable turns before found left same fair = same_fair turns before found left same fair
  found_by (Steps outs standing) turns before found left none fair = absurd none
  found_by (Starts kept standing) turns before found left none fair = absurd none

  found_fair : (turn : Turn) (turns : List Turn) (before found : Disk Text) → IsPlaced m kind setup n turns before None → IsFoundAfter turn before found → NoChance node_format (folder before) (folder found).read
      → Stands m kind setup n turns found None
  found_fair (Does k doing aim outcome) turns before found left came fair = found_by outcome.ending turns before found left came fair
  found_fair (Crashes k pick) turns before found left came fair = absurd came

  -- by a turn by which the node fell, or none started
  pub life_falls : (finds : ℕ) (old new : Disk Text → Type 0) (turns : List Turn) (turn : Turn) (was : Option Running)
      → ((d : Disk Text) → old d → Stands m kind setup n turns d was → LeavesFound m kind setup n new turns turn)
      → Lives m kind setup n finds old turns was → Lives m kind setup n (suc finds) new (turns ++ turn ∷ []) None
  life_falls zero old new turns turn was falls life =
      let fall = falls life.0 life.1 life.2 in
      let seat = seat_of turns life.0 was life.2 in (
        record { earlier = turns; turn = turn; before = fall.before; found = fall.found },
        record { begins = ([], sym (append-nil (turns ++ turn ∷ []))); seat = seat.0; led = seat.1; left = fall.left; came = fall.came },
        λ fair. (fall.found, fall.told, found_fair turn (turns ++ turn ∷ []) fall.before fall.found fall.left fall.came fair),
      )
  life_falls (suc finds) old new turns turn was falls life = (life.0, comes_on turns turn life.0 life.1, λ fair. life_falls finds old new turns turn was falls (life.2 fair))

  -- ---- where a life leads

  near : (front turns : List Turn) (find : Find) → Begins front turns → Begins (turns_to find) turns → (length (turns_to find) ≤ length front → ⊥) → Begins front find.earlier
  near front turns find begins to far =
      let count : length (turns_to find) ≡ suc (length find.earlier) = length-append find.earlier (find.turn ∷ []) ∙ omega arith in
      let few : length front ≤ length find.earlier = omega (arith, count, far) in
      cut_front find.earlier (find.turn ∷ to.0) front begins.0 (sym (append_assoc find.earlier (find.turn ∷ []) to.0) ∙ sym to.1 ∙ begins.1) few

  -- A front of the turns leads to a seat, if no checksum matched by chance within it.
  pub life_leads : (finds : ℕ) (states : Disk Text → Type 0) (turns : List Turn) (node : Option Running) (life : Lives m kind setup n finds states turns node) (front : List Turn) → Begins front turns
      → IsFairWithin m kind setup n finds states turns node (length front) life → (seat : Seat) × Led m kind setup n front seat
  life_leads zero states turns node life front begins fair = let whole = seat_of turns life.0 node life.2 in begins_leads front turns whole.0 begins whole.1
  life_leads (suc finds) states turns node life front begins fair =
      either (le_or (length (turns_to life.0)) (length front))
      (λ within. let is = fair within in life_leads finds states turns node (life.2 is.0) front begins is.1)
      (λ far. begins_leads front life.0.earlier life.1.seat (near front turns life.0 begins life.1.begins far) life.1.led)
