-- What is known by marks of the files beneath a connection.
use Rattle.std.proofs.Common.{◌≡◌, ℕ, ◌-◌, ◌^◌, ◌<◌, Bool, true, false, List, Option, Some, None, IfSome, refl, sym, ap, subst, ◌∙◌}
use Rattle.dq_base.specs.declared.images.Image.{Image}
use Rattle.sqlite_store.specs.FileStore.{files}
use Rattle.sqlite_files.specs.Recording.{Recorded, PastFile, IsRecorded, IsSince, WasThen, since}
use Rattle.sqlite_files.proofs.StampedPages.{since_now}
use Rattle.sqlite_open_files.specs.Pins.{IsPinned}
use Rattle.sqlite_engine.specs.declared.marks.Marks.{Marks}
use Rattle.sqlite_engine.specs.Marking.{AreTold, IsMarked, AreMarked, ArePinned, pins_of}
use Rattle.sqlite_engine.specs.Settling.{files_beneath}
use Rattle.sqlite_engine.specs.Sql.{Conn}

of_some : PastFile → Option PastFile → PastFile
of_some other None = other
of_some other (Some past) = past

-- a file whose flag is known is pinned as marks say
pinned_by : (base : Image) (marks : Marks) (is_log : Bool) (file : Recorded) (was : PastFile) → file.is_log ≡ is_log
    → pins_of base (Some marks) is_log ≡ Some was
    → IsSince was file.after file.stamps file.writes → IsPinned (pins_of base (Some marks)) file
unfolding of_some
pinned_by base marks is_log file was flag is since past e =
    subst (λ (p : PastFile). IsSince p file.after file.stamps file.writes) (ap (of_some past) (sym is ∙ sym (ap (pins_of base (Some marks)) flag) ∙ e)) since

pub pinned_by_marks : (base : Image) (marks : Option Marks) (c : Conn) → AreMarked base marks c → ArePinned (pins_of base marks) c
pinned_by_marks base None c marked = record { log = λ past e. absurd cc; main = λ past e. absurd cc }
pinned_by_marks base (Some marks) c marked =
    let it = marked marks refl in
    record {
      log = pinned_by base marks true (files c.store).0 (record { bytes = base.side; mark = marks.side }) it.told.log refl it.side;
      main = pinned_by base marks false (files c.store).1 (record { bytes = base.main; mark = marks.main }) it.told.main refl it.main;
    }

-- after a call, if the files still differ in their flags
pub still_marked : (base : Image) (marks now : Option Marks) (c : Conn) → IfSome now (λ it. (marks ≡ Some it) × AreTold c)
    → ArePinned (pins_of base marks) c → AreMarked base now c
still_marked base marks None c told pinned it e = absurd cc
still_marked base marks (Some now) c told pinned it e =
    subst (λ (m : Marks). IsMarked base m c) (ap (from it) e) (record {
      told = told.1;
      side = pinned.log (record { bytes = base.side; mark = now.side })
          (ap (λ (m : Option Marks). pins_of base m (files c.store).0.is_log) told.0 ∙ ap (pins_of base (Some now)) told.1.log);
      main = pinned.main (record { bytes = base.main; mark = now.main })
          (ap (λ (m : Option Marks). pins_of base m (files c.store).1.is_log) told.0 ∙ ap (pins_of base (Some now)) told.1.main);
    })
  where
    from : Marks → Option Marks → Marks
    from other None = other
    from other (Some m) = m

-- with any limit of steps they are marked so
pub limited_marked : (base : Image) (marks : Option Marks) (c : Conn) (limit : Option ℕ) → AreMarked base marks c
    → AreMarked base marks (record c { step_limit = limit })
limited_marked base marks c limit marked it e = let was = marked it e in record {
  told = record { log = was.told.log; main = was.told.main };
  side = was.side;
  main = was.main;
}

-- the files are now what they are now
pub marked_now : (c : Conn) (it : Marks) → AreTold c → it.main ≡ (files c.store).1.writes → it.side ≡ (files c.store).0.writes → it.main < 2 ^ 64 - 1
    → it.side < 2 ^ 64 - 1
    → IsMarked (files_beneath c) it c
marked_now c it told main_is side_is main_low side_low =
    let main : Recorded = (files c.store).1 in
    let side : Recorded = (files c.store).0 in
    record {
      told = told;
      side = subst (λ (n : ℕ). WasThen side.after n side) (sym side_is)
          (since_now side.after side.stamps side.writes (subst (λ (n : ℕ). n < 2 ^ 64 - 1) side_is side_low));
      main = subst (λ (n : ℕ). WasThen main.after n main) (sym main_is)
          (since_now main.after main.stamps main.writes (subst (λ (n : ℕ). n < 2 ^ 64 - 1) main_is main_low));
    }

-- a file as it is looked at since a call
pub recorded_by : (base bytes stamps : List ℕ) (mark number : ℕ) (file : Recorded) → bytes ≡ file.after → stamps ≡ file.stamps → mark ≡ number
    → WasThen base number file → IsRecorded base bytes (since mark stamps)
recorded_by base bytes stamps mark number file bytes_is stamps_is mark_is was =
    subst (λ (b : List ℕ). IsRecorded base b (since mark stamps)) (sym bytes_is)
    (subst (λ (s : List ℕ). IsRecorded base file.after (since mark s)) (sym stamps_is)
    (subst (λ (m : ℕ). IsRecorded base file.after (since m file.stamps)) (sym mark_is) was.recorded))

pub some_is : (a b : Marks) → Some a ≡ Some b → a ≡ b
some_is a b e = cc
