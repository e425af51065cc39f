-- From a look at the files to a report, and from a report to the end of a check.
use Rattle.std.proofs.Common.{◌≡◌, ℕ, List, Option, Some, Ok, Err, Result, MatchResult, IfErr, String, string_bytes, refl, ap, subst, arith}
use Rattle.std.specs.declared.alloc.Global.{Global}
use Rattle.disk_model.specs.Disk.{Disk}
use Rattle.disk_model.specs.Trait.{Text}
use Rattle.store_laws.specs.Store.{Kept}
use Rattle.segment_store.specs.declared.load_fault.LoadFault.{LoadFault}
use Rattle.segment_store.specs.declared.load_fault.LoadFault.TheVariants as fault
use Rattle.segment_store.specs.Loading.{LooksAt, LookShows, LoadCause}
use Rattle.folder_check.specs.declared.ends.CheckEnd.{CheckEnd}
use Rattle.folder_check.specs.declared.ends.CheckEnd.TheVariants as ends
use Rattle.folder_check.specs.Lines.{lines_of}
use Rattle.folder_check.specs.Checking.{HasLines, IsEarly, EarlyShows, CheckShows, Checks, Prints, Reports, ReportCause, ReportShows, TellsKept, StaysUnlessPrinted, EndCause, end_of}

-- ---- a look that failed

pub early_end : (old new : Disk Text → Type 0) (f : LoadFault) → LooksAt old new (Err f) → IsEarly (end_of f)
early_end old new fault.NoMeta looks = tt
early_end old new (fault.Damaged segment at) looks = tt
early_end old new (fault.Gap first last) looks = tt
early_end old new fault.DiskFault looks = tt
early_end old new fault.NoMemory looks = tt

pub unlooked : (old new : Disk Text → Type 0) (f : LoadFault) → LooksAt old new (Err f) → Reports old new (Err (end_of f))
unlooked old new f looks = record { each = λ d b plain. let p = looks.each d b plain in (p.0, which d f p.1) }
  where
    which : (d : Disk Text) (f : LoadFault) → LookShows (Err f) d → EarlyShows (end_of f) d
    which d fault.NoMeta s = s
    which d (fault.Damaged segment at) s = s
    which d (fault.Gap first last) s = s
    which d fault.DiskFault s = s
    which d fault.NoMemory s = s

pub unlooked_cause : (before now : ℕ) (f : LoadFault) → LoadCause {T = Kept} before now (Err f) → ReportCause before now (Err (end_of f))
unlooked_cause before now fault.NoMeta cause = record { never_falls = cause.never_falls; failed = λ q. absurd cc }
unlooked_cause before now (fault.Damaged segment at) cause = record { never_falls = cause.never_falls; failed = λ q. absurd cc }
unlooked_cause before now (fault.Gap first last) cause = record { never_falls = cause.never_falls; failed = λ q. absurd cc }
unlooked_cause before now fault.DiskFault cause = record { never_falls = cause.never_falls; failed = λ q. cause.failed refl }
unlooked_cause before now fault.NoMemory cause = record { never_falls = cause.never_falls; failed = λ q. absurd cc }

-- ---- what was read

abbrev pub Tells : Kept → Result (String Global) CheckEnd → Type 0
Tells k result = MatchResult result (λ (text : String Global). lines_of k ≡ Some (string_bytes text)) (TellsKept k)

pub told_early : (k : Kept) (result : Result (String Global) CheckEnd) → Tells k result → IfErr result IsEarly
told_early k (Ok text) tells = tt
told_early k (Err ends.Done) tells = tells
told_early k (Err (ends.Damaged f)) tells = absurd tells
told_early k (Err (ends.Snapshot index)) tells = tt
told_early k (Err ends.DiskFault) tells = tt
told_early k (Err ends.WriteFault) tells = tells
told_early k (Err ends.NoMemory) tells = tt

pub told_cause : (before now : ℕ) (k : Kept) (result : Result (String Global) CheckEnd) → LoadCause before now (Ok k) → Tells k result → ReportCause before now result
told_cause before now k (Ok text) cause tells = record { never_falls = cause.never_falls; failed = λ q. absurd cc }
told_cause before now k (Err ends.Done) cause tells = absurd tells
told_cause before now k (Err (ends.Damaged f)) cause tells = absurd tells
told_cause before now k (Err (ends.Snapshot index)) cause tells = record { never_falls = cause.never_falls; failed = λ q. absurd cc }
told_cause before now k (Err ends.DiskFault) cause tells = absurd tells
told_cause before now k (Err ends.WriteFault) cause tells = absurd tells
told_cause before now k (Err ends.NoMemory) cause tells = record { never_falls = cause.never_falls; failed = λ q. absurd cc }

pub told : (old new : Disk Text → Type 0) (k : Kept) (result : Result (String Global) CheckEnd) → LooksAt old new (Ok k) → Tells k result → Reports old new result
told old new k result looks tells = record { each = λ d b plain. let p = looks.each d b plain in (p.0, which d p.1 result tells) }
  where
    which : (d : Disk Text) → LookShows (Ok k) d → (result : Result (String Global) CheckEnd) → Tells k result → ReportShows result d
    which d reads (Ok text) tells = record { kept = k; reads = reads; lines = tells }
    which d reads (Err ends.Done) tells = tells
    which d reads (Err (ends.Damaged f)) tells = absurd tells
    which d reads (Err (ends.Snapshot index)) tells = record { kept = k; reads = reads; index = tells.0; bad = tells.1 }
    which d reads (Err ends.DiskFault) tells = tt
    which d reads (Err ends.WriteFault) tells = tells
    which d reads (Err ends.NoMemory) tells = tt

-- ---- the end

pub printed : (old new : Disk Text → Type 0) (was now : Option (List ℕ)) (text : String Global) (shown : List ℕ) (end : CheckEnd) → shown ≡ string_bytes text → Reports old new (Ok text) → Prints end was now shown → Checks old new was now end
printed old new was now text shown end same reports prints = record {
  each = λ d b plain. let p = reports.each d b plain in (p.0, which d p.1 end (subst (λ (t : List ℕ). Prints end was now t) same prints));
}
  where
    which : (d : Disk Text) → HasLines (string_bytes text) d → (end : CheckEnd) → Prints end was now (string_bytes text) → CheckShows end was now d
    which d lines ends.Done prints = (string_bytes text, (lines, prints))
    which d lines (ends.Damaged f) prints = absurd prints
    which d lines (ends.Snapshot index) prints = absurd prints
    which d lines ends.DiskFault prints = tt
    which d lines ends.WriteFault prints = (string_bytes text, (lines, prints))
    which d lines ends.NoMemory prints = tt

pub refused : (old new : Disk Text → Type 0) (was now : Option (List ℕ)) (end : CheckEnd) → Reports old new (Err end) → IsEarly end → Checks old new was now end
refused old new was now end reports early = record { each = λ d b plain. let p = reports.each d b plain in (p.0, which d end early p.1) }
  where
    which : (d : Disk Text) (end : CheckEnd) → IsEarly end → EarlyShows end d → CheckShows end was now d
    which d ends.Done early shows = absurd early
    which d (ends.Damaged f) early shows = (early, shows)
    which d (ends.Snapshot index) early shows = shows
    which d ends.DiskFault early shows = tt
    which d ends.WriteFault early shows = absurd early
    which d ends.NoMemory early shows = tt

pub unwritten : {K : Type 0} (end : CheckEnd) (sink : K) → IsEarly end → StaysUnlessPrinted end sink sink
unwritten ends.Done sink early = tt
unwritten (ends.Damaged f) sink early = refl
unwritten (ends.Snapshot index) sink early = refl
unwritten ends.DiskFault sink early = refl
unwritten ends.WriteFault sink early = tt
unwritten ends.NoMemory sink early = refl

pub written : {K : Type 0} (end : CheckEnd) (was now : Option (List ℕ)) (text : List ℕ) (old new : K) → Prints end was now text → StaysUnlessPrinted end old new
written ends.Done was now text old new prints = tt
written (ends.Damaged f) was now text old new prints = absurd prints
written (ends.Snapshot index) was now text old new prints = absurd prints
written ends.DiskFault was now text old new prints = absurd prints
written ends.WriteFault was now text old new prints = tt
written ends.NoMemory was now text old new prints = absurd prints

-- ---- the causes

pub printed_disk : (before now : ℕ) (text : String Global) (was after : Option (List ℕ)) (shown : List ℕ) (end : CheckEnd) → ReportCause before now (Ok text) → Prints end was after shown → EndCause ends.DiskFault before now end
printed_disk before now text was after shown ends.Done cause prints = record { never_falls = cause.never_falls; failed = λ q. absurd cc }
printed_disk before now text was after shown (ends.Damaged f) cause prints = absurd prints
printed_disk before now text was after shown (ends.Snapshot index) cause prints = absurd prints
printed_disk before now text was after shown ends.DiskFault cause prints = absurd prints
printed_disk before now text was after shown ends.WriteFault cause prints = record { never_falls = cause.never_falls; failed = λ q. absurd cc }
printed_disk before now text was after shown ends.NoMemory cause prints = absurd prints

pub refused_disk : (before now : ℕ) (end : CheckEnd) → ReportCause before now (Err end) → EndCause ends.DiskFault before now end
refused_disk before now end cause = record { never_falls = cause.never_falls; failed = λ q. cause.failed (ap (λ (e : CheckEnd). Err e) q) }

pub refused_sink : (count : ℕ) (end : CheckEnd) → IsEarly end → EndCause ends.WriteFault count count end
refused_sink count end early = record { never_falls = omega arith; failed = λ q. absurd (subst IsEarly q early) }
