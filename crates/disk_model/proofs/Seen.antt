-- What is read of a file is what a crash may leave: so it stays through calls.
use Rattle.std.proofs.Common.{◌≡◌, ℕ, ◌≤◌, true, false, List, length, take, refl, sym, ◌∙◌, subst, arith}
use Rattle.disk_model.specs.Disk.{Found, found, missing, Change, Held, LeavesBytes, LeavesFile}
use Rattle.disk_model.specs.Calls.{put, after_write, after_cut, after_remove}
use Rattle.disk_model.specs.Rest.{Rest}
use Rattle.disk_model.proofs.Changes.{put_bytes, cut_bytes, same_bytes, made_present, gone_unsure}

-- a write to a file that is there
pub seen_write : (h : Held) (f : Found) (at : ℕ) (bytes : List ℕ) → f.there ≡ true → at ≤ length f.bytes → LeavesFile h f → LeavesFile (after_write at bytes h) (found (put at bytes f.bytes))
seen_write h f at bytes t within was = record {
  sure = λ e. refl;
  absent = λ e. absurd (made_present h.standing e);
  empty = λ e. absurd cc;
  left = λ e. put_bytes h.bytes h.since at bytes f.bytes within (was.left t);
}

-- the write that makes a file, if all was at rest
pub seen_new : (h : Held) (f : Found) (bytes : List ℕ) → f.there ≡ false → Rest h f → LeavesFile (after_write 0 bytes h) (found (put 0 bytes f.bytes))
seen_new h f bytes t rest =
    let here : LeavesBytes h.bytes h.since f.bytes = subst (λ (c : List ℕ). LeavesBytes h.bytes h.since c) rest.bytes (subst (λ (s : List Change). LeavesBytes h.bytes s h.bytes) (sym rest.since) (same_bytes h.bytes)) in
    let fits : 0 ≤ length f.bytes = omega arith in
    record {
      sure = λ e. refl;
      absent = λ e. absurd (made_present h.standing e);
      empty = λ e. absurd cc;
      left = λ e. put_bytes h.bytes h.since 0 bytes f.bytes fits here;
    }

-- a cut of a file that is there
pub seen_cut : (h : Held) (f : Found) (k : ℕ) → f.there ≡ true → LeavesFile h f → LeavesFile (after_cut k h) (record { there = f.there; bytes = take k f.bytes })
seen_cut h f k t was = record {
  sure = λ e. was.sure e;
  absent = λ e. was.absent e;
  empty = λ e. let z : true ≡ false = sym t ∙ e in absurd cc;
  left = λ e. cut_bytes h.bytes h.since k f.bytes (was.left t);
}

-- a removal
pub seen_remove : (h : Held) → LeavesFile (after_remove h) missing
seen_remove h = record {
  sure = λ e. absurd (gone_unsure h.standing e);
  absent = λ e. refl;
  empty = λ e. refl;
  left = λ e. absurd cc;
}
