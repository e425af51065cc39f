-- A greater bound on the segments' numbers says the same.
use Rattle.std.proofs.Common.{◌≡◌, ℕ, suc, Bool, List, [], ◌∷◌, ◌++◌, sym, ap, ◌∙◌, subst, arith, cond}
use Rattle.std.proofs.lemmas.List.{append-nil}
use Rattle.store_laws.specs.Names.{Segment, NodeDisk}
use Rattle.store_laws.specs.Store.{snap_in, Format, kept, segments, log_of, empty_log, all_batches, answer, meta_of, sound}
use Rattle.store_laws.specs.Settled.{Steady}
use Rattle.store_laws.specs.Laws.{MoreRoom}
use Rattle.store_laws.proofs.Folders.{segments_suc}

kept_room : (f : Format) (top : ℕ) (d : NodeDisk) → segments (suc top) d.read ≡ segments top d.read → kept f (suc top) d.read ≡ kept f top d.read
unfolding kept
kept_room f top d e = λ i. answer (meta_of f d.read) (snap_in f d.read) (sound f (e i)) (all_batches f (e i))

pub more_room_holds : MoreRoom
more_room_holds f top d s =
    let nothing : cond (d.read (Segment top)).there ((d.read (Segment top)).bytes ∷ []) [] ≡ [] = ap (λ (b : Bool). cond b ((d.read (Segment top)).bytes ∷ []) []) (s.above top (omega arith)) in
    let e : segments (suc top) d.read ≡ segments top d.read = segments_suc top d.read ∙ ap (λ (l : List (List ℕ)). segments top d.read ++ l) nothing ∙ append-nil (segments top d.read) in (
      record {
        first = s.first;
        second = s.second;
        segment = s.segment;
        above = λ k h. s.above k (omega arith);
        whole = s.whole;
        snap_read = s.snap_read;
        snap = s.snap;
        snap_rest = s.snap_rest;
        steady = subst (λ (l : List (List ℕ)). Steady (snap_in f d.read) (log_of empty_log (all_batches f l))) (sym e) s.steady;
      },
      kept_room f top d e,
    )
