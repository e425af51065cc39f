-- What is in the files after a call.
use Rattle.std.proofs.Common.{◌≡◌, ℕ, ◌+◌, ◌≤◌, Bool, true, false, cond, List, [], ◌++◌, length, refl, sym, ap, ◌∙◌, subst, arith}
use Rattle.std.proofs.lemmas.List.{append-nil, drop_all, take_all}
use Rattle.disk_model.specs.Disk.{Found, found}
use Rattle.disk_model.specs.Calls.{Done, put}
use Rattle.disk_model.specs.Writing.{replace_calls}
use Rattle.disk_model.proofs.Rewrites.{Ended, whole_call}
use Rattle.disk_model.proofs.Untils.{done_append}
use Rattle.store_laws.specs.Names.{Segment, NodeDisk}
use Rattle.store_laws.specs.Store.{meta_of}
use Rattle.store_laws.specs.Meta.{next_stamp, goes_first, file_of}
use Rattle.store_laws.specs.Append.{append_calls, batch_calls}
use Rattle.store_laws.specs.Laws.{meta_file}
use Rattle.store_laws.specs.Written.{Replaced, NewestWritten, MetaWritten, BatchWritten}
use Rattle.store_laws.proofs.MetaLaw.{rest_of, newest_is}
use Rattle.store_laws.proofs.LongMeta.{long_ended}

pub meta_written : MetaWritten
meta_written f law top d s k is_k term vote enc next =
    let p = goes_first (next_stamp (meta_of f d.read)) in
    let rest = rest_of f law top d s k is_k term vote enc next.long p in
    let written = λ (e : NodeDisk) (z : Ended (file_of p) enc d e). the_end e (newest_is f law top d s k is_k term vote enc next.long p refl next.reads e z) z in (
      λ short e u. let fits : length (d.read (file_of p)).bytes ≤ length enc = omega (arith, short, next.long) in written e (whole_call (file_of p) enc d fits rest e u),
      λ long e u. written e (long_ended (file_of p) enc d next.long rest long e u),
    )
  where
    the_end : (e : NodeDisk) → meta_of f e.read ≡ record { stamp = next_stamp (meta_of f d.read); term = term; vote = vote } → Ended (meta_file f d) enc d e → NewestWritten f d term vote enc e
    the_end e newest z = record { newest = newest; files = record { here = z.read; others = λ m a. z.elsewhere.read m a } }

-- bytes put at the end of others
put_end : (enc old : List ℕ) → put (length old) enc old ≡ old ++ enc
put_end enc old =
    (λ i. take_all (length old) old (omega arith) i ++ enc ++ drop_all (length old + length enc) old (omega arith) i) ∙ append-nil (old ++ enc)

put_none : (enc : List ℕ) → put 0 enc [] ≡ enc
put_none enc = put_end enc []

batch_done : (k : ℕ) (enc : List ℕ) (d e : NodeDisk) → Done (batch_calls k (length (d.read (Segment k)).bytes) enc) d e → Replaced (Segment k) ((d.read (Segment k)).bytes ++ enc) d e
batch_done k enc d e (m, (w, (p, (y, q)))) = record {
  here = ap (λ (x : NodeDisk). x.read (Segment k)) q ∙ y.read ∙ w.read ∙ ap found (put_end enc (d.read (Segment k)).bytes);
  others = λ n a. ap (λ (x : NodeDisk). x.read n) q ∙ y.others.read n a ∙ w.others.read n a;
}

word_done : (k : ℕ) (word : List ℕ) (d e : NodeDisk) → (d.read (Segment k)).bytes ≡ [] → Done (replace_calls (Segment k) word false) d e → Replaced (Segment k) word d e
word_done k word d e none (m, (w, (p, (y, (r, (o, q)))))) = record {
  here = ap (λ (x : NodeDisk). x.read (Segment k)) q ∙ o.read (Segment k) ∙ y.read ∙ w.read ∙ ap (λ (c : List ℕ). found (put 0 word c)) none ∙ ap found (put_none word);
  others = λ n a. ap (λ (x : NodeDisk). x.read n) q ∙ o.read n ∙ y.others.read n a ∙ w.others.read n a;
}

new_done : (k : ℕ) (word enc : List ℕ) (d m e : NodeDisk) → Replaced (Segment k) word d m → Done (batch_calls k (length word) enc) m e → Replaced (Segment k) (word ++ enc) d e
new_done k word enc d m e r u =
    let is : (m.read (Segment k)).bytes ≡ word = ap (λ (x : Found). x.bytes) r.here in
    let z = batch_done k enc m e (subst (λ (n : ℕ). Done (batch_calls k n enc) m e) (sym (ap length is)) u) in
    record { here = z.here ∙ ap (λ (c : List ℕ). found (c ++ enc)) is; others = λ n a. z.others n a ∙ r.others n a }

pub batch_written : BatchWritten
batch_written f top d s k word enc e u = either (d.read (Segment k)).there refl u
  where
    either : (b : Bool) → (d.read (Segment k)).there ≡ b → Done (append_calls k b (length (d.read (Segment k)).bytes) word enc) d e → Replaced (Segment k) (cond b (d.read (Segment k)).bytes word ++ enc) d e
    either true t v = batch_done k enc d e v
    either false t v =
        let z = done_append (replace_calls (Segment k) word false) (batch_calls k (length word) enc) d e v in
        new_done k word enc d z.0 e (word_done k word d z.0 ((s.segment k).empty t) z.1.0) z.1.1
