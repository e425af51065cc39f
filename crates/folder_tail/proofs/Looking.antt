-- From what was read to what a look says.
use Rattle.std.proofs.Common.{◌≡◌, ◌⊎◌, inl, inr, ℕ, zero, suc, ◌<◌, ◌≤◌, true, false, List, length, Option, Some, None, Result, Ok, Err, refl, sym, ap, ◌∙◌, subst, arith}
use Rattle.std.specs.Prelude.{◌&&◌, ◌==◌, nat_lt, IfOk, IfErr}
use Rattle.std.proofs.lemmas.Bool.{cases_Bool, cond-true, cond-false, lt-ltb, ltb-true, ltb-false, eq-eqb}
use Rattle.disk_model.specs.Disk.{Disk}
use Rattle.disk_model.specs.Trait.{Text}
use Rattle.store_laws.specs.Names.{Segment, NodeFiles}
use Rattle.store_laws.specs.Store.{Kept, opens}
use Rattle.store_laws.specs.Damage.{Numbered, good_end}
use Rattle.store_format.specs.Words.{format_in}
use Rattle.store_format.specs.NodeFormat.{node_format}
use Rattle.store_format.specs.FilesRead.{FilesRead, nothing_read, with_segment_read}
use Rattle.store_format.specs.SegmentLog.{last_of, reads_whole, with_segment}
use Rattle.store_format.specs.declared.segment_log.LastSegment.{LastSegment}
use Rattle.segment_store.specs.declared.fault.StoreFault.{StoreFault}
use Rattle.segment_store.specs.declared.load_fault.LoadFault.{LoadFault}
use Rattle.segment_store.specs.declared.load_fault.LoadFault.TheVariants as fault
use Rattle.dq_base.proofs.FaultLaws.{Rose-earlier}
use Rattle.segment_store.specs.Faults.{DiskCause}
use Rattle.segment_store.proofs.LoadEnds.{cause_store}
use Rattle.segment_store.specs.Keeps.{folder}
use Rattle.segment_store.specs.LoadFaults.{of_store}
use Rattle.segment_store.specs.Loading.{Sees, LooksAt, LoadCause}
use Rattle.segment_store.specs.Reads.{at}
use Rattle.folder_tail.specs.declared.tail.Tail.{Tail}
use Rattle.folder_tail.specs.declared.tail.Tail.TheVariants as tails
use Rattle.folder_tail.specs.declared.folder.SegmentBytes.{SegmentBytes}
use Rattle.folder_tail.specs.Last.{IsLast, IsLastRead}
use Rattle.folder_tail.specs.Search.{is_misread, Later}
use Rattle.folder_tail.specs.Tails.{next_in, IsNext, Views, IsTorn, OfBytes, IsTailOf, OfSegment, OfFound, TailShows}

-- ---- how far the bytes read

pub walked_is : (f : Numbered) (old r : FilesRead) (last : LastSegment) → old ≡ nothing_read →
    r ≡ with_segment_read (with_segment node_format f old.segments) old → Some last ≡ r.segments.last → last ≡ last_of node_format f
unfolding with_segment
walked_is f old r last none e found = some_is last (last_of node_format f) (found ∙ ap (λ (x : FilesRead). x.segments.last) e)
  where
    some_is : (a b : LastSegment) → Some a ≡ Some b → a ≡ b
    some_is a b q = cc

good_low : (bytes : List ℕ) → good_end node_format bytes ≤ length bytes
unfolding good_end
good_low bytes = elim (cases_Bool (opens node_format bytes)) [
  | inl t ↦ subst (λ (n : ℕ). n ≤ length bytes) (sym (cond-true _ _ 0 t)) (omega arith)
  | inr f ↦ subst (λ (n : ℕ). n ≤ length bytes) (sym (cond-false _ _ 0 f)) (omega arith)
]

less_or_all : (good size : ℕ) → good ≤ size → (good < size) ⊎ (good ≡ size)
less_or_all good size h = elim (cases_Bool (nat_lt good size)) [
  | inl t ↦ inl (ltb-true good size t)
  | inr f ↦ inr (let l : size ≤ good = ltb-false good size f in omega (arith, l, h))
]

not_whole : (good size : ℕ) → 0 < good → good ≡ size → (nat_lt 0 good && (good == size)) ≡ false → ⊥
not_whole good size some same e =
    let one : nat_lt 0 good ≡ true = lt-ltb 0 good some in
    let two : (good == size) ≡ true = eq-eqb good size same in
    let both : (nat_lt 0 good && (good == size)) ≡ true = λ i. one i && two i in
    let z : true ≡ false = sym both ∙ e in
    absurd cc

before_end : (good size : ℕ) → good ≤ size → (nat_lt 0 good && (good == size)) ≡ false → (good ≡ 0) ⊎ (good < size)
before_end zero size h e = inl refl
before_end (suc n) size h e = elim (less_or_all (suc n) size h) [
  | inl less ↦ inr less
  | inr all ↦ absurd (not_whole (suc n) size (omega arith) all e)
]

-- bytes that don't read to their end read to a place before it, or not at all
pub ends_before : (f : Numbered) (last : LastSegment) → last ≡ last_of node_format f → reads_whole last ≡ false → (last.good ≡ 0) ⊎ (last.good < length f.bytes)
ends_before f last e not =
    let size : last.size ≡ length f.bytes = ap (λ (x : LastSegment). x.size) e in
    let good : last.good ≡ good_end node_format f.bytes = ap (λ (x : LastSegment). x.good) e in
    let low : last.good ≤ last.size = let l : good_end node_format f.bytes ≤ length f.bytes = good_low f.bytes in omega (arith, l, good, size) in
    subst (λ (n : ℕ). (last.good ≡ 0) ⊎ (last.good < n)) size (before_end last.good last.size low not)

-- ---- the end of the bytes

pub torn_after : (next good : ℕ) (bytes : List ℕ) → 0 < good → is_misread next good bytes ≡ false → Later (format_in bytes) next good bytes None →
    IsTorn next good bytes
torn_after next zero bytes some other none = absurd (omega (arith, some))
torn_after next (suc n) bytes some other none = (other, none)

pub torn_first : (next good : ℕ) (bytes : List ℕ) → good ≡ 0 → length bytes ≤ 8 → IsTorn next good bytes
torn_first next zero bytes e short = short
torn_first next (suc n) bytes e short = absurd (omega (arith, e))

-- ---- a look

pub next_seen : (old new : Disk Text → Type 0) (k : Kept) (result : Result ℕ LoadFault) → LooksAt old new (Ok k) → IfOk result (λ n. n ≡ next_in k) →
    Views old new result (λ d n. IsNext n (folder d).read)
next_seen old new k (Ok n) looks is = record { each = λ d y plain. let z = looks.each d y plain in (z.0, (k, (z.1, is))) }
next_seen old new k (Err f) looks is = record { each = λ d y plain. ((looks.each d y plain).0, tt) }

pub unseen : {T : Type 0} (old new : Disk Text → Type 0) (f y : LoadFault) (P : Disk Text → T → Type 0) → LooksAt old new (Err f) → Views old new (Err y) P
unseen old new f y P looks = record { each = λ d a plain. ((looks.each d a plain).0, tt) }

pub unviewed : {S T : Type 0} (old new : Disk Text → Type 0) (f y : LoadFault) (P : Disk Text → S → Type 0) (Q : Disk Text → T → Type 0) →
    Views {T = S} old new (Err f) P → Views old new (Err y) Q
unviewed old new f y P Q views = record { each = λ d a plain. ((views.each d a plain).0, tt) }

pub view_now : {T : Type 0} (states : Disk Text → Type 0) (x : T) (P : Disk Text → T → Type 0) → ((d : Disk Text) → P d x) →
    Views {E = LoadFault} states states (Ok x) P
view_now states x P is = record { each = λ d y plain. (y, is d) }

pub view_stop : {T : Type 0} (states : Disk Text → Type 0) (f : LoadFault) (P : Disk Text → T → Type 0) → Views {T = T} states states (Err f) P
view_stop states f P = record { each = λ d y plain. (y, tt) }

-- two segments that are the last one are the same
same_last : (g : NodeFiles) (m n : ℕ) → m < 10000000000000000 → n < 10000000000000000 → IsLast m g → IsLast n g → m ≡ n
same_last g m n a b x y = let p = x.last n b y.there in let q = y.last m a x.there in omega (arith, p, q)

pub whole_tail : (n : ℕ) (bytes : List ℕ) (last : LastSegment) (d : Disk Text) → n < 10000000000000000 →
    last ≡ last_of node_format (record { number = n; bytes = bytes }) → reads_whole last ≡ true → OfSegment n bytes d tails.Whole
whole_tail n bytes last d digits e whole is_last same = λ m small other.
    let number : n ≡ m = same_last (folder d).read n m digits small is_last other in
    let here : last ≡ last_of node_format (at (folder d).read m) = e ∙ ap (λ (b : List ℕ). last_of node_format (record { number = n; bytes = b })) same ∙ ap (λ (k : ℕ). last_of node_format (at (folder d).read k)) number in
    ap reads_whole (sym here) ∙ whole

some_tail : (n next : ℕ) (bytes : List ℕ) (last : LastSegment) (tail : Tail) (d : Disk Text) →
    last ≡ last_of node_format (record { number = n; bytes = bytes }) → OfBytes tail last next bytes → IsNext next (folder d).read →
    IsLast n (folder d).read → bytes ≡ ((folder d).read (Segment n)).bytes → IsTailOf tail n (folder d).read
some_tail n next bytes last tail d e of_bytes is_next is_last same = record {
  is_last = is_last;
  next = next;
  is_next = is_next;
  bytes = subst (λ (b : List ℕ). OfBytes tail (last_of node_format (record { number = n; bytes = b })) next b) same (subst (λ (x : LastSegment). OfBytes tail x next bytes) e of_bytes);
}

bytes_tail : (n next : ℕ) (bytes : List ℕ) (last : LastSegment) (tail : Tail) (d : Disk Text) →
    last ≡ last_of node_format (record { number = n; bytes = bytes }) → OfBytes tail last next bytes → IsNext next (folder d).read → OfSegment n bytes d tail
bytes_tail n next bytes last tails.Whole d e of_bytes is_next is_last same = absurd of_bytes
bytes_tail n next bytes last (tails.Torn seen) d e of_bytes is_next is_last same =
    let number : n ≡ seen.number = sym (ap (λ (x : LastSegment). x.number) (of_bytes.0 ∙ e)) in
    subst (λ (k : ℕ). IsTailOf (tails.Torn seen) k (folder d).read) number (some_tail n next bytes last (tails.Torn seen) d e of_bytes is_next is_last same)
bytes_tail n next bytes last (tails.Damaged seen place) d e of_bytes is_next is_last same =
    let number : n ≡ seen.number = sym (ap (λ (x : LastSegment). x.number) (of_bytes.0 ∙ e)) in
    subst (λ (k : ℕ). IsTailOf (tails.Damaged seen place) k (folder d).read) number (some_tail n next bytes last (tails.Damaged seen place) d e of_bytes is_next is_last same)
bytes_tail n next bytes last (tails.Unknown m format) d e of_bytes is_next is_last same =
    let number : n ≡ m = sym (of_bytes.0 ∙ ap (λ (x : LastSegment). x.number) e) in
    subst (λ (k : ℕ). IsTailOf (tails.Unknown m format) k (folder d).read) number (some_tail n next bytes last (tails.Unknown m format) d e of_bytes is_next is_last same)

pub tail_seen : (old new : Disk Text → Type 0) (n next : ℕ) (bytes : List ℕ) (last : LastSegment) (result : Result Tail LoadFault) →
    last ≡ last_of node_format (record { number = n; bytes = bytes })
    → Views {E = LoadFault} old new (Ok next) (λ d k. IsNext k (folder d).read) → IfOk result (λ tail. OfBytes tail last next bytes) → Views old new result (OfSegment n bytes)
tail_seen old new n next bytes last (Ok tail) e views of_bytes = record { each = λ d y plain. let z = views.each d y plain in (z.0, bytes_tail n next bytes last tail d e of_bytes z.1) }
tail_seen old new n next bytes last (Err f) e views of_bytes = record { each = λ d y plain. ((views.each d y plain).0, tt) }

-- ---- the whole

pub found_none : (states : Disk Text → Type 0) (found : Option SegmentBytes) → found ≡ None →
    Views {E = LoadFault} states states (Ok tails.Whole) (OfFound found)
found_none states found e = record { each = λ d y plain. (y, λ read n small is_last. absurd (subst (λ (f : Option SegmentBytes). IsLastRead f (folder d).read) e read n small is_last.there)) }

pub found_some : (old new : Disk Text → Type 0) (found : Option SegmentBytes) (last : SegmentBytes) (bytes : List ℕ) (result : Result Tail LoadFault) →
    found ≡ Some last → bytes ≡ last.bytes.items → Views old new result (OfSegment last.number bytes) → Views old new result (OfFound found)
found_some old new found last bytes (Ok tail) e same views = record {
  each = λ d y plain.
      let z = views.each d y plain in
      (z.0, λ read. let r = subst (λ (f : Option SegmentBytes). IsLastRead f (folder d).read) e read in z.1 r.0 (same ∙ r.1));
}
found_some old new found last bytes (Err f) e same views = record { each = λ d y plain. ((views.each d y plain).0, tt) }

pub unread : (old new : Disk Text → Type 0) (x : StoreFault) (y : LoadFault) →
    Sees {T = Option SegmentBytes} {E = StoreFault} old new (Err x) (λ d found. IsLastRead found (folder d).read) →
    Views old new (Err y) (λ d tail. TailShows tail (folder d).read)
unread old new x y sees = record { each = λ d a plain. ((sees.each d a).0, tt) }

pub read_then : (old mid new : Disk Text → Type 0) (found : Option SegmentBytes) (result : Result Tail LoadFault) →
    Sees {E = StoreFault} old mid (Ok found) (λ d f. IsLastRead f (folder d).read) → Views mid new result (OfFound found) →
    Views old new result (λ d tail. TailShows tail (folder d).read)
read_then old mid new found (Ok tail) sees views = record { each = λ d y plain. let z = sees.each d y in let w = views.each d z.0 plain in (w.0, w.1 z.1) }
read_then old mid new found (Err f) sees views = record { each = λ d y plain. let z = sees.each d y in ((views.each d z.0 plain).0, tt) }

-- ---- causes

pub cause_pass : {S T : Type 0} (before now : ℕ) (f : LoadFault) → LoadCause {T = S} before now (Err f) → LoadCause {T = T} before now (Err f)
cause_pass before now fault.NoMeta h = record { never_falls = h.never_falls; failed = λ q. absurd cc }
cause_pass before now (fault.Damaged segment at) h = record { never_falls = h.never_falls; failed = λ q. absurd cc }
cause_pass before now (fault.Gap first last) h = record { never_falls = h.never_falls; failed = λ q. absurd cc }
cause_pass before now fault.DiskFault h = record { never_falls = h.never_falls; failed = λ q. h.failed refl }
cause_pass before now fault.NoMemory h = record { never_falls = h.never_falls; failed = λ q. absurd cc }

-- without a fault of the disk afterwards
pub cause_end : {S T : Type 0} (before now : ℕ) (x : S) (result : Result T LoadFault) → LoadCause before now (Ok x) → IfErr result (λ f. f ≡ fault.NoMemory) →
    LoadCause before now result
cause_end before now x (Ok y) h memory = record { never_falls = h.never_falls; failed = λ q. absurd cc }
cause_end before now x (Err fault.NoMeta) h memory = record { never_falls = h.never_falls; failed = λ q. absurd cc }
cause_end before now x (Err (fault.Damaged segment at)) h memory = record { never_falls = h.never_falls; failed = λ q. absurd cc }
cause_end before now x (Err (fault.Gap first last)) h memory = record { never_falls = h.never_falls; failed = λ q. absurd cc }
cause_end before now x (Err fault.DiskFault) h memory = let z : fault.DiskFault ≡ fault.NoMemory = memory in absurd cc
cause_end before now x (Err fault.NoMemory) h memory = record { never_falls = h.never_falls; failed = λ q. absurd cc }

pub cause_read : {S T : Type 0} (before now : ℕ) (x : StoreFault) (y : LoadFault) → y ≡ of_store x → DiskCause {T = S} before now (Err x) →
    LoadCause {T = T} before now (Err y)
cause_read {S} {T} before now x y e h = subst (λ (f : LoadFault). LoadCause {T = T} before now (Err f)) (sym e) (cause_store before now x h)

pub cause_both : {S T : Type 0} (before mid now : ℕ) (x : S) (result : Result T LoadFault) → DiskCause before mid (Ok x) → LoadCause mid now result →
    LoadCause before now result
cause_both before mid now x result first second = record { never_falls = omega (arith, first.never_falls, second.never_falls); failed = λ q. Rose-earlier before mid now first.never_falls (second.failed q) }

pub cause_none : {T : Type 0} (count : ℕ) (x : T) → LoadCause count count (Ok x)
cause_none count x = record { never_falls = omega arith; failed = λ q. absurd cc }

pub cause_memory : {T : Type 0} (count : ℕ) → LoadCause {T = T} count count (Err fault.NoMemory)
cause_memory count = record { never_falls = omega arith; failed = λ q. absurd cc }
