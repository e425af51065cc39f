-- The loops over heads and entries: what was read so far, and what is still read, is the whole.
use Rattle.std.proofs.Common.{◌≡◌, ℕ, suc, ◌+◌, ◌-◌, ◌<◌, ◌≤◌, List, [], ◌∷◌, ◌++◌, length, drop, get_or, Result, Ok, Err, refl, sym, ap, subst, ◌∙◌, append_assoc, arith}
use Rattle.std.proofs.lemmas.List.{append-nil, at_drop_more, at_drop_all}
use Rattle.wire_words.specs.declared.fault.WordFault.{WordFault}
use Rattle.wire_words.specs.Reading.{Unread, Fails}
use Rattle.wire_words.proofs.ReadingLoops.{with_front, regroup, fails_so}
use Rattle.raft_spec.specs.Log.{Entry}
use Rattle.raft_messages.specs.declared.entries.EntryHead.{EntryHead}
use Rattle.raft_messages.specs.Entries.{head_bytes, heads_bytes, HasHead, HaveHeads, head_at, heads_at, entry_at, contents_at}

-- ---- heads

pub heads_more : (front : List EntryHead) (count i : ℕ) (left next : Unread) (h : EntryHead) (total : Result (List EntryHead × Unread) WordFault) → i < count → head_at left ≡ Ok (h, next)
    → with_front front (heads_at (count - i) left) ≡ total → with_front (front ++ h ∷ []) (heads_at (count - (i + 1)) next) ≡ total
unfolding heads_at
heads_more front count i left next h total lt is so_far =
    let k : count - i ≡ suc (count - (i + 1)) = omega arith in
    let one : with_front front (heads_at (count - i) left) ≡ with_front (front ++ h ∷ []) (heads_at (count - (i + 1)) next) = rw (k, is) (regroup front h (heads_at (count - (i + 1)) next)) in
    sym one ∙ so_far

pub heads_end : (e : WordFault) (front : List EntryHead) (count i : ℕ) (left : Unread) (total : Result (List EntryHead × Unread) WordFault) → i < count → Fails e (head_at left)
    → with_front front (heads_at (count - i) left) ≡ total → Fails e total
unfolding heads_at
heads_end e front count i left total lt fails so_far =
    let k : count - i ≡ suc (count - (i + 1)) = omega arith in
    fails_so e (head_at left) total (λ f h. let one : with_front front (heads_at (count - i) left) ≡ Err f = rw (k, h) refl in sym so_far ∙ one) fails

pub heads_done : (front : List EntryHead) (count i : ℕ) (left : Unread) (total : Result (List EntryHead × Unread) WordFault) → count ≤ i → with_front front (heads_at (count - i) left) ≡ total → total ≡ Ok (front, left)
unfolding heads_at
heads_done front count i left total le so_far =
    let k : count - i ≡ 0 = omega arith in
    let one : with_front front (heads_at (count - i) left) ≡ Ok (front, left) = rw k (ap (λ (hs : List EntryHead). Ok (hs, left)) (append-nil front)) in
    sym so_far ∙ one

-- ---- entries

abbrev pub contents_so_far : List Entry → List EntryHead → Unread → Result (List Entry × Unread) WordFault
contents_so_far front heads left = with_front front (contents_at heads left)

pub contents_more : (front : List Entry) (hs : List EntryHead) (i : ℕ) (d : EntryHead) (left next : Unread) (e : Entry) (total : Result (List Entry × Unread) WordFault) → i < length hs → entry_at (get_or hs i d) left ≡ Ok (e, next)
    → contents_so_far front (drop i hs) left ≡ total → contents_so_far (front ++ e ∷ []) (drop (i + 1) hs) next ≡ total
unfolding contents_at
contents_more front hs i d left next e total lt read so_far =
    let one : contents_so_far front (get_or hs i d ∷ drop (i + 1) hs) left ≡ contents_so_far (front ++ e ∷ []) (drop (i + 1) hs) next = rw read (regroup front e (contents_at (drop (i + 1) hs) next)) in
    sym (at_drop_more (λ (ms : List EntryHead). contents_so_far front ms left) hs i d lt ∙ one) ∙ so_far

pub contents_end : (f : WordFault) (front : List Entry) (hs : List EntryHead) (i : ℕ) (d : EntryHead) (left : Unread) (total : Result (List Entry × Unread) WordFault) → i < length hs → Fails f (entry_at (get_or hs i d) left)
    → contents_so_far front (drop i hs) left ≡ total → Fails f total
unfolding contents_at
contents_end f front hs i d left total lt fails so_far =
    fails_so f (entry_at (get_or hs i d) left) total (λ g read.
    let one : contents_so_far front (get_or hs i d ∷ drop (i + 1) hs) left ≡ Err g = rw read refl in
    sym so_far ∙ at_drop_more (λ (ms : List EntryHead). contents_so_far front ms left) hs i d lt ∙ one) fails

pub contents_done : (front : List Entry) (hs : List EntryHead) (i : ℕ) (left : Unread) (total : Result (List Entry × Unread) WordFault) → length hs ≤ i → contents_so_far front (drop i hs) left ≡ total → total ≡ Ok (front, left)
unfolding contents_at
contents_done front hs i left total le so_far =
    let one : contents_so_far front [] left ≡ Ok (front, left) = ap (λ (es : List Entry). Ok (es, left)) (append-nil front) in
    sym so_far ∙ at_drop_all (λ (ms : List EntryHead). contents_so_far front ms left) hs i le ∙ one

-- ---- writing

-- a list from an item on
at_entry : (es : List Entry) (i : ℕ) (x : Entry) → i < length es → x ≡ get_or es i x → drop i es ≡ x ∷ drop (i + 1) es
at_entry es i x lt is = at_drop_more (λ (l : List Entry). l) es i x lt ∙ ap (λ (y : Entry). y ∷ drop (i + 1) es) (sym is)

pub heads_written : (es : List Entry) (i : ℕ) (x : Entry) (out next whole : List ℕ) → i < length es → x ≡ get_or es i x → next ≡ out ++ head_bytes x
    → out ++ heads_bytes (drop i es) ≡ whole → next ++ heads_bytes (drop (i + 1) es) ≡ whole
heads_written es i x out next whole lt is one so_far =
    let rest = heads_bytes (drop (i + 1) es) in
    ap (λ (l : List ℕ). l ++ rest) one ∙ append_assoc out (head_bytes x) rest ∙ ap (λ (l : List Entry). out ++ heads_bytes l) (sym (at_entry es i x lt is)) ∙ so_far

pub heads_held : (es : List Entry) (i : ℕ) (x : Entry) → i < length es → x ≡ get_or es i x → HasHead x → (HaveHeads (drop i es) → HaveHeads es) → HaveHeads (drop (i + 1) es) → HaveHeads es
heads_held es i x lt is has so_far rest = so_far (subst HaveHeads (sym (at_entry es i x lt is)) (has, rest))
