-- The head of a batch, and the batch itself.
use Rattle.std.proofs.Common.{◌≡◌, ℕ, ◌+◌, ◌-◌, ◌<◌, ◌≤◌, List, [], ◌∷◌, ◌++◌, length, take, drop, get_or, Result, Ok, refl, sym, ap, ◌∙◌, subst, arith, length-drop}
use Rattle.std.specs.Prelude.{min}
use Rattle.std.proofs.lemmas.List.{take_more}
use Rattle.wire_words.specs.declared.fault.WordFault.{WordFault}
use Rattle.wire_words.specs.Reading.{◌>>=◌, Unread, word_at, past}
use Rattle.wire_words.proofs.ReadBack.{ok_is, bind_ok}
use Rattle.raft_messages.specs.declared.entries.EntryHead.{EntryHead}
use Rattle.raft_messages.specs.Entries.{heads_at, contents_at}
use Rattle.store_format.specs.declared.batch_reading.Body.{Body}
use Rattle.store_format.specs.Batches.{body_at}
use Rattle.store_format.proofs.Local.{word_local, heads_local}
use Rattle.folder_tail.specs.declared.heads.BatchHead.{BatchHead}
use Rattle.folder_tail.specs.Heads.{padded, contents_end, batch_head_at}

left_long : (at : ℕ) (bytes : List ℕ) (n : ℕ) → n ≤ length bytes →
    (past n (record { at = at; bytes = bytes })).at + length (past n (record { at = at; bytes = bytes })).bytes ≡ at + length bytes
left_long at bytes n h = let l : length (drop n bytes) ≡ length bytes - n = length-drop n bytes in omega (arith, l, h)

-- what is read and what is left is what was there
past_long : (old new : Unread) (n : ℕ) → n ≤ length old.bytes → new ≡ past n old → new.at + length new.bytes ≡ old.at + length old.bytes
past_long old new n h e = ap (λ (s : Unread). s.at + length s.bytes) e ∙ left_long old.at old.bytes n h

-- the head ends within the bytes
pub head_ends : (u w : Unread) (x : BatchHead) → batch_head_at u ≡ Ok (x, w) → x.header ≤ u.at + length u.bytes
unfolding batch_head_at
head_ends u w x e =
    let a = bind_ok (word_at u) (λ first. word_at first.1 >>= λ count. heads_at count.0 count.1 >>= λ heads. Ok (record { first = first.0; header = heads.1.at; end = contents_end heads.1.at heads.0 }, heads.1)) (x, w) e in
    let b = bind_ok (word_at a.0.1) (λ count. heads_at count.0 count.1 >>= λ heads. Ok (record { first = a.0.0; header = heads.1.at; end = contents_end heads.1.at heads.0 }, heads.1)) (x, w) a.2 in
    let c = bind_ok (heads_at b.0.0 b.0.1) (λ heads. Ok (record { first = a.0.0; header = heads.1.at; end = contents_end heads.1.at heads.0 }, heads.1)) (x, w) b.2 in
    let made : BatchHead × Unread = (record { first = a.0.0; header = c.0.1.at; end = contents_end c.0.1.at c.0.0 }, c.0.1) in
    let is : made ≡ (x, w) = ok_is made (x, w) c.2 in
    let la = word_local u a.0.1 a.0.0 a.1 in
    let lb = word_local a.0.1 b.0.1 b.0.0 b.1 in
    let lc = heads_local b.0.0 b.0.1 c.0.1 c.0.0 c.1 in
    let one : a.0.1.at + length a.0.1.bytes ≡ u.at + length u.bytes = past_long u a.0.1 la.n la.within la.is in
    let two : b.0.1.at + length b.0.1.bytes ≡ a.0.1.at + length a.0.1.bytes = past_long a.0.1 b.0.1 lb.n lb.within lb.is in
    let three : c.0.1.at + length c.0.1.bytes ≡ b.0.1.at + length b.0.1.bytes = past_long b.0.1 c.0.1 lc.n lc.within lc.is in
    let low : c.0.1.at ≤ u.at + length u.bytes = omega (arith, one, two, three) in
    subst (λ (z : BatchHead × Unread). z.0.header ≤ u.at + length u.bytes) is low

-- the head of a body: its first index is that of the body, and it ends where that of the body does
pub record HeadOf (u : Unread) (b : Body) : Type 0 where
  pub head : BatchHead
  pub left : Unread
  pub reads : batch_head_at u ≡ Ok (head, left)
  pub first : head.first ≡ b.first
  pub header : head.header ≡ b.header

pub body_head : (u w : Unread) (x : Body) → body_at u ≡ Ok (x, w) → HeadOf u x
unfolding body_at batch_head_at
body_head u w x e =
    let a = bind_ok (word_at u) (λ first. word_at first.1 >>= λ count. heads_at count.0 count.1 >>= λ heads. contents_at heads.0 heads.1 >>= λ entries. Ok (record { first = first.0; entries = entries.0; header = heads.1.at }, entries.1)) (x, w) e in
    let b = bind_ok (word_at a.0.1) (λ count. heads_at count.0 count.1 >>= λ heads. contents_at heads.0 heads.1 >>= λ entries. Ok (record { first = a.0.0; entries = entries.0; header = heads.1.at }, entries.1)) (x, w) a.2 in
    let c = bind_ok (heads_at b.0.0 b.0.1) (λ heads. contents_at heads.0 heads.1 >>= λ entries. Ok (record { first = a.0.0; entries = entries.0; header = heads.1.at }, entries.1)) (x, w) b.2 in
    let d = bind_ok (contents_at c.0.0 c.0.1) (λ entries. Ok (record { first = a.0.0; entries = entries.0; header = c.0.1.at }, entries.1)) (x, w) c.2 in
    let made : Body × Unread = (record { first = a.0.0; entries = d.0.0; header = c.0.1.at }, d.0.1) in
    let is : made ≡ (x, w) = ok_is made (x, w) d.2 in
    record {
      head = record { first = a.0.0; header = c.0.1.at; end = contents_end c.0.1.at c.0.0 };
      left = c.0.1;
      reads = ap (λ (r : Result (ℕ × Unread) WordFault). r >>= λ first. word_at first.1 >>= λ count. heads_at count.0 count.1 >>= λ heads. Ok (record { first = first.0; header = heads.1.at; end = contents_end heads.1.at heads.0 }, heads.1)) a.1
          ∙ ap (λ (r : Result (ℕ × Unread) WordFault). r >>= λ count. heads_at count.0 count.1 >>= λ heads. Ok (record { first = a.0.0; header = heads.1.at; end = contents_end heads.1.at heads.0 }, heads.1)) b.1
          ∙ ap (λ (r : Result (List EntryHead × Unread) WordFault). r >>= λ heads. Ok (record { first = a.0.0; header = heads.1.at; end = contents_end heads.1.at heads.0 }, heads.1)) c.1;
      first = ap (λ (z : Body × Unread). z.0.first) is;
      header = ap (λ (z : Body × Unread). z.0.header) is;
    }

-- ---- where the bytes of entries end

contents_push : (at : ℕ) (hs : List EntryHead) (h : EntryHead) → contents_end at (hs ++ h ∷ []) ≡ min (contents_end at hs + padded h.size) 18446744073709551615
unfolding contents_end
contents_push at [] h = refl
contents_push at (x ∷ hs) h = contents_push (min (at + padded x.size) 18446744073709551615) hs h

-- with one head more
pub contents_next : (hs : List EntryHead) (i at end : ℕ) (d : EntryHead) → i < length hs → end ≡ contents_end at (take i hs) →
    min (end + padded (get_or hs i d).size) 18446744073709551615 ≡ contents_end at (take (i + 1) hs)
contents_next hs i at end d lt so_far =
    ap (λ (n : ℕ). min (n + padded (get_or hs i d).size) 18446744073709551615) so_far ∙ sym (contents_push at (take i hs) (get_or hs i d)) ∙ ap (contents_end at) (sym (take_more hs i d lt))

-- with none so far
pub contents_first : (hs : List EntryHead) (at : ℕ) → at ≡ contents_end at (take 0 hs)
unfolding contents_end
contents_first [] at = refl
contents_first (h ∷ hs) at = refl
