-- Laws of bytes that are read and written, if they are known: what two calls do together.
use Rattle.std.proofs.Common.{◌≡◌, ℕ, ◌+◌, min, List, [], ◌++◌, length, take, drop, None, Some, refl, sym, ap, ◌∙◌, append_assoc, append-nil, arith}
use Rattle.std.specs.Prelude.{Option, IfSome, Result, Ok, Err}
use Rattle.std.specs.Io.KnownBytes.{Appends, Consumes, Keeps, IsAtEnd}
use Rattle.std.proofs.lemmas.List.{take-append-drop, drop-drop, length-take, length-drop, length-append, take_at, nil_from_length}
use Rattle.dq_base.specs.declared.faults.Failed.{Failed}
use Rattle.dq_base.specs.Source.{Moves}
use Rattle.dq_base.specs.Sink.{AppendsFront, WriteAppends}

-- ---- what a sink holds

-- a call that writes nothing appends nothing
pub Appends-nothing : (old : Option (List ℕ)) → Appends old old []
Appends-nothing None = tt
Appends-nothing (Some bytes) = sym (append-nil bytes)

-- what two writes append is what the first does, and then what the second does
pub Appends-then : (a b c : Option (List ℕ)) (x y : List ℕ) → Appends a b x → Appends b c y → Appends a c (x ++ y)
Appends-then None b c x y first second = tt
Appends-then (Some a) None c x y first second = absurd first
Appends-then (Some a) (Some b) None x y first second = absurd second
Appends-then (Some a) (Some b) (Some c) x y first second = second ∙ ap (λ (held : List ℕ). held ++ y) first ∙ append_assoc a x y

-- a write that appended all of its bytes appended a front of them
pub AppendsFront-whole : (a b : Option (List ℕ)) (x : List ℕ) → Appends a b x → AppendsFront a b x
AppendsFront-whole a b x whole = (x, [], append-nil x, whole)

-- a write that appended nothing appended a front of its bytes
pub AppendsFront-nothing : (old : Option (List ℕ)) (x : List ℕ) → AppendsFront old old x
AppendsFront-nothing old x = ([], x, refl, Appends-nothing old)

-- a front of some bytes is a front of them and any others after
pub AppendsFront-longer : (a b : Option (List ℕ)) (x y : List ℕ) → AppendsFront a b x → AppendsFront a b (x ++ y)
AppendsFront-longer a b x y part =
    (part.0, part.1 ++ y, sym (append_assoc part.0 part.1 y) ∙ ap (λ (all : List ℕ). all ++ y) part.2, part.3)

-- a whole piece and then a front of the next is a front of both
pub AppendsFront-then : (a b c : Option (List ℕ)) (x y : List ℕ) → Appends a b x → AppendsFront b c y → AppendsFront a c (x ++ y)
AppendsFront-then a b c x y first part =
    (x ++ part.0, part.1, append_assoc x part.0 part.1 ∙ ap (λ (all : List ℕ). x ++ all) part.2, Appends-then a b c x part.0 first part.3)

-- after a whole piece, what the write of the next answers is what a write of both would
pub WriteAppends-then : (a b c : Option (List ℕ)) (x y : List ℕ) (result : Result Unit Failed) → Appends a b x → WriteAppends b c y result → WriteAppends a c (x ++ y) result
WriteAppends-then a b c x y (Ok done) first second = Appends-then a b c x y first second
WriteAppends-then a b c x y (Err failed) first second = AppendsFront-then a b c x y first second

-- a write that failed is one of these bytes and any others after, of which nothing was written either
pub WriteAppends-stopped : (a b : Option (List ℕ)) (x y : List ℕ) (failed : Failed) → WriteAppends a b x (Err failed) → WriteAppends a b (x ++ y) (Err failed)
WriteAppends-stopped a b x y failed part = AppendsFront-longer a b x y part

-- ---- what a source has left

-- a call that reads nothing consumes nothing
pub Consumes-nothing : (old : Option (List ℕ)) → Consumes old old []
Consumes-nothing None = tt
Consumes-nothing (Some bytes) = refl

-- what two reads consume is what the first does, and then what the second does
pub Consumes-then : (a b c : Option (List ℕ)) (x y : List ℕ) → Consumes a b x → Consumes b c y → Consumes a c (x ++ y)
Consumes-then None b c x y first second = tt
Consumes-then (Some a) None c x y first second = absurd first
Consumes-then (Some a) (Some b) None x y first second = absurd second
Consumes-then (Some a) (Some b) (Some c) x y first second = first ∙ ap (λ (left : List ℕ). x ++ left) second ∙ sym (append_assoc x y c)

-- a source that kept its bytes twice kept them
pub Keeps-then : (a b c : Option (List ℕ)) → Keeps a b → Keeps b c → Keeps a c
Keeps-then None b c first second = tt
Keeps-then (Some a) None c first second = absurd first
Keeps-then (Some a) (Some b) None first second = absurd second
Keeps-then (Some a) (Some b) (Some c) first second = second ∙ first

-- a read before a call that failed
pub Consumes-kept : (a b c : Option (List ℕ)) (x : List ℕ) → Consumes a b x → Keeps b c → Consumes a c x
Consumes-kept None b c x first kept = tt
Consumes-kept (Some a) None c x first kept = absurd first
Consumes-kept (Some a) (Some b) None x first kept = absurd kept
Consumes-kept (Some a) (Some b) (Some c) x first kept = first ∙ ap (λ (left : List ℕ). x ++ left) (sym kept)

-- a read after a call that failed
pub Consumes-after_kept : (a b c : Option (List ℕ)) (x : List ℕ) → Keeps a b → Consumes b c x → Consumes a c x
Consumes-after_kept None b c x kept second = tt
Consumes-after_kept (Some a) None c x kept second = absurd kept
Consumes-after_kept (Some a) (Some b) None x kept second = absurd second
Consumes-after_kept (Some a) (Some b) (Some c) x kept second = sym kept ∙ second

-- what was consumed when the end came is all that there was
pub Consumes-all : (a b : Option (List ℕ)) (x : List ℕ) → Consumes a b x → IsAtEnd b → IfSome a (λ all. all ≡ x)
Consumes-all None b x read end = tt
Consumes-all (Some a) None x read end = absurd read
Consumes-all (Some a) (Some b) x read end = read ∙ ap (λ (left : List ℕ). x ++ left) end ∙ append-nil x

-- ---- one read

-- as many bytes as are left and fit, copied from the front of those that are left, are a read
pub Moves-copied : (bytes rest buffer front : List ℕ) (at n : ℕ) → rest ≡ drop at bytes → n ≡ min (length rest) (length buffer) → front ≡ take n rest
    → Moves (Some (drop at bytes)) (Some (drop (at + n) bytes)) (front ++ drop n buffer) n
Moves-copied bytes rest buffer front at n left count copied =
    let short : length front ≡ n = ap length copied ∙ omega (arith, length-take n rest) in
    let whole : length (front ++ drop n buffer) ≡ length buffer = omega (arith, length-append front (drop n buffer), length-drop n buffer) in
    let after : drop n rest ≡ drop (at + n) bytes = ap (drop n) left ∙ drop-drop n at bytes in
    let taken : take n (front ++ drop n buffer) ≡ take n rest = take_at front (drop n buffer) n short ∙ copied in
    record {
      fits = omega arith;
      moved = sym left ∙ sym (take-append-drop n rest) ∙ rw (taken, after) refl;
      ended = λ none room. nil_from_length (drop (at + n) bytes) (sym (ap length after) ∙ omega (arith, length-drop n rest));
    }

-- ---- a write in pieces

-- the bytes were appended up to this rest of them
abbrev pub AppendsUpTo : Option (List ℕ) → Option (List ℕ) → List ℕ → List ℕ → Type 0
AppendsUpTo old new bytes rest = (front : List ℕ) × (front ++ rest ≡ bytes) × Appends old new front

-- one more piece, which the rest begins with
pub AppendsUpTo-piece : (a b c : Option (List ℕ)) (bytes rest after : List ℕ) (n : ℕ) → AppendsUpTo a b bytes rest → Appends b c (take n rest) → after ≡ drop n rest → AppendsUpTo a c bytes after
AppendsUpTo-piece a b c bytes rest after n so_far piece left =
    let front = so_far.0 in
    let split : take n rest ++ after ≡ rest = ap (λ (end : List ℕ). take n rest ++ end) left ∙ take-append-drop n rest in
    let whole : (front ++ take n rest) ++ after ≡ bytes = append_assoc front (take n rest) after ∙ ap (λ (end : List ℕ). front ++ end) split ∙ so_far.1 in
    (front ++ take n rest, whole, Appends-then a b c front (take n rest) so_far.2 piece)
