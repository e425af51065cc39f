-- What is handed on of what was read.
use Rattle.std.proofs.Common.{◌≡◌, ℕ, List, [], ◌++◌, length, take, drop, Option, Some, None, true, false, cond, inl, inr}
use Rattle.std.proofs.Common.{◌+◌, ◌-◌, ◌≤◌, ◌==◌, leb, ltb, true≢false, refl, sym, ap, subst, ◌∙◌, append-nil, arith, take-append-drop}
use Rattle.std.proofs.Common.{drop-drop, length-take-le}
use Rattle.std.specs.Io.KnownBytes.{Consumes, Keeps}
use Rattle.serve_places.specs.Pieces.{Incoming, IsFront, ReadsOf, FillsWith, TakesPiece, HandsFront, HandsFrontIfAny, has_piece, next_size}

keeps_none : (left : Option (List ℕ)) → Consumes left left []
keeps_none None = tt
keeps_none (Some bytes) = refl

kept_none : (left now : Option (List ℕ)) → Keeps left now → Consumes left now []
kept_none None now keeps = tt
kept_none (Some bytes) None keeps = keeps
kept_none (Some bytes) (Some more) keeps = sym keeps

reads_none : {S : Type 0} (left : S → Option (List ℕ)) (stream : Option S) → ReadsOf left stream stream []
reads_none left None = refl
reads_none left (Some s) = keeps_none (left s)

-- nothing was read
pub none : {S : Type 0} (left : S → Option (List ℕ)) (stream : Option S) (held : List ℕ) → FillsWith left stream stream held held
none left stream held = inr ([], reads_none left stream, sym (append-nil held))

pub kept : {S : Type 0} (left : S → Option (List ℕ)) (s t : S) (held : List ℕ) → Keeps (left s) (left t) → FillsWith left (Some s) (Some t) held held
kept left s t held keeps = inr ([], kept_none (left s) (left t) keeps, sym (append-nil held))

-- these bytes were read
pub some : {S : Type 0} (left : S → Option (List ℕ)) (s t : S) (held held_now read : List ℕ) → Consumes (left s) (left t) read → held_now ≡ held ++ read →
    FillsWith left (Some s) (Some t) held held_now
some left s t held held_now read consumes more = inr (read, consumes, more)

-- the stream has ended
pub ended : {S : Type 0} (left : S → Option (List ℕ)) (was now : Option S) (held held_now : List ℕ) → now ≡ None → held_now ≡ [] →
    FillsWith left was now held held_now
ended left was now held held_now over empty = inl (over, empty)

no_piece : (held : Incoming) → held.bytes ≡ [] → has_piece held ≡ false
no_piece held empty = elim (held.left == 0) as (λ b. cond b (leb 8 (length held.bytes)) (ltb 0 (length held.bytes)) ≡ false) [
  | true ↦ ap (λ (bytes : List ℕ). leb 8 (length bytes)) empty
  | false ↦ ap (λ (bytes : List ℕ). ltb 0 (length bytes)) empty
]

handed : {S : Type 0} (left : S → Option (List ℕ)) (was mid : Option S) (held : List ℕ) (old new : Incoming) (piece : List ℕ) →
    FillsWith left was mid held old.bytes → has_piece old ≡ true → IsFront old new piece → HandsFront left was mid held new.bytes piece
handed left was mid held old new piece (inl over) has front = absurd (true≢false (sym has ∙ no_piece old over.1))
handed left was mid held old new piece (inr fills) has front = record {
  read = fills.0;
  reads = fills.1;
  front = sym fills.2 ∙ front.front;
}

unhanded : {S : Type 0} (left : S → Option (List ℕ)) (was mid : Option S) (held held_now : List ℕ) → FillsWith left was mid held held_now →
    HandsFrontIfAny left was mid held held_now None
unhanded left was None held held_now fills = tt
unhanded left was (Some s) held held_now (inl over) = let no : Some s ≡ None = over.0 in absurd cc
unhanded left was (Some s) held held_now (inr fills) = record { read = fills.0; reads = fills.1; front = sym fills.2 }

-- what was read and then taken off
pub hands : {S : Type 0} (left : S → Option (List ℕ)) (was mid now : Option S) (held : List ℕ) (old new : Incoming) (piece : Option (List ℕ)) →
    FillsWith left was mid held old.bytes → TakesPiece mid now old new piece → HandsFrontIfAny left was now held new.bytes piece
hands left was mid now held old new (Some piece) fills (same, has, front) =
    subst (λ (s : Option _). HandsFront left was s held new.bytes piece) (sym same) (handed left was mid held old new piece fills has front)
hands left was mid now held old new None fills (inl over) =
    subst (λ (s : Option _). HandsFrontIfAny left was s held new.bytes None) (sym over) tt
hands left was mid now held old new None fills (inr (same, stays)) =
    subst (λ (s : Option _). HandsFrontIfAny left was s held new.bytes None) (sym same)
    (subst (λ (x : Incoming). HandsFrontIfAny left was mid held x.bytes None) (sym stays) (unhanded left was mid held old.bytes fills))

-- a piece that is taken off at this place
pub taken_front : (bytes : List ℕ) (at left count size : ℕ) (old : Incoming) (rest piece : List ℕ) → record { bytes = drop at bytes; left = left } ≡ old →
    rest ≡ old.bytes → size ≡ next_size old → count ≤ size → count ≤ length rest → piece ≡ take count rest →
    IsFront old (record { bytes = drop (at + count) bytes; left = size - count }) piece
taken_front bytes at left count size old rest piece view same sized few fits taken =
    let l : length piece ≡ count = ap length taken ∙ length-take-le count rest fits in
    let s : size ≡ next_size old = sized in
    let v : drop at bytes ≡ rest = ap (λ (x : Incoming). x.bytes) view ∙ sym same in
    let d : drop count rest ≡ drop (at + count) bytes = ap (drop count) (sym v) ∙ drop-drop count at bytes in
    let p : take count rest ++ drop count rest ≡ rest = take-append-drop count rest in
    record {
      front = sym same ∙ sym p ∙ ap (λ (x : List ℕ). x ++ drop count rest) (sym taken) ∙ ap (λ (x : List ℕ). piece ++ x) d;
      within = omega arith;
      left = omega arith;
    }
