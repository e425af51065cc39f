-- A script as lines.
use Rattle.std.proofs.Common.{◌≡◌, ◌≢◌, ℕ, zero, suc, ◌<◌, false, eqb, List, [], ◌∷◌, ◌++◌, Option, Some, None, length, refl, ap, ◌∙◌, sym, append_assoc, arith, inl, inr}
use Rattle.std.specs.Io.KnownBytes.{Consumes, Keeps, IsAtEnd}
use Rattle.std.proofs.lemmas.List.{append-nil}
use Rattle.std.proofs.lemmas.Bool.Decides.{eqb_tells}
use Rattle.script_grammar.specs.Lines.{with_byte, lines_of, HasNoFeed, Cursor, to_come, TakesLine}

pub lines_next : (b : ℕ) (bytes : List ℕ) → b ≢ 10 → lines_of (b ∷ bytes) ≡ with_byte b (lines_of bytes)
lines_next b bytes other = elim (eqb_tells b 10) [ inl p ↦ absurd (other p.1) | inr p ↦ rw p.0 refl ]

-- a line that ends with LF
pub lines_feed : (line rest : List ℕ) → HasNoFeed line → lines_of (line ++ 10 ∷ rest) ≡ line ∷ lines_of rest
lines_feed [] rest h = refl
lines_feed (b ∷ line) rest h = lines_next b (line ++ 10 ∷ rest) h.0 ∙ ap (with_byte b) (lines_feed line rest h.1)

-- a last line that lacks it
pub lines_last : (b : ℕ) (line : List ℕ) → HasNoFeed (b ∷ line) → lines_of (b ∷ line) ≡ (b ∷ line) ∷ []
lines_last b [] h = lines_next b [] h.0
lines_last b (c ∷ line) h = lines_next b (c ∷ line) h.0 ∙ ap (with_byte b) (lines_last c line h.1)

-- the same with what a reader holds, and what may follow
pub feed_first : (line ahead more : List ℕ) → HasNoFeed line → lines_of (((line ++ 10 ∷ []) ++ ahead) ++ more) ≡ line ∷ lines_of (ahead ++ more)
feed_first line ahead more h = ap lines_of (append_assoc (line ++ 10 ∷ []) ahead more ∙ append_assoc line (10 ∷ []) (ahead ++ more)) ∙ lines_feed line (ahead ++ more) h

pub last_first : (b : ℕ) (line more : List ℕ) → HasNoFeed (b ∷ line) → more ≡ [] → lines_of ((b ∷ line) ++ more) ≡ (b ∷ line) ∷ []
last_first b line more h none = ap (λ (m : List ℕ). lines_of ((b ∷ line) ++ m)) none ∙ ap lines_of (append-nil (b ∷ line)) ∙ lines_last b line h

-- a line of which this is a front
pub record Begins (line more : List ℕ) : Type 0 where
  pub rest : List ℕ
  pub others : List (List ℕ)
  pub lines : lines_of (line ++ more) ≡ (line ++ rest) ∷ others

pub begins_more : (b : ℕ) (lines : List (List ℕ)) → (rest : List ℕ) × (others : List (List ℕ)) × (with_byte b lines ≡ (b ∷ rest) ∷ others)
begins_more b [] = ([], [], refl)
begins_more b (line ∷ lines) = (line, lines, refl)

pub line_begins : (b : ℕ) (line more : List ℕ) → HasNoFeed (b ∷ line) → Begins (b ∷ line) more
line_begins b [] more h =
    let w = begins_more b (lines_of more) in
    record { rest = w.0; others = w.1; lines = lines_next b more h.0 ∙ w.2 }
line_begins b (c ∷ line) more h =
    let w = line_begins c line more h.1 in
    record { rest = w.rest; others = w.others; lines = lines_next b ((c ∷ line) ++ more) h.0 ∙ ap (with_byte b) w.lines }

pub nothing_behind : (ahead rest : List ℕ) → ahead ++ rest ≡ [] → (ahead ≡ []) × (rest ≡ [])
nothing_behind [] rest e = (refl, e)
nothing_behind (b ∷ ahead) rest e = absurd cc

-- if nothing is to come, the source has nothing left
pub end_left : (cursor : Cursor) (left : Option (List ℕ)) → IsAtEnd (to_come cursor left) → IsAtEnd left
end_left cursor None e = tt
end_left cursor (Some rest) e = (nothing_behind cursor.ahead rest e).1

-- what was taken off the front, and what the reader holds, was taken from the source
pub held : (first : Option (List ℕ)) (cursor : Cursor) (left : Option (List ℕ)) (bytes : List ℕ) → Consumes first (to_come cursor left) bytes → Consumes first left (bytes ++ cursor.ahead)
held None cursor left bytes taken = tt
held (Some all) cursor None bytes taken = absurd taken
held (Some all) cursor (Some rest) bytes taken = taken ∙ sym (append_assoc bytes cursor.ahead rest)

pub held_end : (first : Option (List ℕ)) (cursor : Cursor) (left : Option (List ℕ)) (bytes : List ℕ) → Consumes first (to_come cursor left) bytes → IsAtEnd (to_come cursor left) → Consumes first left bytes
held_end None cursor left bytes taken end = tt
held_end (Some all) cursor None bytes taken end = absurd taken
held_end (Some all) cursor (Some rest) bytes taken end = taken ∙ ap (λ (ahead : List ℕ). bytes ++ (ahead ++ rest)) (nothing_behind cursor.ahead rest end).0

pub without_separator : (first now : Option (List ℕ)) (line : List ℕ) → TakesLine first now line [] → Consumes first now line
without_separator first now line t = rw (append-nil line) at t.taken

-- bytes have a first line
pub some_line : (bytes more : List ℕ) → 0 < length bytes → (line : List ℕ) × (others : List (List ℕ)) × (lines_of (bytes ++ more) ≡ line ∷ others)
some_line [] more some = absurd (omega arith)
some_line (b ∷ bytes) more some =
    elim (eqb_tells b 10) [
      | inl p ↦ ([], lines_of (bytes ++ more), rw p.0 refl)
      | inr p ↦ let w = begins_more b (lines_of (bytes ++ more)) in (b ∷ w.0, w.1, lines_next b (bytes ++ more) p.1 ∙ w.2)
    ]

pub starts : (left : Option (List ℕ)) → Consumes left (to_come (record { line = []; ahead = [] }) left) []
starts None = tt
starts (Some all) = refl

pub some_bytes : (n : ℕ) → eqb n 0 ≡ false → 0 < n
some_bytes zero e = absurd cc
some_bytes (suc n) e = omega arith

pub Consumes-none : (a b : Option (List ℕ)) → Keeps a b → Consumes a b []
Consumes-none None b p = tt
Consumes-none (Some s) None p = absurd p
Consumes-none (Some s) (Some t) p = sym p
