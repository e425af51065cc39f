-- Where the statements of a text are in it.
use Rattle.std.proofs.Common.{◌≡◌, ℕ, zero, suc, ◌+◌, ◌<◌, ◌≤◌, max, false, List, [], ◌∷◌, ◌++◌, length, drop, Option, Some, None, Result, Ok, Err, refl, sym, ap, subst, ◌∙◌, arith, append_assoc, length-append}
use Rattle.std.specs.Option.{option_to_list}
use Rattle.std.specs.List.{All, AllPairs}
use Rattle.std.specs.Str.{IsUtf8, IsCharBoundary}
use Rattle.std.proofs.lemmas.Bool.{cond_both}
use Rattle.std.proofs.lemmas.List.{append-nil}
use Rattle.std.proofs.lemmas.Str.{IsCharBoundary-start}
use Rattle.sql_scan.specs.declared.token.TokenKind.{TokenKind}
use Rattle.sql_scan.specs.declared.token.TokenKind.TheVariants.{Space, Comment, OpenComment, Quoted, OpenQuote, Word, Parameter, Named, End, Other}
use Rattle.sql_scan.specs.declared.draft.PartialStatement.{PartialStatement}
use Rattle.sql_scan.specs.declared.pieces.StatementSpan.{StatementSpan}
use Rattle.sql_scan.specs.declared.fault.ScanFault.{ScanFault}
use Rattle.sql_scan.specs.Tokens.{Token, tokens_of}
use Rattle.sql_scan.specs.Grammar.{AreTokens, joined}
use Rattle.sql_scan.specs.Statements.{is_blank, blank, solid, counted, extended, finished, still, moved, parameter, with_front, ◌>>=◌, statements_from, scan_of}
use Rattle.sql_scan.specs.Words.{kind_so_far}
use Rattle.sql_scan.specs.Places.{StandsIn, StandsBefore}
use Rattle.sql_scan.proofs.Cutting.{token_some, cuts}
use Rattle.sql_scan.proofs.Boundaries.{token_boundary}

-- a statement so far, after the place where the one before ends
abbrev Progress : List ℕ → ℕ → ℕ → PartialStatement → Type 0
Progress text from at d =
    (from ≤ at) × (is_blank d.heading ≡ false → (from ≤ d.start) × (d.start < d.end) × (d.end ≤ at) × IsCharBoundary text d.start × IsCharBoundary text d.end)

-- statements one after the other, from a place on
abbrev Stand : List ℕ → ℕ → List StatementSpan → Type 0
Stand text from [] = Unit {0}
Stand text from (p ∷ ps) = StandsIn text p × (from ≤ p.start) × Stand text p.after ps

weaker : (text : List ℕ) (from at : ℕ) (ps : List StatementSpan) → from ≤ at → Stand text at ps → Stand text from ps
weaker text from at [] le h = tt
weaker text from at (p ∷ ps) le (stands, behind, others) = (stands, omega arith, others)

finished_then : (text : List ℕ) (from at : ℕ) (d : PartialStatement) (others : List StatementSpan) → Progress text from at d → IsCharBoundary text at → at ≤ length text → Stand text at others
    → Stand text from (option_to_list (finished d at) ++ others)
unfolding finished kind_so_far
finished_then text from at d others progress boundary within h =
    cond_both (is_blank d.heading) None (Some (record { start = d.start; end = d.end; word = kind_so_far d.heading; params = d.params; after = at })) (λ (o : Option StatementSpan). Stand text from (option_to_list o ++ others))
    (λ none. weaker text from at others progress.0 h)
    (λ some. let p = progress.1 some in (record { some = p.1; ordered = p.2; within = within; at_start = p.3; at_end = p.4; at_rest = boundary }, p.0, h))

-- what a token does to the statement so far
record Goes (text : List ℕ) (from at : ℕ) (front : List StatementSpan) (next : PartialStatement) : Type 0 where
  pub from' : ℕ
  pub progress : Progress text from' at next
  pub behind : (others : List StatementSpan) → Stand text from' others → Stand text from (front ++ others)

draft_is : (x y : PartialStatement) (r : Result PartialStatement ScanFault) → r ≡ Ok x → r ≡ Ok y → x ≡ y
draft_is x y r e f = cc

later : (text : List ℕ) (from at n : ℕ) (d : PartialStatement) → Progress text from at d → Progress text from (at + n) d
later text from at n d progress = (omega arith, λ some. let p = progress.1 some in (p.0, p.1, omega arith, p.3, p.4))

solid_progress : (text : List ℕ) (from at : ℕ) (d : PartialStatement) (kind : TokenKind) (bytes : List ℕ) → Progress text from at d → IsCharBoundary text at → IsCharBoundary text (at + length bytes) → 0 < length bytes
    → Progress text from (at + length bytes) (solid d at kind bytes)
unfolding solid
solid_progress text from at d kind bytes progress here there pos =
    let end : ℕ = at + length bytes in (
      omega arith,
      λ _. cond_both (is_blank d.heading) at d.start (λ (s : ℕ). (from ≤ s) × (s < end) × (end ≤ end) × IsCharBoundary text s × IsCharBoundary text end)
          (λ none. (progress.0, omega arith, omega arith, here, there))
          (λ some. let p = progress.1 some in (p.0, omega arith, omega arith, p.3, there)),
    )

-- the draft of a parameter is as the one without its number
counted_progress : (text : List ℕ) (from at end : ℕ) (s : PartialStatement) (o : Option ℕ) (next : PartialStatement) → Progress text from end s → counted at s o ≡ Ok next → Progress text from end next
counted_progress text from at end s None next h e = absurd cc
counted_progress text from at end s (Some n) next h e = subst (Progress text from end) (draft_is (record s { params = max s.params n }) next (counted at s (Some n)) refl e) h

extended_progress : (text : List ℕ) (from at : ℕ) (d : PartialStatement) (kind : TokenKind) (bytes : List ℕ) (next : PartialStatement) → Progress text from at d → IsCharBoundary text at → IsCharBoundary text (at + length bytes) → 0 < length bytes
    → extended d at kind bytes ≡ Ok next → Progress text from (at + length bytes) next
unfolding extended
extended_progress text from at d Space bytes next progress here there pos e = subst (Progress text from (at + length bytes)) (draft_is d next (Ok d) refl e) (later text from at (length bytes) d progress)
extended_progress text from at d Comment bytes next progress here there pos e = subst (Progress text from (at + length bytes)) (draft_is d next (Ok d) refl e) (later text from at (length bytes) d progress)
extended_progress text from at d OpenComment bytes next progress here there pos e = absurd cc
extended_progress text from at d OpenQuote bytes next progress here there pos e = absurd cc
extended_progress text from at d Named bytes next progress here there pos e = absurd cc
extended_progress text from at d Parameter bytes next progress here there pos e =
    counted_progress text from at (at + length bytes) (solid d at Parameter bytes) (parameter d.params (drop 1 bytes)) next (solid_progress text from at d Parameter bytes progress here there pos) e
extended_progress text from at d Quoted bytes next progress here there pos e = subst (Progress text from (at + length bytes)) (draft_is (solid d at Quoted bytes) next (Ok (solid d at Quoted bytes)) refl e) (solid_progress text from at d Quoted bytes progress here there pos)
extended_progress text from at d Word bytes next progress here there pos e = subst (Progress text from (at + length bytes)) (draft_is (solid d at Word bytes) next (Ok (solid d at Word bytes)) refl e) (solid_progress text from at d Word bytes progress here there pos)
extended_progress text from at d End bytes next progress here there pos e = subst (Progress text from (at + length bytes)) (draft_is d next (Ok d) refl e) (later text from at (length bytes) d progress)
extended_progress text from at d Other bytes next progress here there pos e = subst (Progress text from (at + length bytes)) (draft_is (solid d at Other bytes) next (Ok (solid d at Other bytes)) refl e) (solid_progress text from at d Other bytes progress here there pos)

pair_is : (x y : List StatementSpan × PartialStatement) (r : Result (List StatementSpan × PartialStatement) ScanFault) → r ≡ Ok x → r ≡ Ok y → x ≡ y
pair_is x y r e f = cc

-- no statement ends
still_goes : (text : List ℕ) (from end : ℕ) (r : Result PartialStatement ScanFault) (m : List StatementSpan × PartialStatement) → ((next : PartialStatement) → r ≡ Ok next → Progress text from end next) → still r ≡ Ok m → Goes text from end m.0 m.1
still_goes text from end (Ok next) m progress e =
    subst (λ (x : List StatementSpan × PartialStatement). Goes text from end x.0 x.1) (pair_is ([], next) m (still (Ok next)) refl e)
    (record { from' = from; progress = progress next refl; behind = λ others h. h })
still_goes text from end (Err fault) m progress e = absurd cc

end_goes : (text : List ℕ) (from end : ℕ) (d : PartialStatement) (m : List StatementSpan × PartialStatement) (r : Result (List StatementSpan × PartialStatement) ScanFault) → Progress text from end d → IsCharBoundary text end → end ≤ length text → r ≡ Ok (option_to_list (finished d end), blank end) → r ≡ Ok m → Goes text from end m.0 m.1
end_goes text from end d m r progress there within is e =
    subst (λ (x : List StatementSpan × PartialStatement). Goes text from end x.0 x.1) (pair_is (option_to_list (finished d end), blank end) m r is e)
    (record { from' = end; progress = (omega arith, λ some. absurd cc); behind = λ others h. finished_then text from end d others progress there within h })

goes : (text : List ℕ) (from at : ℕ) (d : PartialStatement) (kind : TokenKind) (bytes : List ℕ) (m : List StatementSpan × PartialStatement) → Progress text from at d → IsCharBoundary text at → IsCharBoundary text (at + length bytes) → at + length bytes ≤ length text → 0 < length bytes
    → moved d at kind bytes ≡ Ok m → Goes text from (at + length bytes) m.0 m.1
goes text from at d End bytes m progress here there within pos e = end_goes text from (at + length bytes) d m (moved d at End bytes) (later text from at (length bytes) d progress) there within refl e
goes text from at d kind bytes m progress here there within pos e =
    still_goes text from (at + length bytes) (extended d at kind bytes) m (λ next is. extended_progress text from at d kind bytes next progress here there pos is) e

bind_ok : {A B : Type 0} (r : Result A ScanFault) (f : A → Result B ScanFault) (y : B) → (r >>= f) ≡ Ok y → (x : A) × (r ≡ Ok x) × (f x ≡ Ok y)
bind_ok (Ok x) f y e = (x, refl, e)
bind_ok (Err fault) f y e = absurd cc

list_is : (x y : List StatementSpan) (r : Result (List StatementSpan) ScanFault) → r ≡ Ok x → r ≡ Ok y → x ≡ y
list_is x y r e f = cc

front_ok : (front ps : List StatementSpan) (r : Result (List StatementSpan) ScanFault) → with_front front r ≡ Ok ps → (others : List StatementSpan) × (r ≡ Ok others) × (front ++ others ≡ ps)
front_ok front ps (Ok others) e = (others, refl, list_is (front ++ others) ps (Ok (front ++ others)) refl e)
front_ok front ps (Err fault) e = absurd cc

stand : (tokens : List Token) (text front : List ℕ) → IsUtf8 text → text ≡ front ++ joined tokens → AreTokens tokens → (from : ℕ) (d : PartialStatement) (ps : List StatementSpan) → Progress text from (length front) d → IsCharBoundary text (length front)
    → statements_from (length front) d tokens ≡ Ok ps → Stand text from ps
unfolding statements_from
stand [] text front utf8 is each from d ps progress here e =
    let within : length front ≤ length text = omega (arith, ap length is, length-append front []) in
    subst (Stand text from) (append-nil (option_to_list (finished d (length front))) ∙ list_is (option_to_list (finished d (length front))) ps (Ok (option_to_list (finished d (length front)))) refl e)
    (finished_then text from (length front) d [] progress here within tt)
stand (t ∷ tokens) text front utf8 is (token, each) from d ps progress here e =
    let split : text ≡ (front ++ t.bytes) ++ joined tokens = is ∙ sym (append_assoc front t.bytes (joined tokens)) in
    let len : length (front ++ t.bytes) ≡ length front + length t.bytes = length-append front t.bytes in
    let there : IsCharBoundary text (length (front ++ t.bytes)) = token_boundary text front t.bytes (joined tokens) t.kind utf8 split token in
    let within : length front + length t.bytes ≤ length text = omega (arith, ap length split, length-append (front ++ t.bytes) (joined tokens)) in
    let moves = bind_ok (moved d (length front) t.kind t.bytes) (λ (m : List StatementSpan × PartialStatement). with_front m.0 (statements_from (length front + length t.bytes) m.1 tokens)) ps e in
    let found = front_ok moves.0.0 ps (statements_from (length front + length t.bytes) moves.0.1 tokens) moves.2 in
    let g : Goes text from (length front + length t.bytes) moves.0.0 moves.0.1 =
    goes text from (length front) d t.kind t.bytes moves.0 progress here (subst (IsCharBoundary text) len there) within (token_some t.kind t.bytes (joined tokens) token) moves.1 in
    let others : Stand text g.from' found.0 =
    stand tokens text (front ++ t.bytes) utf8 split each g.from' moves.0.1 found.0 (subst (λ (n : ℕ). Progress text g.from' n moves.0.1) (sym len) g.progress) there
    (ap (λ (n : ℕ). statements_from n moves.0.1 tokens) len ∙ found.1) in
    subst (Stand text from) found.2 (g.behind found.0 others)

-- ---- each, and any two

all_stand : (text : List ℕ) (from : ℕ) (ps : List StatementSpan) → Stand text from ps → All (StandsIn text) ps
all_stand text from [] h k x lt = absurd (omega arith)
all_stand text from (p ∷ ps) h zero x lt = h.0
all_stand text from (p ∷ ps) h (suc k) x lt = all_stand text p.after ps h.2 k x (omega arith)

all_behind : (text : List ℕ) (from : ℕ) (ps : List StatementSpan) → Stand text from ps → All (λ p. from ≤ p.start) ps
all_behind text from [] h k x lt = absurd (omega arith)
all_behind text from (p ∷ ps) h zero x lt = h.1
all_behind text from (p ∷ ps) h (suc k) x lt =
    let next = all_behind text p.after ps h.2 k x (omega arith) in
    let ordered = h.0.ordered in
    let some = h.0.some in
    let first = h.1 in
    omega arith

in_turn : (text : List ℕ) (from : ℕ) (ps : List StatementSpan) → Stand text from ps → AllPairs StandsBefore ps
in_turn text from [] h i j x lt within = absurd (omega arith)
in_turn text from (p ∷ ps) h i zero x lt within = absurd (omega arith)
in_turn text from (p ∷ ps) h zero (suc j) x lt within = all_behind text p.after ps h.2 j x (omega arith)
in_turn text from (p ∷ ps) h (suc i) (suc j) x lt within = in_turn text p.after ps h.2 i j x (omega arith) (omega arith)

scanned : (text : List ℕ) (ps : List StatementSpan) → IsUtf8 text → scan_of text ≡ Ok ps → Stand text 0 ps
unfolding scan_of
scanned text ps utf8 e =
    stand (tokens_of text) text [] utf8 (sym (cuts text).together) (cuts text).each 0 (blank 0) ps (omega arith, λ some. absurd cc) (IsCharBoundary-start text utf8) e

pub places : (text : List ℕ) (ps : List StatementSpan) → IsUtf8 text → scan_of text ≡ Ok ps → All (StandsIn text) ps
places text ps utf8 e = all_stand text 0 ps (scanned text ps utf8 e)

pub order : (text : List ℕ) (ps : List StatementSpan) → IsUtf8 text → scan_of text ≡ Ok ps → AllPairs StandsBefore ps
order text ps utf8 e = in_turn text 0 ps (scanned text ps utf8 e)
