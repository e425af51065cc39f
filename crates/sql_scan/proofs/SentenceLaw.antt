-- The tokens of a statement, one after the other, make the statement.
use Rattle.std.proofs.Common.{◌≡◌, inl, inr, ℕ, ◌+◌, max, true, false, List, [], ◌∷◌, ◌++◌, length, drop, Option, Some, None, Result, Ok, refl, sym, ap, subst, ◌∙◌, arith, append_assoc, length-append}
use Rattle.std.specs.Option.{option_to_list}
use Rattle.std.specs.List.{fold}
use Rattle.std.proofs.lemmas.Bool.{or_cases, cond-true, cond-false}
use Rattle.std.proofs.lemmas.List.{append-nil}
use Rattle.sql_scan.specs.declared.token.TokenKind.{TokenKind}
use Rattle.sql_scan.specs.declared.token.TokenKind.TheVariants.{Space, Comment, Quoted, Word, Parameter, End, Other}
use Rattle.sql_scan.specs.declared.heading.Keyword.{Keyword}
use Rattle.sql_scan.specs.declared.heading.Keyword.TheVariants as words
use Rattle.sql_scan.specs.declared.heading.StatementHead.{StatementHead}
use Rattle.sql_scan.specs.declared.heading.WordKind.{WordKind}
use Rattle.sql_scan.specs.declared.heading.StatementHead.TheVariants.{Blank, Begun, Open, Full, Settled}
use Rattle.sql_scan.specs.declared.draft.PartialStatement.{PartialStatement}
use Rattle.sql_scan.specs.declared.pieces.StatementSpan.{StatementSpan}
use Rattle.sql_scan.specs.declared.fault.ScanFault.{ScanFault}
use Rattle.sql_scan.specs.Tokens.{Token}
use Rattle.sql_scan.specs.Grammar.{joined}
use Rattle.sql_scan.specs.Words.{followed_by, kind_so_far}
use Rattle.sql_scan.specs.Kinds.{heading_of}
use Rattle.sql_scan.specs.Statements.{is_blank, blank, keyword_in, solid, counted, extended, finished, still, moved, parameter, with_front, ◌>>=◌, statements_from}
use Rattle.sql_scan.specs.Sentences.{is_gap, is_solid, AreGaps, EndSolid, word_in, words_of, numbered, with_number, Numbered, Sentence, own_tokens, all_tokens, IsSentence, piece_of}
use Rattle.sql_scan.proofs.Scanning.{front-none}
use Rattle.sql_scan.proofs.KindLaw.{kind_is}

-- ---- one token

abbrev Moved : Type 0
Moved = Result (List StatementSpan × PartialStatement) ScanFault

-- no statement ends
abbrev went : PartialStatement → Moved
went d = Ok ([], d)

moved_gap : (d : PartialStatement) (at : ℕ) (kind : TokenKind) (bytes : List ℕ) → is_gap kind ≡ true → moved d at kind bytes ≡ went d
unfolding extended
moved_gap d at Space bytes e = refl
moved_gap d at Comment bytes e = refl
moved_gap d at kind bytes e = absurd cc

some_is : (m n : ℕ) → Some m ≡ Some n → m ≡ n
some_is m n e = cc

abbrev with_params : PartialStatement → ℕ → PartialStatement
with_params d n = record d { params = n }

plain_params : (d : PartialStatement) (at : ℕ) (kind : TokenKind) (bytes : List ℕ) (n : ℕ) → Some d.params ≡ Some n → solid d at kind bytes ≡ with_params (solid d at kind bytes) n
unfolding solid
plain_params d at kind bytes n e = ap (with_params (solid d at kind bytes)) (some_is d.params n e)

counted_is : (d : PartialStatement) (at : ℕ) (bytes : List ℕ) (o : Option ℕ) (n : ℕ) → numbered d.params o ≡ Some n → still (counted at (solid d at Parameter bytes) o) ≡ went (with_params (solid d at Parameter bytes) n)
unfolding solid
counted_is d at bytes None n e = absurd cc
counted_is d at bytes (Some m) n e = ap (λ (k : ℕ). went (with_params (solid d at Parameter bytes) k)) (some_is (max d.params m) n e)

moved_solid : (d : PartialStatement) (at : ℕ) (kind : TokenKind) (bytes : List ℕ) (n : ℕ) → is_solid kind ≡ true → with_number d.params kind bytes ≡ Some n → moved d at kind bytes ≡ went (with_params (solid d at kind bytes) n)
unfolding extended
moved_solid d at Quoted bytes n s e = ap went (plain_params d at Quoted bytes n e)
moved_solid d at Word bytes n s e = ap went (plain_params d at Word bytes n e)
moved_solid d at Other bytes n s e = ap went (plain_params d at Other bytes n e)
moved_solid d at Parameter bytes n s e = counted_is d at bytes (parameter d.params (drop 1 bytes)) n e
moved_solid d at kind bytes n s e = absurd cc

one_step : (at : ℕ) (d d' : PartialStatement) (t : Token) (rest : List Token) → moved d at t.kind t.bytes ≡ went d' → statements_from at d (t ∷ rest) ≡ statements_from (at + length t.bytes) d' rest
unfolding statements_from
one_step at d d' t rest e =
    ap (λ (r : Moved). r >>= λ m. with_front m.0 (statements_from (at + length t.bytes) m.1 rest)) e ∙ front-none (statements_from (at + length t.bytes) d' rest)

-- ---- space and comments

plus_none : (n : ℕ) → n ≡ n + 0
plus_none n = omega arith

further : (at : ℕ) (d : PartialStatement) (t : Token) (others rest : List Token) → statements_from (at + length t.bytes + length (joined others)) d rest ≡ statements_from (at + length (joined (t ∷ others))) d rest
further at d t others rest =
    let e : at + length t.bytes + length (joined others) ≡ at + length (joined (t ∷ others)) = omega (arith, length-append t.bytes (joined others)) in
    ap (λ (n : ℕ). statements_from n d rest) e

over_gaps : (gaps : List Token) (at : ℕ) (d : PartialStatement) (rest : List Token) → AreGaps gaps → statements_from at d (gaps ++ rest) ≡ statements_from (at + length (joined gaps)) d rest
over_gaps [] at d rest h = ap (λ (n : ℕ). statements_from n d rest) (plus_none at)
over_gaps (t ∷ gaps) at d rest (gap, h) =
    one_step at d d t (gaps ++ rest) (moved_gap d at t.kind t.bytes gap) ∙ over_gaps gaps (at + length t.bytes) d rest h ∙ further at d t gaps rest

-- ---- the statement

never_blank : (h : StatementHead) (keyword : Keyword) → is_blank (followed_by h keyword) ≡ false
unfolding followed_by
never_blank Blank words.Begin = refl
never_blank Blank words.Deferred = refl
never_blank Blank words.AtOnce = refl
never_blank Blank words.Transaction = refl
never_blank Blank words.Commit = refl
never_blank Blank words.Rollback = refl
never_blank Blank words.Write = refl
never_blank Blank words.LeftOut = refl
never_blank Blank words.Plain = refl
never_blank Begun words.Deferred = refl
never_blank Begun words.AtOnce = refl
never_blank Begun words.Transaction = refl
never_blank Begun keyword = refl
never_blank (Open kind) words.Transaction = refl
never_blank (Open kind) keyword = refl
never_blank (Full kind) keyword = refl
never_blank (Settled kind) keyword = refl

word_solid : (kind : TokenKind) (bytes : List ℕ) (others : List Keyword) → is_solid kind ≡ true → word_in kind bytes others ≡ keyword_in kind bytes ∷ others
word_solid Quoted bytes others e = refl
word_solid Word bytes others e = refl
word_solid Parameter bytes others e = refl
word_solid Other bytes others e = refl
word_solid kind bytes others e = absurd cc

word_gap : (kind : TokenKind) (bytes : List ℕ) (others : List Keyword) → is_gap kind ≡ true → word_in kind bytes others ≡ others
word_gap Space bytes others e = refl
word_gap Comment bytes others e = refl
word_gap kind bytes others e = absurd cc

number_gap : (before : ℕ) (kind : TokenKind) (bytes : List ℕ) (n : ℕ) → is_gap kind ≡ true → with_number before kind bytes ≡ Some n → before ≡ n
number_gap before Space bytes n e h = some_is before n h
number_gap before Comment bytes n e h = some_is before n h
number_gap before kind bytes n e h = absurd cc

-- if a statement stands whose tokens were read up to a place
pub record Reads (d d' : PartialStatement) (place greatest : ℕ) (read : List Keyword) : Type 0 where
  pub start : d'.start ≡ d.start
  pub end : d'.end ≡ place
  pub params : d'.params ≡ greatest
  pub heading : d'.heading ≡ fold followed_by d.heading read
  pub begun : is_blank d'.heading ≡ false

-- the place that a statement has reached, unless a token of it is still to come
abbrev Reached : List Token → PartialStatement → ℕ → Type 0
Reached [] d at = d.end ≡ at
Reached (t ∷ others) d at = Unit {0}

solid_end : (d : PartialStatement) (at : ℕ) (kind : TokenKind) (bytes : List ℕ) (n : ℕ) → (with_params (solid d at kind bytes) n).end ≡ at + length bytes
unfolding solid
solid_end d at kind bytes n = refl

solid_heading : (d : PartialStatement) (at : ℕ) (kind : TokenKind) (bytes : List ℕ) (n : ℕ) → (with_params (solid d at kind bytes) n).heading ≡ followed_by d.heading (keyword_in kind bytes)
unfolding solid
solid_heading d at kind bytes n = refl

solid_start : (d : PartialStatement) (at : ℕ) (kind : TokenKind) (bytes : List ℕ) (n : ℕ) → is_blank d.heading ≡ false → (with_params (solid d at kind bytes) n).start ≡ d.start
unfolding solid
solid_start d at kind bytes n e = cond-false (is_blank d.heading) at d.start e

solid_first : (d : PartialStatement) (at : ℕ) (kind : TokenKind) (bytes : List ℕ) (n : ℕ) → is_blank d.heading ≡ true → (with_params (solid d at kind bytes) n).start ≡ at
unfolding solid
solid_first d at kind bytes n e = cond-true (is_blank d.heading) at d.start e

reached_next : (others : List Token) (d : PartialStatement) (at : ℕ) → d.end ≡ at → Reached others d at
reached_next [] d at e = e
reached_next (t ∷ others) d at e = tt

record Run (inner : List Token) (at : ℕ) (d : PartialStatement) (greatest : ℕ) (rest : List Token) : Type 0 where
  pub d' : PartialStatement
  pub reads : Reads d d' (at + length (joined inner)) greatest (words_of inner)
  pub run : statements_from at d (inner ++ rest) ≡ statements_from (at + length (joined inner)) d' rest

longer_end : (at : ℕ) (t : Token) (others : List Token) → at + length t.bytes + length (joined others) ≡ at + length (joined (t ∷ others))
longer_end at t others = omega (arith, length-append t.bytes (joined others))

run_solid : (at : ℕ) (d : PartialStatement) (t : Token) (others : List Token) (n greatest : ℕ) (rest : List Token) → is_solid t.kind ≡ true → with_number d.params t.kind t.bytes ≡ Some n → is_blank d.heading ≡ false
    → Run others (at + length t.bytes) (with_params (solid d at t.kind t.bytes) n) greatest rest → Run (t ∷ others) at d greatest rest
run_solid at d t others n greatest rest s e begun r = record {
  d' = r.d';
  reads = record {
    start = r.reads.start ∙ solid_start d at t.kind t.bytes n begun;
    end = r.reads.end ∙ longer_end at t others;
    params = r.reads.params;
    heading = r.reads.heading ∙ ap (λ (h : StatementHead). fold followed_by h (words_of others)) (solid_heading d at t.kind t.bytes n) ∙ sym (ap (fold followed_by d.heading) (word_solid t.kind t.bytes (words_of others) s));
    begun = r.reads.begun;
  };
  run = one_step at d (with_params (solid d at t.kind t.bytes) n) t (others ++ rest) (moved_solid d at t.kind t.bytes n s e) ∙ r.run ∙ further at r.d' t others rest;
}

run_gap : (at : ℕ) (d : PartialStatement) (t : Token) (others : List Token) (greatest : ℕ) (rest : List Token) → is_gap t.kind ≡ true → Run others (at + length t.bytes) d greatest rest → Run (t ∷ others) at d greatest rest
run_gap at d t others greatest rest g r = record {
  d' = r.d';
  reads = record {
    start = r.reads.start;
    end = r.reads.end ∙ longer_end at t others;
    params = r.reads.params;
    heading = r.reads.heading ∙ sym (ap (fold followed_by d.heading) (word_gap t.kind t.bytes (words_of others) g));
    begun = r.reads.begun;
  };
  run = one_step at d d t (others ++ rest) (moved_gap d at t.kind t.bytes g) ∙ r.run ∙ further at r.d' t others rest;
}

solid_begun : (d : PartialStatement) (at : ℕ) (kind : TokenKind) (bytes : List ℕ) (n : ℕ) → is_blank (with_params (solid d at kind bytes) n).heading ≡ false
solid_begun d at kind bytes n = ap is_blank (solid_heading d at kind bytes n) ∙ never_blank d.heading (keyword_in kind bytes)

run_inner : (inner : List Token) (at : ℕ) (d : PartialStatement) (greatest : ℕ) (rest : List Token) → EndSolid inner → Numbered d.params inner greatest → is_blank d.heading ≡ false → Reached inner d at → Run inner at d greatest rest
run_inner [] at d greatest rest h numbers begun reached = record {
  d' = d;
  reads = record { start = refl; end = reached ∙ plus_none at; params = numbers; heading = refl; begun = begun };
  run = ap (λ (n : ℕ). statements_from n d rest) (plus_none at);
}
run_inner (t ∷ []) at d greatest rest h (n, e, numbers) begun reached =
    let next : PartialStatement = with_params (solid d at t.kind t.bytes) n in
    run_solid at d t [] n greatest rest h e begun
    (run_inner [] (at + length t.bytes) next greatest rest tt numbers (solid_begun d at t.kind t.bytes n) (solid_end d at t.kind t.bytes n))
run_inner (t ∷ u ∷ others) at d greatest rest (one, h) (n, e, numbers) begun reached = elim (or_cases (is_gap t.kind) (is_solid t.kind) one) [
  | inl gap ↦
      let same : d.params ≡ n = number_gap d.params t.kind t.bytes n gap e in
      run_gap at d t (u ∷ others) greatest rest gap
      (run_inner (u ∷ others) (at + length t.bytes) d greatest rest h (subst (λ (m : ℕ). Numbered m (u ∷ others) greatest) (sym same) numbers) begun tt)
  | inr solid_one ↦
      let next : PartialStatement = with_params (solid d at t.kind t.bytes) n in
      run_solid at d t (u ∷ others) n greatest rest solid_one e begun
      (run_inner (u ∷ others) (at + length t.bytes) next greatest rest h numbers (solid_begun d at t.kind t.bytes n) tt)
]

-- what was read of a statement, and where
record Whole (s : Sentence) (at greatest : ℕ) (rest : List Token) : Type 0 where
  pub d' : PartialStatement
  pub start : d'.start ≡ at + length (joined s.before)
  pub end : d'.end ≡ at + length (joined s.before) + length (joined (own_tokens s))
  pub params : d'.params ≡ greatest
  pub heading : d'.heading ≡ heading_of (words_of (own_tokens s))
  pub begun : is_blank d'.heading ≡ false
  pub run : statements_from at (blank at) (all_tokens s ++ rest) ≡ statements_from (at + length (joined (all_tokens s))) d' rest

flat : (s : Sentence) (rest : List Token) → all_tokens s ++ rest ≡ s.before ++ (s.first ∷ (s.inner ++ (s.behind ++ rest)))
flat s rest = append_assoc s.before (own_tokens s ++ s.behind) rest ∙ ap (λ (ts : List Token). s.before ++ ts) (append_assoc (own_tokens s) s.behind rest)

joined-append : (xs ys : List Token) → length (joined (xs ++ ys)) ≡ length (joined xs) + length (joined ys)
joined-append [] ys = let e : length (joined ys) ≡ 0 + length (joined ys) = omega arith in e
joined-append (t ∷ xs) ys =
    length-append t.bytes (joined (xs ++ ys)) ∙ ap (λ (n : ℕ). length t.bytes + n) (joined-append xs ys) ∙ regrouped (length t.bytes) (length (joined xs)) (length (joined ys))
    ∙ ap (λ (n : ℕ). n + length (joined ys)) (sym (length-append t.bytes (joined xs)))
  where
    regrouped : (a b c : ℕ) → a + (b + c) ≡ (a + b) + c
    regrouped a b c = omega arith

whole_end : (s : Sentence) (at : ℕ) → at + length (joined s.before) + length s.first.bytes + length (joined s.inner) + length (joined s.behind) ≡ at + length (joined (all_tokens s))
whole_end s at = omega (arith, joined-append s.before (own_tokens s ++ s.behind), joined-append (own_tokens s) s.behind, length-append s.first.bytes (joined s.inner))

whole : (s : Sentence) (at greatest : ℕ) (rest : List Token) → IsSentence s greatest → Whole s at greatest rest
whole s at greatest rest h =
    let at1 : ℕ = at + length (joined s.before) in
    let n : ℕ = h.numbers.0 in
    let next : PartialStatement = with_params (solid (blank at) at1 s.first.kind s.first.bytes) n in
    let r : Run s.inner (at1 + length s.first.bytes) next greatest (s.behind ++ rest) =
    run_inner s.inner (at1 + length s.first.bytes) next greatest (s.behind ++ rest) h.solid_end h.numbers.2 (solid_begun (blank at) at1 s.first.kind s.first.bytes n)
    (reached_next s.inner next (at1 + length s.first.bytes) (solid_end (blank at) at1 s.first.kind s.first.bytes n)) in
    let moves : moved (blank at) at1 s.first.kind s.first.bytes ≡ went next = moved_solid (blank at) at1 s.first.kind s.first.bytes n h.solid_first h.numbers.1 in
    let there : ℕ = at1 + length s.first.bytes + length (joined s.inner) in
    record {
      d' = r.d';
      start = r.reads.start ∙ solid_first (blank at) at1 s.first.kind s.first.bytes n refl;
      end = r.reads.end ∙ longer_end at1 s.first s.inner;
      params = r.reads.params;
      heading = r.reads.heading ∙ ap (λ (k : StatementHead). fold followed_by k (words_of s.inner)) (solid_heading (blank at) at1 s.first.kind s.first.bytes n)
          ∙ sym (ap heading_of (word_solid s.first.kind s.first.bytes (words_of s.inner) h.solid_first));
      begun = r.reads.begun;
      run = ap (statements_from at (blank at)) (flat s rest)
          ∙ over_gaps s.before at (blank at) (s.first ∷ (s.inner ++ (s.behind ++ rest))) h.gap_before
          ∙ one_step at1 (blank at) next s.first (s.inner ++ (s.behind ++ rest)) moves
          ∙ r.run
          ∙ over_gaps s.behind there r.d' rest h.gap_behind
          ∙ ap (λ (k : ℕ). statements_from k r.d' rest) (whole_end s at);
    }

finished_is : (s : Sentence) (at greatest after : ℕ) (rest : List Token) (w : Whole s at greatest rest) → finished w.d' after ≡ Some (piece_of at s greatest after)
unfolding finished
finished_is s at greatest after rest w =
    let d : PartialStatement = w.d' in
    let made : ℕ → ℕ → StatementHead → ℕ → Option StatementSpan = λ start end heading params. Some (record { start = start; end = end; word = kind_so_far heading; params = params; after = after }) in
    let own : List Keyword = words_of (own_tokens s) in
    cond-false (is_blank d.heading) None (made d.start d.end d.heading d.params) w.begun
    ∙ ap (λ (x : ℕ). made x d.end d.heading d.params) w.start
    ∙ ap (λ (x : ℕ). made (at + length (joined s.before)) x d.heading d.params) w.end
    ∙ ap (λ (x : StatementHead). made (at + length (joined s.before)) (at + length (joined s.before) + length (joined (own_tokens s))) x d.params) w.heading
    ∙ ap (λ (x : ℕ). made (at + length (joined s.before)) (at + length (joined s.before) + length (joined (own_tokens s))) (heading_of own) x) w.params
    ∙ ap (λ (k : WordKind). let p : StatementSpan = record { start = at + length (joined s.before); end = at + length (joined s.before) + length (joined (own_tokens s)); word = k; params = greatest; after = after } in Some p) (kind_is own)

moved_end : (d : PartialStatement) (at : ℕ) (kind : TokenKind) (bytes : List ℕ) (found : Option StatementSpan) → kind ≡ End → finished d (at + length bytes) ≡ found → moved d at kind bytes ≡ Ok (option_to_list found, blank (at + length bytes))
moved_end d at End bytes found e is = ap (λ (o : Option StatementSpan). let r : Moved = Ok (option_to_list o, blank (at + length bytes)) in r) is
moved_end d at kind bytes found e is = absurd cc

-- a statement that a semicolon ends
pub ended : (at greatest : ℕ) (s : Sentence) (stop : Token) (more : List Token) → IsSentence s greatest → stop.kind ≡ End
    → statements_from at (blank at) (all_tokens s ++ stop ∷ more)
    ≡ with_front (piece_of at s greatest (at + length (joined (all_tokens s)) + length stop.bytes) ∷ [])
    (statements_from (at + length (joined (all_tokens s)) + length stop.bytes) (blank (at + length (joined (all_tokens s)) + length stop.bytes)) more)
unfolding statements_from
ended at greatest s stop more h is =
    let w : Whole s at greatest (stop ∷ more) = whole s at greatest (stop ∷ more) h in
    let there : ℕ = at + length (joined (all_tokens s)) in
    let after : ℕ = there + length stop.bytes in
    w.run ∙ ap (λ (r : Moved). r >>= λ m. with_front m.0 (statements_from after m.1 more))
    (moved_end w.d' there stop.kind stop.bytes (Some (piece_of at s greatest after)) is (finished_is s at greatest after (stop ∷ more) w))

-- a statement that the end of the text ends
pub last : (at greatest : ℕ) (s : Sentence) → IsSentence s greatest
    → statements_from at (blank at) (all_tokens s) ≡ Ok (piece_of at s greatest (at + length (joined (all_tokens s))) ∷ [])
unfolding statements_from
last at greatest s h =
    let w : Whole s at greatest [] = whole s at greatest [] h in
    let there : ℕ = at + length (joined (all_tokens s)) in
    ap (statements_from at (blank at)) (sym (append-nil (all_tokens s))) ∙ w.run
    ∙ ap (λ (o : Option StatementSpan). let r : Result (List StatementSpan) ScanFault = Ok (option_to_list o) in r) (finished_is s at greatest there [] w)

-- space and comments alone are no statement
pub none : (at : ℕ) (gaps : List Token) → AreGaps gaps → statements_from at (blank at) gaps ≡ Ok []
unfolding statements_from finished
none at gaps h = ap (statements_from at (blank at)) (sym (append-nil gaps)) ∙ over_gaps gaps at (blank at) [] h

pub none_more : (at : ℕ) (gaps : List Token) (stop : Token) (more : List Token) → AreGaps gaps → stop.kind ≡ End
    → statements_from at (blank at) (gaps ++ stop ∷ more)
    ≡ statements_from (at + length (joined gaps) + length stop.bytes) (blank (at + length (joined gaps) + length stop.bytes)) more
unfolding statements_from finished
none_more at gaps stop more h is =
    let there : ℕ = at + length (joined gaps) in
    let after : ℕ = there + length stop.bytes in
    over_gaps gaps at (blank at) (stop ∷ more) h
    ∙ ap (λ (r : Moved). r >>= λ m. with_front m.0 (statements_from after m.1 more)) (moved_end (blank at) there stop.kind stop.bytes None is refl)
    ∙ front-none (statements_from after (blank after) more)
