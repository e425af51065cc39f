-- A frame is read exactly where its text stands, and the text of frames determines them.
use Rattle.std.proofs.Common.{◌≡◌, ℕ, ◌<◌, Bool, true, false, List, [], ◌++◌, length, take, drop, refl, sym, ap, ap₂, ◌∙◌, arith, append_assoc, length-append, length-drop, length-take}
use Rattle.std.specs.Prelude.{◌&&◌}
use Rattle.std.proofs.lemmas.List.{take_at, take_all, drop-drop, take-append-drop, append-nil}
use Rattle.wal_frames.specs.declared.frame.Frame.{Frame}
use Rattle.wal_frames.specs.declared.header.WalHeader.{WalHeader}
use Rattle.wal_frames.specs.Checksum.{checksum}
use Rattle.wal_frames.specs.Text.{pair, pair_of, frame_sums, frame, ArePair, AreBytes, IsFrame}
use Rattle.wal_frames.specs.Headers.{same_pair}
use Rattle.wal_frames.specs.Valid.{Reading, NoneMatches, Took, stated_frame, is_match, Stands}
use Rattle.wal_frames.proofs.Sums.{checksum-append, checksum-fits}
use Rattle.wal_frames.proofs.Pairs.{AreBytes-drop, length-pair, pair_of-pair, pair-pair_of, pair_of-fits}
use Rattle.wal_frames.proofs.HeaderLaws.{both_true, same_pair-is, same_pair-refl, drop_pair}

-- the checksum of a frame, piece by piece
pub frame_sums-pieces : (h : WalHeader) (before : ℕ × ℕ) (f : Frame) → frame_sums h before f ≡ checksum h.order (checksum h.order before (pair (f.number, f.commit))) f.page
unfolding frame_sums
frame_sums-pieces h before f =
    let len = length-pair (f.number, f.commit) in
    checksum-append h.order before (pair (f.number, f.commit)) f.page (omega arith)

pub frame_sums-fits : (h : WalHeader) (before : ℕ × ℕ) (f : Frame) → ArePair before → ArePair (frame_sums h before f)
unfolding frame_sums
frame_sums-fits h before f fits = checksum-fits h.order before (pair (f.number, f.commit) ++ f.page) fits

pub length-frame : (h : WalHeader) (before : ℕ × ℕ) (f : Frame) → IsFrame f → length (frame h before f) ≡ 4120
unfolding frame
length-frame h before f fits =
    let sums = frame_sums h before f in
    omega (
      arith,
      fits.page,
      length-append (pair (f.number, f.commit)) (pair h.salts ++ (pair sums ++ f.page)),
      length-append (pair h.salts) (pair sums ++ f.page),
      length-append (pair sums) f.page,
      length-pair (f.number, f.commit),
      length-pair h.salts,
      length-pair sums,
    )

-- the parts of a frame that something follows
frame_parts : (h : WalHeader) (before : ℕ × ℕ) (f : Frame) (rest : List ℕ) → frame h before f ++ rest ≡ pair (f.number, f.commit) ++ (pair h.salts ++ (pair (frame_sums h before f) ++ (f.page ++ rest)))
unfolding frame
frame_parts h before f rest = simp append_assoc

behind_number : (h : WalHeader) (before : ℕ × ℕ) (f : Frame) (rest : List ℕ) → drop 8 (frame h before f ++ rest) ≡ pair h.salts ++ (pair (frame_sums h before f) ++ (f.page ++ rest))
behind_number h before f rest = ap (drop 8) (frame_parts h before f rest) ∙ drop_pair (f.number, f.commit) (pair h.salts ++ (pair (frame_sums h before f) ++ (f.page ++ rest)))

behind_salts : (h : WalHeader) (before : ℕ × ℕ) (f : Frame) (rest : List ℕ) → drop 16 (frame h before f ++ rest) ≡ pair (frame_sums h before f) ++ (f.page ++ rest)
behind_salts h before f rest = sym (drop-drop 8 8 (frame h before f ++ rest)) ∙ ap (drop 8) (behind_number h before f rest) ∙ drop_pair h.salts (pair (frame_sums h before f) ++ (f.page ++ rest))

behind_sums : (h : WalHeader) (before : ℕ × ℕ) (f : Frame) (rest : List ℕ) → drop 24 (frame h before f ++ rest) ≡ f.page ++ rest
behind_sums h before f rest = sym (drop-drop 8 16 (frame h before f ++ rest)) ∙ ap (drop 8) (behind_salts h before f rest) ∙ drop_pair (frame_sums h before f) (f.page ++ rest)

-- a record of three fields
frame_is : (f g : Frame) → f.number ≡ g.number → f.commit ≡ g.commit → f.page ≡ g.page → f ≡ g
frame_is f g number commit page =
    let made : ℕ → ℕ → List ℕ → Frame = λ a b c. record { number = a; commit = b; page = c } in
    ap (λ (a : ℕ). made a f.commit f.page) number ∙ ap₂ (λ (b : ℕ) (c : List ℕ). made g.number b c) commit page

and_false : (a b : Bool) → b ≡ false → (a && b) ≡ false
and_false true b e = e
and_false false b e = refl

-- what a frame states is the frame
pub stated_frame-frame : (h : WalHeader) (before : ℕ × ℕ) (f : Frame) (rest : List ℕ) → IsFrame f → stated_frame (frame h before f ++ rest) ≡ f
unfolding stated_frame
stated_frame-frame h before f rest fits =
    let numbers : pair_of (frame h before f ++ rest) ≡ (f.number, f.commit) = ap pair_of (frame_parts h before f rest) ∙ pair_of-pair (f.number, f.commit) _ (fits.number, fits.commit) in
    let page : take 4096 (drop 24 (frame h before f ++ rest)) ≡ f.page = ap (take 4096) (behind_sums h before f rest) ∙ take_at f.page rest 4096 fits.page in
    frame_is _ f (ap (λ (p : ℕ × ℕ). p.0) numbers) (ap (λ (p : ℕ × ℕ). p.1) numbers) page

-- where a frame's text stands, the test holds
pub is_match-frame : (h : WalHeader) (before : ℕ × ℕ) (f : Frame) (rest : List ℕ) → IsFrame f → ArePair h.salts → ArePair before → is_match h before (frame h before f ++ rest) ≡ true
unfolding is_match
is_match-frame h before f rest fits salts sums =
    let one : pair_of (drop 8 (frame h before f ++ rest)) ≡ h.salts = ap pair_of (behind_number h before f rest) ∙ pair_of-pair h.salts _ salts in
    let two : pair_of (drop 16 (frame h before f ++ rest)) ≡ frame_sums h before f = ap pair_of (behind_salts h before f rest) ∙ pair_of-pair (frame_sums h before f) _ (frame_sums-fits h before f sums) in
    let stated : frame_sums h before (stated_frame (frame h before f ++ rest)) ≡ frame_sums h before f = ap (frame_sums h before) (stated_frame-frame h before f rest fits) in
    let same = same_pair-refl _ _ one in
    let also = same_pair-refl _ _ (two ∙ sym stated) in
    rw (same, also) refl

pub is_match-salts : (h : WalHeader) (before : ℕ × ℕ) (bytes : List ℕ) (salts : ℕ × ℕ) → salts ≡ pair_of (drop 8 bytes) → same_pair salts h.salts ≡ false → is_match h before bytes ≡ false
unfolding is_match
is_match-salts h before bytes salts is other =
    let off : same_pair (pair_of (drop 8 bytes)) h.salts ≡ false = ap (λ (p : ℕ × ℕ). same_pair p h.salts) (sym is) ∙ other in
    rw off refl

pub is_match-sums : (h : WalHeader) (before : ℕ × ℕ) (bytes : List ℕ) (stored sums : ℕ × ℕ) → stored ≡ pair_of (drop 16 bytes) → sums ≡ frame_sums h before (stated_frame bytes) → same_pair stored sums ≡ false → is_match h before bytes ≡ false
unfolding is_match
is_match-sums h before bytes stored sums is sum other =
    let off : same_pair (pair_of (drop 16 bytes)) (frame_sums h before (stated_frame bytes)) ≡ false = ap₂ same_pair (sym is) (sym sum) ∙ other in
    and_false (same_pair (pair_of (drop 8 bytes)) h.salts) _ off

pub is_match-both : (h : WalHeader) (before : ℕ × ℕ) (bytes : List ℕ) (salts stored sums : ℕ × ℕ) → salts ≡ pair_of (drop 8 bytes) → same_pair salts h.salts ≡ true → stored ≡ pair_of (drop 16 bytes) → sums ≡ frame_sums h before (stated_frame bytes) → same_pair stored sums ≡ true → is_match h before bytes ≡ true
unfolding is_match
is_match-both h before bytes salts stored sums is same stored_is sum also =
    let one : same_pair (pair_of (drop 8 bytes)) h.salts ≡ true = ap (λ (p : ℕ × ℕ). same_pair p h.salts) (sym is) ∙ same in
    let two : same_pair (pair_of (drop 16 bytes)) (frame_sums h before (stated_frame bytes)) ≡ true = ap₂ same_pair (sym stored_is) (sym sum) ∙ also in
    rw (one, two) refl

-- if the test holds, the text of the stated frame stands
pub frame-is_match : (h : WalHeader) (before : ℕ × ℕ) (bytes : List ℕ) → length bytes ≡ 4120 → AreBytes bytes → is_match h before bytes ≡ true → bytes ≡ frame h before (stated_frame bytes)
unfolding is_match frame stated_frame
frame-is_match h before bytes long are e =
    let both = both_true _ _ e in
    let salts : pair_of (drop 8 bytes) ≡ h.salts = same_pair-is _ _ both.0 in
    let sums : pair_of (drop 16 bytes) ≡ frame_sums h before (stated_frame bytes) = same_pair-is _ _ both.1 in
    let one : take 8 bytes ≡ pair (pair_of bytes) = sym (pair-pair_of bytes (omega arith) are) in
    let two : take 8 (drop 8 bytes) ≡ pair h.salts = sym (pair-pair_of (drop 8 bytes) (omega (arith, length-drop 8 bytes)) (AreBytes-drop 8 bytes are)) ∙ ap pair salts in
    let three : take 8 (drop 16 bytes) ≡ pair (frame_sums h before (stated_frame bytes)) = sym (pair-pair_of (drop 16 bytes) (omega (arith, length-drop 16 bytes)) (AreBytes-drop 16 bytes are)) ∙ ap pair sums in
    let page : drop 24 bytes ≡ take 4096 (drop 24 bytes) = sym (take_all 4096 (drop 24 bytes) (omega (arith, length-drop 24 bytes))) in
    let split_one : bytes ≡ take 8 bytes ++ drop 8 bytes = sym (take-append-drop 8 bytes) in
    let split_two : drop 8 bytes ≡ take 8 (drop 8 bytes) ++ drop 16 bytes = sym (take-append-drop 8 (drop 8 bytes)) ∙ ap (λ (x : List ℕ). take 8 (drop 8 bytes) ++ x) (drop-drop 8 8 bytes) in
    let split_three : drop 16 bytes ≡ take 8 (drop 16 bytes) ++ drop 24 bytes = sym (take-append-drop 8 (drop 16 bytes)) ∙ ap (λ (x : List ℕ). take 8 (drop 16 bytes) ++ x) (drop-drop 8 16 bytes) in
    let joined : List ℕ → List ℕ → List ℕ = λ x y. x ++ y in
    split_one ∙ ap₂ joined one (split_two ∙ ap₂ joined two (split_three ∙ ap₂ joined three page))

pub stated_frame-fits : (bytes : List ℕ) → length bytes ≡ 4120 → AreBytes bytes → IsFrame (stated_frame bytes)
unfolding stated_frame
stated_frame-fits bytes long are =
    let numbers = pair_of-fits bytes are in
    record { number = numbers.0; commit = numbers.1; page = omega (arith, length-take 4096 (drop 24 bytes), length-drop 24 bytes) }

pub Stands-test : (h : WalHeader) (before : ℕ × ℕ) (bytes : List ℕ) (sums : ℕ × ℕ) → length bytes ≡ 4120 → AreBytes bytes → is_match h before bytes ≡ true → sums ≡ frame_sums h before (stated_frame bytes) → Stands h before bytes sums
Stands-test h before bytes sums long are test sum = record { test = test; fits = stated_frame-fits bytes long are; text = frame-is_match h before bytes long are test; sum = sum }

-- ---- a reader's step

-- the front of what is left states a frame that matches
pub Took-stands : (old : Reading) (front rest : List ℕ) (sums : ℕ × ℕ) → old.rest ≡ front ++ rest → Stands old.header old.sums front sums → Took old (stated_frame front) (record { header = old.header; sums = sums; rest = rest })
Took-stands old front rest sums parts s =
    let made : ℕ × ℕ → Reading = λ x. record { header = old.header; sums = x; rest = rest } in
    record {
      matched = record { fits = s.fits; parts = parts ∙ ap (λ (x : List ℕ). x ++ rest) s.text };
      now = ap made s.sum;
    }

pub Took-shorter : (old : Reading) (f : Frame) (new : Reading) → Took old f new → length new.rest < length old.rest
Took-shorter old f new took =
    let len = ap length took.matched.parts ∙ length-append (frame old.header old.sums f) new.rest in
    let whole = length-frame old.header old.sums f took.matched.fits in
    omega arith

-- fewer bytes than a frame has
pub none_in_short : (old : Reading) → length old.rest < 4120 → NoneMatches old
none_in_short old few f rest m =
    let len = ap length m.parts ∙ length-append (frame old.header old.sums f) rest in
    let whole = length-frame old.header old.sums f m.fits in
    omega arith

-- the test fails at the front of what is left
pub none_by_test : (old : Reading) (front rest : List ℕ) → length front ≡ 4120 → old.rest ≡ front ++ rest → ArePair old.header.salts → ArePair old.sums → is_match old.header old.sums front ≡ false → NoneMatches old
none_by_test old front rest long parts salts sums e f more m =
    let text = frame old.header old.sums f in
    let whole = length-frame old.header old.sums f m.fits in
    let same : front ≡ frame old.header old.sums f = sym (take_at front rest 4120 long) ∙ ap (take 4120) (sym parts ∙ m.parts) ∙ take_at (frame old.header old.sums f) more 4120 whole in
    let holds : is_match old.header old.sums (frame old.header old.sums f) ≡ true = ap (is_match old.header old.sums) (sym (append-nil (frame old.header old.sums f))) ∙ is_match-frame old.header old.sums f [] m.fits salts sums in
    let fails : is_match old.header old.sums (frame old.header old.sums f) ≡ false = ap (is_match old.header old.sums) (sym same) ∙ e in
    absurd cc
