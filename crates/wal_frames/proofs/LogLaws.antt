-- Frames one after the other: writing one more, reading one more, and which frames of a text are valid.
use Rattle.std.proofs.Common.{◌≡◌, ℕ, zero, suc, ◌+◌, ◌-◌, ◌*◌, ◌/◌, ◌≤◌, List, [], ◌∷◌, ◌++◌, length, take, drop, refl, sym, ap, ap₂, subst, ◌∙◌, arith, append_assoc, length-append, length-take, length-drop, min}
use Rattle.std.proofs.lemmas.List.{append-nil, append_cancel_left, nil_from_length, take-append-drop}
use Rattle.std.proofs.lemmas.List.Sums.{fold-append}
use Rattle.std.proofs.Math.Seq.{take-append-add}
use Rattle.wal_frames.specs.declared.frame.Frame.{Frame}
use Rattle.wal_frames.specs.declared.reading.WalRead.{WalRead}
use Rattle.wal_frames.specs.declared.header.WalHeader.{WalHeader}
use Rattle.wal_frames.specs.Checksum.{checksum}
use Rattle.wal_frames.specs.Text.{pair, fields, header, header_sums, frame, frame_sums, frames, sums_after, log, wal_length, written_header}
use Rattle.wal_frames.specs.Valid.{AreFrames, IsFront, AreValid, Reading, NoneMatches, Took, Opened, TookAll, Reads, stated_frame}
use Rattle.wal_frames.specs.Writing.{Place, Wrote}
use Rattle.wal_frames.proofs.HeaderLaws.{length-header}
use Rattle.wal_frames.proofs.FrameLaws.{length-frame, stated_frame-frame, none_in_short}

-- ---- lists of frames

AreFrames-append : (fs gs : List Frame) → AreFrames fs → AreFrames gs → AreFrames (fs ++ gs)
AreFrames-append [] gs a b = b
AreFrames-append (f ∷ fs) gs a b = (a.0, AreFrames-append fs gs a.1 b)

AreFrames-take : (n : ℕ) (fs : List Frame) → AreFrames fs → AreFrames (take n fs)
AreFrames-take zero fs a = tt
AreFrames-take (suc n) [] a = tt
AreFrames-take (suc n) (f ∷ fs) a = (a.0, AreFrames-take n fs a.1)

AreFrames-drop : (n : ℕ) (fs : List Frame) → AreFrames fs → AreFrames (drop n fs)
AreFrames-drop zero fs a = a
AreFrames-drop (suc n) [] a = tt
AreFrames-drop (suc n) (f ∷ fs) a = AreFrames-drop n fs a.1

sums_after-append : (h : WalHeader) (before : ℕ × ℕ) (fs gs : List Frame) → sums_after h before (fs ++ gs) ≡ sums_after h (sums_after h before fs) gs
unfolding sums_after
sums_after-append h before fs gs = fold-append (frame_sums h) before fs gs

sums_after-one : (h : WalHeader) (before : ℕ × ℕ) (f : Frame) → sums_after h before (f ∷ []) ≡ frame_sums h before f
unfolding sums_after
sums_after-one h before f = refl

sums_after-none : (h : WalHeader) (before : ℕ × ℕ) → sums_after h before [] ≡ before
unfolding sums_after
sums_after-none h before = refl

frames-none : (h : WalHeader) (before : ℕ × ℕ) → frames h before [] ≡ []
unfolding frames
frames-none h before = refl

frames-one : (h : WalHeader) (before : ℕ × ℕ) (f : Frame) → frames h before (f ∷ []) ≡ frame h before f
unfolding frames
frames-one h before f = append-nil (frame h before f)

frames-append : (h : WalHeader) (before : ℕ × ℕ) (fs gs : List Frame) → frames h before (fs ++ gs) ≡ frames h before fs ++ frames h (sums_after h before fs) gs
unfolding frames sums_after
frames-append h before [] gs = refl
frames-append h before (f ∷ fs) gs =
    ap (λ (x : List ℕ). frame h before f ++ x) (frames-append h (frame_sums h before f) fs gs)
    ∙ sym (append_assoc (frame h before f) (frames h (frame_sums h before f) fs) (frames h (sums_after h (frame_sums h before f) fs) gs))

length-frames : (h : WalHeader) (before : ℕ × ℕ) (fs : List Frame) → AreFrames fs → length (frames h before fs) ≡ 4120 * length fs
unfolding frames
length-frames h before [] a = refl
length-frames h before (f ∷ fs) a =
    let one = length-frame h before f a.0 in
    let others = length-frames h (frame_sums h before f) fs a.1 in
    omega (arith, length-append (frame h before f) (frames h (frame_sums h before f) fs))

pub length-log : (h : WalHeader) (fs : List Frame) → AreFrames fs → length (log h fs) ≡ wal_length (length fs)
unfolding log
length-log h fs a = omega (arith, length-append (header h) (frames h (header_sums h) fs), length-header h, length-frames h (header_sums h) fs a)

log-append : (h : WalHeader) (fs gs : List Frame) → log h (fs ++ gs) ≡ log h fs ++ frames h (sums_after h (header_sums h) fs) gs
unfolding log
log-append h fs gs =
    ap (λ (x : List ℕ). header h ++ x) (frames-append h (header_sums h) fs gs)
    ∙ sym (append_assoc (header h) (frames h (header_sums h) fs) (frames h (sums_after h (header_sums h) fs) gs))

-- ---- writing

pub Wrote-header : (start : List ℕ) (sequence : ℕ) → Wrote start sequence [] (start ++ header (written_header sequence)) (record { header = written_header sequence; sums = header_sums (written_header sequence) })
unfolding log frames sums_after
Wrote-header start sequence = record { text = ap (λ (x : List ℕ). start ++ x) (sym (append-nil (header (written_header sequence)))); place = refl }

pub Wrote-frame : (start : List ℕ) (sequence : ℕ) (fs : List Frame) (bytes : List ℕ) (writer : Place) (f : Frame) → Wrote start sequence fs bytes writer
    → Wrote start sequence (fs ++ f ∷ []) (bytes ++ frame writer.header writer.sums f) (record { header = writer.header; sums = frame_sums writer.header writer.sums f })
Wrote-frame start sequence fs bytes writer f w =
    let h = written_header sequence in
    let sums = sums_after h (header_sums h) fs in
    let at : frame writer.header writer.sums f ≡ frame (written_header sequence) (sums_after (written_header sequence) (header_sums (written_header sequence)) fs) f = ap (λ (p : Place). frame p.header p.sums f) w.place in
    let next : frame_sums writer.header writer.sums f ≡ frame_sums (written_header sequence) (sums_after (written_header sequence) (header_sums (written_header sequence)) fs) f = ap (λ (p : Place). frame_sums p.header p.sums f) w.place in
    let grown : log h (fs ++ f ∷ []) ≡ log h fs ++ frame h sums f = log-append h fs (f ∷ []) ∙ ap (λ (x : List ℕ). log h fs ++ x) (frames-one h sums f) in
    let after : sums_after h (header_sums h) (fs ++ f ∷ []) ≡ frame_sums h sums f = sums_after-append h (header_sums h) fs (f ∷ []) ∙ sums_after-one h sums f in
    let made : WalHeader → ℕ × ℕ → Place = λ x y. record { header = x; sums = y } in
    record {
      text = ap₂ (λ (x y : List ℕ). x ++ y) w.text at ∙ append_assoc start (log h fs) (frame h sums f) ∙ ap (λ (x : List ℕ). start ++ x) (sym grown);
      place = ap₂ made (ap (λ (p : Place). p.header) w.place) (next ∙ sym after);
    }

-- the header as it is written
pub Wrote-begin : (start : List ℕ) (sequence : ℕ) (h : WalHeader) (front back bytes : List ℕ) (sums : ℕ × ℕ) → h ≡ written_header sequence → front ≡ fields h → sums ≡ checksum h.order (0, 0) front → back ≡ pair sums → bytes ≡ start ++ (front ++ back)
    → Wrote start sequence [] bytes (record { header = h; sums = sums })
unfolding header header_sums
Wrote-begin start sequence h front back bytes sums h_is front_is sums_are back_is bytes_are =
    let made : WalHeader → ℕ × ℕ → Place = λ x y. record { header = x; sums = y } in
    let s : sums ≡ header_sums h = sums_are ∙ ap (checksum h.order (0, 0)) front_is in
    let text : front ++ back ≡ header h = ap₂ (λ (x y : List ℕ). x ++ y) front_is (back_is ∙ ap pair s) in
    let w = Wrote-header start sequence in
    record {
      text = bytes_are ∙ ap (λ (x : List ℕ). start ++ x) (text ∙ ap header h_is) ∙ w.text;
      place = ap₂ made h_is (s ∙ ap header_sums h_is) ∙ w.place;
    }

-- a frame as it is written
pub Wrote-push : (start : List ℕ) (sequence : ℕ) (fs : List Frame) (bytes : List ℕ) (writer : Place) (f : Frame) (head page new : List ℕ) (sums : ℕ × ℕ) → Wrote start sequence fs bytes writer
    → sums ≡ frame_sums writer.header writer.sums f → head ≡ pair (f.number, f.commit) ++ (pair writer.header.salts ++ pair sums) → page ≡ f.page → new ≡ bytes ++ (head ++ page)
    → Wrote start sequence (fs ++ f ∷ []) new (record { header = writer.header; sums = sums })
unfolding frame
Wrote-push start sequence fs bytes writer f head page new sums w sums_are head_is page_is new_is =
    let made : ℕ × ℕ → Place = λ y. record { header = writer.header; sums = y } in
    let number = pair (f.number, f.commit) in
    let salts = pair writer.header.salts in
    let one : head ++ page ≡ (number ++ (salts ++ pair sums)) ++ f.page = ap₂ (λ (x y : List ℕ). x ++ y) head_is page_is in
    let two : (number ++ (salts ++ pair sums)) ++ f.page ≡ number ++ (salts ++ (pair sums ++ f.page)) = append_assoc number (salts ++ pair sums) f.page ∙ ap (λ (x : List ℕ). number ++ x) (append_assoc salts (pair sums) f.page) in
    let text : head ++ page ≡ frame writer.header writer.sums f = one ∙ two ∙ ap (λ (x : ℕ × ℕ). number ++ (salts ++ (pair x ++ f.page))) sums_are in
    let pushed = Wrote-frame start sequence fs bytes writer f w in
    record {
      text = new_is ∙ ap (λ (x : List ℕ). bytes ++ x) text ∙ pushed.text;
      place = ap made sums_are ∙ pushed.place;
    }

-- ---- reading

pub TookAll-none : (old : Reading) → TookAll old [] old
TookAll-none old =
    let made : ℕ × ℕ → Reading = λ s. record { header = old.header; sums = s; rest = old.rest } in
    record {
      fit = tt;
      parts = ap (λ (x : List ℕ). x ++ old.rest) (sym (frames-none old.header old.sums));
      now = ap made (sym (sums_after-none old.header old.sums));
    }

pub TookAll-more : (old now : Reading) (fs : List Frame) (f : Frame) (new : Reading) → TookAll old fs now → Took now f new → TookAll old (fs ++ f ∷ []) new
TookAll-more old now fs f new all took =
    let h = old.header in
    let sums = sums_after h old.sums fs in
    let header_is : now.header ≡ h = ap (λ (r : Reading). r.header) all.now in
    let sums_are : now.sums ≡ sums = ap (λ (r : Reading). r.sums) all.now in
    let text : frame now.header now.sums f ≡ frame h sums f = ap₂ (λ (x : WalHeader) (y : ℕ × ℕ). frame x y f) header_is sums_are in
    let next : frame_sums now.header now.sums f ≡ frame_sums h sums f = ap₂ (λ (x : WalHeader) (y : ℕ × ℕ). frame_sums x y f) header_is sums_are in
    let grown : frames h old.sums (fs ++ f ∷ []) ≡ frames h old.sums fs ++ frame h sums f = frames-append h old.sums fs (f ∷ []) ∙ ap (λ (x : List ℕ). frames h old.sums fs ++ x) (frames-one h sums f) in
    let after : sums_after h old.sums (fs ++ f ∷ []) ≡ frame_sums h sums f = sums_after-append h old.sums fs (f ∷ []) ∙ sums_after-one h sums f in
    let made : WalHeader → ℕ × ℕ → Reading = λ x y. record { header = x; sums = y; rest = new.rest } in
    record {
      fit = AreFrames-append fs (f ∷ []) all.fit (took.matched.fits, tt);
      parts =
          all.parts
          ∙ ap (λ (x : List ℕ). frames h old.sums fs ++ x) (took.matched.parts ∙ ap (λ (x : List ℕ). x ++ new.rest) text)
          ∙ sym (append_assoc (frames h old.sums fs) (frame h sums f) new.rest)
          ∙ ap (λ (x : List ℕ). x ++ new.rest) (sym grown);
      now = took.now ∙ ap₂ made header_is (next ∙ sym after);
    }

-- ---- validity

-- a list of frames that is there is a front of one after which none matches
front_of_valid : (h : WalHeader) (before : ℕ × ℕ) (fs others : List Frame) (rest more : List ℕ) → AreFrames fs → AreFrames others → frames h before others ++ more ≡ frames h before fs ++ rest
    → NoneMatches (record { header = h; sums = sums_after h before fs; rest = rest }) → IsFront others fs
unfolding frames sums_after
front_of_valid h before fs [] rest more a b e none = (fs, refl)
front_of_valid h before [] (g ∷ gs) rest more a b e none =
    absurd (none g (frames h (frame_sums h before g) gs ++ more) (record { fits = b.0; parts = sym e ∙ append_assoc (frame h before g) (frames h (frame_sums h before g) gs) more }))
front_of_valid h before (f ∷ fs) (g ∷ gs) rest more a b e none =
    let first : g ≡ f =
    sym (stated_frame-frame h before g (frames h (frame_sums h before g) gs ++ more) b.0)
    ∙ ap stated_frame (sym (append_assoc (frame h before g) (frames h (frame_sums h before g) gs) more) ∙ e ∙ append_assoc (frame h before f) (frames h (frame_sums h before f) fs) rest)
    ∙ stated_frame-frame h before f (frames h (frame_sums h before f) fs ++ rest) a.0 in
    let same : frame h before f ++ (frames h (frame_sums h before f) gs ++ more) ≡ frame h before f ++ (frames h (frame_sums h before f) fs ++ rest) =
    ap (λ (x : Frame). frame h before x ++ (frames h (frame_sums h before x) gs ++ more)) (sym first)
    ∙ sym (append_assoc (frame h before g) (frames h (frame_sums h before g) gs) more) ∙ e ∙ append_assoc (frame h before f) (frames h (frame_sums h before f) fs) rest in
    let behind = front_of_valid h (frame_sums h before f) fs gs rest more a.1 b.1 (append_cancel_left (frame h before f) _ _ same) none in
    (behind.0, ap₂ (λ (x : Frame) (xs : List Frame). x ∷ xs) (sym first) behind.1)

-- frames that are there and after which none matches are the valid ones
pub valid_if : (bytes : List ℕ) (h : WalHeader) (fs : List Frame) (rest : List ℕ) → AreFrames fs → bytes ≡ log h fs ++ rest → NoneMatches (record { header = h; sums = sums_after h (header_sums h) fs; rest = rest }) → AreValid bytes h fs
unfolding log
valid_if bytes h fs rest a parts none = record {
  fit = a;
  begins = (rest, parts);
  longest = λ others b begun.
      let same : header h ++ (frames h (header_sums h) others ++ begun.0) ≡ header h ++ (frames h (header_sums h) fs ++ rest) =
      sym (append_assoc (header h) (frames h (header_sums h) others) begun.0) ∙ sym begun.1 ∙ parts ∙ append_assoc (header h) (frames h (header_sums h) fs) rest in
      front_of_valid h (header_sums h) fs others rest begun.0 a b (append_cancel_left (header h) _ _ same) none;
}

-- what a reader took after a header follows it
pub log_stands : (bytes : List ℕ) (start : Reading) (fs : List Frame) (new : Reading) → Opened bytes start → TookAll start fs new → bytes ≡ log start.header fs ++ new.rest
unfolding log
log_stands bytes start fs new opened all =
    let h = start.header in
    opened.parts
    ∙ ap (λ (x : List ℕ). header h ++ x) (all.parts ∙ ap (λ (s : ℕ × ℕ). frames h s fs ++ new.rest) opened.sums)
    ∙ sym (append_assoc (header h) (frames h (header_sums h) fs) new.rest)

-- what a reader took from a log until none matched is what is valid
pub valid_if_read : (bytes : List ℕ) (start : Reading) (fs : List Frame) (new : Reading) → Opened bytes start → TookAll start fs new → NoneMatches new → AreValid bytes start.header fs
valid_if_read bytes start fs new opened all none =
    let h = start.header in
    let made : ℕ × ℕ → Reading = λ s. record { header = h; sums = sums_after h s fs; rest = new.rest } in
    let P : Reading → Type 0 = λ r. NoneMatches r in
    valid_if bytes h fs new.rest all.fit (log_stands bytes start fs new opened all) (subst P (all.now ∙ ap made opened.sums) none)

-- where reading ended
pub end_is : (bytes : List ℕ) (start : Reading) (fs : List Frame) (new : Reading) → Opened bytes start → TookAll start fs new → length bytes - length new.rest ≡ length (log start.header fs)
end_is bytes start fs new opened all = omega (arith, ap length (log_stands bytes start fs new opened all), length-append (log start.header fs) new.rest)

pub Reads-made : (bytes : List ℕ) (start : Reading) (fs : List Frame) (new : Reading) (read : WalRead) → Opened bytes start → TookAll start fs new → NoneMatches new
    → read.sequence ≡ start.header.sequence → read.frames ≡ fs → read.end ≡ length bytes - length new.rest → Reads bytes read
Reads-made bytes start fs new read opened all none sequence frames_are end =
    let P : List Frame → Type 0 = λ gs. AreValid bytes start.header gs in
    record {
      header = start.header;
      stated = opened.stated;
      sequence = sequence;
      valid = subst P (sym frames_are) (valid_if_read bytes start fs new opened all none);
      end = end ∙ end_is bytes start fs new opened all ∙ ap (λ (gs : List Frame). length (log start.header gs)) (sym frames_are);
    }

pub whole_log_valid : (h : WalHeader) (fs : List Frame) → AreFrames fs → AreValid (log h fs) h fs
whole_log_valid h fs a =
    valid_if (log h fs) h fs [] a (sym (append-nil (log h fs))) (none_in_short (record { header = h; sums = sums_after h (header_sums h) fs; rest = [] }) (omega arith))

pub cut_log_valid : (h : WalHeader) (fs : List Frame) (n : ℕ) → AreFrames fs → 32 ≤ n → AreValid (take n (log h fs)) h (take ((n - 32) / 4120) fs)
cut_log_valid h fs n a long =
    let k = (n - 32) / 4120 in
    let fit = AreFrames-take ((n - 32) / 4120) fs a in
    let front = log h (take k fs) in
    let tail = frames h (sums_after h (header_sums h) (take k fs)) (drop k fs) in
    let split : log h fs ≡ front ++ tail = ap (log h) (sym (take-append-drop k fs)) ∙ log-append h (take k fs) (drop k fs) in
    let front_len : length front ≡ 32 + 4120 * length (take k fs) = length-log h (take k fs) fit in
    let tail_len : length tail ≡ 4120 * length (drop k fs) = length-frames h _ (drop k fs) (AreFrames-drop k fs a) in
    let taken : length (take k fs) ≡ min k (length fs) = length-take k fs in
    let left : length (drop k fs) ≡ length fs - k = length-drop k fs in
    let within : n ≡ length front + (n - length front) = omega arith in
    let cut : take n (log h fs) ≡ front ++ take (n - length front) tail = ap₂ (λ (m : ℕ) (x : List ℕ). take m x) within split ∙ take-append-add front tail (n - length front) in
    let rest_len : length (take (n - length front) tail) ≡ min (n - length front) (length tail) = length-take (n - length front) tail in
    valid_if (take n (log h fs)) h (take k fs) (take (n - length front) tail) fit cut
    (none_in_short (record { header = h; sums = sums_after h (header_sums h) (take k fs); rest = take (n - length front) tail }) (omega arith))

pub one_valid : (bytes : List ℕ) (h : WalHeader) (fs gs : List Frame) → AreValid bytes h fs → AreValid bytes h gs → fs ≡ gs
one_valid bytes h fs gs v w =
    let one = v.longest gs w.fit w.begins in
    let two = w.longest fs v.fit v.begins in
    let none : one.0 ≡ [] = nil_from_length one.0 (omega (arith, ap length one.1, ap length two.1, length-append gs one.0, length-append fs two.0)) in
    one.1 ∙ ap (λ (x : List Frame). gs ++ x) none ∙ append-nil gs

pub whole_is_written : (bytes : List ℕ) (h : WalHeader) (fs : List Frame) → AreValid bytes h fs → length (log h fs) ≡ length bytes → bytes ≡ log h fs
whole_is_written bytes h fs v len =
    let none : v.begins.0 ≡ [] = nil_from_length v.begins.0 (omega (arith, ap length v.begins.1, length-append (log h fs) v.begins.0)) in
    v.begins.1 ∙ ap (λ (x : List ℕ). log h fs ++ x) none ∙ append-nil (log h fs)
