-- What is true of the frames of a log while frames are pushed and dropped.
use Rattle.std.proofs.Common.{◌≡◌, ℕ, suc, ◌+◌, ◌-◌, ◌<◌, min, List, [], ◌∷◌, ◌++◌, length, map, take, drop, get_or, refl, sym, ap, ◌∙◌, subst, append-nil, append_assoc, arith, inl, inr}
use Rattle.std.specs.List.{AllByRecursion}
use Rattle.std.proofs.lemmas.Bool.{cases_lt}
use Rattle.std.proofs.lemmas.List.{length_push, length-map, map-append, get_or_push, get_or_append_left, get_or-map, take_at, take-take, take_all, take_min, drop_min, length-take-le, drop-drop}
use Rattle.dq_base.specs.declared.pages.NumberedPage.{NumberedPage}
use Rattle.dq_base.specs.declared.sizes.Lengths.{Lengths}
use Rattle.page_store.specs.declared.frame_log.Frame.{Frame}
use Rattle.page_store.specs.Laying.{length_of, length_at, no_lengths}
use Rattle.page_store.specs.Log.{Log, extended, without_first, first_of, pages_of, lengths_of, IsSized, LooksBack, LogHolds}
use Rattle.page_store.proofs.LaidSets.{all_first, all_both}
use Rattle.page_store.proofs.LeastLengths.{Least, least_one, looks_longer, looks_shorter, looks_later}

abbrev number_of : Frame → ℕ
number_of f = f.page.number

abbrev SizedFrame : Frame → Type 0
SizedFrame f = IsSized f.page

pub frame_lengths : (frames : List Frame) (i : ℕ) (f : Frame) → i < length frames → f ≡ get_or frames i f → get_or (lengths_of frames) i no_lengths ≡ f.lengths
frame_lengths frames i f lt is = get_or-map (λ (g : Frame). g.lengths) frames i f no_lengths lt ∙ ap (λ (g : Frame). g.lengths) (sym is)

pub sized_pages : (frames : List Frame) → AllByRecursion SizedFrame frames → AllByRecursion IsSized (pages_of frames)
sized_pages [] h = tt
sized_pages (f ∷ frames) h = (h.0, sized_pages frames h.1)

-- ---- one frame more

pub log_push : (frames : List Frame) (index : List ℕ) (f : Frame) → LogHolds frames index → IsSized f.page → LooksBack (lengths_of frames ++ f.lengths ∷ []) (length frames) f.back f.least → LogHolds (frames ++ f ∷ []) (index ++ f.page.number ∷ [])
log_push frames index f holds size looks = record {
  indexed = ap (λ (ns : List ℕ). ns ++ number_of f ∷ []) holds.indexed ∙ sym (map-append number_of frames (f ∷ []));
  sized = all_both SizedFrame frames (f ∷ []) holds.sized (size, tt);
  look_back = λ i g lt is. subst (λ (ls : List Lengths). LooksBack ls i g.back g.least) (sym (map-append (λ (h : Frame). h.lengths) frames (f ∷ []))) (each i g lt is);
}
  where
    each : (i : ℕ) (g : Frame) → i < length (frames ++ f ∷ []) → g ≡ get_or (frames ++ f ∷ []) i g → LooksBack (lengths_of frames ++ f.lengths ∷ []) i g.back g.least
    each i g lt is = elim (cases_lt i (length frames)) [
      | inl inside ↦
          let len : length (lengths_of frames) ≡ length frames = length-map frames (λ (h : Frame). h.lengths) in
          looks_longer (lengths_of frames) (f.lengths ∷ []) i g.back g.least (omega arith) (holds.look_back i g inside (is ∙ get_or_append_left frames (f ∷ []) g i inside))
      | inr past ↦
          let at : length frames ≡ i = omega (arith, length_push frames f) in
          let same : f ≡ g = sym (is ∙ get_or_push frames f g i at) in
          subst (λ (h : Frame). LooksBack (lengths_of frames ++ f.lengths ∷ []) i h.back h.least) same (subst (λ (k : ℕ). LooksBack (lengths_of frames ++ f.lengths ∷ []) k f.back f.least) at looks)
    ]

-- ---- without the first frame

pub log_pop_front : (rest : List Frame) (index : List ℕ) (f : Frame) → LogHolds (f ∷ rest) index → LogHolds rest (drop 1 index)
log_pop_front rest index f holds = record {
  indexed = ap (drop 1) holds.indexed;
  sized = holds.sized.1;
  look_back = λ i g lt is. looks_later f.lengths (lengths_of rest) i g.back g.least (holds.look_back (suc i) g (omega arith) is);
}

-- ---- without the last frame

pub log_pop_back : (front : List Frame) (index : List ℕ) (f : Frame) (count : ℕ) → length front ≡ count → LogHolds (front ++ f ∷ []) index → LogHolds front (take count index)
log_pop_back front index f count e holds = record {
  indexed =
      ap (take count) (holds.indexed ∙ map-append number_of front (f ∷ [])) ∙ take_at (map number_of front) (number_of f ∷ []) count (length-map front number_of ∙ e);
  sized = all_first SizedFrame front (f ∷ []) holds.sized;
  look_back = λ i g lt is.
      let len : length (lengths_of front) ≡ length front = length-map front (λ (h : Frame). h.lengths) in
      looks_shorter (lengths_of front) (f.lengths ∷ []) i g.back g.least (omega arith)
      (subst (λ (ls : List Lengths). LooksBack ls i g.back g.least) (map-append (λ (h : Frame). h.lengths) front (f ∷ []))
      (holds.look_back i g (omega (arith, length_push front f)) (is ∙ sym (get_or_append_left front (f ∷ []) g i lt))));
}

-- ---- logs as their lists

pub log_front : (frames : List Frame) (rest : List Frame) (f : Frame) → frames ≡ f ∷ rest → ◌≡◌ {A = Log} (record { pages = pages_of rest; lengths = lengths_of rest }) (without_first 1 (record { pages = pages_of frames; lengths = lengths_of frames }))
log_front frames rest f e = ap (λ (fs : List Frame). without_first 1 (record { pages = pages_of fs; lengths = lengths_of fs })) (sym e)

pub first_more : (log : Log) (i : ℕ) → length log.lengths ≡ length log.pages → first_of (length (first_of (length log.pages - i) log).pages - 1) (first_of (length log.pages - i) log) ≡ first_of (length log.pages - (i + 1)) log
first_more log i same =
    let n : ℕ = length log.pages in
    let len : length (take (n - i) log.pages) ≡ n - i = length-take-le (n - i) log.pages (omega arith) in
    let next : length (take (n - i) log.pages) - 1 ≡ n - (i + 1) = omega arith in
    ap (λ (k : ℕ). first_of k (first_of (n - i) log)) next
    ∙ (λ j. record { pages = take-take (n - (i + 1)) (n - i) log.pages (omega arith) j; lengths = take-take (n - (i + 1)) (n - i) log.lengths (omega arith) j })

-- the pages that were added, dropped again
pub first_of-extended : (log : Log) (more : List NumberedPage) (lengths : Lengths) → length log.lengths ≡ length log.pages → first_of (length log.pages) (extended log more lengths) ≡ log
first_of-extended log more lengths same =
    λ j. record {
      pages = take_at log.pages more (length log.pages) refl j;
      lengths = take_at log.lengths (map (λ p. lengths) more) (length log.pages) same j;
    }

pub extended_more : (log : Log) (pages : List NumberedPage) (p : NumberedPage) (lengths : Lengths) → extended (extended log pages lengths) (p ∷ []) lengths ≡ extended log (pages ++ p ∷ []) lengths
extended_more log pages p lengths =
    λ j. record {
      pages = append_assoc log.pages pages (p ∷ []) j;
      lengths = (append_assoc log.lengths (map (λ q. lengths) pages) (lengths ∷ []) ∙ ap (λ (ls : List Lengths). log.lengths ++ ls) (sym (map-append (λ (q : NumberedPage). lengths) pages (p ∷ [])))) j;
    }

pub extended_none : (log : Log) (lengths : Lengths) → extended log [] lengths ≡ log
extended_none log lengths = λ j. record { pages = append-nil log.pages j; lengths = append-nil log.lengths j }

pub without_none : (log : Log) → without_first 0 log ≡ log
without_none log = refl

pub without_more : (log : Log) (i : ℕ) → without_first 1 (without_first i log) ≡ without_first (i + 1) log
without_more log i = λ j. record { pages = drop-drop 1 i log.pages j; lengths = drop-drop 1 i log.lengths j }

-- ---- page numbers, and counts past the end

pub numbers_of : (frames : List Frame) → map (λ (p : NumberedPage). p.number) (pages_of frames) ≡ map number_of frames
numbers_of [] = refl
numbers_of (f ∷ frames) = ap (λ (ns : List ℕ). number_of f ∷ ns) (numbers_of frames)

pub without_min : (log : Log) (count : ℕ) → length log.lengths ≡ length log.pages → without_first (min count (length log.pages)) log ≡ without_first count log
without_min log count same =
    let lengths : drop (min count (length log.pages)) log.lengths ≡ drop count log.lengths = ap (λ (n : ℕ). drop (min count n) log.lengths) (sym same) ∙ drop_min count log.lengths in
    λ j. record { pages = drop_min count log.pages j; lengths = lengths j }

pub first_rest : (log : Log) (count : ℕ) → length log.lengths ≡ length log.pages → first_of (length log.pages - (length log.pages - count)) log ≡ first_of count log
first_rest log count same =
    let n : ℕ = length log.pages in
    let less : n - (n - count) ≡ min count n = omega arith in
    let lengths : take (min count n) log.lengths ≡ take count log.lengths = ap (λ (m : ℕ). take (min count m) log.lengths) (sym same) ∙ take_min count log.lengths in
    ap (λ (k : ℕ). first_of k log) less ∙ (λ j. record { pages = take_min count log.pages j; lengths = lengths j })

pub first_all : (log : Log) → length log.lengths ≡ length log.pages → log ≡ first_of (length log.pages - 0) log
first_all log same =
    let n : length log.pages - 0 ≡ length log.pages = omega arith in
    sym (
    ap (λ (k : ℕ). first_of k log) n
    ∙ (λ j. record { pages = take_all (length log.pages) log.pages (omega arith) j; lengths = take_all (length log.pages) log.lengths (omega arith) j })
    )

-- ---- a frame alone

pub least_alone : (frames : List Frame) (f : Frame) (parity at : ℕ) → at < length frames → f ≡ get_or frames at f → Least (length_at parity (lengths_of frames)) at at (length_of parity f.lengths)
least_alone frames f parity at lt is =
    subst (Least (length_at parity (lengths_of frames)) at at) (ap (length_of parity) (frame_lengths frames at f lt is)) (least_one (length_at parity (lengths_of frames)) at)
