-- Batches are read lawfully.
use Rattle.std.proofs.Common.{◌≡◌, ◌≢◌, ℕ, ◌+◌, ◌-◌, ◌≤◌, true, false, List, ◌++◌, length, take, drop, Result, Ok, Err, refl, sym, ap, ◌∙◌, inl, inr, arith, length-append, length-drop}
use Rattle.std.specs.Prelude.{◌&&◌, nat_lt}
use Rattle.std.specs.Str.{bytes_eq}
use Rattle.std.proofs.lemmas.Bool.{cases_Bool, cases_eq, cond-true, cond-false, ltb-false, le-ltb}
use Rattle.std.proofs.lemmas.List.{take-append-le, drop-append-le, length-take-le, take_at, drop-take, take-take}
use Rattle.wire_words.specs.declared.fault.WordFault.{WordFault}
use Rattle.wire_words.specs.Reading.{Unread, unread}
use Rattle.store_laws.specs.Store.{Read}
use Rattle.store_laws.specs.Chance.{LawfulReader}
use Rattle.store_format.specs.declared.batch_reading.Body.{Body}
use Rattle.store_format.specs.Batches.{body_at, sum_size, sums_size, batch_sum, is_sound, no_read, read_of, batch_in}
use Rattle.store_format.specs.NodeFormat.{IsLawful}
use Rattle.store_format.proofs.Lawfully.{reads_lawfully}
use Rattle.store_format.proofs.Local.{Local, behind, body_local, header_first}

-- a batch that was read, and where it ended
record WasRead (format : ℕ) (bytes : List ℕ) : Type 0 where
  room : sums_size format ≤ length bytes
  body : Body
  after : Unread
  reads : body_at (unread (drop (sums_size format) bytes)) ≡ Ok (body, after)
  sound : is_sound format bytes body after.at ≡ true
  is : batch_in format bytes ≡ record { batch = record { first = body.first; entries = body.entries }; size = sums_size format + after.at }

was_read : (format : ℕ) (bytes : List ℕ) → (batch_in format bytes).size ≢ 0 → WasRead format bytes
unfolding batch_in
was_read format bytes ne = elim (cases_Bool (nat_lt (length bytes) (sums_size format))) [
  | inl t ↦ absurd (ne (ap (λ (r : Read). r.size) (cond-true _ no_read (read_of format bytes (body_at (unread (drop (sums_size format) bytes)))) t)))
  | inr n ↦
      let is : batch_in format bytes ≡ read_of format bytes (body_at (unread (drop (sums_size format) bytes))) = cond-false _ _ _ n in
      go n is (body_at (unread (drop (sums_size format) bytes))) refl (λ z. ne (ap (λ (r : Read). r.size) is ∙ z))
]
  where
    go : nat_lt (length bytes) (sums_size format) ≡ false → batch_in format bytes ≡ read_of format bytes (body_at (unread (drop (sums_size format) bytes)))
        → (r : Result (Body × Unread) WordFault) → body_at (unread (drop (sums_size format) bytes)) ≡ r → (read_of format bytes (body_at (unread (drop (sums_size format) bytes)))).size ≢ 0 → WasRead format bytes
    go n is (Err fault) e some = absurd (some (ap (λ (x : Result (Body × Unread) WordFault). (read_of format bytes x).size) e))
    go n is (Ok x) e some = elim (cases_Bool (is_sound format bytes x.0 x.1.at)) [
      | inl t ↦ record { room = ltb-false _ _ n; body = x.0; after = x.1; reads = e; sound = t; is = is ∙ ap (read_of format bytes) e ∙ cond-true _ _ _ t }
      | inr m ↦ absurd (some (ap (λ (y : Result (Body × Unread) WordFault). (read_of format bytes y).size) e ∙ ap (λ (r : Read). r.size) (cond-false _ (record { batch = record { first = x.0.first; entries = x.0.entries }; size = sums_size format + x.1.at }) no_read m)))
    ]

-- the parts that the sums look at lie in front of the end
same_front : (n : ℕ) (bytes y : List ℕ) → n ≤ length bytes → take n (take n bytes ++ y) ≡ take n bytes
same_front n bytes y h = take_at (take n bytes) y n (length-take-le n bytes h)

part_same : (from count n : ℕ) (bytes y : List ℕ) → from + count ≤ n → n ≤ length bytes → take count (drop from (take n bytes ++ y)) ≡ take count (drop from bytes)
part_same from count n bytes y low h = side (take n bytes ++ y) (same_front n bytes y h) ∙ sym (side bytes refl)
  where
    side : (c : List ℕ) → take n c ≡ take n bytes → take count (drop from c) ≡ take count (drop from (take n bytes))
    side c e = whole c ∙ ap (λ (b : List ℕ). take count (drop from b)) e
      where
        rest : from + (n - from) ≡ n
        rest = omega arith

        whole : (c : List ℕ) → take count (drop from c) ≡ take count (drop from (take n c))
        whole c = sym (take_take count (n - from) (drop from c) (omega arith)) ∙ ap (take count) (sym (drop-take from (n - from) c)) ∙ ap (λ (k : ℕ). take count (drop from (take k c))) rest
          where
            take_take : (a b : ℕ) (xs : List ℕ) → a ≤ b → take a (take b xs) ≡ take a xs
            take_take a b xs h = take-take a b xs h

module _ (format : ℕ) (x : List ℕ) (r : WasRead format x) where
  abbrev w : ℕ
  w = sums_size format

  abbrev u : Unread
  u = unread (drop w x)

  local : Local body_at u r.body r.after
  local = body_local u r.after r.body r.reads

  end_is : r.after.at ≡ local.n
  end_is = ap (λ (s : Unread). s.at) local.is ∙ omega arith

  low : r.body.header ≤ local.n
  low = let h = header_first u r.after r.body r.reads in omega (arith, end_is)

  fits : w + local.n ≤ length x
  fits = omega (arith, r.room, local.within, length-drop w x)

  size_is : (batch_in format x).size ≡ w + local.n
  size_is = ap (λ (b : Read). b.size) r.is ∙ ap (λ (k : ℕ). w + k) end_is

  module _ (y : List ℕ) where
    abbrev again : List ℕ
    again = take (w + local.n) x ++ y

    len : length (take (w + local.n) x) ≡ w + local.n
    len = length-take-le (w + local.n) x fits

    body_bytes : drop w again ≡ take local.n (drop w x) ++ y
    body_bytes = drop-append-le w (take (w + local.n) x) y (omega (arith, len)) ∙ ap (λ (b : List ℕ). b ++ y) (drop-take w local.n x)

    abbrev h : ℕ
    h = sum_size format

    first_same : take h again ≡ take h x
    first_same = part_same 0 h (w + local.n) x y (omega arith) fits

    second_same : take h (drop h again) ≡ take h (drop h x)
    second_same = part_same h h (w + local.n) x y (omega arith) fits

    header_same : take r.body.header (drop w again) ≡ take r.body.header (drop w x)
    header_same =
        ap (take r.body.header) body_bytes
        ∙ take-append-le r.body.header (take local.n (drop w x)) y (omega (arith, low, length-take-le local.n (drop w x) local.within))
        ∙ take-take r.body.header local.n (drop w x) low

    contents_same : take (local.n - r.body.header) (drop r.body.header (drop w again)) ≡ take (local.n - r.body.header) (drop r.body.header (drop w x))
    contents_same =
        ap (λ (b : List ℕ). take (local.n - r.body.header) (drop r.body.header b)) body_bytes
        ∙ part_same r.body.header (local.n - r.body.header) local.n (drop w x) y (omega (arith, low)) local.within

    sound_again : is_sound format again r.body local.n ≡ true
    sound_again =
        (λ i. bytes_eq (first_same i) (batch_sum format (header_same i)) && bytes_eq (second_same i) (batch_sum format (contents_same i)) && nat_lt 0 r.body.first)
        ∙ ap (λ (e : ℕ). is_sound format x r.body e) (sym end_is) ∙ r.sound

    place : (behind u local.n y).at ≡ local.n
    place = omega arith

    reads_again : body_at (unread (drop w again)) ≡ Ok (r.body, behind u local.n y)
    reads_again = ap (λ (b : List ℕ). body_at (unread b)) body_bytes ∙ local.again y

    room_again : nat_lt (length again) w ≡ false
    room_again = le-ltb _ _ (omega (arith, length-append (take (w + local.n) x) y, len))

    read_again : batch_in format again ≡ batch_in format x
    unfolding batch_in
    read_again =
        cond-false _ _ _ room_again ∙ ap (read_of format again) reads_again
        ∙ cond-true _ _ _ (ap (λ (e : ℕ). is_sound format again r.body e) place ∙ sound_again)
        ∙ (λ i. record { batch = record { first = r.body.first; entries = r.body.entries }; size = w + (place ∙ sym end_is) i })
        ∙ sym r.is

pub batches_lawfully : (format : ℕ) → LawfulReader (batch_in format)
batches_lawfully format = record {
  size_within = λ x. elim (cases_eq (batch_in format x).size 0) [
    | inl z ↦ omega arith
    | inr ne ↦ let r = was_read format x ne in omega (arith, size_is format x r, fits format x r)
  ];
  front_reads = λ x y ne.
      let r = was_read format x ne in
      ap (λ (k : ℕ). batch_in format (take k x ++ y)) (size_is format x r) ∙ read_again format x r y;
}

pub is_lawful : IsLawful
is_lawful = reads_lawfully batch_in batches_lawfully
