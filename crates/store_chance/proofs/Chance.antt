-- What a pick leaves of a block over a block.
use Rattle.std.proofs.Common.{◌≡◌, ◌⊎◌, inl, inr, ⊎_elim, ℕ, zero, suc, ◌+◌, ◌≤◌, ◌/◌, Bool, true, false, true≢false, cond, List, [], ◌∷◌, ◌++◌, length, take, drop, refl, sym, ap, ◌∙◌, subst, arith}
use Rattle.std.specs.Prelude.{not, ◌&&◌}
use Rattle.std.specs.Str.{bytes_eq}
use Rattle.std.proofs.lemmas.Bool.{and_parts}
use Rattle.std.proofs.lemmas.List.{take_all}
use Rattle.std.proofs.lemmas.Slice.Eq.{bytes_eq-Decides}
use Rattle.disk_model.specs.Disk.{Found, found}
use Rattle.disk_model.specs.Calls.{put}
use Rattle.disk_model.specs.Genuine.{WasWritten}
use Rattle.disk_model.specs.Memory.{Memory, effects_on, outcome, half, half_of, done_in_turn, shown, first_half, kept, whole_calls, keeps_half}
use Rattle.disk_model.specs.Trait.{Text}
use Rattle.disk_model.specs.declared.open_calls.UnsyncedEffect.{UnsyncedEffect}
use Rattle.disk_model.specs.declared.open_calls.UnsyncedEffect.TheVariants.{Write}
use Rattle.disk_model.specs.declared.open_calls.UnsyncedCall.{UnsyncedCall}
use Rattle.disk_model.proofs.Bytes.{put_whole}
use Rattle.store_laws.specs.Store.{Meta, no_meta}
use Rattle.store_format.specs.Metadata.{fits_side, is_block, meta_in, block_bytes}
use Rattle.store_format.specs.Words.{word_from}
use Rattle.store_chance.specs.Chance.{torn, PicksLeaveThree, ChecksSuffice, ChecksAreChance}

-- ---- which effects a pick keeps

abbrev some_of : ℕ → Bool → List UnsyncedCall → List UnsyncedCall
some_of k b us = take k us ++ cond b (first_half (drop k us)) []

none_by : (c : Bool) (e : UnsyncedEffect) (es : List UnsyncedEffect) → cond c (e ∷ es) es ≡ [] → (c ≡ false) × (es ≡ [])
none_by true e es h = absurd cc
none_by false e es h = (refl, h)

none_half : (n : Text) (c b : Bool) (u : UnsyncedCall) → bytes_eq u.name n ≡ c → c ≡ false →
    effects_on n (cond b (record { name = u.name; effect = half_of u.effect } ∷ []) []) ≡ []
none_half n c true u e f = ap (λ d. cond d (half_of u.effect ∷ []) []) (e ∙ f)
none_half n c false u e f = refl

none_first : (n : Text) (b : Bool) (us : List UnsyncedCall) → effects_on n us ≡ [] → effects_on n (cond b (first_half us) []) ≡ []
none_first n true [] h = refl
none_first n false us h = refl
none_first n true (u ∷ us) h = let p = none_by (bytes_eq u.name n) u.effect (effects_on n us) h in none_half n (bytes_eq u.name n) true u refl p.0

none_some : (n : Text) (us : List UnsyncedCall) (k : ℕ) (b : Bool) → effects_on n us ≡ [] → effects_on n (some_of k b us) ≡ []
none_some n us zero b h = none_first n b us h
none_some n [] (suc k) true h = refl
none_some n [] (suc k) false h = refl
none_some n (u ∷ us) (suc k) b h =
    let p = none_by (bytes_eq u.name n) u.effect (effects_on n us) h in
    ap (λ c. cond c (u.effect ∷ effects_on n (some_of k b us)) (effects_on n (some_of k b us))) p.0 ∙ none_some n us k b p.1

abbrev Ways : UnsyncedEffect → List UnsyncedEffect → Type 0
Ways e xs = (xs ≡ []) ⊎ ((xs ≡ e ∷ []) ⊎ (xs ≡ half_of e ∷ []))

one_by : (c : Bool) (e x : UnsyncedEffect) (es : List UnsyncedEffect) → cond c (x ∷ es) es ≡ e ∷ [] → ((c ≡ true) × (x ≡ e) × (es ≡ [])) ⊎
    ((c ≡ false) × (es ≡ e ∷ []))
one_by true e x es h = inl (refl, cc, cc)
one_by false e x es h = inr (refl, h)

one_first : (n : Text) (e : UnsyncedEffect) (b : Bool) (us : List UnsyncedCall) → effects_on n us ≡ e ∷ [] → Ways e (effects_on n (cond b (first_half us) []))
one_first n e false us h = inl refl
one_first n e true [] h = absurd cc
one_first n e true (u ∷ us) h = ⊎_elim
    (λ (p : (bytes_eq u.name n ≡ true) × (u.effect ≡ e) × (effects_on n us ≡ [])). inr
    (inr (ap (λ c. cond c (half_of u.effect ∷ []) []) p.0 ∙ ap (λ x. half_of x ∷ []) p.1)))
    (λ (p : (bytes_eq u.name n ≡ false) × (effects_on n us ≡ e ∷ [])). inl (ap (λ c. cond c (half_of u.effect ∷ []) []) p.0))
    (one_by (bytes_eq u.name n) e u.effect (effects_on n us) h)

one_some : (n : Text) (e : UnsyncedEffect) (us : List UnsyncedCall) (k : ℕ) (b : Bool) → effects_on n us ≡ e ∷ [] → Ways e (effects_on n (some_of k b us))
one_some n e us zero b h = one_first n e b us h
one_some n e [] (suc k) b h = absurd cc
one_some n e (u ∷ us) (suc k) b h =
    let rest = effects_on n (some_of k b us) in
    ⊎_elim
    (λ (p : (bytes_eq u.name n ≡ true) × (u.effect ≡ e) × (effects_on n us ≡ [])).
    inr (inl (ap (λ c. cond c (u.effect ∷ rest) rest) p.0 ∙ ap (λ x. x ∷ rest) p.1 ∙ ap (λ xs. e ∷ xs) (none_some n us k b p.2))))
    (λ (p : (bytes_eq u.name n ≡ false) × (effects_on n us ≡ e ∷ [])).
    subst (Ways e) (sym (ap (λ c. cond c (u.effect ∷ rest) rest) p.0)) (one_some n e us k b p.1))
    (one_by (bytes_eq u.name n) e u.effect (effects_on n us) h)

-- ---- what they leave

torn_put : (old new : List ℕ) → length old ≡ 40 → length new ≡ 40 → put 0 (half new) old ≡ torn old new
torn_put old new a b =
    let size : length new / 2 ≡ 20 = ap (λ n. n / 2) b in
    let front : half new ≡ take 20 new = ap (λ n. take n new) size in
    let long : length (take 20 new) ≡ 20 = size_of new b in
    let sum : 0 + length (take 20 new) ≡ 20 = omega (arith, long) in
    ap (λ xs. put 0 xs old) front ∙ ap (λ n. take 20 new ++ drop n old) sum
  where
    use_length : (xs : List ℕ) (n : ℕ) → n ≤ length xs → length (take n xs) ≡ n
    use_length xs zero le = refl
    use_length [] (suc n) le = absurd (omega (arith, le))
    use_length (x ∷ xs) (suc n) le = let t : length (take n xs) ≡ n = use_length xs n (omega (arith, le)) in ap suc t

    size_of : (new : List ℕ) → length new ≡ 40 → length (take 20 new) ≡ 20
    size_of new b = use_length new 20 (omega (arith, b))

left : (m : Memory) (name : Text) (old : List ℕ) (pick : ℕ) (xs : List UnsyncedEffect) → m.base name ≡ found old → effects_on name (kept pick m.uncovered) ≡
    xs → outcome pick m name ≡ shown (done_in_turn xs (found old))
left m name old pick xs base e = ap (λ ys. shown (done_in_turn ys (m.base name))) e ∙ ap (λ f. shown (done_in_turn xs f)) base

pub picks_leave_three : PicksLeaveThree
picks_leave_three m name old new pick one =
    ⊎_elim
    (λ e. inl (left m name old pick [] one.base e))
    (λ h. ⊎_elim
    (λ e. inr (inl (left m name old pick (Write 0 new ∷ []) one.base e
    ∙ ap found (put_whole new old (let a = one.old_size in let b = one.new_size in omega (arith, a, b))))))
    (λ e. inr (inr (left m name old pick (Write 0 (half new) ∷ []) one.base e ∙ ap found (torn_put old new one.old_size one.new_size))))
    h)
    (one_some name (Write 0 new) m.uncovered (whole_calls pick (length m.uncovered)) (keeps_half pick (length m.uncovered)) one.write)

-- ---- the check

reads_by : (b : Bool) (x : Meta) → ((cond b x no_meta).stamp ≡ 0 → ⊥) → b ≡ true
reads_by true x some = refl
reads_by false x some = absurd (some refl)

reads_so : (side : Bool) (c : List ℕ) → ((meta_in side c).stamp ≡ 0 → ⊥) → is_block side c ≡ true
unfolding meta_in
reads_so side c some = reads_by (is_block side c) (record { stamp = suc (word_from 8 c); term = word_from 16 c; vote = word_from 24 c }) some

not_both : (a b c : Bool) → (a && (not b && not c)) ≡ false → a ≡ true → (b ≡ true) ⊎ (c ≡ true)
not_both true true c e f = inl refl
not_both true false true e f = inr refl
not_both true false false e f = absurd (true≢false e)
not_both false b c e f = absurd (true≢false (sym f))

pub checks_suffice : ChecksSuffice
checks_suffice side h wrote c was e = record {
  whole = λ some.
      ⊎_elim
      (λ (q : bytes_eq c h.bytes ≡ true). let same : c ≡ h.bytes = (bytes_eq-Decides c h.bytes).0 q in
      record { why = inl (ap (λ xs. take (length c) xs) (sym same) ∙ take_all (length c) c (omega arith)) })
      (λ (q : bytes_eq c wrote ≡ true). let same : c ≡ wrote = (bytes_eq-Decides c wrote).0 q in
      record { why = inr (subst (λ xs. WasWritten h.since 0 xs) (sym same) was) })
      (not_both (is_block side c) (bytes_eq c h.bytes) (bytes_eq c wrote) e (reads_so side c some));
}

not_same : (x y : List ℕ) → not (bytes_eq x y) ≡ true → x ≡ y → ⊥
not_same x y e same = true≢false (sym e ∙ ap not ((bytes_eq-Decides x y).1 same))

pub checks_are_chance : ChecksAreChance
checks_are_chance m name old new pick one e =
    let side = fits_side true new.version in
    let f = (outcome pick m name).bytes in
    let p = and_parts (is_block side f) (not (bytes_eq f (block_bytes old)) && not (bytes_eq f (block_bytes new))) e in
    let q = and_parts (not (bytes_eq f (block_bytes old))) (not (bytes_eq f (block_bytes new))) p.1 in
    ⊎_elim
    (λ s. absurd (not_same f (block_bytes old) q.0 (ap (λ (x : Found). x.bytes) s)))
    (λ h. ⊎_elim
    (λ s. absurd (not_same f (block_bytes new) q.1 (ap (λ (x : Found). x.bytes) s)))
    (λ s. ap (is_block side) (sym (ap (λ (x : Found). x.bytes) s)) ∙ p.0)
    h)
    (picks_leave_three m name (block_bytes old) (block_bytes new) pick one)
