-- Readers of fields: what they read are these fields, and these fields are read.
use Rattle.std.proofs.Common.{◌≡◌, ℕ, ◌+◌, ◌*◌, ◌/◌, ◌%◌, ◌<◌, Bool, true, false, cond, eqb, List, [], ◌∷◌, ◌++◌, ◌⊎◌, inl, inr, length, replicate, Ok, Err, refl, sym, ap, subst, ◌∙◌, arith}
use Rattle.std.proofs.lemmas.Bool.{eqb-true}
use Rattle.std.proofs.lemmas.List.{nil_from_length, length-append, length-replicate}
use Rattle.wire_words.specs.declared.fault.WordFault.TheVariants.{Short, Pad}
use Rattle.wire_words.specs.declared.value.Value.{Value}
use Rattle.wire_words.specs.declared.value.Dialect.{Dialect}
use Rattle.wire_words.specs.declared.value.Dialect.TheVariants as dialects
use Rattle.wire_words.specs.Items.{AreBytes, IsWord, IsPair, IsRaw}
use Rattle.wire_words.specs.Reading.{◌>>=◌, Unread, word_at, pair_at, text_at, blob_at, Took}
use Rattle.wire_words.specs.ReadingValues.{tuple_at}
use Rattle.wire_words.specs.Values.{IsTupleRead}
use Rattle.wire_words.proofs.ReadBack.{bind_ok, ok_is, same_unread, word_took, word_again, pair_took, pair_again, passed}
use Rattle.wire_words.proofs.Nul.{text_took, text_again}
use Rattle.wire_words.proofs.Parts.{blob_took, blob_again}
use Rattle.wire_words.proofs.TupleLaws.{IsWidth, width_1, width_4, tuple_took, tuple_again}
use Rattle.wire_words.proofs.Padding.{raw_took, raw_again}
use Rattle.wire_msgs.specs.Fields.{Field, Word, AnyWord, Pair, Text, Blob, Params, Rest, width, IsField, AreNone}
use Rattle.wire_msgs.specs.Bodies.{Reading, made, both, params_at, half_at, zero_at, rest_at}
use Rattle.wire_msgs.proofs.Fields.{AllTook, took_append, took_split, all_bytes_after}

-- a reader of these fields
pub record ReadsFields {A : Type 0} (dialect : Dialect) (fields : A → List Field) (read : Unread → Reading A) : Type 0 where
  pub took : (old new : Unread) (x : A) → AreBytes old.bytes → read old ≡ Ok (x, new) → AllTook dialect (fields x) old new
  pub again : (old new : Unread) (x : A) → AllTook dialect (fields x) old new → read old ≡ Ok (x, new)

-- the same at the end of a body
pub record EndsFields {A : Type 0} (dialect : Dialect) (fields : A → List Field) (read : Unread → Reading A) : Type 0 where
  pub took : (old new : Unread) (x : A) → AreBytes old.bytes → read old ≡ Ok (x, new) → AllTook dialect (fields x) old new
  pub again : (old new : Unread) (x : A) → AllTook dialect (fields x) old new → new.bytes ≡ [] → read old ≡ Ok (x, new)

pub may_end : {A : Type 0} (dialect : Dialect) (fields : A → List Field) (read : Unread → Reading A) → ReadsFields dialect fields read → EndsFields dialect fields read
may_end dialect fields read r = record { took = r.took; again = λ old new x took end. r.again old new x took }

-- ---- one field

-- an item of this encoding, which is one field
one_field : {A : Type 0} (dialect : Dialect) (field : A → Field) (read : Unread → Reading A)
    → ((old new : Unread) (x : A) → AreBytes old.bytes → read old ≡ Ok (x, new) → Took (IsField dialect (field x)) old new)
    → ((old new : Unread) (x : A) → Took (IsField dialect (field x)) old new → read old ≡ Ok (x, new))
    → ReadsFields dialect (λ x. field x ∷ []) read
one_field dialect field read took again = record {
  took = λ old new x fits e. (new, took old new x fits e, refl);
  again = λ old new x t. again old new x (subst (λ (left : Unread). Took (IsField dialect (field x)) old left) t.2 t.1);
}

pub word_field : (dialect : Dialect) → ReadsFields dialect (λ n. Word n ∷ []) word_at
word_field dialect = one_field dialect Word word_at (λ old new n fits e. word_took old new n fits e) (λ old new n t. word_again old new n t)

pub pair_field : (dialect : Dialect) → ReadsFields dialect (λ p. Pair p.0 p.1 ∷ []) pair_at
pair_field dialect = one_field dialect (λ (p : ℕ × ℕ). Pair p.0 p.1) pair_at (λ old new p fits e. pair_took old new p.0 p.1 fits e) (λ old new p t. pair_again old new p.0 p.1 t)

pub text_field : (dialect : Dialect) → ReadsFields dialect (λ t. Text t ∷ []) text_at
text_field dialect = one_field dialect Text text_at (λ old new t fits e. text_took old new t e) (λ old new t took. text_again old new t took)

pub blob_field : (dialect : Dialect) → ReadsFields dialect (λ b. Blob b ∷ []) (blob_at dialects.Exact)
blob_field dialect = one_field dialect Blob (blob_at dialects.Exact) (λ old new b fits e. blob_took dialects.Exact old new b fits e) (λ old new b took. blob_again dialects.Exact old new b took)

-- ---- parameters, which end a body

is_width : (wide : Bool) → IsWidth (width wide)
is_width false = width_1
is_width true = width_4

nothing_at : (left : Unread) → left.bytes ≡ [] → eqb (length left.bytes) 0 ≡ true
nothing_at left e = rw e refl

params_took : (wide : Bool) (old new : Unread) (vs : List Value) (empty : Bool) → eqb (length old.bytes) 0 ≡ empty → AreBytes old.bytes
    → cond empty (Ok ([], old)) (tuple_at (width wide) old) ≡ Ok (vs, new) → Took (IsField dialects.Client (Params wide vs)) old new
params_took wide old new vs true is fits e =
    let none : List Value × Unread = ([], old) in
    let same : none ≡ (vs, new) = ok_is none (vs, new) e in
    let here : old.bytes ≡ [] = nil_from_length old.bytes (eqb-true _ _ is) in
    subst (λ (x : List Value × Unread). Took (IsField dialects.Client (Params wide x.0)) old x.1) same
    (record { item = []; spelled = inl (record { none = refl; nothing = refl }); parts = refl; place = omega arith })
params_took wide old new vs false is fits e =
    let t = tuple_took (width wide) (is_width wide) old new vs fits e in
    record { item = t.item; spelled = inr t.spelled; parts = t.parts; place = t.place }

-- there is no tuple where nothing is left
no_tuple : (wide : Bool) (left : Unread) → length left.bytes ≡ 0 → tuple_at (width wide) left ≡ Err (Short left.at)
unfolding tuple_at
no_tuple false left none = rw none refl
no_tuple true left none = rw none refl

is_tuple : (wide : Bool) (old : Unread) (y : List Value × Unread) (empty : Bool) → eqb (length old.bytes) 0 ≡ empty → tuple_at (width wide) old ≡ Ok y → cond empty (Ok ([], old)) (tuple_at (width wide) old) ≡ Ok y
is_tuple wide old y false is e = e
is_tuple wide old y true is e =
    let none = no_tuple wide old (eqb-true _ _ is) in
    let both : Err (Short old.at) ≡ Ok y = sym none ∙ e in
    absurd cc

params_so : (wide : Bool) (old new : Unread) (vs : List Value) (item : List ℕ) → AreNone vs item ⊎ IsTupleRead (width wide) vs item → old.bytes ≡ item ++ new.bytes → new.at ≡ old.at + length item → new.bytes ≡ [] → params_at wide old ≡ Ok (vs, new)
params_so wide old new vs item (inl none) parts place end =
    let here : old.bytes ≡ new.bytes = parts ∙ ap (λ (b : List ℕ). b ++ new.bytes) none.nothing in
    let size : length item ≡ 0 = ap length none.nothing in
    let at : old.at ≡ new.at = omega (arith, place, size) in
    let same : old ≡ new = same_unread old new at here in
    let empty = nothing_at old (here ∙ end) in
    rw (empty, none.none, same) refl
params_so wide old new vs item (inr t) parts place end =
    is_tuple wide old (vs, new) (eqb (length old.bytes) 0) refl (tuple_again (width wide) (is_width wide) old new vs (record { item = item; spelled = t; parts = parts; place = place }))

params_again : (wide : Bool) (old new : Unread) (vs : List Value) → Took (IsField dialects.Client (Params wide vs)) old new → new.bytes ≡ [] → params_at wide old ≡ Ok (vs, new)
params_again wide old new vs t end = params_so wide old new vs t.item t.spelled t.parts t.place end

pub params_end : (wide : Bool) → EndsFields dialects.Client (λ vs. Params wide vs ∷ []) (params_at wide)
params_end wide = record {
  took = λ old new vs fits e. (new, params_took wide old new vs (eqb (length old.bytes) 0) refl fits e, refl);
  again = λ old new vs t end. params_again wide old new vs (subst (λ (left : Unread). Took (IsField dialects.Client (Params wide vs)) old left) t.2 t.1) end;
}

-- ---- several fields

pub both_fields : {A B : Type 0} (dialect : Dialect) (first : A → List Field) (second : B → List Field) (a : Unread → Reading A) (b : Unread → Reading B)
    → ReadsFields dialect first a → ReadsFields dialect second b → ReadsFields dialect (λ x. first x.0 ++ second x.1) (both a b)
both_fields {A} {B} dialect first second a b ra rb = record {
  took = λ old new x fits e.
      let s = bind_ok (a old) (λ y. b y.1 >>= λ z. Ok ((y.0, z.0), z.1)) (x, new) e in
      let t = bind_ok (b s.0.1) (λ z. Ok ((s.0.0, z.0), z.1)) (x, new) s.2 in
      let is = ok_is ((s.0.0, t.0.0), t.0.1) (x, new) t.2 in
      let one = ra.took old s.0.1 s.0.0 fits s.1 in
      let two = rb.took s.0.1 t.0.1 t.0.0 (all_bytes_after dialect (first s.0.0) old s.0.1 fits one) t.1 in
      subst (λ (q : (A × B) × Unread). AllTook dialect (first q.0.0 ++ second q.0.1) old q.1) is (took_append dialect (first s.0.0) (second t.0.0) old s.0.1 t.0.1 one two);
  again = λ old new x t.
      let s = took_split dialect (first x.0) (second x.1) old new t in
      rw (ra.again old s.0 x.0 s.1, rb.again s.0 new x.1 s.2) refl;
}

pub both_end : {A B : Type 0} (dialect : Dialect) (first : A → List Field) (second : B → List Field) (a : Unread → Reading A) (b : Unread → Reading B)
    → ReadsFields dialect first a → EndsFields dialect second b → EndsFields dialect (λ x. first x.0 ++ second x.1) (both a b)
both_end {A} {B} dialect first second a b ra rb = record {
  took = λ old new x fits e.
      let s = bind_ok (a old) (λ y. b y.1 >>= λ z. Ok ((y.0, z.0), z.1)) (x, new) e in
      let t = bind_ok (b s.0.1) (λ z. Ok ((s.0.0, z.0), z.1)) (x, new) s.2 in
      let is = ok_is ((s.0.0, t.0.0), t.0.1) (x, new) t.2 in
      let one = ra.took old s.0.1 s.0.0 fits s.1 in
      let two = rb.took s.0.1 t.0.1 t.0.0 (all_bytes_after dialect (first s.0.0) old s.0.1 fits one) t.1 in
      subst (λ (q : (A × B) × Unread). AllTook dialect (first q.0.0 ++ second q.0.1) old q.1) is (took_append dialect (first s.0.0) (second t.0.0) old s.0.1 t.0.1 one two);
  again = λ old new x t end.
      let s = took_split dialect (first x.0) (second x.1) old new t in
      rw (ra.again old s.0 x.0 s.1, rb.again s.0 new x.1 s.2 end) refl;
}

-- what was read and then made into something else
pub made_ok : {A B : Type 0} (make : A → B) (reading : Reading A) (y : B) (new : Unread) → made make reading ≡ Ok (y, new) → (x : A) × (reading ≡ Ok (x, new)) × (make x ≡ y)
made_ok {A} {B} make reading y new e =
    let s = bind_ok reading (λ x. Ok (make x.0, x.1)) (y, new) e in
    let is = ok_is (make s.0.0, s.0.1) (y, new) s.2 in
    let same : s.0.1 ≡ new = ap (λ (q : B × Unread). q.1) is in
    (s.0.0, s.1 ∙ ap (λ (left : Unread). Ok (s.0.0, left)) same, ap (λ (q : B × Unread). q.0) is)

-- ---- fields that have to be zero

pub half_field : ReadsFields dialects.Exact (λ n. Pair n 0 ∷ []) half_at
half_field = one_field dialects.Exact (λ (n : ℕ). Pair n 0) half_at
    (λ old new n fits e.
    let s = bind_ok (pair_at old) (λ p. cond (eqb p.0.1 0) (Ok (p.0.0, p.1)) (Err (Pad old.at))) (n, new) e in
    let t = passed (eqb s.0.0.1 0) (Pad old.at) (Ok (s.0.0.0, s.0.1)) (n, new) s.2 in
    let is = ok_is (s.0.0.0, s.0.1) (n, new) t.1 in
    let took = pair_took old s.0.1 s.0.0.0 s.0.0.1 fits s.1 in
    let one : Took (IsPair s.0.0.0 0) old s.0.1 = subst (λ (z : ℕ). Took (IsPair s.0.0.0 z) old s.0.1) (eqb-true _ _ t.0) took in
    subst (λ (q : ℕ × Unread). Took (IsPair q.0 0) old q.1) is one)
    (λ old new n t. rw (pair_again old new n 0 t) refl)

-- a word that has to be zero, in place of nothing
pub zero_took : (old new : Unread) (n : ℕ) → AreBytes old.bytes → zero_at old ≡ Ok (n, new) → AllTook dialects.Exact (Word 0 ∷ []) old new
zero_took old new n fits e =
    let s = bind_ok (word_at old) (λ w. cond (eqb w.0 0) (Ok w) (Err (Pad old.at))) (n, new) e in
    let t = passed (eqb s.0.0 0) (Pad old.at) (Ok s.0) (n, new) s.2 in
    let is = ok_is s.0 (n, new) t.1 in
    let took = word_took old s.0.1 s.0.0 fits s.1 in
    let one : Took (IsWord 0) old s.0.1 = subst (λ (z : ℕ). Took (IsWord z) old s.0.1) (eqb-true _ _ t.0) took in
    (s.0.1, one, ap (λ (q : ℕ × Unread). q.1) is)

pub zero_again : (old new : Unread) → AllTook dialects.Exact (Word 0 ∷ []) old new → zero_at old ≡ Ok (0, new)
zero_again old new t = rw (word_again old t.0 0 t.1, t.2) refl

-- a word that isn't looked at
pub any_took : (old new : Unread) (n : ℕ) → AreBytes old.bytes → word_at old ≡ Ok (n, new) → AllTook dialects.Client (AnyWord ∷ []) old new
any_took old new n fits e =
    let t = word_took old new n fits e in
    (new, record { item = t.item; spelled = (n, t.spelled); parts = t.parts; place = t.place }, refl)

pub any_again : (old new : Unread) → AllTook dialects.Client (AnyWord ∷ []) old new → (n : ℕ) × (word_at old ≡ Ok (n, new))
any_again old new took =
    let t = took.1 in
    let word : Took (IsWord t.spelled.0) old took.0 = record { item = t.item; spelled = t.spelled.1; parts = t.parts; place = t.place } in
    (t.spelled.0, word_again old took.0 t.spelled.0 word ∙ ap (λ (left : Unread). Ok (t.spelled.0, left)) took.2)

-- ---- the rest of a body

-- n down to whole words is whole words
whole_words : (n : ℕ) → n / 8 * 8 % 8 ≡ 0
whole_words n = omega arith

rest_took : (old new : Unread) (b : List ℕ) → rest_at old ≡ Ok (b, new) → Took (IsField dialects.Exact (Rest b)) old new
rest_took old new b e =
    let r = raw_took (length old.bytes / 8 * 8) old new b e in
    let t = r.1 in
    let whole : length b % 8 ≡ 0 = omega (arith, r.0, whole_words (length old.bytes)) in
    record { item = t.item; spelled = record { whole = whole; same = t.spelled }; parts = t.parts; place = t.place }

rest_again : (old new : Unread) (b : List ℕ) → Took (IsField dialects.Exact (Rest b)) old new → new.bytes ≡ [] → rest_at old ≡ Ok (b, new)
rest_again old new b t end =
    let raw : Took (IsRaw b) old new = record { item = t.item; spelled = t.spelled.same; parts = t.parts; place = t.place } in
    let zeros = t.spelled.same in
    let item : length t.item ≡ length b + zeros.zeros = ap length zeros.parts ∙ length-append b (replicate zeros.zeros 0) ∙ ap (λ (n : ℕ). length b + n) (length-replicate {A = ℕ} zeros.zeros 0) in
    let all : length old.bytes ≡ length t.item + length new.bytes = ap length t.parts ∙ length-append t.item new.bytes in
    let none : length new.bytes ≡ 0 = ap length end in
    let few : zeros.zeros < 8 = zeros.few in
    let wholes : length t.item % 8 ≡ 0 = zeros.whole in
    let whole : length b % 8 ≡ 0 = t.spelled.whole in
    let size : length old.bytes / 8 * 8 ≡ length b = omega (arith, item, all, none, few, wholes, whole) in
    rw size (raw_again old new b raw)

pub rest_end : EndsFields dialects.Exact (λ b. Rest b ∷ []) rest_at
rest_end = record {
  took = λ old new b fits e. (new, rest_took old new b e, refl);
  again = λ old new b t end. rest_again old new b (subst (λ (left : Unread). Took (IsField dialects.Exact (Rest b)) old left) t.2 t.1) end;
}
