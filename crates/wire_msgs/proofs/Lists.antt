-- Lists after their number: servers and files.
use Rattle.std.proofs.Common.{◌≡◌, ℕ, zero, suc, ◌+◌, ◌-◌, ◌<◌, ◌≤◌, Bool, true, false, List, [], ◌∷◌, ◌++◌, length, Option, Some, None, Result, Ok, Err, refl, sym, ap, subst, ◌∙◌, append_assoc, arith}
use Rattle.std.specs.List.{flat_map, AllByRecursion}
use Rattle.std.proofs.lemmas.List.{append-nil}
use Rattle.wire_words.specs.declared.fault.WordFault.{WordFault}
use Rattle.wire_words.specs.declared.fault.WordFault.TheVariants as faults
use Rattle.wire_words.specs.declared.value.Dialect.{Dialect}
use Rattle.wire_words.specs.declared.value.Dialect.TheVariants as dialects
use Rattle.wire_words.specs.Items.{AreBytes}
use Rattle.wire_words.specs.Reading.{◌>>=◌, Unread, Fails, word_at, text_at, blob_at}
use Rattle.wire_words.proofs.ReadBack.{bind_ok, ok_is, word_again}
use Rattle.wire_msgs.specs.declared.response.NodeInfo.{NodeInfo}
use Rattle.wire_msgs.specs.declared.response.File.{File}
use Rattle.wire_msgs.specs.Fields.{Field, Word, Text, Blob}
use Rattle.wire_msgs.specs.Responses.{optional, server_fields, file_fields, HasRole}
use Rattle.wire_msgs.specs.Bodies.{Reading, both, word_text, optional_at, many_at, counted_at, server_at, file_at}
use Rattle.wire_msgs.proofs.Fields.{AllTook, took_append, took_split, all_bytes_after}
use Rattle.wire_msgs.proofs.Readers.{ReadsFields, word_field, text_field, blob_field, both_fields, made_ok}

-- ---- the loops that read them

-- what was read before, and what is still read
abbrev pub with_front : {A : Type 0} → List A → Reading (List A) → Reading (List A)
with_front front read = read >>= λ x. Ok (front ++ x.0, x.1)

regroup : {A : Type 0} (front : List A) (n : A) (read : Reading (List A)) → with_front front (read >>= λ x. Ok (n ∷ x.0, x.1)) ≡ with_front (front ++ n ∷ []) read
regroup front n (Ok x) = ap (λ ns. Ok (ns, x.1)) (sym (append_assoc front (n ∷ []) x.0))
regroup front n (Err f) = refl

-- a fault of a step is the fault of the whole
fails_so : {A B : Type 0} (e : WordFault) (step : Result A WordFault) (whole : Result B WordFault) → ((f : WordFault) → step ≡ Err f → whole ≡ Err f) → Fails e step → Fails e whole
fails_so faults.NoMemory step whole so fails = tt
fails_so (faults.Short n) step whole so fails = so (faults.Short n) fails
fails_so (faults.NoNul n) step whole so fails = so (faults.NoNul n) fails
fails_so (faults.NotUtf8 n) step whole so fails = so (faults.NotUtf8 n) fails
fails_so (faults.Pad n) step whole so fails = so (faults.Pad n) fails
fails_so (faults.BadCode n m) step whole so fails = so (faults.BadCode n m) fails
fails_so (faults.Float n) step whole so fails = so (faults.Float n) fails

pub many_more : {A : Type 0} (one : Unread → Reading A) (front : List A) (count i : ℕ) (left next : Unread) (x : A) (total : Reading (List A)) → i < count → one left ≡ Ok (x, next)
    → with_front front (many_at one (count - i) left) ≡ total → with_front (front ++ x ∷ []) (many_at one (count - (i + 1)) next) ≡ total
unfolding many_at
many_more one front count i left next x total lt h so_far =
    let k : count - i ≡ suc (count - (i + 1)) = omega arith in
    let step : with_front front (many_at one (count - i) left) ≡ with_front (front ++ x ∷ []) (many_at one (count - (i + 1)) next) = rw (k, h) (regroup front x (many_at one (count - (i + 1)) next)) in
    sym step ∙ so_far

pub many_end : {A : Type 0} (one : Unread → Reading A) (e : WordFault) (front : List A) (count i : ℕ) (left : Unread) (total : Reading (List A)) → i < count → Fails e (one left)
    → with_front front (many_at one (count - i) left) ≡ total → Fails e total
unfolding many_at
many_end one e front count i left total lt fails so_far =
    let k : count - i ≡ suc (count - (i + 1)) = omega arith in
    fails_so e (one left) total (λ f h. let step : with_front front (many_at one (count - i) left) ≡ Err f = rw (k, h) refl in sym so_far ∙ step) fails

pub many_done : {A : Type 0} (one : Unread → Reading A) (front : List A) (count i : ℕ) (left : Unread) (total : Reading (List A)) → count ≤ i → with_front front (many_at one (count - i) left) ≡ total → total ≡ Ok (front, left)
unfolding many_at
many_done {A} one front count i left total le so_far =
    let k : count - i ≡ 0 = omega arith in
    let step : with_front front (many_at one (count - i) left) ≡ Ok (front, left) = rw k (ap (λ (ns : List A). Ok (ns, left)) (append-nil front)) in
    sym so_far ∙ step

-- ---- lists of items that a format lets in

-- a reader of items, each of which is these fields and is let in
pub record ReadsItems {A : Type 0} (Is : A → Type 0) (fields : A → List Field) (read : Unread → Reading A) : Type 0 where
  pub took : (old new : Unread) (x : A) → AreBytes old.bytes → read old ≡ Ok (x, new) → Is x × AllTook dialects.Exact (fields x) old new
  pub again : (old new : Unread) (x : A) → Is x → AllTook dialects.Exact (fields x) old new → read old ≡ Ok (x, new)

-- what this many of them are
pub record AreItems {A : Type 0} (Is : A → Type 0) (fields : A → List Field) (count : ℕ) (xs : List A) (old new : Unread) : Type 0 where
  pub counted : length xs ≡ count
  pub all : AllByRecursion Is xs
  pub took : AllTook dialects.Exact (flat_map fields xs) old new

many_took : {A : Type 0} (Is : A → Type 0) (fields : A → List Field) (one : Unread → Reading A) → ReadsItems Is fields one
    → (count : ℕ) (old new : Unread) (xs : List A) → AreBytes old.bytes → many_at one count old ≡ Ok (xs, new) → AreItems Is fields count xs old new
unfolding many_at
many_took {A} Is fields one r zero old new xs fits e =
    let none : List A × Unread = ([], old) in
    let is : none ≡ (xs, new) = ok_is none (xs, new) e in
    subst (λ (q : List A × Unread). AreItems Is fields 0 q.0 old q.1) is (record { counted = refl; all = tt; took = refl })
many_took {A} Is fields one r (suc count) old new xs fits e =
    let s = bind_ok (one old) (λ x. many_at one count x.1 >>= λ o. Ok (x.0 ∷ o.0, o.1)) (xs, new) e in
    let t = bind_ok (many_at one count s.0.1) (λ o. Ok (s.0.0 ∷ o.0, o.1)) (xs, new) s.2 in
    let is = ok_is (s.0.0 ∷ t.0.0, t.0.1) (xs, new) t.2 in
    let first = r.took old s.0.1 s.0.0 fits s.1 in
    let others = many_took Is fields one r count s.0.1 t.0.1 t.0.0 (all_bytes_after dialects.Exact (fields s.0.0) old s.0.1 fits first.1) t.1 in
    subst (λ (q : List A × Unread). AreItems Is fields (suc count) q.0 old q.1) is (record {
      counted = ap suc others.counted;
      all = (first.0, others.all);
      took = took_append dialects.Exact (fields s.0.0) (flat_map fields t.0.0) old s.0.1 t.0.1 first.1 others.took;
    })

many_again : {A : Type 0} (Is : A → Type 0) (fields : A → List Field) (one : Unread → Reading A) → ReadsItems Is fields one
    → (xs : List A) (old new : Unread) → AllByRecursion Is xs → AllTook dialects.Exact (flat_map fields xs) old new → many_at one (length xs) old ≡ Ok (xs, new)
unfolding many_at
many_again Is fields one r [] old new all took = rw took refl
many_again Is fields one r (x ∷ xs) old new all took =
    let s = took_split dialects.Exact (fields x) (flat_map fields xs) old new took in
    rw (r.again old s.0 x all.0 s.1, many_again Is fields one r xs s.0 new all.1 s.2) refl

-- after their number
pub record AreCounted {A : Type 0} (Is : A → Type 0) (fields : A → List Field) (xs : List A) (old new : Unread) : Type 0 where
  pub all : AllByRecursion Is xs
  pub took : AllTook dialects.Exact (Word (length xs) ∷ flat_map fields xs) old new

pub counted_took : {A : Type 0} (Is : A → Type 0) (fields : A → List Field) (one : Unread → Reading A) → ReadsItems Is fields one
    → (old new : Unread) (xs : List A) → AreBytes old.bytes → counted_at one old ≡ Ok (xs, new) → AreCounted Is fields xs old new
counted_took Is fields one r old new xs fits e =
    let s = bind_ok (word_at old) (λ n. many_at one n.0 n.1) (xs, new) e in
    let count = (word_field dialects.Exact).took old s.0.1 s.0.0 fits s.1 in
    let items = many_took Is fields one r s.0.0 s.0.1 new xs (all_bytes_after dialects.Exact (Word s.0.0 ∷ []) old s.0.1 fits count) s.2 in
    let named : AllTook dialects.Exact (Word (length xs) ∷ []) old s.0.1 = subst (λ (n : ℕ). AllTook dialects.Exact (Word n ∷ []) old s.0.1) (sym items.counted) count in
    record { all = items.all; took = took_append dialects.Exact (Word (length xs) ∷ []) (flat_map fields xs) old s.0.1 new named items.took }

pub counted_again : {A : Type 0} (Is : A → Type 0) (fields : A → List Field) (one : Unread → Reading A) → ReadsItems Is fields one
    → (old new : Unread) (xs : List A) → AllByRecursion Is xs → AllTook dialects.Exact (Word (length xs) ∷ flat_map fields xs) old new → counted_at one old ≡ Ok (xs, new)
counted_again Is fields one r old new xs all took =
    rw (word_again old took.0 (length xs) took.1) (many_again Is fields one r xs took.0 new all took.2)

-- ---- servers

pub word_text_fields : (dialect : Dialect) → ReadsFields dialect (λ (x : ℕ × List ℕ). Word x.0 ∷ Text x.1 ∷ []) word_text
word_text_fields dialect = both_fields dialect (λ (n : ℕ). Word n ∷ []) (λ (t : List ℕ). Text t ∷ []) word_at text_at (word_field dialect) (text_field dialect)

pub optional_took : (there : Bool) (old new : Unread) (n : Option ℕ) → AreBytes old.bytes → optional_at there old ≡ Ok (n, new) → HasRole there n × AllTook dialects.Exact (optional n) old new
optional_took false old new n fits e =
    let none : Option ℕ × Unread = (None, old) in
    let is : none ≡ (n, new) = ok_is none (n, new) e in
    subst (λ (q : Option ℕ × Unread). HasRole false q.0 × AllTook dialects.Exact (optional q.0) old q.1) is (tt, refl)
optional_took true old new n fits e =
    let m = made_ok (λ (k : ℕ). Some k) (word_at old) n new e in
    subst (λ (o : Option ℕ). HasRole true o × AllTook dialects.Exact (optional o) old new) m.2 (tt, (word_field dialects.Exact).took old new m.0 fits m.1)

pub optional_again : (there : Bool) (old new : Unread) (n : Option ℕ) → HasRole there n → AllTook dialects.Exact (optional n) old new → optional_at there old ≡ Ok (n, new)
optional_again false old new None has took = rw took refl
optional_again false old new (Some n) has took = absurd has
optional_again true old new None has took = absurd has
optional_again true old new (Some n) has took = rw ((word_field dialects.Exact).again old new n took) refl

abbrev server_of : (ℕ × List ℕ) × Option ℕ → NodeInfo
server_of x = record { id = x.0.0; address = x.0.1; role = x.1 }

server_took : (roles : Bool) (old new : Unread) (x : NodeInfo) → AreBytes old.bytes → server_at roles old ≡ Ok (x, new) → HasRole roles x.role × AllTook dialects.Exact (server_fields x) old new
unfolding server_at
server_took roles old new x fits e =
    let m = made_ok server_of (both word_text (optional_at roles) old) x new e in
    let s = bind_ok (word_text old) (λ y. optional_at roles y.1 >>= λ z. Ok ((y.0, z.0), z.1)) (m.0, new) m.1 in
    let t = bind_ok (optional_at roles s.0.1) (λ z. Ok ((s.0.0, z.0), z.1)) (m.0, new) s.2 in
    let is = ok_is ((s.0.0, t.0.0), t.0.1) (m.0, new) t.2 in
    let head = (word_text_fields dialects.Exact).took old s.0.1 s.0.0 fits s.1 in
    let role = optional_took roles s.0.1 t.0.1 t.0.0 (all_bytes_after dialects.Exact (Word s.0.0.0 ∷ Text s.0.0.1 ∷ []) old s.0.1 fits head) t.1 in
    let whole : HasRole roles t.0.0 × AllTook dialects.Exact (Word s.0.0.0 ∷ Text s.0.0.1 ∷ optional t.0.0) old t.0.1 =
    (role.0, took_append dialects.Exact (Word s.0.0.0 ∷ Text s.0.0.1 ∷ []) (optional t.0.0) old s.0.1 t.0.1 head role.1) in
    let here : HasRole roles m.0.1 × AllTook dialects.Exact (Word m.0.0.0 ∷ Text m.0.0.1 ∷ optional m.0.1) old new =
    subst (λ (q : ((ℕ × List ℕ) × Option ℕ) × Unread). HasRole roles q.0.1 × AllTook dialects.Exact (Word q.0.0.0 ∷ Text q.0.0.1 ∷ optional q.0.1) old q.1) is whole in
    subst (λ (y : NodeInfo). HasRole roles y.role × AllTook dialects.Exact (server_fields y) old new) m.2 here

server_again : (roles : Bool) (old new : Unread) (x : NodeInfo) → HasRole roles x.role → AllTook dialects.Exact (server_fields x) old new → server_at roles old ≡ Ok (x, new)
unfolding server_at
server_again roles old new x has took =
    let s = took_split dialects.Exact (Word x.id ∷ Text x.address ∷ []) (optional x.role) old new took in
    rw ((word_text_fields dialects.Exact).again old s.0 (x.id, x.address) s.1, optional_again roles s.0 new x.role has s.2) refl

pub server_items : (roles : Bool) → ReadsItems (λ (x : NodeInfo). HasRole roles x.role) server_fields (server_at roles)
server_items roles = record { took = server_took roles; again = server_again roles }

-- ---- files

file_took : (old new : Unread) (x : File) → AreBytes old.bytes → file_at old ≡ Ok (x, new) → AllTook dialects.Exact (file_fields x) old new
unfolding file_at
file_took old new x fits e =
    let m = made_ok (λ (y : List ℕ × List ℕ). record { name = y.0; content = y.1 }) (both text_at (blob_at dialects.Exact) old) x new e in
    let r = both_fields dialects.Exact (λ (t : List ℕ). Text t ∷ []) (λ (b : List ℕ). Blob b ∷ []) text_at (blob_at dialects.Exact) (text_field dialects.Exact) (blob_field dialects.Exact) in
    subst (λ (y : File). AllTook dialects.Exact (file_fields y) old new) m.2 (r.took old new m.0 fits m.1)

file_again : (old new : Unread) (x : File) → AllTook dialects.Exact (file_fields x) old new → file_at old ≡ Ok (x, new)
unfolding file_at
file_again old new x took =
    let r = both_fields dialects.Exact (λ (t : List ℕ). Text t ∷ []) (λ (b : List ℕ). Blob b ∷ []) text_at (blob_at dialects.Exact) (text_field dialects.Exact) (blob_field dialects.Exact) in
    rw (r.again old new (x.name, x.content) took) refl

pub file_items : ReadsItems (λ (x : File). Unit {0}) file_fields file_at
file_items = record { took = λ old new x fits e. (tt, file_took old new x fits e); again = λ old new x is t. file_again old new x t }

-- a list of anything is let in where all is
pub all_let_in : {A : Type 0} (xs : List A) → AllByRecursion (λ (x : A). Unit {0}) xs
all_let_in [] = tt
all_let_in (x ∷ xs) = (tt, all_let_in xs)
