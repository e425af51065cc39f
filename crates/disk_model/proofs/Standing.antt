-- Where the file of a name is in a list, and what changing it does.
use Rattle.std.proofs.Common.{◌≡◌, ℕ, zero, suc, ◌<◌, Bool, true, false, cond, List, [], ◌∷◌, ◌++◌, length, set, get_or, refl, sym, ap, ◌∙◌, subst, arith, take, Result, OnOk, ◌+◌}
use Rattle.std.specs.Str.{bytes_eq}
use Rattle.std.proofs.lemmas.Bool.{cond-true, cond-false}
use Rattle.std.proofs.lemmas.Slice.Eq.{bytes_eq-Decides}
use Rattle.std.proofs.lemmas.List.{get_or_read, take_more}
use Rattle.std.proofs.lemmas.Result.{on_ok_weaker}
use Rattle.std.specs.declared.alloc.AllocError.{AllocError}
use Rattle.disk_model.specs.Disk.{Found, missing}
use Rattle.disk_model.specs.Trait.{Text}
use Rattle.disk_model.specs.Memory.{at_name, named, shown}
use Rattle.disk_model.specs.Folder.{Tables, file_of, tables_of, read_changed, base_changed, file_put_down, names_put_down, settled, settled_file, all_settled, named_file, StandsAt}
use Rattle.disk_model.specs.MemFiles.{MemFile}
use Rattle.disk_model.proofs.Effects.{eq_here, eq_else, tell}
use Rattle.disk_model.proofs.Names.{same, apart}

is_name : (f : MemFile) (n : Text) → bytes_eq f.name n ≡ true → f.name ≡ n
is_name f n e = (bytes_eq-Decides f.name n).0 e

changed_first : (n : Text) (f x : MemFile) (rest : MemFile) (m : Text) → f.name ≡ n → x.name ≡ n → cond (bytes_eq x.name m) x rest ≡ cond (bytes_eq n m) x (cond (bytes_eq f.name m) f rest)
changed_first n f x rest m p q =
    ap (λ (t : Text). cond (bytes_eq t m) x rest) q ∙ step (bytes_eq n m) ∙ ap (λ (t : Text). cond (bytes_eq n m) x (cond (bytes_eq t m) f rest)) (sym p)
  where
    step : (b : Bool) → cond b x rest ≡ cond b x (cond b f rest)
    step true = refl
    step false = refl

changed_later : (n : Text) (f x : MemFile) (rest : MemFile) (m : Text) → bytes_eq f.name n ≡ false → cond (bytes_eq f.name m) f (cond (bytes_eq n m) x rest) ≡ cond (bytes_eq n m) x (cond (bytes_eq f.name m) f rest)
changed_later n f x rest m p = step (bytes_eq f.name m) (bytes_eq n m) (λ a b. not_both a b)
  where
    not_both : bytes_eq f.name m ≡ true → bytes_eq n m ≡ true → ⊥
    not_both a b =
        let e : f.name ≡ n = (bytes_eq-Decides f.name m).0 a ∙ sym ((bytes_eq-Decides n m).0 b) in
        let z : true ≡ false = sym ((bytes_eq-Decides f.name n).1 e) ∙ p in
        absurd cc

    step : (a b : Bool) → (a ≡ true → b ≡ true → ⊥) → cond a f (cond b x rest) ≡ cond b x (cond a f rest)
    step true true h = absurd (h refl refl)
    step true false h = refl
    step false true h = refl
    step false false h = refl

pub stands : (n : Text) (files : List MemFile) (i : ℕ) → i < length files → ((d : MemFile) → bytes_eq (get_or files i d).name n ≡ true) → ((k : ℕ) → k < i → (d : MemFile) → bytes_eq (get_or files k d).name n ≡ false) → StandsAt n files i
stands n [] i lt here before = absurd (omega arith)
stands n (f ∷ fs) zero lt here before = record {
  within = lt;
  name = λ d. is_name f n (here d);
  here = λ d. cond-true (bytes_eq f.name n) f (file_of fs n) (here d);
  changed = λ x q m. changed_first n f x (file_of fs m) m (is_name f n (here f)) q;
}
stands n (f ∷ fs) (suc i) lt here before =
    let r = stands n fs i (omega arith) here (λ k l d. before (suc k) (omega arith) d) in
    let other : bytes_eq f.name n ≡ false = before 0 (omega arith) f in
    record {
      within = lt;
      name = λ d. r.name d;
      here = λ d. cond-false (bytes_eq f.name n) f (file_of fs n) other ∙ r.here d;
      changed = λ x q m. ap (λ (y : MemFile). cond (bytes_eq f.name m) f y) (r.changed x q m) ∙ changed_later n f x (file_of fs m) m other;
    }

pub nowhere : (n : Text) (files : List MemFile) → ((k : ℕ) → k < length files → (d : MemFile) → bytes_eq (get_or files k d).name n ≡ false) → file_of files n ≡ record { name = n; read = missing; base = missing }
nowhere n [] h = refl
nowhere n (f ∷ fs) h = cond-false (bytes_eq f.name n) f (file_of fs n) (h 0 (omega arith) f) ∙ nowhere n fs (λ k l d. h (suc k) (omega arith) d)

pub stands_read : (n : Text) (files : List MemFile) (i : ℕ) (x : MemFile) → i < length files → x ≡ get_or files i x → bytes_eq x.name n ≡ true → ((k : ℕ) → k < i → (d : MemFile) → bytes_eq (get_or files k d).name n ≡ false) → StandsAt n files i
stands_read n files i x lt is here before = stands n files i lt (λ d. ap (λ (f : MemFile). bytes_eq f.name n) (sym (get_or_read files i x lt is d)) ∙ here) before

-- a file that isn't there, put at the end, changes nothing
pub at_end : (files : List MemFile) (x : MemFile) (m : Text) → x.read ≡ missing → x.base ≡ missing
    → ((file_of (files ++ x ∷ []) m).read ≡ (file_of files m).read) × ((file_of (files ++ x ∷ []) m).base ≡ (file_of files m).base)
at_end [] x m r b = (read (bytes_eq x.name m), base (bytes_eq x.name m))
  where
    read : (t : Bool) → (cond t x (record { name = m; read = missing; base = missing })).read ≡ missing
    read true = r
    read false = refl

    base : (t : Bool) → (cond t x (record { name = m; read = missing; base = missing })).base ≡ missing
    base true = b
    base false = refl
at_end (f ∷ fs) x m r b = let z = at_end fs x m r b in (read (bytes_eq f.name m) z.0, base (bytes_eq f.name m) z.1)
  where
    read : (t : Bool) → (file_of (fs ++ x ∷ []) m).read ≡ (file_of fs m).read → (cond t f (file_of (fs ++ x ∷ []) m)).read ≡ (cond t f (file_of fs m)).read
    read true e = refl
    read false e = e

    base : (t : Bool) → (file_of (fs ++ x ∷ []) m).base ≡ (file_of fs m).base → (cond t f (file_of (fs ++ x ∷ []) m)).base ≡ (cond t f (file_of fs m)).base
    base true e = refl
    base false e = e

pub opened_tables : (files : List MemFile) (x : MemFile) → x.read ≡ missing → x.base ≡ missing → tables_of (files ++ x ∷ []) ≡ tables_of files
opened_tables files x r b = λ i. record { read = λ m. (at_end files x m r b).0 i; base = λ m. (at_end files x m r b).1 i }

pub opened_place : (n : Text) (files : List MemFile) (x : MemFile) → file_of files n ≡ record { name = n; read = missing; base = missing } → x.name ≡ n → ((k : ℕ) → k < length files → (d : MemFile) → bytes_eq (get_or files k d).name n ≡ false) → StandsAt n (files ++ x ∷ []) (length files)
opened_place n files x none q before = stands n (files ++ x ∷ []) (length files) (within files) (here files) (earlier files before)
  where
    within : (files : List MemFile) → length files < length (files ++ x ∷ [])
    within [] = omega arith
    within (f ∷ fs) = let z = within fs in omega (arith, z)

    here : (files : List MemFile) (d : MemFile) → bytes_eq (get_or (files ++ x ∷ []) (length files) d).name n ≡ true
    here [] d = ap (λ (t : Text). bytes_eq t n) q ∙ eq_here n
    here (f ∷ fs) d = here fs d

    earlier : (files : List MemFile) → ((k : ℕ) → k < length files → (d : MemFile) → bytes_eq (get_or files k d).name n ≡ false) → (k : ℕ) → k < length files → (d : MemFile) → bytes_eq (get_or (files ++ x ∷ []) k d).name n ≡ false
    earlier [] h k l d = absurd (omega arith)
    earlier (f ∷ fs) h zero l d = h 0 (omega arith) d
    earlier (f ∷ fs) h (suc k) l d = earlier fs (λ j m. h (suc j) (omega arith)) k (omega arith) d

pub opened_at : (n : Text) (files new : List MemFile) (x : MemFile) (place : ℕ) → new ≡ files ++ x ∷ [] → place ≡ length files → x.name ≡ n → ((k : ℕ) → k < length files → (d : MemFile) → bytes_eq (get_or files k d).name n ≡ false) → StandsAt n new place
opened_at n files new x place is end q before =
    subst (λ (l : List MemFile). StandsAt n l place) (sym is) (subst (λ (k : ℕ). StandsAt n (files ++ x ∷ []) k) (sym end) (opened_place n files x (nowhere n files before) q before))

pub opened_same : (files new : List MemFile) (x : MemFile) → new ≡ files ++ x ∷ [] → x.read ≡ missing → x.base ≡ missing → tables_of new ≡ tables_of files
opened_same files new x is r b = ap tables_of is ∙ opened_tables files x r b

module _ (n : Text) (files : List MemFile) (place : ℕ) (at : StandsAt n files place) (f : MemFile) (name : f.name ≡ n) where
  -- another file of the same name in its place
  read_at : (m : Text) (c : Found → Found) → f.read ≡ c (file_of files n).read → (file_of (set files place f) m).read ≡ at_name n c (λ k. (file_of files k).read) m
  read_at m c r = ap (λ (x : MemFile). x.read) (at.changed f name m) ∙ elim (tell n m) [
    | same e ↦ ap (λ (b : Bool). (cond b f (file_of files m)).read) (here m e) ∙ r ∙ ap (λ (k : Text). c (file_of files k).read) e ∙ ap (λ (b : Bool). cond b (c (file_of files m).read) (file_of files m).read) (sym (here m e))
    | apart h ↦ ap (λ (b : Bool). (cond b f (file_of files m)).read) (eq_else n m h) ∙ ap (λ (b : Bool). cond b (c (file_of files m).read) (file_of files m).read) (sym (eq_else n m h))
  ]
    where
      here : (m : Text) → n ≡ m → bytes_eq n m ≡ true
      here m e = ap (λ (k : Text). bytes_eq n k) (sym e) ∙ eq_here n

  base_at : (m : Text) (c : Found → Found) → f.base ≡ c (file_of files n).base → (file_of (set files place f) m).base ≡ at_name n c (λ k. (file_of files k).base) m
  base_at m c r = ap (λ (x : MemFile). x.base) (at.changed f name m) ∙ elim (tell n m) [
    | same e ↦ ap (λ (b : Bool). (cond b f (file_of files m)).base) (here m e) ∙ r ∙ ap (λ (k : Text). c (file_of files k).base) e ∙ ap (λ (b : Bool). cond b (c (file_of files m).base) (file_of files m).base) (sym (here m e))
    | apart h ↦ ap (λ (b : Bool). (cond b f (file_of files m)).base) (eq_else n m h) ∙ ap (λ (b : Bool). cond b (c (file_of files m).base) (file_of files m).base) (sym (eq_else n m h))
  ]
    where
      here : (m : Text) → n ≡ m → bytes_eq n m ≡ true
      here m e = ap (λ (k : Text). bytes_eq n k) (sym e) ∙ eq_here n

  same_change : (m : Text) (g : Text → Found) → at_name n (λ x. x) g m ≡ g m
  same_change m g = step (bytes_eq n m)
    where
      step : (b : Bool) → cond b (g m) (g m) ≡ g m
      step true = refl
      step false = refl

  pub read_set : (c : Found → Found) → f.read ≡ c (file_of files n).read → f.base ≡ (file_of files n).base → tables_of (set files place f) ≡ read_changed n c (tables_of files)
  read_set c r b = λ i. record { read = λ m. read_at m c r i; base = λ m. (base_at m (λ x. x) b ∙ same_change m (λ k. (file_of files k).base)) i }

  pub base_set : (c : Found → Found) → f.read ≡ (file_of files n).read → f.base ≡ c (file_of files n).base → tables_of (set files place f) ≡ base_changed n c (tables_of files)
  base_set c r b = λ i. record { read = λ m. (read_at m (λ x. x) r ∙ same_change m (λ k. (file_of files k).read)) i; base = λ m. base_at m c b i }

pub read_done : (n : Text) (was files : List MemFile) (place : ℕ) (f d : MemFile) (c : Found → Found) → StandsAt n files place → tables_of files ≡ tables_of was → f.name ≡ (get_or files place d).name
    → f.read ≡ c (get_or files place d).read → f.base ≡ (get_or files place d).base → tables_of (set files place f) ≡ read_changed n c (tables_of was)
read_done n was files place f d c at same_tables name r b =
    read_set n files place at f (name ∙ at.name d) c (r ∙ ap (λ (x : MemFile). c x.read) (sym (at.here d))) (b ∙ ap (λ (x : MemFile). x.base) (sym (at.here d)))
    ∙ ap (read_changed n c) same_tables

pub base_done : (n : Text) (was files : List MemFile) (place : ℕ) (f d : MemFile) (c : Found → Found) → StandsAt n files place → tables_of files ≡ tables_of was → f.name ≡ (get_or files place d).name
    → f.read ≡ (get_or files place d).read → f.base ≡ c (get_or files place d).base → tables_of (set files place f) ≡ base_changed n c (tables_of was)
base_done n was files place f d c at same_tables name r b =
    base_set n files place at f (name ∙ at.name d) c (r ∙ ap (λ (x : MemFile). x.read) (sym (at.here d))) (b ∙ ap (λ (x : MemFile). c x.base) (sym (at.here d)))
    ∙ ap (base_changed n c) same_tables

-- to hide a file that isn't there changes nothing
pub hidden_nowhere : (n : Text) (files : List MemFile) → ((k : ℕ) → k < length files → (d : MemFile) → bytes_eq (get_or files k d).name n ≡ false) → tables_of files ≡ read_changed n (λ f. missing) (tables_of files)
hidden_nowhere n files before = λ i. record { read = λ m. one m i; base = λ m. (file_of files m).base }
  where
    one : (m : Text) → (file_of files m).read ≡ at_name n (λ f. missing) (λ k. (file_of files k).read) m
    one m = elim (tell n m) [
      | same e ↦ ap (λ (k : Text). (file_of files k).read) (sym e) ∙ ap (λ (x : MemFile). x.read) (nowhere n files before) ∙ ap (λ (b : Bool). cond b missing (file_of files m).read) (sym (ap (λ (k : Text). bytes_eq n k) (sym e) ∙ eq_here n))
      | apart h ↦ ap (λ (b : Bool). cond b missing (file_of files m).read) (sym (eq_else n m h))
    ]

-- files that have another base each, by what is read and what is durable of them
pub all_named : (files new : List MemFile) → length new ≡ length files → ((k : ℕ) → k < length files → (d : MemFile) → get_or new k d ≡ named_file (get_or files k d)) → tables_of new ≡ names_put_down (tables_of files)
all_named files new len each = λ i. record { read = λ n. (one files new len each n).0 i; base = λ n. (one files new len each n).1 i }
  where
    read : (f : MemFile) (x y : MemFile) (n : Text) (b : Bool) → x.read ≡ y.read → (cond b (named_file f) x).read ≡ (cond b f y).read
    read f x y n true e = refl
    read f x y n false e = e

    base : (f : MemFile) (x y : MemFile) (n : Text) (b : Bool) → x.base ≡ named y.read y.base → (cond b (named_file f) x).base ≡ named (cond b f y).read (cond b f y).base
    base f x y n true e = refl
    base f x y n false e = e

    one : (files new : List MemFile) → length new ≡ length files → ((k : ℕ) → k < length files → (d : MemFile) → get_or new k d ≡ named_file (get_or files k d)) → (n : Text) → ((file_of new n).read ≡ (file_of files n).read) × ((file_of new n).base ≡ named (file_of files n).read (file_of files n).base)
    one [] [] len each n = (refl, refl)
    one [] (x ∷ xs) len each n = absurd (omega (arith, len))
    one (f ∷ fs) [] len each n = absurd (omega (arith, len))
    one (f ∷ fs) (x ∷ xs) len each n =
        let z = one fs xs (omega (arith, len)) (λ k l d. each (suc k) (omega arith) d) n in
        let q : x ≡ named_file f = each 0 (omega arith) f in (
          ap (λ (y : MemFile). (cond (bytes_eq y.name n) y (file_of xs n)).read) q ∙ read f (file_of xs n) (file_of fs n) n (bytes_eq f.name n) z.0,
          ap (λ (y : MemFile). (cond (bytes_eq y.name n) y (file_of xs n)).base) q ∙ base f (file_of xs n) (file_of fs n) n (bytes_eq f.name n) z.1,
        )

-- files that are settled
pub settled_tables : (files : List MemFile) → tables_of (all_settled files) ≡ settled (tables_of files)
settled_tables files = λ i. record { read = λ n. (one files n).0 i; base = λ n. (one files n).1 i }
  where
    read : (f x y : MemFile) (b : Bool) → x.read ≡ shown y.base → (cond b (settled_file f) x).read ≡ shown (cond b f y).base
    read f x y true e = refl
    read f x y false e = e

    base : (f x y : MemFile) (b : Bool) → x.base ≡ shown y.base → (cond b (settled_file f) x).base ≡ shown (cond b f y).base
    base f x y true e = refl
    base f x y false e = e

    one : (files : List MemFile) (n : Text) → ((file_of (all_settled files) n).read ≡ shown (file_of files n).base) × ((file_of (all_settled files) n).base ≡ shown (file_of files n).base)
    one [] n = (refl, refl)
    one (f ∷ fs) n = let z = one fs n in (read f (file_of (all_settled fs) n) (file_of fs n) (bytes_eq f.name n) z.0, base f (file_of (all_settled fs) n) (file_of fs n) (bytes_eq f.name n) z.1)

pub settled_more : (files : List MemFile) (f : MemFile) → all_settled (files ++ f ∷ []) ≡ all_settled files ++ settled_file f ∷ []
settled_more [] f = refl
settled_more (x ∷ fs) f = ap (λ (l : List MemFile). settled_file x ∷ l) (settled_more fs f)

-- one more file of a list is settled
pub settled_next : (files copies new : List MemFile) (i : ℕ) (x f : MemFile) → copies ≡ all_settled (take i files) → i < length files → x ≡ get_or files i x → f ≡ settled_file x → new ≡ copies ++ f ∷ [] → new ≡ all_settled (take (i + 1) files)
settled_next files copies new i x f so lt is one more =
    more ∙ (λ j. so j ++ one j ∷ []) ∙ sym (settled_more (take i files) x) ∙ ap all_settled (sym (take_more files i x lt ∙ ap (λ (y : MemFile). take i files ++ y ∷ []) (sym is)))

-- a call that changes what is read, or what stands, of the file at a place
pub read_taken : (n : Text) (was own files : List MemFile) (place : ℕ) (x f : MemFile) (c : Found → Found) (r : Result Unit AllocError) → own ≡ was → tables_of files ≡ tables_of own → StandsAt n files place → x ≡ get_or files place x → OnOk r (f ≡ record { name = x.name; read = c x.read; base = x.base })
    → OnOk r (tables_of (set files place f) ≡ read_changed n c (tables_of was))
read_taken n was own files place x f c r view same_tables at is ok =
    on_ok_weaker r (λ e. read_done n was files place f x c at (same_tables ∙ ap tables_of view) ((λ i. (e i).name) ∙ ap (λ (f : MemFile). f.name) is) ((λ i. (e i).read) ∙ ap (λ (f : MemFile). c f.read) is) ((λ i. (e i).base) ∙ ap (λ (f : MemFile). f.base) is)) ok

pub base_taken : (n : Text) (was own files : List MemFile) (place : ℕ) (x f : MemFile) (c : Found → Found) (r : Result Unit AllocError) → own ≡ was → tables_of files ≡ tables_of own → StandsAt n files place → x ≡ get_or files place x → OnOk r (f ≡ record { name = x.name; read = x.read; base = c x.base })
    → OnOk r (tables_of (set files place f) ≡ base_changed n c (tables_of was))
base_taken n was own files place x f c r view same_tables at is ok =
    on_ok_weaker r (λ e. base_done n was files place f x c at (same_tables ∙ ap tables_of view) ((λ i. (e i).name) ∙ ap (λ (f : MemFile). f.name) is) ((λ i. (e i).read) ∙ ap (λ (f : MemFile). f.read) is) ((λ i. (e i).base) ∙ ap (λ (f : MemFile). c f.base) is)) ok

pub put_down_taken : (n : Text) (was own files : List MemFile) (place : ℕ) (x f : MemFile) (r : Result Unit AllocError) → own ≡ was → tables_of files ≡ tables_of own → StandsAt n files place → x ≡ get_or files place x → OnOk r (f ≡ record { name = x.name; read = x.read; base = record { there = x.base.there; bytes = x.read.bytes } })
    → OnOk r (tables_of (set files place f) ≡ file_put_down n (tables_of was))
put_down_taken n was own files place x f r view same_tables at is ok =
    let tables : tables_of files ≡ tables_of was = same_tables ∙ ap tables_of view in
    let q : x.read.bytes ≡ ((tables_of was).read n).bytes = ap (λ (f : MemFile). f.read.bytes) (is ∙ sym (at.here x)) ∙ ap (λ (t : Tables). (t.read n).bytes) tables in
    on_ok_weaker r (λ e. base_done n was files place f x (λ f. record { there = f.there; bytes = ((tables_of was).read n).bytes }) at tables
    ((λ i. (e i).name) ∙ ap (λ (f : MemFile). f.name) is) ((λ i. (e i).read) ∙ ap (λ (f : MemFile). f.read) is) ((λ i. (e i).base) ∙ (λ i. record { there = (is i).base.there; bytes = q i }))) ok

-- files that are settled, in their own list
pub settled_as : (was own copies : List MemFile) → own ≡ was → copies ≡ all_settled own → tables_of copies ≡ settled (tables_of was)
settled_as was own copies view is = ap tables_of is ∙ settled_tables own ∙ ap (λ (l : List MemFile). settled (tables_of l)) view
