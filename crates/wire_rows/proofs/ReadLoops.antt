-- The steps of the loops that read names and rows.
use Rattle.std.proofs.Common.{◌≡◌, ℕ, suc, ◌+◌, ◌-◌, ◌<◌, ◌≤◌, List, [], ◌∷◌, ◌++◌, Result, Ok, Err, refl, sym, ap, ◌∙◌, append_assoc, arith}
use Rattle.std.proofs.lemmas.List.{append-nil}
use Rattle.wire_words.specs.declared.fault.WordFault.{WordFault}
use Rattle.wire_words.specs.declared.fault.WordFault.TheVariants as faults
use Rattle.wire_words.specs.declared.value.Value.{Value}
use Rattle.wire_words.specs.Reading.{◌>>=◌, Unread, text_at, Fails}
use Rattle.wire_rows.specs.declared.fault.RowReadFault.{RowReadFault}
use Rattle.wire_rows.specs.declared.fault.RowReadFault.TheVariants.{Word, NoEnd, Tail, NoMemory}
use Rattle.wire_rows.specs.declared.part.More.{More}
use Rattle.wire_rows.specs.declared.reading.Next.TheVariants.{Row, End}
use Rattle.wire_rows.specs.Cut.{Rows}
use Rattle.wire_rows.specs.Reading.{names_at, next_at, rows_at, one_before, FailsReading}

-- what was read before, and what is still read
abbrev pub with_front : {A : Type 0} → List A → Result (List A × Unread) WordFault → Result (List A × Unread) WordFault
with_front front read = read >>= λ x. Ok (front ++ x.0, x.1)

regroup : {A : Type 0} (front : List A) (n : A) (read : Result (List A × Unread) WordFault) → with_front front (read >>= λ x. Ok (n ∷ x.0, x.1)) ≡ with_front (front ++ n ∷ []) read
regroup front n (Ok x) = ap (λ ns. Ok (ns, x.1)) (sym (append_assoc front (n ∷ []) x.0))
regroup front n (Err f) = refl

-- a fault of a step is the fault of the whole
fails_so : {A B : Type 0} (e : WordFault) (step : Result A WordFault) (whole : Result B WordFault) → ((f : WordFault) → step ≡ Err f → whole ≡ Err f) → Fails e step → Fails e whole
fails_so faults.NoMemory step whole so fails = tt
fails_so (faults.Short n) step whole so fails = so (faults.Short n) fails
fails_so (faults.NoNul n) step whole so fails = so (faults.NoNul n) fails
fails_so (faults.NotUtf8 n) step whole so fails = so (faults.NotUtf8 n) fails
fails_so (faults.Pad n) step whole so fails = so (faults.Pad n) fails
fails_so (faults.BadCode n m) step whole so fails = so (faults.BadCode n m) fails
fails_so (faults.Float n) step whole so fails = so (faults.Float n) fails

pub names_more : (front : List (List ℕ)) (count i : ℕ) (left next : Unread) (name : List ℕ) (total : Result (List (List ℕ) × Unread) WordFault) → i < count → text_at left ≡ Ok (name, next)
    → with_front front (names_at (count - i) left) ≡ total → with_front (front ++ name ∷ []) (names_at (count - (i + 1)) next) ≡ total
unfolding names_at
names_more front count i left next name total lt h so_far =
    let k : count - i ≡ suc (count - (i + 1)) = omega arith in
    let one : with_front front (names_at (count - i) left) ≡ with_front (front ++ name ∷ []) (names_at (count - (i + 1)) next) = rw (k, h) (regroup front name (names_at (count - (i + 1)) next)) in
    sym one ∙ so_far

pub names_end : (e : WordFault) (front : List (List ℕ)) (count i : ℕ) (left : Unread) (total : Result (List (List ℕ) × Unread) WordFault) → i < count → Fails e (text_at left)
    → with_front front (names_at (count - i) left) ≡ total → Fails e total
unfolding names_at
names_end e front count i left total lt fails so_far =
    let k : count - i ≡ suc (count - (i + 1)) = omega arith in
    fails_so e (text_at left) total (λ f h. let one : with_front front (names_at (count - i) left) ≡ Err f = rw (k, h) refl in sym so_far ∙ one) fails

pub names_done : (front : List (List ℕ)) (count i : ℕ) (left : Unread) (total : Result (List (List ℕ) × Unread) WordFault) → count ≤ i → with_front front (names_at (count - i) left) ≡ total → total ≡ Ok (front, left)
unfolding names_at
names_done front count i left total le so_far =
    let k : count - i ≡ 0 = omega arith in
    let one : with_front front (names_at (count - i) left) ≡ Ok (front, left) = rw k (ap (λ (ns : List (List ℕ)). Ok (ns, left)) (append-nil front)) in
    sym so_far ∙ one

-- ---- rows

abbrev pub RowsRead : Type 0
RowsRead = Result ((Rows × More) × Unread) RowReadFault

-- the rows that were read before, and what is still read
abbrev pub with_rows : Rows → RowsRead → RowsRead
with_rows front read = read >>= λ x. Ok ((front ++ x.0.0, x.0.1), x.1)

regroup_rows : (front : Rows) (values : List Value) (read : RowsRead) → with_rows front (one_before values read) ≡ with_rows (front ++ values ∷ []) read
regroup_rows front values (Ok x) = ap (λ (rows : Rows). Ok ((rows, x.0.1), x.1)) (sym (append_assoc front (values ∷ []) x.0.0))
regroup_rows front values (Err f) = refl

fails_too : {A B : Type 0} (e : RowReadFault) (step : Result A RowReadFault) (whole : Result B RowReadFault) → ((f : RowReadFault) → step ≡ Err f → whole ≡ Err f) → FailsReading e step → FailsReading e whole
fails_too NoMemory step whole so fails = tt
fails_too (Word w) step whole so fails = so (Word w) fails
fails_too NoEnd step whole so fails = so NoEnd fails
fails_too (Tail n) step whole so fails = so (Tail n) fails

pub rows_more : (front : Rows) (budget i count : ℕ) (left next : Unread) (values : List Value) (total : RowsRead) → i < budget → next_at count left ≡ Ok (Row values, next)
    → with_rows front (rows_at (budget - i) count left) ≡ total → with_rows (front ++ values ∷ []) (rows_at (budget - (i + 1)) count next) ≡ total
unfolding rows_at
rows_more front budget i count left next values total lt h so_far =
    let k : budget - i ≡ suc (budget - (i + 1)) = omega arith in
    let one : with_rows front (rows_at (budget - i) count left) ≡ with_rows (front ++ values ∷ []) (rows_at (budget - (i + 1)) count next) = rw (k, h) (regroup_rows front values (rows_at (budget - (i + 1)) count next)) in
    sym one ∙ so_far

pub rows_end : (front : Rows) (budget i count : ℕ) (left next : Unread) (more : More) (total : RowsRead) → i < budget → next_at count left ≡ Ok (End more, next)
    → with_rows front (rows_at (budget - i) count left) ≡ total → total ≡ Ok ((front, more), next)
unfolding rows_at
rows_end front budget i count left next more total lt h so_far =
    let k : budget - i ≡ suc (budget - (i + 1)) = omega arith in
    let one : with_rows front (rows_at (budget - i) count left) ≡ Ok ((front, more), next) = rw (k, h) (ap (λ (rows : Rows). Ok ((rows, more), next)) (append-nil front)) in
    sym so_far ∙ one

pub rows_fault : (e : RowReadFault) (front : Rows) (budget i count : ℕ) (left : Unread) (total : RowsRead) → i < budget → FailsReading e (next_at count left)
    → with_rows front (rows_at (budget - i) count left) ≡ total → FailsReading e total
unfolding rows_at
rows_fault e front budget i count left total lt fails so_far =
    let k : budget - i ≡ suc (budget - (i + 1)) = omega arith in
    fails_too e (next_at count left) total (λ f h. let one : with_rows front (rows_at (budget - i) count left) ≡ Err f = rw (k, h) refl in sym so_far ∙ one) fails

pub rows_none : (front : Rows) (budget i count : ℕ) (left : Unread) (total : RowsRead) → budget ≤ i → with_rows front (rows_at (budget - i) count left) ≡ total → total ≡ Err NoEnd
unfolding rows_at
rows_none front budget i count left total le so_far =
    let k : budget - i ≡ 0 = omega arith in
    let one : with_rows front (rows_at (budget - i) count left) ≡ Err NoEnd = rw k refl in
    sym so_far ∙ one
