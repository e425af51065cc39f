-- The limit on stated lengths bounds the files that commands make, at every moment.
use Rattle.std.proofs.Common.{◌≡◌, ◌≢◌, ℕ, ◌+◌, ◌≤◌, List, [], ◌∷◌, ◌++◌, fold, sum_by, refl, sym, ap, subst, ◌∙◌, arith, Less, Equal}
use Rattle.std.specs.List.{AllByRecursion, Contains}
use Rattle.std.specs.List.Sorted.{IsStrictlySortedBy}
use Rattle.std.proofs.lemmas.List.Sums.{sum_by-cons}
use Rattle.log_commands.specs.declared.command.Command.{Command}
use Rattle.log_commands.specs.declared.command.Command.TheVariants.{OpenDb, Frames, Undo, Checkpoint}
use Rattle.log_commands.proofs.NamesAmong.{IsIn, is_in, without, without_sum, without_other}
use Rattle.database_state.specs.ByName.{Ascend}
use Rattle.database_state.specs.Files.{Content, new_content, frames, undone, act, files}
use Rattle.database_state.specs.AsMap.{names_of}
use Rattle.database_state.specs.Stated.{greatest_stated, length_of_files, IsSpelled, opened_by, names_opened}
use Rattle.database_state.proofs.Named.{compare, compare_same}
use Rattle.database_state.proofs.Ordered.{all_names, same_names}
use Rattle.database_state.proofs.SplitLaw.{frames_keep}
use Rattle.database_state.proofs.AsMap.{files_in_order}
use Rattle.database_state.proofs.StatedLaw.{files_short}

-- ---- names that are among others

all_in : (names xs : List (List ℕ)) → AllByRecursion (λ n. Contains names n) xs → AllByRecursion (λ n. IsIn n names) xs
all_in names [] all = tt
all_in names (x ∷ xs) all = (is_in x names all.0, all_in names xs all.1)

others_in : (x : List ℕ) (ys xs : List (List ℕ)) → AllByRecursion (λ z. x ≢ z) xs → AllByRecursion (λ n. IsIn n ys) xs → AllByRecursion (λ n. IsIn n (without x ys)) xs
others_in x ys [] apart all = tt
others_in x ys (z ∷ xs) apart all = (without_other x z ys apart.0 all.0, others_in x ys xs apart.1 all.1)

-- names that ascend are apart
above_apart : (x : List ℕ) (xs : List (List ℕ)) → AllByRecursion (λ z. compare x z ≡ Less) xs → AllByRecursion (λ z. x ≢ z) xs
above_apart x [] above = tt
above_apart x (z ∷ xs) above = (λ e. absurd (clash x z e above.0), above_apart x xs above.1)
  where
    clash : (a b : List ℕ) → a ≡ b → compare a b ≡ Less → ⊥
    clash a b e less = let same : Equal ≡ Less = sym (compare_same a) ∙ ap (compare a) e ∙ less in cc

-- the sum over names that ascend and are among others is no more than that over the others
lesser_sum : (f : List ℕ → ℕ) (xs ys : List (List ℕ)) → Ascend xs → AllByRecursion (λ n. IsIn n ys) xs → sum_by f xs ≤ sum_by f ys
unfolding IsStrictlySortedBy
lesser_sum f [] ys order all = omega arith
lesser_sum f (x ∷ xs) ys order all =
    let rest : sum_by f xs ≤ sum_by f (without x ys) = lesser_sum f xs (without x ys) order.1 (others_in x ys xs (above_apart x xs order.0) all.1) in
    omega (arith, rest, sum_by-cons f x xs, without_sum f x ys all.0)

-- ---- names of databases

act_named : (P : List ℕ → Type 0) (cs : List Content) (command : Command) (names : List (List ℕ)) → AllByRecursion P (names_of cs) → AllByRecursion P (opened_by command names) → AllByRecursion P (names_of (act cs command)) × AllByRecursion P names
unfolding act
act_named P cs (OpenDb name) names all opened = (all_names (λ (c : Content). c.name) (new_content name) name refl (λ c. c) (λ c. refl) P opened.0 cs all, opened.1)
act_named P cs (Frames name tx truncate commit pages) names all opened =
    (all_names (λ (c : Content). c.name) (new_content name) name refl (frames tx commit pages) (frames_keep tx commit pages) P opened.0 cs all, opened.1)
act_named P cs (Undo tx) names all opened = (subst (AllByRecursion P) (sym (same_names (λ (c : Content). c.name) (undone tx) (λ c. refl) cs)) all, opened)
act_named P cs (Checkpoint name) names all opened = (all, opened)

fold_named : (P : List ℕ → Type 0) (cs : List Content) (commands : List Command) → AllByRecursion P (names_of cs) → AllByRecursion P (names_opened commands) → AllByRecursion P (names_of (fold act cs commands))
fold_named P cs [] all opened = all
fold_named P cs (command ∷ commands) all opened =
    let a = act_named P cs command (names_opened commands) all opened in
    fold_named P (act cs command) commands a.0 a.1

front_opened : (P : List ℕ → Type 0) (front later : List Command) → AllByRecursion P (names_opened (front ++ later)) → AllByRecursion P (names_opened front)
front_opened P [] later all = tt
front_opened P (command ∷ front) later all = by (front_opened P front later) command all
  where
    by : (AllByRecursion P (names_opened (front ++ later)) → AllByRecursion P (names_opened front)) → (command : Command) → AllByRecursion P (opened_by command (names_opened (front ++ later))) → AllByRecursion P (opened_by command (names_opened front))
    by rest (OpenDb name) all = (all.0, rest all.1)
    by rest (Frames name tx truncate commit pages) all = (all.0, rest all.1)
    by rest (Undo tx) all = rest all
    by rest (Checkpoint name) all = rest all

-- ---- the whole

front_stated : (front later : List Command) (name : List ℕ) → greatest_stated front name ≤ greatest_stated (front ++ later) name
front_stated [] later name = omega arith
front_stated (command ∷ front) later name =
    let rest : greatest_stated front name ≤ greatest_stated (front ++ later) name = front_stated front later name in
    omega (arith, rest)

front_spelled : (front later : List Command) → AllByRecursion IsSpelled (front ++ later) → AllByRecursion IsSpelled front
front_spelled [] later spelled = tt
front_spelled (command ∷ front) later spelled = (spelled.0, front_spelled front later spelled.1)

sum_short : (f g : List ℕ → ℕ) (cs : List Content) → ((n : List ℕ) → f n ≤ g n) → AllByRecursion (λ c. length_of_files c.image ≤ f c.name) cs → sum_by (λ (c : Content). length_of_files c.image) cs ≤ sum_by g (names_of cs)
sum_short f g [] le short = omega arith
sum_short f g (c ∷ cs) le short =
    let rest : sum_by (λ (c : Content). length_of_files c.image) cs ≤ sum_by g (names_of cs) = sum_short f g cs le short.1 in
    let here : length_of_files c.image ≤ f c.name = short.0 in
    let wide : f c.name ≤ g c.name = le c.name in
    omega (arith, rest, here, wide, sum_by-cons (λ (c : Content). length_of_files c.image) c cs, sum_by-cons g c.name (names_of cs))

pub limit_bounds : (front later : List Command) (names : List (List ℕ)) (limit : ℕ) → AllByRecursion IsSpelled (front ++ later) → AllByRecursion (λ n. Contains names n) (names_opened (front ++ later))
    → sum_by (greatest_stated (front ++ later)) names ≤ limit → sum_by (λ (c : Content). length_of_files c.image) (files front) ≤ limit
limit_bounds front later names limit spelled opened within =
    let among : AllByRecursion (λ n. Contains names n) (names_of (files front)) = fold_named (λ n. Contains names n) [] front tt (front_opened (λ n. Contains names n) front later opened) in
    let total : sum_by (greatest_stated (front ++ later)) (names_of (files front)) ≤ sum_by (greatest_stated (front ++ later)) names =
    lesser_sum (greatest_stated (front ++ later)) (names_of (files front)) names (files_in_order front) (all_in names (names_of (files front)) among) in
    let short : sum_by (λ (c : Content). length_of_files c.image) (files front) ≤ sum_by (greatest_stated (front ++ later)) (names_of (files front)) =
    sum_short (greatest_stated front) (greatest_stated (front ++ later)) (files front) (front_stated front later) (files_short front (front_spelled front later spelled)) in
    omega (arith, total, short, within)
