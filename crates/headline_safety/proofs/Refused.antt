-- The wrong runs are refused.
use Rattle.std.proofs.Common.{◌≡◌, ◌<◌, List, [], ◌∷◌, ◌++◌, map, take, refl, sym, ap, ◌∙◌, subst, arith}
use Rattle.std.proofs.lemmas.List.{append-nil}
use Rattle.sql_engine.specs.declared.kind.EngineKind.{EngineKind}
use Rattle.sql_engine.specs.Meanings.{Meaning}
use Rattle.headline.specs.Headline.{Change, image_in}
use Rattle.cluster_model.specs.Laws.{AllBelow}
use Rattle.order_safety.specs.Order.{HasTerm}
use Rattle.change_safety.specs.Changes.{NewImage, new_image, changes_of, changes_at}
use Rattle.headline_safety.specs.Wrong.{NoOtherFiles, NoNewBeforePending, NoNewBeforeAnswered}
use Rattle.headline_safety.proofs.Shown.{files_are_shown_hold}
use Rattle.headline_safety.proofs.Order.{proposals_keep_order_hold}

-- changes with these names and images
abbrev pub as_changes : List NewImage → List Change
as_changes [] = []
as_changes (x ∷ xs) = record { place = 0; name = x.name; after = x.after } ∷ as_changes xs

pub named_so : (xs : List NewImage) → map new_image (as_changes xs) ≡ xs
named_so [] = refl
named_so (x ∷ xs) = ap (λ l. x ∷ l) (named_so xs)

pub no_other_files : (m : Meaning) (kind : EngineKind) → NoOtherFiles m kind
no_other_files m kind setup early late n k v w name holds here there same apart =
    let law = files_are_shown_hold m kind setup (early ++ late) holds in
    let chosen = law.list.chosen in
    let order = as_changes (changes_of chosen) in
    let shows = law.files order (named_so (changes_of chosen)) in
    let first = (shows early late refl n v here).1 name in
    let second = (shows (early ++ late) [] (sym (append-nil (early ++ late))) k w there).1 name in
    apart (first ∙ ap (λ i. image_in (take (changes_at chosen i) order) name) same ∙ sym second)

pub no_new_before_pending : (m : Meaning) (kind : EngineKind) → NoNewBeforePending m kind
no_new_before_pending m kind setup early middle late n conn k term f holds flying at_two may each =
    let law = proposals_keep_order_hold m kind setup early middle late holds in
    let both = each law.chosen law.said law.safe in
    let second = subst (λ i. HasTerm law.chosen i f.term) (sym at_two) both.1 in
    let low : f.last < 1 = law.pending n conn k term 1 f flying may (omega arith) both.0 second in
    absurd (omega (arith, low, at_two))

pub no_new_before_answered : (m : Meaning) (kind : EngineKind) → NoNewBeforeAnswered m kind
no_new_before_answered m kind setup early middle late k term holds waited may each =
    let law = proposals_keep_order_hold m kind setup early middle late holds in
    let first = waited (take law.size law.chosen) (take law.count law.said) law.before in
    let all = law.answered k term 1 may (omega arith) (each law.chosen law.said law.safe) in
    let low : first.0.index < 1 = (subst (λ l. AllBelow 1 l) first.2 all).0 in
    absurd (omega (arith, low, first.3))
