-- No number represents two images, whatever happens.
use Rattle.std.proofs.Common.{◌≡◌, ℕ, zero, suc, ◌+◌, cond, List, [], ◌∷◌, get_or, All, Contains, Option, Some, refl, sym, ap, subst, ◌∙◌, arith}
use Rattle.std.specs.Prelude.{nat_lt}
use Rattle.std.proofs.lemmas.Bool.{cond-true, cond-false, lt-ltb, le-ltb}
use Rattle.dq_base.specs.declared.images.Image.{Image}
use Rattle.dq_base.specs.declared.image_number.ImageNumber.{ImageNumber}
use Rattle.dq_base.specs.declared.image_number.ImageNumber.TheVariants.{Newest, Working}
use Rattle.sql_engine.specs.Known.{Known, IsBelow, MayRun}
use Rattle.sql_engine.proofs.Knowing.{of_contained}
use Rattle.database_state.specs.ImageNumbers.{Numbered}
use Rattle.session_statements.specs.Learning.{IsLearnt, was, handed, made}
use Rattle.session_statements.specs.Agreeing.{image_by, IsGiven, IsNamed, Agree, Stands, as_work, as_base}

-- ---- what an engine may be handed

stands_named : (known works : List Known) (next : ℕ) (bases : List Numbered) (number : ImageNumber) (image : Image) (a : Agree known works next bases) → Stands works bases number image → IsNamed a.working a.newest next bases number image
stands_named known works next bases number image a (as_work c) = of_contained (λ (k : Known). IsNamed a.working a.newest next bases k.number k.image) works (record { number = number; image = image }) a.works_so c
stands_named known works next bases number image a (as_base c) = of_contained (λ (b : Numbered). IsNamed a.working a.newest next bases b.number b.image) bases (record { number = number; image = image }) a.stands_so c

given_below : (next : ℕ) (bases : List Numbered) (number : ImageNumber) → IsGiven next bases number → IsBelow next number
given_below next bases (Working number) lt = lt
given_below next bases (Newest place commits) there = tt

pub may_run : (known works : List Known) (next : ℕ) (bases : List Numbered) (number : ImageNumber) (image : Image) → Agree known works next bases → Stands works bases number image → MayRun known image (record { before = number; after = next })
may_run known works next bases number image a stands =
    let here = stands_named known works next bases number image a stands in
    record {
      before = λ k d lt same. (a.knows k d lt).is ∙ ap (image_by a.working a.newest) same ∙ sym here.is;
      after = λ k d lt. given_below next bases (get_or known k d).number (a.knows k d lt).given;
    }

-- ---- what is forgotten, and what is no more

pub forgotten : (known works : List Known) (next : ℕ) (bases : List Numbered) → Agree known works next bases → Agree [] works next bases
forgotten known works next bases a = record {
  working = a.working;
  newest = a.newest;
  knows = λ k d lt. absurd (omega (arith, lt));
  works_so = a.works_so;
  stands_so = a.stands_so;
}

pub fewer : (known fewer_known works fewer_works : List Known) (next : ℕ) (bases : List Numbered) → All (Contains known) fewer_known → All (Contains works) fewer_works → Agree known works next bases → Agree fewer_known fewer_works next bases
fewer known fewer_known works fewer_works next bases of_known of_works a = record {
  working = a.working;
  newest = a.newest;
  knows = λ k d lt. of_contained (λ (k : Known). IsNamed a.working a.newest next bases k.number k.image) known (get_or fewer_known k d) a.knows (of_known k d lt);
  works_so = λ k d lt. of_contained (λ (k : Known). IsNamed a.working a.newest next bases k.number k.image) works (get_or fewer_works k d) a.works_so (of_works k d lt);
  stands_so = a.stands_so;
}

-- ---- a run, for whose image after a number is drawn

module _ (known now works : List Known) (next : ℕ) (bases : List Numbered) (number : Option ImageNumber) (image left : Image) (a : Agree known works next bases)
    (stands : (n : ImageNumber) → number ≡ Some n → Stands works bases n image) (learnt : All (IsLearnt known number image next left) now) where
  more : ℕ → Image
  more n = cond (nat_lt n next) (a.working n) left

  same_image : (n : ImageNumber) → IsGiven next bases n → image_by more a.newest n ≡ image_by a.working a.newest n
  unfolding more
  same_image (Working n) lt = cond-true (nat_lt n next) (a.working n) left (lt-ltb n next lt)
  same_image (Newest place commits) there = refl

  still_given : (n : ImageNumber) → IsGiven next bases n → IsGiven (next + 1) bases n
  still_given (Working n) lt = omega (arith, lt)
  still_given (Newest place commits) there = there

  still_named : (n : ImageNumber) (i : Image) → IsNamed a.working a.newest next bases n i → IsNamed more a.newest (next + 1) bases n i
  still_named n i h = record { is = h.is ∙ sym (same_image n h.given); given = still_given n h.given }

  is_made : IsNamed more a.newest (next + 1) bases (Working next) left
  unfolding more
  is_made = record { is = sym (cond-false (nat_lt next next) (a.working next) left (le-ltb next next (omega arith))); given = omega arith }

  Named : Known → Type 0
  Named k = IsNamed more a.newest (next + 1) bases k.number k.image

  one_learnt : (k : Known) → IsLearnt known number image next left k → Named k
  unfolding Named
  one_learnt k (was c) = still_named k.number k.image (of_contained (λ (k : Known). IsNamed a.working a.newest next bases k.number k.image) known k a.knows c)
  one_learnt k (handed is same) = subst (IsNamed more a.newest (next + 1) bases k.number) (sym same) (still_named k.number image (stands_named known works next bases k.number image a (stands k.number is)))
  one_learnt k (made e) = subst (λ (k : Known). IsNamed more a.newest (next + 1) bases k.number k.image) (sym e) is_made

  at_work : All (λ k. IsNamed more a.newest (next + 1) bases k.number k.image) (record { number = Working next; image = left } ∷ works)
  at_work zero d lt = is_made
  at_work (suc k) d lt = still_named (get_or works k d).number (get_or works k d).image (a.works_so k d (omega (arith, lt)))

  -- after it all agree still, and the working image that was made is by its number what the statements left
  pub ran : Agree now (record { number = Working next; image = left } ∷ works) (next + 1) bases
  unfolding Named
  ran = record {
    working = more;
    newest = a.newest;
    knows = λ k d lt. one_learnt (get_or now k d) (learnt k d lt);
    works_so = at_work;
    stands_so = λ k d lt. still_named (get_or bases k d).number (get_or bases k d).image (a.stands_so k d lt);
  }

-- ---- a transaction that begins: its working image is the newest one of a database, by the same number

joined_works : (known works : List Known) (next : ℕ) (bases : List Numbered) (number : ImageNumber) (image : Image) (a : Agree known works next bases) → Stands works bases number image
    → All (λ k. IsNamed a.working a.newest next bases k.number k.image) (record { number = number; image = image } ∷ works)
joined_works known works next bases number image a stands zero d lt = stands_named known works next bases number image a stands
joined_works known works next bases number image a stands (suc k) d lt = a.works_so k d (omega (arith, lt))

pub joined : (known works : List Known) (next : ℕ) (bases : List Numbered) (number : ImageNumber) (image : Image) → Agree known works next bases → Stands works bases number image
    → Agree known (record { number = number; image = image } ∷ works) next bases
joined known works next bases number image a stands = record {
  working = a.working;
  newest = a.newest;
  knows = a.knows;
  works_so = joined_works known works next bases number image a stands;
  stands_so = a.stands_so;
}
