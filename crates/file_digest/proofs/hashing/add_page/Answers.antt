use Rattle.std.proofs.Common.{◌≡◌, ℕ, ◌++◌, ◌*◌, ◌<◌, List, Option, Some, take, drop, length, refl, sym, ap, subst, ◌∙◌, arith}
use Rattle.std.specs.Option.{IsSome}
use Rattle.sha2.specs.Hashers.{Holds256}
use Rattle.dq_base.specs.Images.{page_at, page_from}
use Rattle.page_store.specs.Store.{newest_image}
use Rattle.file_digest.specs.Pages.{bytes_of}
use Rattle.file_digest.proofs.FilePages.{page_is, first_bytes}
use Rattle.file_digest.proofs.hashing.add_page.Goals as goal

pub unwrap-page-requires : goal.unwrap-page-requires
unwrap-page-requires c =
    let image = newest_image c.args.database.now.store in
    let bytes : List ℕ = bytes_of c.args.file image in
    let inside : 4096 * c.args.place < length bytes = omega (arith, c.requires.some, c.requires.within) in
    let found : c.newest_page.result ≡ Some (page_from bytes (4096 * c.args.place)) =
    c.newest_page.ensures ∙ ap (page_at image) c.page_number.ensures ∙ page_is c.args.file c.args.place image inside in
    subst (λ (page : Option (List ℕ)). IsSome page) (sym found) refl

pub returns : goal.returns
returns c = λ m h.
    let image = newest_image c.args.database.now.store in
    let bytes : List ℕ = bytes_of c.args.file image in
    let start : ℕ = 4096 * c.args.place in
    let inside : start < length bytes = omega (arith, c.requires.some, c.requires.within) in
    let found : Some c.unwrap-page.result ≡ Some (page_from bytes start) =
    sym c.unwrap-page.ensures ∙ c.newest_page.ensures ∙ ap (page_at image) c.page_number.ensures ∙ page_is c.args.file c.args.place image inside in
    let page : c.bytes-bytes.result.now ≡ page_from bytes start = c.bytes-bytes.ensures.value ∙ some_is c.unwrap-page.result (page_from bytes start) found in
    let front : take c.args.count c.bytes-bytes.result.now ≡ take c.args.count (drop start bytes) =
    ap (take c.args.count) page ∙ first_bytes bytes start c.args.count c.requires.few c.requires.within in
    subst (λ (xs : List ℕ). Holds256 c.update.new.self (m ++ xs)) front (c.update.ensures m h)
  where
    some_is : (a b : List ℕ) → Some a ≡ Some b → a ≡ b
    some_is a b e = cc
