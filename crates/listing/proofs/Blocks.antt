-- Records taken block by block: whole blocks so far, and one more; and how many takes of a block can be refused.
use Prim.Native.Nat.{ℕ, ◌+◌, ◌*◌, ◌≤◌}
use mathlib.Core.List.{List, [], ◌++◌}
use mathlib.Core.Path.{◌≡◌, refl, sym, ap, ap₂, ◌∙◌}
use native.Mathlib.Omega.{arith}
use lib.ListN.{length, length-append}
use Rattle.tables.specs.BookNumbers.{one_book}
use Rattle.layout.specs.declared.Layout.TheVariants as layouts
use Rattle.laws.proofs.Layouts.{cells_already}
use Rattle.rules.specs.Layouts.{as_cells, as_kept}
use Rattle.laws.proofs.Blocks.{collected_to, collected_then}
use Rattle.laws.proofs.Runs.{parts_none}
use Rattle.rules.specs.Taking.{Received, after, collected}
use Rattle.listing.specs.Took.{Took}

-- of whole records
pub record TookWhole (t pg left : List ℕ) (refused : ℕ) : Type 0 where
  pub took : Took t pg left refused
  pub records : ℕ
  pub whole : length took.bytes ≡ 8 * records

pub took_none : (t pg : List ℕ) → TookWhole t pg pg 0
unfolding after
took_none t pg = record {
  took = record { bytes = []; is_left = rw (parts_none [] refl) refl; is_refused = rw (parts_none [] refl) refl };
  records = 0;
  whole = refl;
}

module _ {t pg left : List ℕ} {refused : ℕ} (so_far : TookWhole t pg left refused) (block : List ℕ) {left' : List ℕ} {more : ℕ}
    (is_left : left' ≡ (collected t one_book left block).page) (is_more : more ≡ (collected t one_book left block).refused) where
  pub took_more : Took t pg left' (refused + more)
  took_more =
      let before = so_far.took in
      let all = collected_then t one_book pg before.bytes block so_far.records so_far.whole in
      record {
        bytes = before.bytes ++ block;
        is_left = is_left ∙ ap (λ (page : List ℕ). (collected t one_book page block).page) before.is_left ∙ sym (ap (λ (s : Received). s.page) all);
        is_refused =
            ap₂ ◌+◌ before.is_refused (is_more ∙ ap (λ (page : List ℕ). (collected t one_book page block).refused) before.is_left) ∙ sym (ap (λ (s : Received). s.refused) all);
      }

  pub took_block : (n : ℕ) → length block ≡ 8 * n → TookWhole t pg left' (refused + more)
  unfolding took_more
  took_block n size = record {
    took = took_more;
    records = so_far.records + n;
    whole = length-append so_far.took.bytes block ∙ omega (arith, so_far.whole, size);
  }

-- a block taken into a page that is kept cell by cell, as the program keeps its page
pub cell_by_cell_lem : (t pg block : List ℕ) {refused : ℕ} {left : List ℕ}
    → (refused ≡ (collected t one_book (as_cells layouts.CellByCell t one_book pg) block).refused)
    × (left ≡ as_kept layouts.CellByCell t one_book (collected t one_book (as_cells layouts.CellByCell t one_book pg) block).page)
    → (refused ≡ (collected t one_book pg block).refused) × (left ≡ (collected t one_book pg block).page)
cell_by_cell_lem t pg block did =
    let same = cells_already t one_book pg in (
      did.0 ∙ ap (λ (page : List ℕ). (collected t one_book page block).refused) same,
      did.1 ∙ cells_already t one_book (collected t one_book (as_cells layouts.CellByCell t one_book pg) block).page
          ∙ ap (λ (page : List ℕ). (collected t one_book page block).page) same,
    )

-- a block of at most 65,536 bytes has at most 8,192 parts, so no more takes are refused
pub refused_few : (t pg block : List ℕ) {refused : ℕ} → refused ≡ (collected t one_book pg block).refused → length block ≤ 65536 → refused ≤ 8192
refused_few t pg block is_refused h = omega (arith, is_refused, collected_to t one_book pg block)
