-- A codeword that names a point is sound; one whose shape is empty is unreadable; one past the end is judged apart.
use Rattle.std.proofs.Common.{arith, ℕ, Bool, List, ◌≡◌, ap, ap₂, ◌∙◌}
use Rattle.numbering.specs.Numbered.{IsOfRow, total_in, names_in}
use Rattle.numbering.specs.declared.inner.Numbering.{Numbering}
use Rattle.numbering.proofs.OfRow.{total_of, names_of, found_of}
use Rattle.tables.proofs.GoodRow.{row_lawful}
use Rattle.tables.specs.Row.{length_of, radius_at}
use Rattle.laws.proofs.Shows.{total_positive}
use Rattle.rules.specs.Judging.{judge_codeword, index_names, judge_in}
use Rattle.judging.proofs.Judging.{codeword_sound, codeword_empty, seen_as}
use Rattle.judging.proofs.inner.judge_codeword.Goals as goal

-- what is judged by the numbering of a row's shell is judged by the row
by_row : {m : Numbering} {row : List ℕ} {k : ℕ} → IsOfRow m row k → (mode n : ℕ)
    → judge_codeword mode (names_in m) (total_in m) m.radius.0 n ≡ judge_in mode row k n
by_row {m} {row} {k} of_row mode n =
    ap (λ (names : ℕ → Bool). judge_codeword mode names (total_in m) m.radius.0 n) (names_of of_row)
    ∙ ap₂ (λ (total r : ℕ). judge_codeword mode (index_names row k) total r n) (total_of of_row) of_row.is_radius

pub of_number-numbering-requires : goal.of_number-numbering-requires
of_number-numbering-requires c = (omega (arith, c.requires.0.row_good.radii_to), c.requires.0.row_good.radius_usable c.args.number c.requires.1)

pub judge_past-requires : goal.judge_past-requires
judge_past-requires c =
    let row = c.args.row.now in
    let k = radius_at row c.args.number in
    let of_row = c.of_number-numbering.ensures in
    let sought = rw c.in-Err-Past.field-0-is at c.in-Err-Past.ensures in
    let usable = c.requires.0.row_good.radius_usable c.args.number c.requires.1 in (
      sought.1,
      rw (sought.1 ∙ total_of of_row) (total_positive (row_lawful row) (length_of row) k usable.length_from),
      rw sought.1 sought.0,
    )

pub returns-in-Ok : goal.returns-in-Ok
returns-in-Ok c =
    let of_row = c.of_number-numbering.ensures in
    let m = c.of_number-numbering.result in
    let sought = c.in-Ok.ensures in
    (codeword_sound c.args.mode.0 (names_in m) (total_in m) m.radius.0 c.args.n sought.0 sought.1 ∙ by_row of_row c.args.mode.0 c.args.n, rw of_row.is_radius (found_of of_row sought.2))

pub returns-in-Err-Empty : goal.returns-in-Err-Empty
returns-in-Err-Empty c =
    let m = c.of_number-numbering.result in
    let sought = rw c.in-Err-Empty.field-0-is at c.in-Err-Empty.ensures in
    seen_as c.args.row.now c.unseen.result c.unseen.ensures tt
    (codeword_empty c.args.mode.0 (names_in m) (total_in m) m.radius.0 c.args.n sought.0 sought.1 ∙ by_row c.of_number-numbering.ensures c.args.mode.0 c.args.n)

pub returns-in-Err-Past : goal.returns-in-Err-Past
returns-in-Err-Past c =
    let m = c.of_number-numbering.result in
    let sought = rw c.in-Err-Past.field-0-is at c.in-Err-Past.ensures in
    let past = c.judge_past.ensures in
    seen_as c.args.row.now c.unseen-in-Err-Past.result c.unseen-in-Err-Past.ensures past.1
    (past.0
    ∙ ap (λ (total : ℕ). judge_codeword c.args.mode.0 (names_in m) total m.radius.0 c.args.n) sought.1
    ∙ by_row c.of_number-numbering.ensures c.args.mode.0 c.args.n)
