-- The cell at a position of a page, by where its state and its record stand.
use Prim.Native.Nat.{ℕ, ◌+◌, ◌-◌, ◌≤◌}
use mathlib.Core.List.{List}
use mathlib.Core.Path.{◌≡◌, sym, ap, ◌∙◌}
use native.Mathlib.Omega.{arith}
use lib.ListN.{length, get_or, set, take, drop, length-set}
use borrow.Rule.Slice.PartMut.{put_mid}
use Rattle.buffers.proofs.Writing.{wrote_part}
use Rattle.buffers.specs.Written.{written}
use Rattle.records.specs.Record.{record_length}
use Rattle.layout.proofs.Cells.{length_record}
use Rattle.layout.proofs.Converting.{converted_size, converted_cell, converted_set}
use Rattle.layout.proofs.Offsets.{record_inside}
use Rattle.layout.specs.Layout.{Cell, state_offset, record_offset, state_from, record_from, stored, set_in, set_cell}
use Rattle.layout.specs.Positions.{InPage, page_told, cell_told}
use Rattle.layout.specs.declared.Layout.TheVariants as layouts
use Rattle.layout.specs.declared.Position.{Position}

module _ (pg : List ℕ) (at : Position) (inside : InPage pg at) where
  abbrev s : ℕ
  s = state_offset at.layout at.cells at.cell

  abbrev r : ℕ
  r = record_offset at.layout at.cells at.cell

  pub state_stands : get_or pg s 0 ≡ (cell_told pg at).state
  unfolding state_from
  state_stands = ap (λ (cell : Cell). cell.state) (sym (converted_cell at.layout layouts.CellByCell at.cells pg inside at.cell at.below))

  pub record_stands : {from : ℕ} → from ≡ r → take (from + 8 - from) (drop from pg) ≡ (cell_told pg at).bytes
  unfolding record_from
  record_stands {from} here =
      let eight : from + 8 - from ≡ 8 = omega arith in
      rw (eight, here) (ap (λ (cell : Cell). cell.bytes) (sym (converted_cell at.layout layouts.CellByCell at.cells pg inside at.cell at.below)))

  pub record_size : length (cell_told pg at).bytes ≡ record_length
  record_size = length_record layouts.CellByCell at.cells (page_told pg at) (converted_size at.layout layouts.CellByCell at.cells pg inside) at.cell at.below

  -- the state is set, and then the record is put in place of as many bytes
  module _ (state : ℕ) (bytes : List ℕ) (eight : length bytes ≡ record_length) where
    cell : Cell
    cell = record { state = state; bytes = bytes }

    put : put_mid r 8 (set pg s state) bytes ≡ set_in at.layout at.cells pg at.cell cell
    unfolding stored cell
    put =
        let room : r + 8 ≤ length (set pg s state) = rw (length-set pg s state) (omega (arith, record_inside at.layout at.cells at.cell at.below)) in
        (wrote_part (set pg s state) bytes r 8 eight room).made ∙ ap (written (set pg s state) r bytes) eight

    pub put_told : {from to : ℕ} {made : List ℕ} → to ≡ s → from ≡ r → made ≡ bytes
        → page_told (put_mid from (from + 8 - from) (set pg to state) made) at ≡ set_cell (page_told pg at) at.cell (record { state = state; bytes = bytes })
    unfolding cell
    put_told {from} here there same =
        let as_many : from + 8 - from ≡ 8 = omega arith in
        rw (as_many, here, there, same)
        (ap (λ (q : List ℕ). page_told q at) put ∙ converted_set at.layout layouts.CellByCell at.cells pg inside at.cell at.below cell eight)
