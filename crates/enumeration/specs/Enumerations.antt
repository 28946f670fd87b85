-- The enumerations that there are, and which of them a selector selects. Their laws are in proofs/.
use Rattle.std.specs.Prelude.{ℕ, zero, suc, Bool, true, ltb}
use Rattle.counts.specs.Counts.{N, S}
use Rattle.counts.specs.Fields.{bit_field, field_total}
use Rattle.enumeration.specs.Enumeration.{Enumeration}
use Rattle.enumeration.specs.Product.{product_index}
use Rattle.enumeration.specs.Reading.{product_point, product_names}
use Rattle.enumeration.specs.Magnitude.{magnitude_index, magnitude_point}

-- the points of a shell by pattern, shape and signs, where each shape has a field F
abbrev pub by_field : (ℕ → ℕ → ℕ) → Enumeration
by_field F = record { total = field_total F; index = product_index F; point = product_point F; names = product_names F }

-- the product enumeration (docs/RULES.md, "The product index"): a field of S numbers. proofs/Selected.antt shows that
-- there are N(l,k) indices, and that each names a point.
abbrev pub product : Enumeration
product = by_field S

-- the product-product enumeration (docs/RULES.md, "The product-product index"): a field of bits
abbrev pub product_product : Enumeration
product_product = by_field bit_field

-- the magnitude enumeration (docs/RULES.md, "The magnitude index"): N(l,k) indices, each of which names a point
abbrev pub magnitude : Enumeration
magnitude = record { total = N; index = magnitude_index; point = magnitude_point; names = λ l k n. true }

-- The selector, as byte 14 of a row holds one and as the calls index and point are given one: 0 the product
-- enumeration, 1 the magnitude enumeration, 2 the product-product enumeration.
unfoldable pub selected_by : ℕ → Enumeration
selected_by zero = product
selected_by (suc zero) = magnitude
selected_by (suc (suc v)) = product_product

-- no enumeration has a selector above 2: a row with one is bad, and the two calls refuse one
abbrev pub selects_none : ℕ → Bool
selects_none v = ltb 2 v
