-- Radii shared out, by the definitions: a unit goes to a larger remainder though its magnitude is smaller, to the
-- lower of two equal ones, and to none where nothing is left. proofs/Example.antt computes every line.
use Rattle.std.specs.Prelude.{◌≡◌, [], ◌∷◌}
use Rattle.shares.specs.Shares.{whole_parts, remainders, shared}

pub record Example : Type 0 where
  -- 4 x 3 / 5 is 2, and 2 is left; 4 x 1 / 5 is 0, and 4 is left
  pub wholes : whole_parts 4 (3 ∷ 1 ∷ 1 ∷ []) ≡ 2 ∷ 0 ∷ 0 ∷ []
  pub rests : remainders 4 (3 ∷ 1 ∷ 1 ∷ []) ≡ 2 ∷ 4 ∷ 4 ∷ []
  pub larger_rests : shared 4 (3 ∷ 1 ∷ 1 ∷ []) ≡ 2 ∷ 1 ∷ 1 ∷ []
  -- the remainders are 4, 3 and 3, and two units are left
  pub lower_first : shared 3 (3 ∷ 1 ∷ 1 ∷ []) ≡ 2 ∷ 1 ∷ 0 ∷ []
  pub none_left : shared 5 (3 ∷ 1 ∷ 1 ∷ []) ≡ 3 ∷ 1 ∷ 1 ∷ []
  pub of_zero : shared 3 (0 ∷ 7 ∷ 7 ∷ []) ≡ 0 ∷ 2 ∷ 1 ∷ []
  pub radius_0 : shared 0 (3 ∷ 1 ∷ 1 ∷ []) ≡ 0 ∷ 0 ∷ 0 ∷ []
