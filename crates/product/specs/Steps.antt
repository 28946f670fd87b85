-- The coordinate that is taken from the components of a point, where it is nonzero, and the components that are left.
use Rattle.std.specs.Prelude.{ℕ, suc, ◌-◌, ◌≤◌, ◌<◌, ◌≡◌, eqb}
use Rattle.counts.specs.Counts.{S}
use Rattle.enumeration.specs.Point.{signed}
use Rattle.enumeration.specs.Reading.{bit, first_magnitude, shape_left}
use Rattle.product.specs.declared.inner.components.Components.{Components}
use Rattle.product.specs.declared.inner.read.Step.{Step}

-- the first of s+1 magnitudes that sum to k, of the n-th shape, and the number of the shape that is left
abbrev pub IsFirstOf : (s k n magnitude left : ℕ) → Type 0
IsFirstOf s k n magnitude left = (magnitude ≡ first_magnitude s k n) × (left ≡ shape_left s k n) × (magnitude ≤ k)

-- the first coordinate and the rest; the d patterns that begin with a zero come before
abbrev pub taken : Components → ℕ → Step
taken components d =
    record {
      c = signed (eqb (bit (components.s - 1) components.sign) 1) (first_magnitude (components.s - 1) components.k components.shape);
      left =
          record {
            s = components.s - 1;
            k = components.k - first_magnitude (components.s - 1) components.k components.shape;
            pattern = components.pattern - d;
            shape = shape_left (components.s - 1) components.k components.shape;
            sign = components.sign;
          };
    }

-- components with a nonzero coordinate to take
pub record Nonzero (components : Components) (d : ℕ) : Type 0 where
  pub s_from : 0 < components.s
  pub s_to : components.s ≤ 16
  pub radius_to : components.k ≤ 32
  pub passed : d ≤ components.pattern
  pub shape_below : components.shape < S (suc (components.s - 1)) components.k
