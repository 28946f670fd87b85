-- The product form of the binomials: binomial(n,r) is a product of r factors over another,
--     n (n-1) .. (n-r+1)  /  1 x 2 x .. x r
-- and the largest numbers that are met where it is worked out for n up to 31.
use Rattle.std.specs.Prelude.{ℕ, zero, suc, ◌-◌, ◌*◌}

-- n (n-1) .. (n-r+1), r factors; 0 where r is above n, since then one of the factors is 0
unfoldable pub falling : ℕ → ℕ → ℕ
falling n zero = 1
falling n (suc r) = falling n r * (n - r)

-- r! = 1 x 2 x .. x r
abbrev pub factorial : ℕ → ℕ
factorial zero = 1
factorial (suc r) = factorial r * suc r

-- the largest product of up to six factors, 31 x 30 x 29 x 28 x 27 x 26, which 32 bits hold
abbrev pub largest_product : ℕ
largest_product = 530122320

-- the largest product of a binomial of up to 13 and one factor more, binomial(31,13) x 18, which 32 bits hold
abbrev pub largest_step : ℕ
largest_step = 3712555350

-- and that of a binomial of 14, binomial(31,14) x 17, which needs 33 bits: no number on the way is larger
abbrev pub largest_last : ℕ
largest_last = 4508102925
