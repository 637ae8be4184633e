-- What w bits make together: a number, a smallest grade, a flag and a largest count.
use Rattle.std.specs.Prelude.{ℕ, zero, suc, ◌+◌, ◌*◌, ◌^◌, eqb, ltb, if◌then◌else◌}

-- the number whose bits 0 to w - 1 are d 0, d 1, ..: the sum of d b times 2^b
unfoldable pub number_of : ℕ → (ℕ → ℕ) → ℕ
number_of zero d = 0
number_of (suc w) d = d w * 2 ^ w + number_of w d

-- "the grade the smallest": of w grades, each at most 2
unfoldable pub smaller : ℕ → ℕ → ℕ
smaller a b = if ltb a b then a else b

unfoldable pub smallest : ℕ → (ℕ → ℕ) → ℕ
smallest zero g = 2
smallest (suc w) g = smaller (g w) (smallest w g)

-- "a station's flag is raised if any bit raises it"
unfoldable pub either : ℕ → ℕ → ℕ
either a b = if eqb a 1 then 1 else b

unfoldable pub any : ℕ → (ℕ → ℕ) → ℕ
any zero f = 0
any (suc w) f = either (f w) (any w f)

-- "The garbled count is the largest of the bits' counts"
unfoldable pub larger : ℕ → ℕ → ℕ
larger a b = if ltb b a then a else b

unfoldable pub largest : ℕ → (ℕ → ℕ) → ℕ
largest zero c = 0
largest (suc w) c = larger (c w) (largest w c)
