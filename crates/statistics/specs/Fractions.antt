-- Fractions in lowest terms: request 2026-05's "as fractions in lowest terms". Assumes nothing: these are definitions.
use Rattle.std.specs.Prelude.{ℕ, zero, suc, ◌*◌, ◌/◌, ◌%◌, ◌<◌, ◌≡◌}
use Rattle.std.specs.Int.{◌∣◌}
use Rattle.statistics.specs.declared.Fraction.{Fraction}

-- the greatest common divisor, by remainders. The second number falls with each of them, so as much fuel is enough
unfoldable pub gcd_within : (fuel a b : ℕ) → ℕ
gcd_within zero a b = a
gcd_within (suc fuel) a zero = a
gcd_within (suc fuel) a (suc b) = gcd_within fuel (suc b) (a % suc b)

unfoldable pub gcd : (a b : ℕ) → ℕ
gcd a b = gcd_within b a b

abbrev pub fraction : (numerator denominator : ℕ) → Fraction
fraction a b = record { numerator = a; denominator = b }

-- a/b with both divided by the greatest number that divides them
unfoldable pub lowest : (a b : ℕ) → Fraction
lowest a b = fraction (a / gcd a b) (b / gcd a b)

-- d divides a and b, and each number that does so divides d
pub record Greatest (a b d : ℕ) : Type 0 where
  pub first : d ∣ a
  pub second : d ∣ b
  pub greatest : (c : ℕ) → c ∣ a → c ∣ b → c ∣ d

-- "in lowest terms"
pub record Reduced (f : Fraction) : Type 0 where
  pub above : 0 < f.denominator
  pub coprime : gcd f.numerator f.denominator ≡ 1

-- two fractions are one number: their cross products agree
pub record Same (f g : Fraction) : Type 0 where
  pub crossed : f.numerator * g.denominator ≡ g.numerator * f.denominator
