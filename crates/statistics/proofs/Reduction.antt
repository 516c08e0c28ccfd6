-- Lowest terms: dividing by the greatest common divisor keeps the number and leaves it reduced, and a number has one reduced fraction. Assumes nothing.
use Prim.Native.Nat.{ℕ, zero, suc, ◌*◌, ◌/◌, ◌<◌, ◌∣◌}
use mathlib.Core.Path.{◌≡◌, sym, ◌∙◌, ap, ap₂, subst}
use native.Mathlib.Nat.{mul_comm, one-dvd, dvd-mul_left, dvd_antisymm, mul-div_cancel', dvd_of_mul-dvd-mul_left, mul-dvd-mul_left, eq_of_mul-eq-mul_left}
use native.Mathlib.Omega.{arith}
use Rattle.statistics.specs.declared.Fraction.{Fraction}
use Rattle.statistics.specs.Fractions.{gcd, fraction, lowest, Reduced, Same}
use Rattle.statistics.proofs.Divisors.{gcd_is, gcd_above, scaled}

-- a and b, each the divisor times what is left of it
whole : (a b : ℕ) → (gcd a b * (a / gcd a b) ≡ a) × (gcd a b * (b / gcd a b) ≡ b)
whole a b = (mul-div_cancel' _ (gcd_is a b).first, mul-div_cancel' _ (gcd_is a b).second)

pub lowest_same : (a b : ℕ) → Same (lowest a b) (fraction a b)
unfolding lowest
lowest_same a b = record { crossed = go (a / gcd a b) (b / gcd a b) (whole a b).0 (whole a b).1 }
  where
    go : (x y : ℕ) → gcd a b * x ≡ a → gcd a b * y ≡ b → x * b ≡ a * y
    go x y p q =
        let e : x * (gcd a b * y) ≡ gcd a b * x * y = omega arith in
        ap (λ (z : ℕ). x * z) (sym q) ∙ e ∙ ap (λ (z : ℕ). z * y) p

-- what divides both halves that are left divides 1
left_coprime : (a b : ℕ) → 0 < b → gcd (a / gcd a b) (b / gcd a b) ∣ 1
left_coprime a b h =
    let g = gcd a b in
    let r = gcd_is (a / g) (b / g) in
    let d = gcd (a / g) (b / g) in
    let first : g * d ∣ a = subst (λ (z : ℕ). g * d ∣ z) (whole a b).0 (mul-dvd-mul_left _ g r.first) in
    let second : g * d ∣ b = subst (λ (z : ℕ). g * d ∣ z) (whole a b).1 (mul-dvd-mul_left _ g r.second) in
    let e : g ≡ g * 1 = omega arith in
    dvd_of_mul-dvd-mul_left _ (gcd_above a b h) (subst (λ (z : ℕ). g * d ∣ z) e ((gcd_is a b).greatest (g * d) first second))

factor_above : (g y b : ℕ) → g * y ≡ b → 0 < b → 0 < y
factor_above g zero b e h = absurd (omega arith)
factor_above g (suc y) b e h = omega arith

pub lowest_reduced : (a b : ℕ) → 0 < b → Reduced (lowest a b)
unfolding lowest
lowest_reduced a b h = record {
  above = factor_above (gcd a b) (b / gcd a b) b (whole a b).1 h;
  coprime = dvd_antisymm (left_coprime a b h) (one-dvd _);
}

-- the denominator of a reduced fraction divides that of an equal one
divides : (f g : Fraction) → Reduced f → 0 < g.denominator → Same f g → f.denominator ∣ g.denominator
divides f g r h s =
    let crossed : g.numerator * f.denominator ≡ g.denominator * f.numerator = sym s.crossed ∙ mul_comm _ _ in
    let p : f.denominator ∣ g.denominator * f.numerator = subst (λ (z : ℕ). f.denominator ∣ z) crossed (dvd-mul_left f.denominator g.numerator) in
    let d = scaled g.denominator f.numerator f.denominator f.denominator h p (dvd-mul_left _ _) in
    let e : g.denominator * 1 ≡ g.denominator = omega arith in
    subst (λ (z : ℕ). f.denominator ∣ z) (ap (λ (z : ℕ). g.denominator * z) r.coprime ∙ e) d

pub same_back : {f g : Fraction} → Same f g → Same g f
same_back s = record { crossed = sym s.crossed }

pub lowest_unique : (f g : Fraction) → Reduced f → Reduced g → Same f g → f ≡ g
lowest_unique f g r t s =
    let d : f.denominator ≡ g.denominator = dvd_antisymm (divides f g r t.above s) (divides g f t r.above (same_back s)) in
    let crossed : g.denominator * f.numerator ≡ g.denominator * g.numerator =
    mul_comm _ _ ∙ s.crossed ∙ ap (λ (z : ℕ). g.numerator * z) d ∙ mul_comm _ _ in
    ap₂ fraction (eq_of_mul-eq-mul_left g.denominator t.above _ _ crossed) d
