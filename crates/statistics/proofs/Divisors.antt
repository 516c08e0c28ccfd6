-- The greatest common divisor by remainders: it divides both numbers, every number that divides both divides it, and a common factor comes out of it.
-- Assumes nothing.
use Prim.Native.Nat.{ℕ, zero, suc, ◌*◌, ◌/◌, ◌%◌, ◌≤◌, ◌<◌, ◌∣◌}
use mathlib.Core.Path.{◌≡◌, refl, sym, subst}
use native.Mathlib.Nat.{mod-lt, dvd_refl, dvd-zero, dvd-mul_right, dvd-mod_iff, dvd_trans, pos_of_dvd_of_pos, mul-div_cancel', dvd_of_mul-dvd-mul_left, mul-dvd-mul_left}
use native.Mathlib.Omega.{arith}
use Rattle.statistics.specs.Fractions.{gcd_within, gcd, Greatest}

-- more fuel than the second number changes nothing
enough : (fuel more a b : ℕ) → b ≤ fuel → b ≤ more → gcd_within fuel a b ≡ gcd_within more a b
unfolding gcd_within
enough zero zero a b h k = refl
enough zero (suc more) a zero h k = refl
enough zero (suc more) a (suc b) h k = absurd (omega arith)
enough (suc fuel) zero a zero h k = refl
enough (suc fuel) zero a (suc b) h k = absurd (omega arith)
enough (suc fuel) (suc more) a zero h k = refl
enough (suc fuel) (suc more) a (suc b) h k =
    let l : a % suc b < suc b = mod-lt a (omega arith) in
    enough fuel more (suc b) (a % suc b) (omega arith) (omega arith)

-- the code's steps
pub gcd_end : (a b : ℕ) → b ≡ 0 → gcd a b ≡ a
unfolding gcd gcd_within
gcd_end a zero e = refl
gcd_end a (suc b) e = absurd (omega arith)

pub gcd_step : (a b : ℕ) → 0 < b → gcd b (a % b) ≡ gcd a b
unfolding gcd gcd_within
gcd_step a zero h = absurd (omega arith)
gcd_step a (suc b) h =
    let l : a % suc b < suc b = mod-lt a (omega arith) in
    enough (a % suc b) b (suc b) (a % suc b) (omega arith) (omega arith)

divisor_within : (fuel a b : ℕ) → b ≤ fuel → Greatest a b (gcd_within fuel a b)
unfolding gcd_within
divisor_within zero a zero h = record { first = dvd_refl a; second = dvd-zero a; greatest = λ c p q. p }
divisor_within zero a (suc b) h = absurd (omega arith)
divisor_within (suc fuel) a zero h = record { first = dvd_refl a; second = dvd-zero a; greatest = λ c p q. p }
divisor_within (suc fuel) a (suc b) h =
    let l : a % suc b < suc b = mod-lt a (omega arith) in
    let r = divisor_within fuel (suc b) (a % suc b) (omega arith) in
    record {
      first = (dvd-mod_iff _ r.first).0 r.second;
      second = r.first;
      greatest = λ c p q. r.greatest c q ((dvd-mod_iff _ q).1 p);
    }

-- gcd a b divides both, and every number that divides both divides it
pub gcd_is : (a b : ℕ) → Greatest a b (gcd a b)
unfolding gcd
gcd_is a b = divisor_within b a b (omega arith)

pub gcd_above : (a b : ℕ) → 0 < b → 0 < gcd a b
gcd_above a b h = pos_of_dvd_of_pos (gcd_is a b).second h

-- a number that divides k times two numbers divides k times their greatest divisor
pub scaled : (k a b c : ℕ) → 0 < k → c ∣ k * a → c ∣ k * b → c ∣ k * gcd a b
scaled k a b c h p q =
    let g = gcd_is (k * a) (k * b) in
    let d = gcd (k * a) (k * b) in
    let e : k * (d / k) ≡ d = mul-div_cancel' _ (g.greatest k (dvd-mul_right k a) (dvd-mul_right k b)) in
    let divides : (x : ℕ) → d ∣ k * x → d / k ∣ x = λ x l. dvd_of_mul-dvd-mul_left _ h (subst (λ (z : ℕ). z ∣ k * x) (sym e) l) in
    let l : k * (d / k) ∣ k * gcd a b = mul-dvd-mul_left _ k ((gcd_is a b).greatest (d / k) (divides a g.first) (divides b g.second)) in
    dvd_trans _ (g.greatest c p q) (subst (λ (z : ℕ). z ∣ k * gcd a b) e l)
