-- A list of hyperedges, none of them twice, is no longer than there are hyperedges; so walking along it ends. Assumes nothing.
use Prim.Native.Nat.{ℕ, zero, suc, ◌≤◌, ◌<◌}
use mathlib.Core.Path.{◌≡◌, refl, sym, ◌∙◌, ap}
use mathlib.Core.Logic.{◌⊎◌, inl, inr, ◌≢◌}
use mathlib.Core.Bool.{Bool, true, false}
use mathlib.Core.List.Memᴰ
use mathlib.Core.List.{List, [], ◌∷◌, Memᴰ}
use native.Mathlib.Omega.{arith}
use lib.ListN.{length}
use lib.Dec.{eqb}
use borrow.Author.Tests.{eq-eqb, ne_eqb, eqb-true, eqb-false}
use Rattle.weights.specs.Choice.{pick}
use Rattle.columns.specs.Columns.{cell}
use Rattle.waiting.specs.Lines.{end, Chain, ended, linked}
use Rattle.waiting.proofs.Keeping.{chain_each}

-- no number twice
data Apart : List ℕ → Type 0 where
  none : Apart []
  more : {e : ℕ} {es : List ℕ} → ¬ Memᴰ e es → Apart es → Apart (e ∷ es)

-- a list without the first m in it
without : ℕ → List ℕ → List ℕ
without m [] = []
without m (e ∷ es) = pick (eqb e m) es (e ∷ without m es)

without_length : (m : ℕ) (es : List ℕ) → length es ≤ suc (length (without m es))
unfolding without
without_length m [] = omega arith
without_length m (e ∷ es) = go (eqb e m) (without_length m es)
  where
    go : (b : Bool) → length es ≤ suc (length (without m es)) → suc (length es) ≤ suc (length (pick b es (e ∷ without m es)))
    go true h = omega arith
    go false h = omega arith

without_in : (m x : ℕ) (es : List ℕ) → Memᴰ x (without m es) → Memᴰ x es
unfolding without
without_in m x [] i = absurd (Memᴰ.not-nil i)
without_in m x (e ∷ es) i = go (eqb e m) i (without_in m x es)
  where
    deeper : (x ≡ e) ⊎ Memᴰ x (without m es) → (Memᴰ x (without m es) → Memᴰ x es) → Memᴰ x (e ∷ es)
    deeper (inl p) r = Memᴰ.head p
    deeper (inr j) r = Memᴰ.tail (r j)

    go : (b : Bool) → Memᴰ x (pick b es (e ∷ without m es)) → (Memᴰ x (without m es) → Memᴰ x es) → Memᴰ x (e ∷ es)
    go true j r = Memᴰ.tail j
    go false j r = deeper (Memᴰ.cases_cons j) r

without_apart : (m : ℕ) {es : List ℕ} → Apart es → Apart (without m es)
unfolding without
without_apart m none = none
without_apart m (more {e = e} {es = es} n a) = go (eqb e m) (without_apart m a)
  where
    go : (b : Bool) → Apart (without m es) → Apart (pick b es (e ∷ without m es))
    go true r = a
    go false r = more (λ i. n (without_in m e es i)) r

without_not : (m x : ℕ) {es : List ℕ} → Apart es → Memᴰ x (without m es) → x ≢ m
unfolding without
without_not m x none i = absurd (Memᴰ.not-nil i)
without_not m x (more {e = e} {es = es} n a) i = go (eqb e m) refl i (without_not m x a)
  where
    deeper : eqb e m ≡ false → (x ≡ e) ⊎ Memᴰ x (without m es) → (Memᴰ x (without m es) → x ≢ m) → x ≢ m
    deeper q (inl p) r = λ z. eqb-false e m q (sym p ∙ z)
    deeper q (inr j) r = r j

    go : (b : Bool) → eqb e m ≡ b → Memᴰ x (pick b es (e ∷ without m es)) → (Memᴰ x (without m es) → x ≢ m) → x ≢ m
    go true q j r = λ z. n (Memᴰ.cast (eqb-true e m q ∙ sym z) j)
    go false q j r = deeper q (Memᴰ.cases_cons j) r

no_numbers : (es : List ℕ) → ((x : ℕ) → Memᴰ x es → x < 0) → length es ≤ 0
no_numbers [] f = omega arith
no_numbers (e ∷ es) f = absurd (omega (arith, f e (Memᴰ.head refl)))

-- numbers below m, none of them twice, are m at most
apart_short : (m : ℕ) (es : List ℕ) → Apart es → ((x : ℕ) → Memᴰ x es → x < m) → length es ≤ m
apart_short zero es a f = no_numbers es f
apart_short (suc m) es a f =
    let r = apart_short m (without m es) (without_apart m a) (λ x i. below x (f x (without_in m x es i)) (without_not m x a i)) in
    omega (arith, without_length m es)
  where
    below : (x : ℕ) → x < suc m → x ≢ m → x < m
    below x h k = omega arith

chain_apart : {P : ℕ → Type 0} {next : List ℕ} {f : ℕ} {es : List ℕ} → Chain P next f es → Apart es
chain_apart (ended p) = none
chain_apart (linked p n r) = more n (chain_apart r)

pub chain_short : {P : ℕ → Type 0} {next : List ℕ} {f : ℕ} {es : List ℕ} (m : ℕ) → ((x : ℕ) → P x → x < m) → Chain P next f es → length es ≤ m
chain_short {es = es} m b k = apart_short m es (chain_apart k) (λ x i. b x (chain_each k x i))

-- how many steps there are along `next` from l to the end, up to k
unfoldable pub steps : List ℕ → (k l : ℕ) → ℕ
steps next zero l = 0
steps next (suc k) l = pick (eqb l end) 0 (suc (steps next k (cell next l)))

pub chain_steps : {P : ℕ → Type 0} {next : List ℕ} {f : ℕ} {es : List ℕ} (k : ℕ) → ((x : ℕ) → P x → x < 4096) → Chain P next f es → length es ≤ k → steps next k f ≡ length es
unfolding steps
chain_steps zero b (ended p) h = refl
chain_steps (suc k) b (ended p) h = rw (eq-eqb _ _ p)
chain_steps zero b (linked p n r) h = absurd (omega arith)
chain_steps {f = f} (suc k) b (linked p n r) h = rw (ne_eqb f end (λ z. omega (arith, b f p))) (ap suc (chain_steps k b r (omega arith)))
