-- `settle::vertex_right` meets its contract: each return is one case of the test. Assumes nothing.
use native.Mathlib.Omega.{arith}
use borrow.Author.Tests.{eq-eqb, ne_eqb, lt-ltb, le-ltb}
use Rattle.settle.specs.Comparing.{vertex_fits}
use Rattle.settle.proofs.vertex_right.Goals as goal

pub returns-then-w-ne0 : goal.returns-then-w-ne0
unfolding vertex_fits
returns-then-w-ne0 c = rw (eq-eqb _ _ c.if-d-eq0.true, ne_eqb _ _ c.if-w-ne0.true)

pub returns-then-d-eq0 : goal.returns-then-d-eq0
unfolding vertex_fits
returns-then-d-eq0 c = rw (eq-eqb _ _ c.if-d-eq0.true, eq-eqb _ _ c.if-w-ne0.false)

pub returns-then-e-heads : goal.returns-then-e-heads
unfolding vertex_fits
returns-then-e-heads c = rw (ne_eqb _ _ c.if-d-eq0.false, le-ltb _ _ c.if-e-heads.true)

pub returns-then-heads-j : goal.returns-then-heads-j
unfolding vertex_fits
returns-then-heads-j c = rw (ne_eqb _ _ c.if-d-eq0.false, lt-ltb _ _ c.if-e-heads.false, ne_eqb _ _ c.if-heads-j.true)

pub offset_bounds-values-j : goal.offset_bounds-values-j
offset_bounds-values-j c = omega (arith, c.if-e-heads.false, c.requires.0.values)

pub bounds-values-j : goal.bounds-values-j
bounds-values-j c = omega (arith, c.if-e-heads.false, c.requires.0.values)

pub returns-then-values-j : goal.returns-then-values-j
unfolding vertex_fits
returns-then-values-j c =
    rw (ne_eqb _ _ c.if-d-eq0.false, lt-ltb _ _ c.if-e-heads.false, eq-eqb _ _ c.if-heads-j.false, ne_eqb _ _ c.if-values-j.true)

pub offset_bounds-heights-j : goal.offset_bounds-heights-j
offset_bounds-heights-j c = omega (arith, c.if-e-heads.false, c.requires.0.heights)

pub bounds-heights-j : goal.bounds-heights-j
bounds-heights-j c = omega (arith, c.if-e-heads.false, c.requires.0.heights)

pub returns : goal.returns
unfolding vertex_fits
returns c =
    rw (ne_eqb _ _ c.if-d-eq0.false, lt-ltb _ _ c.if-e-heads.false, eq-eqb _ _ c.if-heads-j.false, eq-eqb _ _ c.if-values-j.false)
