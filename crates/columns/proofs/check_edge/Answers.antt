-- `columns::check_edge` meets its contract: a field is refused, or the tail alone is left to be looked at. Assumes nothing.
use mathlib.Core.Path.{◌≡◌, sym, ◌∙◌, ap}
use Prim.Native.Nat.{ℕ, ◌+◌, ◌-◌, ◌≤◌}
use native.Mathlib.Omega.{arith}
use borrow.Author.Rules.{rules}
use lib.ListN.{length}
use Rattle.refusal.specs.declared.Refusal.TheVariants.{Tail}
use Rattle.columns.specs.Columns.{part}
use Rattle.columns.specs.Acceptance.{test, all_below, fields_acceptance, edge_acceptance}
use Rattle.columns.proofs.Accepted.{part_below}
use Rattle.columns.proofs.Sizes.{fields_refused, fields_passed, fields_within}
use Rattle.refusal.proofs.Passed.{passed_on}
use Rattle.columns.proofs.check_edge.Goals as goal
use Rattle.refusal.specs.Answers.{Acceptance}
use Rattle.std.specs.Prelude.{Ok, Err}

pub returns-in_err-check_fields : goal.returns-in_err-check_fields
returns-in_err-check_fields c = rw (passed_on _ c.from_residual.ensures.1) (fields_refused _ _ _ _ _ _ _ _ _ _ (sym c.check_fields.ensures ∙ c.in_err-check_fields.was))

pub returns-then-clean : goal.returns-then-clean
returns-then-clean c =
    let fields : Acceptance = let a = c.args in fields_acceptance a.n a.e a.head.0 a.own.0 a.mark.0 a.offset a.size a.end (length a.tails.now) in
    let passed : fields ≡ (Ok tt) = sym c.check_fields.ensures ∙ c.in_ok-check_fields.was in
    let left : let a = c.args in test (all_below a.n (part a.offset a.size a.tails.now)) (Tail a.e) (Ok tt) ≡ edge_acceptance a.n a.e a.head.0 a.own.0 a.mark.0 a.offset a.size a.end a.tails.now = let a = c.args in fields_passed a.n a.e _ _ _ _ _ _ a.tails.now passed in
    let within : let a = c.args in a.offset + a.size ≤ length a.tails.now = let a = c.args in fields_within a.n a.e _ _ _ _ _ _ a.tails.now passed in
    let a = c.args in
    let t = part_below a.n a.offset a.size a.tails.now within (sym c.requires ∙ c.if-clean.true) in
    ◌∙◌ {a = Ok tt} (rw t) left

pub overflow_add-to : goal.overflow_add-to
overflow_add-to c =
    let fields : Acceptance = let a = c.args in fields_acceptance a.n a.e a.head.0 a.own.0 a.mark.0 a.offset a.size a.end (length a.tails.now) in
    let passed : fields ≡ (Ok tt) = sym c.check_fields.ensures ∙ c.in_ok-check_fields.was in
    let within : let a = c.args in a.offset + a.size ≤ length a.tails.now = let a = c.args in fields_within a.n a.e _ _ _ _ _ _ a.tails.now passed in
    let w = within in search rules

pub offset_bounds-tails-from : goal.offset_bounds-tails-from
offset_bounds-tails-from c =
    let fields : Acceptance = let a = c.args in fields_acceptance a.n a.e a.head.0 a.own.0 a.mark.0 a.offset a.size a.end (length a.tails.now) in
    let passed : fields ≡ (Ok tt) = sym c.check_fields.ensures ∙ c.in_ok-check_fields.was in
    let within : let a = c.args in a.offset + a.size ≤ length a.tails.now = let a = c.args in fields_within a.n a.e _ _ _ _ _ _ a.tails.now passed in
    let w = within in search rules

pub slice_bounds-all_below-end : goal.slice_bounds-all_below-end
slice_bounds-all_below-end c =
    let fields : Acceptance = let a = c.args in fields_acceptance a.n a.e a.head.0 a.own.0 a.mark.0 a.offset a.size a.end (length a.tails.now) in
    let passed : fields ≡ (Ok tt) = sym c.check_fields.ensures ∙ c.in_ok-check_fields.was in
    let within : let a = c.args in a.offset + a.size ≤ length a.tails.now = let a = c.args in fields_within a.n a.e _ _ _ _ _ _ a.tails.now passed in
    let w = within in search rules

pub returns-then-all_below : goal.returns-then-all_below
returns-then-all_below c =
    let fields : Acceptance = let a = c.args in fields_acceptance a.n a.e a.head.0 a.own.0 a.mark.0 a.offset a.size a.end (length a.tails.now) in
    let passed : fields ≡ (Ok tt) = sym c.check_fields.ensures ∙ c.in_ok-check_fields.was in
    let left : let a = c.args in test (all_below a.n (part a.offset a.size a.tails.now)) (Tail a.e) (Ok tt) ≡ edge_acceptance a.n a.e a.head.0 a.own.0 a.mark.0 a.offset a.size a.end a.tails.now = let a = c.args in fields_passed a.n a.e _ _ _ _ _ _ a.tails.now passed in
    let tail-is : let a = c.args in c.all_below.result ≡ all_below a.n (part a.offset a.size a.tails.now) = let a = c.args in let e : a.offset + a.size - a.offset ≡ a.size = omega arith in c.all_below.ensures ∙ ap (λ (k : ℕ). all_below a.n (part a.offset k a.tails.now)) e in
    let t = sym tail-is ∙ c.if-all_below.true in
    ◌∙◌ {a = Ok tt} (rw t) left

pub returns-else-all_below : goal.returns-else-all_below
returns-else-all_below c =
    let fields : Acceptance = let a = c.args in fields_acceptance a.n a.e a.head.0 a.own.0 a.mark.0 a.offset a.size a.end (length a.tails.now) in
    let passed : fields ≡ (Ok tt) = sym c.check_fields.ensures ∙ c.in_ok-check_fields.was in
    let left : let a = c.args in test (all_below a.n (part a.offset a.size a.tails.now)) (Tail a.e) (Ok tt) ≡ edge_acceptance a.n a.e a.head.0 a.own.0 a.mark.0 a.offset a.size a.end a.tails.now = let a = c.args in fields_passed a.n a.e _ _ _ _ _ _ a.tails.now passed in
    let tail-is : let a = c.args in c.all_below.result ≡ all_below a.n (part a.offset a.size a.tails.now) = let a = c.args in let e : a.offset + a.size - a.offset ≡ a.size = omega arith in c.all_below.ensures ∙ ap (λ (k : ℕ). all_below a.n (part a.offset k a.tails.now)) e in
    let t = sym tail-is ∙ c.if-all_below.false in
    ◌∙◌ {a = Err (Tail c.args.e)} (rw t) left
