use native.Mathlib.Omega.{arith}
use Rattle.refusal.proofs.Refusals.{numbered}
use Rattle.refusal.proofs.Refusal.result.Goals as goal

pub overflow_mul-result : goal.overflow_mul-result
overflow_mul-result c = omega (arith, numbered c.args.self)

pub overflow_add-result : goal.overflow_add-result
overflow_add-result c = omega (arith, numbered c.args.self)

pub overflow_mul-result-2 : goal.overflow_mul-result-2
overflow_mul-result-2 c = omega (arith, numbered c.args.self)

pub overflow_add-result-2 : goal.overflow_add-result-2
overflow_add-result-2 c = omega (arith, numbered c.args.self)
