-- `weights::ahead` meets its contract: what differs first decides. Assumes nothing.
use Rattle.std.proofs.Common.{rules, ◌≡◌, sym, ◌∙◌, true, false, nat_eq, nat_cmp, is_le, nat_le}
use borrow.Author.Tests.{eqb-true, eqb-false}
use Rattle.weights.proofs.Laws.{lawful}
use Rattle.weights.proofs.Order.{by_weight, by_depth, by_edge}
use Rattle.weights.proofs.ahead.Goals as goal

pub returns-then-ne : goal.returns-then-ne
returns-then-ne c =
    let x = c.args in
    let differ : x.a.weight.0 ≡ x.b.weight.0 → ⊥ = λ e. grind rules in
    c.no_worse.ensures ∙ by_weight (lawful x.measure) x.a x.b differ

pub returns-then-a-b : goal.returns-then-a-b
returns-then-a-b c =
    let x = c.args in
    let same : x.a.weight.0 ≡ x.b.weight.0 = grind rules in
    by_depth (lawful x.measure) x.a x.b same c.if-a-b.true

pub returns : goal.returns
returns c =
    let x = c.args in
    let same : x.a.weight.0 ≡ x.b.weight.0 = grind rules in
    let last : c.le.result ≡ nat_le x.a.edge.0 x.b.edge.0 = search rules in
    last ∙ by_edge (lawful x.measure) x.a x.b same c.if-a-b.false
