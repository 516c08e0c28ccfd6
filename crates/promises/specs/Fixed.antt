-- That a promise of the shape `Owed` fixes what a call returns. Assumes nothing: this is a definition.
use Rattle.std.specs.Prelude.{◌≡◌}
use Rattle.refusal.specs.declared.Refusal.{Refusal}

-- what is right is refused by nothing, and what is wrong is refused by one refusal alone
pub record Fixed (Right : Type 0) (Wrong : Refusal → Type 0) : Type 0 where
  pub never : {r : Refusal} → Right → ¬ Wrong r
  pub once : {r s : Refusal} → Wrong r → Wrong s → r ≡ s
