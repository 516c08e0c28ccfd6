-- When repricing, striking and restoring are accepted, by what they are refused, and what an accepted change leaves. The paper's "The calls" and, of "What is turned
-- away", "1 to 6 …; then 7, 9, 10, … 8"; document 02, 2026-02. Assumes nothing: these are definitions.
use Rattle.std.specs.Prelude.{◌≡◌, List, ℕ, ◌≤◌, ◌<◌, length, set, Ok, Err, true}
use Rattle.weights.specs.declared.Measure.{Measure}
use Rattle.weights.specs.Figures.{greatest, struck_mark}
use Rattle.refusal.specs.declared.Refusal.{Refusal}
use Rattle.refusal.specs.declared.Refusal.TheVariants.{WrongAnswers, NoSuchEdge, NewWeight, NotStruck}
use Rattle.columns.specs.Columns.{Entries, Columns, strike_at, with_own, with_strike}
use Rattle.provenance.specs.BestFirst.{labels}
use Rattle.columns.specs.Acceptance.{acceptance}
use Rattle.columns.specs.Owed.{Owed}
use Rattle.columns.specs.Right.{RightLent, WrongLent}
use Rattle.settle.specs.Settling.{entries_of}
use Rattle.settle.specs.Checking.{checked}
use Rattle.settle.specs.Demands.{Demand2}
use Rattle.settle.specs.Defined.{AllMean}
use Rattle.settle.specs.States.{StateMeans}
use Rattle.reprice.specs.Repricing.{ChangeOutcome, MarkOutcome}
use Rattle.refusal.specs.Answers.{Acceptance}

-- line e exists and is not struck
pub record Named (c : Columns) (e : ℕ) : Type 0 where
  pub numbered : e < length c.heads
  pub unstruck : ¬ (strike_at c e ≡ struck_mark)

-- line e exists and is struck
pub record Struck (c : Columns) (e : ℕ) : Type 0 where
  pub numbered : e < length c.heads
  pub struck : strike_at c e ≡ struck_mark

-- where the line must be Line, else 9, and then Further must hold, else it is refused by its own number
pub record RightChange (m : Measure) (c : Columns) (a : Entries) (Line Further : Type 0) : Type 0 where
  pub lent : RightLent c a
  pub line : Line
  pub further : Further
  pub answers : AllMean m c a

pub data WrongChange (m : Measure) (c : Columns) (a : Entries) (Line Further : Type 0) (own : Refusal) : Refusal → Type 0 where
  lent : {r : Refusal} → WrongLent c a r → WrongChange m c a Line Further own r
  line : RightLent c a → ¬ Line → WrongChange m c a Line Further own NoSuchEdge
  further : RightLent c a → Line → ¬ Further → WrongChange m c a Line Further own own
  answers : RightLent c a → Line → Further → ¬ AllMean m c a → WrongChange m c a Line Further own WrongAnswers

-- "Reprice an unstruck line to 0 to 1,000,000,000", else 10
abbrev pub RightReprice : Measure → Columns → Entries → (e w : ℕ) → Type 0
RightReprice m c a e w = RightChange m c a (Named c e) (w ≤ greatest)

abbrev pub WrongReprice : Measure → Columns → Entries → (e w : ℕ) → Refusal → Type 0
WrongReprice m c a e w = WrongChange m c a (Named c e) (w ≤ greatest) NewWeight

-- "and strike an unstruck line": nothing further is asked
abbrev pub RightStrike : Measure → Columns → Entries → ℕ → Type 0
RightStrike m c a e = RightChange m c a (Named c e) (Unit {0})

abbrev pub WrongStrike : Measure → Columns → Entries → ℕ → Refusal → Type 0
WrongStrike m c a e = WrongChange m c a (Named c e) (Unit {0}) NewWeight

-- "20 for restoring a line that isn't struck, tried directly after 9 (for this call 9 means only that the line does not exist)"
abbrev pub RightRestore : Measure → Columns → Entries → ℕ → Type 0
RightRestore m c a e = RightChange m c a (e < length c.heads) (strike_at c e ≡ struck_mark)

abbrev pub WrongRestore : Measure → Columns → Entries → ℕ → Refusal → Type 0
WrongRestore m c a e = WrongChange m c a (e < length c.heads) (strike_at c e ≡ struck_mark) NotStruck

-- demand 1 of a change of line e's own figure to w that had this outcome: the own figures and the answers are lent to be written
abbrev pub ChangeOwes : Measure → Columns → Entries → (e w : ℕ) (Right : Type 0) (Wrong : Refusal → Type 0) → ChangeOutcome Acceptance → Type 0
ChangeOwes m c a e w Right Wrong o =
    Owed {L = List ℕ × Entries} Err (c.own, a) Right (λ _. (Ok tt)) (λ _. (set c.own e w, entries_of m (with_own c e w))) Wrong
    o.result (o.own, o.left)

-- of a change of its strike mark to s: the strike marks and the answers
abbrev pub MarkOwes : Measure → Columns → Entries → (e s : ℕ) (Right : Type 0) (Wrong : Refusal → Type 0) → MarkOutcome Acceptance → Type 0
MarkOwes m c a e s Right Wrong o =
    Owed {L = List ℕ × Entries} Err (c.strikes, a) Right (λ _. (Ok tt)) (λ _. (set c.strikes e s, entries_of m (with_strike c e s))) Wrong
    o.result (o.strikes, o.left)

-- "both change the own figure, and leave in the answer columns the answers of the table as it then is": by demand 2, and so that the next call's check says yes. Here c
-- is the table as it then is, and `new` what the column must be that was lent to be written
pub record Leaves (m : Measure) (c : Columns) (new column : List ℕ) (left : Entries) : Type 0 where
  pub stored : column ≡ new
  pub accepted : acceptance c ≡ Ok tt
  pub means : (v : ℕ) → Demand2 m c left v
  pub states : (v : ℕ) → StateMeans m c (labels left.labels v) v
  pub checks : checked m c left ≡ Ok true
