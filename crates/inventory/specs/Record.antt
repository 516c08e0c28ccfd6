-- What a replayed record comes to, in the request's words: each event with the counts before and after it, and for every part what was received, issued and used.
-- Document 02, 2026-12. Assumes nothing: these are definitions.
use Rattle.std.specs.Prelude.{◌≡◌, List, [], ◌∷◌, ℕ, ◌+◌, ◌≤◌, ◌<◌, length, eqb}
use Rattle.weights.specs.Choice.{pick}
use Rattle.refusal.specs.declared.Refusal.{Refusal}
use Rattle.refusal.specs.declared.Refusal.TheVariants.{EventVertex, ReceivedCount}
use Rattle.columns.specs.Columns.{Answers, Columns, cell, tail_at}
use Rattle.provenance.specs.Counting.{once, count}
use Rattle.inventory.specs.Shelf.{most_stock}

-- a part's depth, 0 where it is unmade, and the parts that its line lists, by its entry
abbrev pub depth_of : Answers → (v : ℕ) → ℕ
depth_of a v = cell a.depths v

abbrev pub list_of : Columns → Answers → (v : ℕ) → List ℕ
list_of c a v = tail_at c (cell a.edges v)

-- the counts of all parts but v stay
abbrev pub Elsewhere : (v : ℕ) → (before after : List ℕ) → Type 0
Elsewhere v s t = (u : ℕ) → ¬ (u ≡ v) → cell t u ≡ cell s u

module _ (c : Columns) (a : Answers) where
  -- why no piece of v can be built: it is unmade, its chosen line has no parts, or there are too few of a part u that it lists
  pub data Missing (v : ℕ) (s : List ℕ) : Type 0 where
    unmade : depth_of a v ≡ 0 → Missing v s
    bought : 0 < depth_of a v → length (list_of c a v) ≡ 0 → Missing v s
    short : 0 < depth_of a v → (u : ℕ) → cell s u < count u (list_of c a v) → Missing v s

  -- an event of part v with so many pieces, from the counts s: its outcome and the counts after it
  pub data Happens (v pieces : ℕ) (s : List ℕ) : (outcome : ℕ) → (after : List ℕ) → Type 0 where
    received : {t : List ℕ} → 0 < pieces → cell t v ≡ cell s v + pieces → cell t v ≤ most_stock → Elsewhere v s t → Happens v pieces s 0 t
    issued : {t : List ℕ} → pieces ≡ 0 → cell s v ≡ cell t v + 1 → Elsewhere v s t → Happens v pieces s 1 t
    built : {t : List ℕ} → pieces ≡ 0 → cell s v ≡ 0 → 0 < depth_of a v → 0 < length (list_of c a v)
        → ((u : ℕ) → cell s u ≡ cell t u + count u (list_of c a v)) → Happens v pieces s 2 t
    late : pieces ≡ 0 → cell s v ≡ 0 → Missing v s → Happens v pieces s 3 s

  -- the events in order, from the opening counts to the final ones
  pub data Replays : (parts received opening outcomes final : List ℕ) → Type 0 where
    none : {s : List ℕ} → Replays [] [] s [] s
    more : {v k o : ℕ} {vs ks os s t u : List ℕ} → v < length s → length t ≡ length s → Happens v k s o t → Replays vs ks t os u
        → Replays (v ∷ vs) (k ∷ ks) s (o ∷ os) u

  -- event i is the first of these, or a later one, that is refused, and by what: 25, or 26 for the count that a receipt would make
  pub data Stops : (i : ℕ) → (parts received stock : List ℕ) → Refusal → Type 0 where
    vertex : {i v k : ℕ} {vs ks s : List ℕ} → length s ≤ v → Stops i (v ∷ vs) (k ∷ ks) s (EventVertex (record { 0 = i }))
    receipt : {i v k : ℕ} {vs ks s : List ℕ} → v < length s → 0 < k → most_stock < cell s v + k → Stops i (v ∷ vs) (k ∷ ks) s (ReceivedCount (record { 0 = i }))
    later : {i v k o : ℕ} {vs ks s t : List ℕ} {r : Refusal} → v < length s → length t ≡ length s → Happens v k s o t → Stops (i + 1) vs ks t r
        → Stops i (v ∷ vs) (k ∷ ks) s r

-- the pieces of v that were received: those of its events with outcome 0
unfoldable pub receipts : (v : ℕ) → (parts received outcomes : List ℕ) → ℕ
receipts v [] ks os = 0
receipts v (p ∷ ps) [] os = 0
receipts v (p ∷ ps) (k ∷ ks) [] = 0
receipts v (p ∷ ps) (k ∷ ks) (o ∷ os) = pick (eqb p v) (pick (eqb o 0) k 0) 0 + receipts v ps ks os

-- "Pieces issued are those taken by outcome 1": one for each event of v with that outcome
unfoldable pub issues : (v : ℕ) → (parts outcomes : List ℕ) → ℕ
issues v [] os = 0
issues v (p ∷ ps) [] = 0
issues v (p ∷ ps) (o ∷ os) = pick (eqb p v) (once 1 o) 0 + issues v ps os

-- "pieces used are those listed by the chosen lines at outcome 2": of an event of p, as many as the chosen line of p lists v
unfoldable pub uses : (lists : ℕ → List ℕ) → (v : ℕ) → (parts outcomes : List ℕ) → ℕ
uses lists v [] os = 0
uses lists v (p ∷ ps) [] = 0
uses lists v (p ∷ ps) (o ∷ os) = pick (eqb o 2) (count v (lists p)) 0 + uses lists v ps os
