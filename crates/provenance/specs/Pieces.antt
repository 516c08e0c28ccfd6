-- Piece counts: how many bought pieces a chosen make-up holds, capped; a bought piece is a line that lists nothing. Document 02, 2026-09: "the number of lines without parts in
-- the chosen make-up, counted as often as they stand there, capped at 1,000,000,000; 0 if unmade". Assumes nothing: these are definitions.
use Rattle.std.specs.Prelude.{◌≡◌, List, [], ◌∷◌, ◌++◌, ℕ, zero, suc, ◌+◌, ◌<◌, min, eqb}
use Rattle.weights.specs.declared.Label.{Label}
use Rattle.weights.specs.Choice.{pick}
use Rattle.provenance.specs.Hypergraph.{Hypergraph, Derivation, Derivations, node, none, more}
use Rattle.provenance.specs.Means.{Follows}
use Rattle.provenance.specs.Support.{bill}
use Rattle.provenance.specs.Counting.{total}

-- the greatest count; more are counted as so many
abbrev pub most_pieces : ℕ
most_pieces = 1_000_000_000

-- a line that lists nothing is one piece, any other none
unfoldable pub piece : List ℕ → ℕ
piece [] = 1
piece (v ∷ vs) = 0

-- the pieces of a list of lines, each counted as often as it stands there
abbrev pub bought : (tail : ℕ → List ℕ) → List ℕ → ℕ
bought tail = total (λ e. piece (tail e))

-- the nodes of a make-up that list nothing
module _ {H : Hypergraph} where
  unfoldable mutual
    pub leaves : {v : ℕ} → Derivation H v → ℕ
    leaves (node e s h ds) = piece (H.tail e) + all_leaves ds

    pub all_leaves : {vs : List ℕ} → Derivations H vs → ℕ
    all_leaves none = 0
    all_leaves (more d ds) = leaves d + all_leaves ds

-- the count of v: the pieces of its bill, capped
unfoldable pub pieces_at : Hypergraph → (ℕ → Label) → ℕ → ℕ
pieces_at H ls v = min (bought H.tail (bill H ls (ls v).depth v)) most_pieces

-- p is the piece count of v: that of the leaves of its chosen make-up, whichever tree shows it, capped; 0 where v is unmade
pub record HasPieces (H : Hypergraph) (ls : ℕ → Label) (v p : ℕ) : Type 0 where
  pub made : (t : Derivation H v) → Follows ls t → p ≡ min (leaves t) most_pieces
  pub unmade : (ls v).depth ≡ 0 → p ≡ 0

-- the counts of the vertices below n
unfoldable pub below : (ℕ → ℕ) → ℕ → List ℕ
below f zero = []
below f (suc n) = below f n ++ f n ∷ []

abbrev pub piece_column : Hypergraph → (ℕ → Label) → ℕ → List ℕ
piece_column H ls n = below (pieces_at H ls) n

-- of a line that lists nothing 1, of any other the capped sum of what stands for the listed vertices, each occurrence counted
unfoldable pub piece_count : (ℕ → ℕ) → List ℕ → ℕ
piece_count p [] = 1
piece_count p (v ∷ vs) = min (total p (v ∷ vs)) most_pieces

-- a labelling's chosen lines
abbrev pub edge_in : (ℕ → Label) → ℕ → ℕ
edge_in ls v = (ls v).edge.0

module _ (tail : ℕ → List ℕ) (depth edge : ℕ → ℕ) where
  -- of an unmade vertex 0, of any other that of its chosen line
  unfoldable pub piece_local : (ℕ → ℕ) → ℕ → ℕ
  piece_local p v = pick (eqb (depth v) 0) 0 (piece_count p (tail (edge v)))

-- every vertex of a list is made, and less deep than k
pub data AllUnder (depth : ℕ → ℕ) (k : ℕ) : List ℕ → Type 0 where
  empty : AllUnder depth k []
  also : {v : ℕ} {vs : List ℕ} → 0 < depth v → depth v < k → AllUnder depth k vs → AllUnder depth k (v ∷ vs)

-- the chosen line of a made vertex lists only made ones that are less deep: all that counting asks of labels
pub record Founded (tail : ℕ → List ℕ) (depth edge : ℕ → ℕ) : Type 0 where
  pub under : (v : ℕ) → 0 < depth v → AllUnder depth (depth v) (tail (edge v))
