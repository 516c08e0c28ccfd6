-- The laws of the definitions of specs/ by which the loops go. Assumes nothing.
use mathlib.Core.Path.{◌≡◌, refl, sym, ◌∙◌, ap, ap₂, subst}
use mathlib.Core.List.{List, [], ◌∷◌, ◌++◌}
use Prim.Native.Nat.{ℕ, zero, suc, ◌+◌, ◌-◌, ◌*◌, ◌^◌, ◌≤◌, ◌<◌, min, max}
use native.Mathlib.Numerals.{add-one}
use native.Mathlib.Nat.{sub-zero}
use native.Mathlib.Omega.{arith}
use lib.ListN.{length, get_or, drop, set, drop_of_length-le, length-append, length-set}
use lib.Seq.{drop-cons}
use borrow.Author.Tests.{lt-ltb, le-ltb, eq-eqb, ne_eqb}
use Rattle.weights.specs.declared.Measure.{Measure}
use Rattle.weights.specs.declared.Measure.TheVariants.{Cost, Days, Grade}
use Rattle.weights.specs.declared.Vertex.{Vertex}
use Rattle.weights.specs.declared.Weight.{Weight}
use Rattle.weights.specs.declared.Mark.{Mark}
use Rattle.refusal.specs.declared.Refusal.{Refusal}
use Rattle.refusal.specs.declared.Refusal.TheVariants.{Text}
use Rattle.columns.specs.Acceptance.{most_vertices, most_edges, most_listed, longest_tail}
use Rattle.text.specs.Machine.{Parse, Whole, begin, parse}
use Rattle.text.specs.Render.{first_word}
use Rattle.columns.specs.Filled.{filled}
use Rattle.columns.proofs.Filled.{filled_none, filled-set}
use Rattle.cursor.specs.declared.Token.{Token}
use Rattle.cursor.specs.Cursor.{token, number_at, weight_at}
use Rattle.reading.specs.declared.FirstLine.{FirstLine}
use Rattle.reading.specs.declared.Stem.{Stem}
use Rattle.reading.specs.declared.Line.{Line}
use Rattle.reading.specs.declared.Tail.{Tail}
use Rattle.reading.specs.Lines.{
  agreeing,
  on_named,
  on_count,
  on_counted,
  Opening,
  Opens,
  Unopened,
  first_line,
  first_of,
  refused_at,
  InLine,
  Stalk,
  Bears,
  Bare,
  stem_of,
  on_owned,
  on_head,
  on_headed,
  stem_at,
  Listing,
  Ends,
  Breaks,
  list_end,
  on_listed,
  listed_from,
  vertices,
  tail_of,
  ReadsTail,
  Row,
  Fails,
  on_listing,
  on_stem,
  row_at,
  stored,
  line_of,
  ReadsLine,
  scan,
  reading_of,
}
use Rattle.reading.proofs.Scanned.{FirstRuns, first_run, scan_is_parse, Refuses, stopped}
use Rattle.reading.proofs.Scanning.{row_counts, tells, faulty, Scanning, scan_end, full_fate, fails_fate, scan-next}
use Rattle.std.specs.Prelude.{Result, Ok, Err, Some, None}

-- of a word and a text from place i on: a byte that is the same, one that is not, the text's end, the word's end
module _ (w s : List ℕ) (i : ℕ) where
  pub agree_more : i < length w → i < length s → get_or s i 0 ≡ get_or w i 0 → i + 1 + agreeing (drop (i + 1) w) (drop (i + 1) s) ≡ i + agreeing (drop i w) (drop i s)
  unfolding agreeing
  agree_more h l e = rw (add-one i, drop-cons w i 0 h, drop-cons s i 0 l, eq-eqb _ _ e) (omega arith)

  pub agree_stop : i < length w → i < length s → (get_or s i 0 ≡ get_or w i 0 → ⊥) → i ≡ i + agreeing (drop i w) (drop i s)
  unfolding agreeing
  agree_stop h l n = rw (drop-cons w i 0 h, drop-cons s i 0 l, ne_eqb _ _ n) (omega arith)

  pub agree_short : i < length w → length s ≤ i → i ≡ i + agreeing (drop i w) (drop i s)
  unfolding agreeing
  agree_short h l = rw (drop-cons w i 0 h, drop_of_length-le s l) (omega arith)

  pub agree_end : length w ≤ i → i ≡ i + agreeing (drop i w) (drop i s)
  unfolding agreeing
  agree_end h = rw (drop_of_length-le w h) (omega arith)

pub ruleset agree_steps = (agree_more, agree_stop, agree_short, agree_end)

-- a place of a text that is not before a line's start, or the start itself, is in the line
pub in_line : (s : List ℕ) (start place : ℕ) → length s * 1 < 2 ^ 63 → start ≤ place → place ≤ max start (length s) → InLine start place
in_line s start place g h l = record { behind_start = h; near = omega arith }

-- behind a head: no space, and a space before an own figure
module _ (s : List ℕ) (start stop h : ℕ) (T : Token) (e : T ≡ token start stop (Some h)) where
  pub stem_none : (get_or s stop 0 ≡ 32 → ⊥) → Bare stop ≡ on_headed s T
  stem_none n = (let q : Bare stop ≡ on_head s stop (Some h) = rw (ne_eqb _ _ n) in q) ∙ sym (ap (on_headed s) e)

  pub stem_own : get_or s stop 0 ≡ 32 → on_owned h (weight_at s (stop + 1)) ≡ on_headed s T
  stem_own q = (let z : on_owned h (weight_at s (stop + 1)) ≡ on_head s stop (Some h) = rw (eq-eqb _ _ q) in z) ∙ sym (ap (on_headed s) e)

-- of a list, behind the parts xs: no room for one more, none that is a number, one more, and its end
module _ (s : List ℕ) (n at : ℕ) (xs : List ℕ) where
  listing_full : (left : ℕ) → left ≡ 0 → get_or s at 0 ≡ 32 → listed_from left s n at xs ≡ Breaks xs at
  unfolding listed_from
  listing_full left z e = rw (z, eq-eqb _ _ e)

  listing_none : (left start stop : ℕ) → 0 < left → get_or s at 0 ≡ 32 → number_at s (at + 1) n ≡ token start stop None → listed_from left s n at xs ≡ Breaks xs stop
  unfolding listed_from
  listing_none zero start stop h e q = absurd (omega arith)
  listing_none (suc left) start stop h e q =
      rw (eq-eqb _ _ e) (ap (λ (T : Token). on_listed xs T (λ ys next. listed_from left s n next ys)) q)

  listing_more : (left start stop v : ℕ) → 0 < left → get_or s at 0 ≡ 32 → number_at s (at + 1) n ≡ token start stop (Some v)
      → listed_from left s n at xs ≡ listed_from (left - 1) s n stop (xs ++ v ∷ [])
  unfolding listed_from
  listing_more zero start stop v h e q = absurd (omega arith)
  listing_more (suc left) start stop v h e q =
      let z : suc left - 1 ≡ left = omega arith in
      rw (eq-eqb _ _ e) (ap (λ (T : Token). on_listed xs T (λ ys next. listed_from left s n next ys)) q ∙ ap (λ (k : ℕ). listed_from k s n stop (xs ++ v ∷ [])) (sym z))

  listing_end : (left : ℕ) → (get_or s at 0 ≡ 32 → ⊥) → listed_from left s n at xs ≡ list_end s at xs
  unfolding listed_from
  listing_end zero e = rw (ne_eqb _ _ e)
  listing_end (suc left) e = rw (ne_eqb _ _ e)

-- k parts are listed and stored, and what follows has the answer of the whole
pub record Listed (s : List ℕ) (n most at : ℕ) (room₀ room : List ℕ) (k next : ℕ) : Type 0 where
  pub so_far : List ℕ
  pub count : length so_far ≡ k
  pub few : k ≤ min most (length room₀)
  pub same : listed_from (min most (length room₀) - k) s n next so_far ≡ listed_from (min most (length room₀)) s n at []
  pub room_is : room ≡ filled so_far room₀
  pub long : length room ≡ length room₀

pub listed_none : (s : List ℕ) (n most at : ℕ) (room : List ℕ) → Listed s n most at room room 0 at
listed_none s n most at room = record { so_far = []; count = refl; few = omega arith; same = rw sub-zero; room_is = filled_none room; long = refl }

module _ (s : List ℕ) (n most at : ℕ) (room₀ room : List ℕ) (k next : ℕ) (l : Listed s n most at room₀ room k next) where
  abbrev all : ℕ
  all = min most (length room₀)

  pub list_more : (start behind v : ℕ) → get_or s next 0 ≡ 32 → k < all → number_at s (next + 1) n ≡ token start behind (Some v) → Listed s n most at room₀ (set room k v) (k + 1) behind
  list_more start behind v e h q =
      let z : all - k - 1 ≡ all - (k + 1) = omega arith in
      record {
        so_far = l.so_far ++ v ∷ [];
        count = length-append l.so_far (v ∷ []) ∙ ap (λ (j : ℕ). j + 1) l.count;
        few = omega arith;
        same = ap (λ (j : ℕ). listed_from j s n behind (l.so_far ++ v ∷ [])) (sym z) ∙ sym (listing_more s n next l.so_far (all - k) start behind v (omega arith) e q) ∙ l.same;
        room_is = ap (λ (r : List ℕ). set r k v) l.room_is ∙ filled-set l.so_far room₀ k v l.count (omega arith);
        long = length-set room k v ∙ l.long;
      }

  -- the answer, in the text line ln that begins at st
  module _ (ln st : ℕ) where
    -- the list is at its end, or at a fault
    closes : (L : Listing) → listed_from (all - k) s n next l.so_far ≡ L → vertices L ≡ l.so_far → ReadsTail ln st (listed_from all s n at []) room₀ (tail_of ln st L) room
    closes L e v =
        let q : L ≡ listed_from all s n at [] = sym e ∙ l.same in
        record { answer = ap (tail_of ln st) q; room = l.room_is ∙ ap (λ (z : List ℕ). filled z room₀) (sym v ∙ ap vertices q) }

    pub list_full : get_or s next 0 ≡ 32 → all ≤ k → ReadsTail ln st (listed_from all s n at []) room₀ (Err (refused_at ln st next)) room
    list_full e h = closes (Breaks l.so_far next) (listing_full s n next l.so_far (all - k) (omega arith) e) refl

    pub list_none : (start stop : ℕ) → get_or s next 0 ≡ 32 → k < all → number_at s (next + 1) n ≡ token start stop None
        → ReadsTail ln st (listed_from all s n at []) room₀ (Err (refused_at ln st stop)) room
    list_none start stop e h q = closes (Breaks l.so_far stop) (listing_none s n next l.so_far (all - k) start stop (omega arith) e q) refl

    pub list_broken : (get_or s next 0 ≡ 32 → ⊥) → (get_or s next 0 ≡ 10 → ⊥) → ReadsTail ln st (listed_from all s n at []) room₀ (Err (refused_at ln st next)) room
    list_broken e f = closes (Breaks l.so_far next) (listing_end s n next l.so_far (all - k) e ∙ rw (ne_eqb _ _ f)) refl

    pub list_ends : (get_or s next 0 ≡ 32 → ⊥) → get_or s next 0 ≡ 10 → ReadsTail ln st (listed_from all s n at []) room₀ (Ok (record { listed = k; next = next + 1 })) room
    list_ends e f =
        let r = closes (Ends l.so_far (next + 1)) (listing_end s n next l.so_far (all - k) e ∙ rw (eq-eqb _ _ f)) refl in
        record { answer = ap (λ (z : ℕ). Ok (record { listed = z; next = next + 1 })) (sym l.count) ∙ r.answer; room = r.room }

-- The first line: its first_word, the number of parts, and what stands behind it
module _ (s : List ℕ) where
  pub first_unopened : agreeing first_word s < 6 → Unopened (agreeing first_word s) ≡ first_line s
  unfolding first_line first_word
  first_unopened h = rw (lt-ltb _ _ h)

  pub first_opened : 6 ≤ agreeing first_word s → on_counted s (number_at s 6 (most_vertices + 1)) ≡ first_line s
  unfolding first_line first_word
  first_opened h = rw (le-ltb _ _ h)

  module _ (start stop n : ℕ) (T : Token) (e : T ≡ token start stop (Some n)) where
    counted : {F : Opening} → F ≡ on_count s stop (Some n) → F ≡ on_counted s T
    counted q = q ∙ sym (ap (on_counted s) e)

    pub count_silent : get_or s stop 0 ≡ 10 → Opens n Days (stop + 1) ≡ on_counted s T
    count_silent q = counted (rw (eq-eqb _ _ q))

    module _ (q : get_or s stop 0 ≡ 10 → ⊥) where
      -- a byte that begins no word
      pub count_unspaced : (get_or s stop 0 ≡ 32 → ⊥) → Unopened stop ≡ on_counted s T
      count_unspaced w = counted (rw (ne_eqb _ _ q, ne_eqb _ _ w))

      -- the letter behind the space decides the word
      module _ (w : get_or s stop 0 ≡ 32) where
        pub count_cost : get_or s (stop + 1) 0 ≡ 99 → on_named s n Cost stop ≡ on_counted s T
        count_cost l = counted (rw (ne_eqb _ _ q, eq-eqb _ _ w, eq-eqb _ _ l))

        pub count_grade : (get_or s (stop + 1) 0 ≡ 99 → ⊥) → on_named s n Grade stop ≡ on_counted s T
        count_grade l = counted (rw (ne_eqb _ _ q, eq-eqb _ _ w, ne_eqb _ _ l))

-- what an answer says of the places: a stem that is refused, and one that is read; a first line likewise
unstemmed : (l start : ℕ) (S : Stalk) (r : Refusal) → Err r ≡ stem_of l start S → (place : ℕ) × (S ≡ Bare place) × (r ≡ refused_at l start place)
unstemmed l start (Bears h o k next) r e = absurd (let z : ◌≡◌ {A = ℕ} 0 1 = cc in omega arith)
unstemmed l start (Bare place) r e = (place, refl, cc)

pub stemmed : (l start : ℕ) (S : Stalk) (x : Stem) → Ok x ≡ stem_of l start S → S ≡ Bears x.head x.own x.mark x.next
stemmed l start (Bears h o k next) x e = let q : x ≡ record { head = h; own = o; mark = k; next = next } = cc in sym (ap (λ (y : Stem). Bears y.head y.own y.mark y.next) q)
stemmed l start (Bare place) x e = absurd (let z : ◌≡◌ {A = ℕ} 0 1 = cc in omega arith)

pub opened : (F : Opening) (x : FirstLine) → Ok x ≡ first_of F → F ≡ Opens x.vertices x.measure x.next
opened (Opens n m start) x e = let q : x ≡ record { vertices = n; measure = m; next = start } = cc in sym (ap (λ (y : FirstLine). Opens y.vertices y.measure y.next) q)
opened (Unopened place) x e = absurd (let z : ◌≡◌ {A = ℕ} 0 1 = cc in omega arith)

pub unopened : (F : Opening) (r : Refusal) → Err r ≡ first_of F → (place : ℕ) × (F ≡ Unopened place) × (r ≡ refused_at 1 0 place)
unopened (Opens n m start) r e = absurd (let z : ◌≡◌ {A = ℕ} 0 1 = cc in omega arith)
unopened (Unopened place) r e = (place, refl, cc)

-- A line: no stem, and a stem before a list
pub line_unstemmed : (l : ℕ) (s : List ℕ) (n most at : ℕ) (r : Refusal) (room : List ℕ) → Err r ≡ stem_of l at (stem_at s n at)
    → ReadsLine l at (row_at s n most at) room (Err r) room
unfolding row_at
line_unstemmed l s n most at r room e =
    let f = unstemmed l at (stem_at s n at) r e in
    let q : row_at s n most at ≡ Fails [] f.0 = ap (on_stem s n most) f.1 in
    record { answer = ap Err f.2 ∙ ap (line_of l at) (sym q); room = filled_none room ∙ ap (λ (R : Row). filled (stored R) room) (sym q) }

-- a line of this head, own figure and mark, by its listed parts
abbrev line_with : Vertex → Weight → Mark → Result Tail Refusal → Result Line Refusal
line_with h o b (Ok t) = Ok (record { head = h; own = o; mark = b; listed = t.listed; next = t.next })
line_with h o b (Err r) = Err r

line-listed : (ln : ℕ) (s : List ℕ) (n most at : ℕ) (h : Vertex) (o : Weight) (b : Mark) (from : ℕ) (old new : List ℕ) (r : Result Tail Refusal) → stem_at s n at ≡ Bears h o b from
    → ReadsTail ln at (listed_from most s n from []) old r new
    → ReadsLine ln at (row_at s n most at) old (line_with h o b r) new
unfolding row_at
line-listed ln s n most at h o b from old new r e g =
    let q : row_at s n most at ≡ on_listing h o b (listed_from most s n from []) = ap (on_stem s n most) e in
    let L = listed_from most s n from [] in
    record {
      answer = ap (line_with h o b) g.answer ∙ lined L ∙ ap (line_of ln at) (sym q);
      room = g.room ∙ ap (λ (z : List ℕ). filled z old) (listed L) ∙ ap (λ (R : Row). filled (stored R) old) (sym q);
    }
  where
    lined : (L : Listing) → line_with h o b (tail_of ln at L) ≡ line_of ln at (on_listing h o b L)
    lined (Ends xs next) = refl
    lined (Breaks xs place) = refl

    listed : (L : Listing) → vertices L ≡ stored (on_listing h o b L)
    listed (Ends xs next) = refl
    listed (Breaks xs place) = refl

pub line_untailed : (ln : ℕ) (s : List ℕ) (n most at : ℕ) (h : Vertex) (o : Weight) (b : Mark) (from : ℕ) (old new : List ℕ) (r : Result Tail Refusal) (x : Refusal)
    → stem_at s n at ≡ Bears h o b from
    → ReadsTail ln at (listed_from most s n from []) old r new
    → r ≡ Err x
    → ReadsLine ln at (row_at s n most at) old (Err x) new
line_untailed ln s n most at h o b from old new r x e g q =
    subst (λ (t : Result Tail Refusal). ReadsLine ln at (row_at s n most at) old (line_with h o b t) new) q (line-listed ln s n most at h o b from old new r e g)

pub line_tailed : (ln : ℕ) (s : List ℕ) (n most at : ℕ) (h : Vertex) (o : Weight) (b : Mark) (from : ℕ) (old new : List ℕ) (r : Result Tail Refusal) (x : Tail)
    → stem_at s n at ≡ Bears h o b from
    → ReadsTail ln at (listed_from most s n from []) old r new
    → r ≡ Ok x
    → ReadsLine ln at (row_at s n most at) old (Ok (record { head = h; own = o; mark = b; listed = x.listed; next = x.next })) new
line_tailed ln s n most at h o b from old new r x e g q =
    subst (λ (t : Result Tail Refusal). ReadsLine ln at (row_at s n most at) old (line_with h o b t) new) q (line-listed ln s n most at h o b from old new r e g)

-- The whole text: what `scan` gives is told of it, and where it is stopped
pub told : (s : List ℕ) (P : Parse) → scan s ≡ P → reading_of s P ≡ reading_of s (parse s)
told s P e = ap (reading_of s) (sym e ∙ scan_is_parse s)

pub refused_there : (s : List ℕ) (l k a : ℕ) → Refuses s l k a → Err (refused_at l a k) ≡ reading_of s (parse s)
refused_there s l k a r = ap (λ (c : ℕ). Err (Text (record { 0 = l }) (record { 0 = c }))) r.column ∙ ap (reading_of s) (sym r.wrong)

-- no first line: its line starts with the text
pub first_refused : (s : List ℕ) (r : Refusal) → Err r ≡ first_of (first_line s) → Err r ≡ reading_of s (parse s)
first_refused s r e =
    let f = unopened (first_line s) r e in
    ap Err f.2 ∙ refused_there s 1 f.0 0 (stopped s 1 f.0 0 (subst (FirstRuns s begin 0) f.1 (first_run s)))

module _ (s : List ℕ) (n : ℕ) (m : Measure) (at edges listed : ℕ) (g : Scanning s n m at edges listed) where
  pub all_told : length s ≤ at → Ok (record { vertices = n; measure = m; edges = edges; listed = listed }) ≡ reading_of s (parse s)
  all_told h =
      ap₂ (λ (a : ℕ) (b : Measure). Ok (record { vertices = a; measure = b; edges = edges; listed = listed })) (sym g.vertices) (sym g.measure)
      ∙ ap₂ (λ (a b : ℕ). Ok (record { vertices = g.so_far.vertices; measure = g.so_far.measure; edges = a; listed = b })) (sym g.counted) (sym g.summed)
      ∙ told s (Whole g.so_far) (scan_end s n m at edges listed g h)

  -- a line too many: its first byte
  pub full_refused : at < length s → most_edges ≤ edges → Err (Text (record { 0 = edges + 2 }) (record { 0 = 1 })) ≡ reading_of s (parse s)
  full_refused h l =
      let q : 1 ≡ at - at + 1 = omega arith in
      ap (λ (c : ℕ). Err (Text (record { 0 = edges + 2 }) (record { 0 = c }))) q ∙ refused_there s (edges + 2) at at (stopped s (edges + 2) at at (full_fate s n m at edges listed g h l))

  -- the answer of reading a line into a room of 16 places
  module _ (h : at < length s) (l : edges < most_edges) (size : ℕ) (z : size ≡ longest_tail) (ln : ℕ) (r : Result Line Refusal)
      (a : r ≡ line_of ln at (row_at s n (min (most_listed - listed) size) at)) where
    sized : row_at s n (min (most_listed - listed) longest_tail) at ≡ row_at s n (min (most_listed - listed) size) at
    sized = ap (λ (k : ℕ). row_at s n (min (most_listed - listed) k) at) (sym z)

    pub line_refused : (x : Refusal) → r ≡ Err x → (place : ℕ) × (x ≡ refused_at ln at place) × Refuses s (edges + 2) place at
    line_refused x q =
        let f = faulty ln at (row_at s n (min (most_listed - listed) size) at) x (sym q ∙ a) in
        (f.place, f.refusal, stopped s (edges + 2) f.place at (fails_fate s n m at edges listed g h l _ sized f.before f.place f.row))

    pub line-next : (y : Line) → r ≡ Ok y → (at < y.next) × (y.listed ≤ most_listed - listed) × Scanning s n m y.next (edges + 1) (listed + y.listed)
    line-next y q =
        let f = tells ln at (row_at s n (min (most_listed - listed) size) at) y (sym q ∙ a) in
        let b = row_counts s n (min (most_listed - listed) size) at f.edge_is y.next f.row in
        let d = b.0 in
        let e = f.count in
        (b.1, omega arith, subst (λ (k : ℕ). Scanning s n m y.next (edges + 1) (listed + k)) (sym e) (scan-next s n m at edges listed g h l _ sized f.edge_is y.next f.row))
