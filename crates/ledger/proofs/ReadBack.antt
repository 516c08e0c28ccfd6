-- A record that is written as a text is read back as it is. Assumes nothing.
use mathlib.Core.Path.{◌≡◌, refl, sym, ◌∙◌, ap, ap₂, subst}
use mathlib.Core.List.{List, [], ◌∷◌, ◌++◌, append_assoc, append-nil}
use mathlib.Core.Bool.{true}
use Prim.Native.Nat.{ℕ, zero, suc, ◌+◌, ◌≤◌, ◌<◌}
use native.Mathlib.Nat.{add-zero, zero-add}
use native.Mathlib.Omega.{arith}
use lib.ListN.{length, get_or, drop, set, replicate, length-append, length-drop, length-replicate}
use lib.Seq.{drop-append_seam, drop-drop, get_or-drop, append_snoc}
use lib.Dec.{ltb}
use borrow.Author.Tests.{le-leb}
use Rattle.std.specs.Prelude.{Ok, Some}
use Rattle.weights.proofs.Choice.{both_true}
use Rattle.columns.specs.Acceptance.{all_below}
use Rattle.columns.proofs.Accepted.{below_at}
use Rattle.columns.specs.Filled.{filled}
use Rattle.columns.proofs.Filled.{filled_none, filled-set, take-filled}
use Rattle.inventory.specs.Shelf.{most_events}
use Rattle.text.specs.Render.{digits, tail_text}
use Rattle.text.specs.Machine.{digit_of}
use Rattle.cursor.specs.declared.Token.{Token}
use Rattle.cursor.specs.declared.Separator.{Separator}
use Rattle.cursor.specs.declared.Separator.TheVariants as separator
use Rattle.cursor.specs.Cursor.{token, number_at, separator_at}
use Rattle.reading.specs.Lines.{agreeing}
use Rattle.reader.proofs.Fields.{number_found}
use Rattle.ledger.specs.declared.Next.{Next}
use Rattle.ledger.specs.declared.Next.TheVariants as next
use Rattle.ledger.specs.declared.EventLine.{EventLine}
use Rattle.ledger.specs.declared.EventLine.TheVariants as line
use Rattle.ledger.specs.Record.{
  number_limit,
  most_shelf,
  stock_word,
  as_next,
  found_number,
  next_at,
  gathered,
  on_next,
  on_full,
  counts_from,
  shelf_in,
  event_at,
  listed,
  on_event,
  events_from,
  Entered,
  entered,
  read_record,
}
use Rattle.ledger.specs.Ledger.{stock_line}
use Rattle.ledger.specs.Replayed.{event_line, event_lines, record_text, Writable, ReadsBack, ReadBack}
use Rattle.ledger.proofs.Laws.{next_is, pieces_line, event_is, shelf_word, record_is}

-- Places -----------------------------------------------------------------------------------------------------------------------------------------------

-- these bytes stand from a place on
module _ (s : List ℕ) (at : ℕ) where
  byte_there : (b : ℕ) (bs : List ℕ) → drop at s ≡ b ∷ bs → get_or s at 0 ≡ b
  byte_there b bs e = ap (λ (k : ℕ). get_or s k 0) (sym (add-zero at)) ∙ sym (get_or-drop at s 0 0) ∙ ap (λ (z : List ℕ). get_or z 0 0) e

  behind : (xs ys : List ℕ) → drop at s ≡ xs ++ ys → drop (at + length xs) s ≡ ys
  behind xs ys e = sym (drop-drop (length xs) at s) ∙ ap (drop (length xs)) e ∙ drop-append_seam xs ys

  -- no byte
  nothing_there : drop at s ≡ [] → length s ≤ at
  nothing_there e = let l = length-drop at s in let k = ap length e in omega arith

  something_there : (xs : List ℕ) (b : ℕ) (bs : List ℕ) → drop at s ≡ xs ++ b ∷ bs → at < length s
  something_there xs b bs e = let l = length-drop at s in let k = ap length e in let m = length-append xs (b ∷ bs) in omega arith

  number_there : (v b : ℕ) (bs : List ℕ) → 10 ≤ digit_of b → v < number_limit → drop at s ≡ digits v ++ b ∷ bs
      → token at (at + length (digits v)) (Some v) ≡ number_at s at number_limit
  number_there v b bs h l e = sym (number_found s (b ∷ bs) at number_limit v e l h)

  space_there : (bs : List ℕ) → drop at s ≡ 32 ∷ bs → separator_at s at ≡ separator.Space (at + 1)
  unfolding separator_at
  space_there bs e = rw (byte_there 32 bs e)

  end_there : (bs : List ℕ) → drop at s ≡ 10 ∷ bs → separator_at s at ≡ separator.LineEnd (at + 1)
  unfolding separator_at
  end_there bs e = rw (byte_there 10 bs e)

  line_ends : (bs : List ℕ) → drop at s ≡ 10 ∷ bs → next_at s at ≡ next.End (at + 1)
  line_ends bs e = sym (next_is s at (separator_at s at) (separator.LineEnd (at + 1)) refl (end_there bs e))

number_behind : (s : List ℕ) (at v b : ℕ) (bs : List ℕ) → 10 ≤ digit_of b → v < number_limit → drop at s ≡ digits v ++ b ∷ bs → found_number s at ≡ next.Number v (at + length (digits v))
unfolding found_number
number_behind s at v b bs h l e = ap (λ (t : Token). as_next t.stop t.found) (sym (number_there s at v b bs h l e))

number_next : (s : List ℕ) (at v b : ℕ) (bs : List ℕ) → 10 ≤ digit_of b → v < number_limit → drop at s ≡ 32 ∷ (digits v ++ b ∷ bs) → next_at s at ≡ next.Number v (at + 1 + length (digits v))
number_next s at v b bs h l e =
    sym (next_is s at (separator_at s at) (separator.Space (at + 1)) refl (space_there s at (digits v ++ b ∷ bs) e))
    ∙ number_behind s (at + 1) v b bs h l (behind s at (32 ∷ []) (digits v ++ b ∷ bs) e)

-- The counts -------------------------------------------------------------------------------------------------------------------------------------------

-- behind a count stand a space and the next one, or LF: neither is a digit
pub record Behind (xs rest : List ℕ) : Type 0 where
  pub byte : ℕ
  pub more : List ℕ
  pub split : tail_text xs ++ 10 ∷ rest ≡ byte ∷ more
  pub other : 10 ≤ digit_of byte

stands_behind : (xs rest : List ℕ) → Behind xs rest
unfolding tail_text digit_of
stands_behind [] rest = record { byte = 10; more = rest; split = refl; other = omega arith }
stands_behind (x ∷ xs) rest = record { byte = 32; more = (digits x ++ tail_text xs) ++ 10 ∷ rest; split = refl; other = omega arith }

one_count : (x : ℕ) (xs rest : List ℕ) → tail_text (x ∷ xs) ++ 10 ∷ rest ≡ 32 ∷ (digits x ++ (tail_text xs ++ 10 ∷ rest))
unfolding tail_text
one_count x xs rest = ap (λ (z : List ℕ). 32 ∷ z) (append_assoc (digits x) (tail_text xs) (10 ∷ rest))

-- below the limit, the first and the others
head_below : (x : ℕ) (xs : List ℕ) → all_below number_limit (x ∷ xs) ≡ true → x < number_limit
head_below x xs e = below_at number_limit (x ∷ xs) e 0 (omega arith)

tail_below : (x : ℕ) (xs : List ℕ) → all_below number_limit (x ∷ xs) ≡ true → all_below number_limit xs ≡ true
unfolding all_below
tail_below x xs e = (both_true {a = ltb x number_limit} {b = all_below number_limit xs} e).1

-- the line's end behind the last count
counts_none : (left : ℕ) (s : List ℕ) (at i : ℕ) (c rest : List ℕ) → drop at s ≡ 10 ∷ rest → counts_from left s at i c ≡ gathered (Ok (i, at + 1)) c
unfolding counts_from
counts_none zero s at i c rest e = ap (λ (z : Separator). gathered (on_full at i z) c) (end_there s at rest e)
counts_none (suc left) s at i c rest e = ap (λ (z : Next). on_next z i c (λ v stop. counts_from left s stop (i + 1) (set c i v))) (line_ends s at rest e)

counts_one : (left : ℕ) (s : List ℕ) (at i : ℕ) (c : List ℕ) (v stop : ℕ) → next_at s at ≡ next.Number v stop
    → counts_from (suc left) s at i c ≡ counts_from left s stop (i + 1) (set c i v)
unfolding counts_from
counts_one left s at i c v stop e = ap (λ (z : Next). on_next z i c (λ v stop. counts_from left s stop (i + 1) (set c i v))) e

-- a list of counts, filled in behind those that are done
counts_back : (xs : List ℕ) (left : ℕ) (s : List ℕ) (at i : ℕ) (done old rest : List ℕ) → all_below number_limit xs ≡ true → length done ≡ i → length xs ≤ left → i + left ≡ length old
    → drop at s ≡ tail_text xs ++ 10 ∷ rest
    → counts_from left s at i (filled done old) ≡ gathered (Ok (i + length xs, at + length (tail_text xs) + 1)) (filled (done ++ xs) old)
unfolding tail_text
counts_back [] left s at i done old rest b d h f e =
    let p : i ≡ i + 0 = omega arith in
    let q : at + 1 ≡ at + 0 + 1 = omega arith in
    counts_none left s at i (filled done old) rest e
    ∙ ap₂ (λ (x y : ℕ). gathered (Ok (x, y)) (filled done old)) p q
    ∙ ap (λ (z : List ℕ). gathered (Ok (i + 0, at + 0 + 1)) (filled z old)) (sym (append-nil done))
counts_back (x ∷ xs) zero s at i done old rest b d h f e = absurd (omega arith)
counts_back (x ∷ xs) (suc left) s at i done old rest b d h f e =
    let w = stands_behind xs rest in
    let stop = at + 1 + length (digits x) in
    let e1 : drop at s ≡ 32 ∷ (digits x ++ (tail_text xs ++ 10 ∷ rest)) = e ∙ one_count x xs rest in
    let e2 : drop (at + 1) s ≡ digits x ++ (tail_text xs ++ 10 ∷ rest) = behind s at (32 ∷ []) (digits x ++ (tail_text xs ++ 10 ∷ rest)) e1 in
    let e3 = behind s (at + 1) (digits x) (tail_text xs ++ 10 ∷ rest) e2 in
    let n = number_next s at x w.byte w.more w.other (head_below x xs b) (e1 ∙ ap (λ (z : List ℕ). 32 ∷ (digits x ++ z)) w.split) in
    let l : length (done ++ x ∷ []) ≡ i + 1 = length-append done (x ∷ []) ∙ ap (λ (k : ℕ). k + 1) d in
    let m = length-append (32 ∷ digits x) (tail_text xs) in
    let p : i + 1 + length xs ≡ i + length (x ∷ xs) = omega arith in
    let q : stop + length (tail_text xs) + 1 ≡ at + length ((32 ∷ digits x) ++ tail_text xs) + 1 = omega arith in
    counts_one left s at i (filled done old) x stop n
    ∙ ap (λ (z : List ℕ). counts_from left s stop (i + 1) z) (filled-set done old i x d (omega arith))
    ∙ counts_back xs left s stop (i + 1) (done ++ x ∷ []) old rest (tail_below x xs b) l (omega arith) (omega arith) e3
    ∙ ap₂ (λ (y z : ℕ). gathered (Ok (y, z)) (filled ((done ++ x ∷ []) ++ xs) old)) p q
    ∙ ap (λ (z : List ℕ). gathered (Ok (i + length (x ∷ xs), at + length ((32 ∷ digits x) ++ tail_text xs) + 1)) (filled z old)) (append_snoc done x xs)

-- The events -------------------------------------------------------------------------------------------------------------------------------------------

line_split : (v k : ℕ) (rest : List ℕ) → event_line v k ++ rest ≡ digits v ++ (32 ∷ (digits k ++ 10 ∷ rest))
unfolding event_line
line_split v k rest =
    append_assoc (digits v ++ (32 ∷ digits k)) (10 ∷ []) rest ∙ append_assoc (digits v) (32 ∷ digits k) (10 ∷ rest)

-- where the line behind it starts
abbrev line_behind : (at v k : ℕ) → ℕ
line_behind at v k = at + length (digits v) + 1 + length (digits k) + 1

space_other : 10 ≤ digit_of 32
unfolding digit_of
space_other = omega arith

end_other : 10 ≤ digit_of 10
unfolding digit_of
end_other = omega arith

module _ (s : List ℕ) (at v k : ℕ) (rest : List ℕ) (bv : v < number_limit) (bk : k < number_limit) (e : drop at s ≡ event_line v k ++ rest) where
  abbrev stop : ℕ
  stop = at + length (digits v)

  part_there : drop at s ≡ digits v ++ (32 ∷ (digits k ++ 10 ∷ rest))
  part_there = e ∙ line_split v k rest

  space_next : drop stop s ≡ 32 ∷ (digits k ++ 10 ∷ rest)
  space_next = behind s at (digits v) (32 ∷ (digits k ++ 10 ∷ rest)) part_there

  pieces_there : drop (stop + 1) s ≡ digits k ++ 10 ∷ rest
  pieces_there = behind s stop (32 ∷ []) (digits k ++ 10 ∷ rest) space_next

  end_next : drop (stop + 1 + length (digits k)) s ≡ 10 ∷ rest
  end_next = behind s (stop + 1) (digits k) (10 ∷ rest) pieces_there

  rest_there : drop (line_behind at v k) s ≡ rest
  rest_there = behind s (stop + 1 + length (digits k)) (10 ∷ []) rest end_next

  event_there : event_at s at ≡ line.Event v k (line_behind at v k)
  event_there =
      let t = token at stop (Some v) in
      sym (pieces_line s v stop k (stop + 1 + length (digits k)) (next_at s stop) refl (number_next s stop k 10 rest end_other bk space_next)
      (byte_there s (stop + 1 + length (digits k)) 10 rest end_next)
      ∙ event_is s at t (Some v) (something_there s at (digits v) 32 (digits k ++ 10 ∷ rest) part_there)
      (number_there s at v 32 (digits k ++ 10 ∷ rest) space_other bv part_there) refl)

events_none : (left : ℕ) (s : List ℕ) (at i : ℕ) (vs ks : List ℕ) → length s ≤ at → events_from left s at i vs ks ≡ listed (Ok i) vs ks
unfolding events_from event_at
events_none zero s at i vs ks h = rw (le-leb (length s) at h)
events_none (suc left) s at i vs ks h = rw (le-leb (length s) at h)

events_one : (left : ℕ) (s : List ℕ) (at i : ℕ) (vs ks : List ℕ) (v k l : ℕ) → event_at s at ≡ line.Event v k l
    → events_from (suc left) s at i vs ks ≡ events_from left s l (i + 1) (set vs i v) (set ks i k)
unfolding events_from
events_one left s at i vs ks v k l e = ap (λ (z : EventLine). on_event z at i vs ks (λ v k l. events_from left s l (i + 1) (set vs i v) (set ks i k))) e

-- a list of events, filled in behind those that are done
events_back : (vs ks : List ℕ) (left : ℕ) (s : List ℕ) (at i : ℕ) (dv dk old : List ℕ) → all_below number_limit vs ≡ true → all_below number_limit ks ≡ true → length ks ≡ length vs
    → length dv ≡ i → length dk ≡ i → length vs ≤ left → i + left ≡ length old → drop at s ≡ event_lines vs ks
    → events_from left s at i (filled dv old) (filled dk old) ≡ listed (Ok (i + length vs)) (filled (dv ++ vs) old) (filled (dk ++ ks) old)
unfolding event_lines
events_back [] [] left s at i dv dk old bv bk g d f h r e =
    let p : i ≡ i + 0 = omega arith in
    events_none left s at i (filled dv old) (filled dk old) (nothing_there s at e)
    ∙ ap (λ (z : ℕ). listed (Ok z) (filled dv old) (filled dk old)) p
    ∙ ap₂ (λ (y z : List ℕ). listed (Ok (i + 0)) (filled y old) (filled z old)) (sym (append-nil dv)) (sym (append-nil dk))
events_back [] (k ∷ ks) left s at i dv dk old bv bk g d f h r e = absurd (omega arith)
events_back (v ∷ vs) [] left s at i dv dk old bv bk g d f h r e = absurd (omega arith)
events_back (v ∷ vs) (k ∷ ks) zero s at i dv dk old bv bk g d f h r e = absurd (omega arith)
events_back (v ∷ vs) (k ∷ ks) (suc left) s at i dv dk old bv bk g d f h r e =
    let hv = head_below v vs bv in
    let hk = head_below k ks bk in
    let l = line_behind at v k in
    let lv : length (dv ++ v ∷ []) ≡ i + 1 = length-append dv (v ∷ []) ∙ ap (λ (n : ℕ). n + 1) d in
    let lk : length (dk ++ k ∷ []) ≡ i + 1 = length-append dk (k ∷ []) ∙ ap (λ (n : ℕ). n + 1) f in
    let p : i + 1 + length vs ≡ i + length (v ∷ vs) = omega arith in
    events_one left s at i (filled dv old) (filled dk old) v k l (event_there s at v k (event_lines vs ks) hv hk e)
    ∙ ap₂ (λ (y z : List ℕ). events_from left s l (i + 1) y z) (filled-set dv old i v d (omega arith)) (filled-set dk old i k f (omega arith))
    ∙ events_back vs ks left s l (i + 1) (dv ++ v ∷ []) (dk ++ k ∷ []) old (tail_below v vs bv) (tail_below k ks bk) (omega arith) lv lk (omega arith) (omega arith)
    (rest_there s at v k (event_lines vs ks) hv hk e)
    ∙ ap (λ (z : ℕ). listed (Ok z) (filled ((dv ++ v ∷ []) ++ vs) old) (filled ((dk ++ k ∷ []) ++ ks) old)) p
    ∙ ap₂ (λ (y z : List ℕ). listed (Ok (i + length (v ∷ vs))) (filled y old) (filled z old)) (append_snoc dv v vs) (append_snoc dk k ks)

-- The record -------------------------------------------------------------------------------------------------------------------------------------------

word_there : (xs : List ℕ) → agreeing stock_word (stock_word ++ xs) ≡ 5
unfolding agreeing
word_there xs = refl

text_split : (shelf vs ks : List ℕ) → record_text shelf vs ks ≡ stock_word ++ (tail_text shelf ++ 10 ∷ event_lines vs ks)
unfolding record_text stock_line
text_split shelf vs ks = ap (λ (z : List ℕ). stock_word ++ z) (append_assoc (tail_text shelf) (10 ∷ []) (event_lines vs ks))

module _ (shelf vs ks : List ℕ) (w : Writable shelf vs ks) (zs ys : List ℕ) (lz : length zs ≡ most_shelf) (ly : length ys ≡ most_events) where
  abbrev text : List ℕ
  text = stock_word ++ (tail_text shelf ++ 10 ∷ event_lines vs ks)

  abbrev first_event : ℕ
  first_event = 5 + length (tail_text shelf) + 1

  shelf_back : gathered (Ok (0 + length shelf, first_event)) (filled shelf zs) ≡ shelf_in text zs
  shelf_back =
      sym (counts_back shelf (length zs) text 5 0 [] zs (event_lines vs ks) w.counts_below refl (let h = w.counts in omega arith) (omega arith) refl)
      ∙ ap (λ (z : List ℕ). counts_from (length zs) text 5 0 z) (sym (filled_none zs))
      ∙ shelf_word text zs (word_there (tail_text shelf ++ 10 ∷ event_lines vs ks))

  events_start : drop first_event text ≡ event_lines vs ks
  events_start = behind text (5 + length (tail_text shelf)) (10 ∷ []) (event_lines vs ks) (behind text 5 (tail_text shelf) (10 ∷ event_lines vs ks) refl)

  events_listed : listed (Ok (0 + length vs)) (filled vs ys) (filled ks ys) ≡ events_from (length ys) text first_event 0 ys ys
  events_listed =
      sym (events_back vs ks (length ys) text first_event 0 [] [] ys w.parts_below w.pieces_below w.level refl refl (let h = w.events in omega arith) (omega arith) events_start)
      ∙ ap₂ (λ (y z : List ℕ). events_from (length ys) text first_event 0 y z) (sym (filled_none ys)) (sym (filled_none ys))

  pub record_back : entered (Ok (length shelf, length vs)) (filled shelf zs) (filled vs ys) (filled ks ys) ≡ read_record (record_text shelf vs ks) zs ys ys
  record_back =
      ap₂ (λ (x y : ℕ). entered (Ok (x, y)) (filled shelf zs) (filled vs ys) (filled ks ys)) (sym (zero-add (length shelf))) (sym (zero-add (length vs)))
      ∙ record_is text zs ys ys _ (filled shelf zs) shelf_back (0 + length shelf) first_event _ (filled vs ys) (filled ks ys) refl events_listed (Ok (0 + length vs)) refl
      ∙ ap (λ (z : List ℕ). read_record z zs ys ys) (sym (text_split shelf vs ks))

pub read_back : (shelf vs ks : List ℕ) → Writable shelf vs ks → ReadBack shelf vs ks
read_back shelf vs ks w =
    let zs : List ℕ = replicate most_shelf 0 in
    let ys : List ℕ = replicate most_events 0 in
    let q = record_back shelf vs ks w zs ys (length-replicate {A = ℕ} most_shelf 0) (length-replicate {A = ℕ} most_events 0) in
    subst (λ (x : Entered). ReadsBack shelf vs ks x) q
    (record {
      result = refl;
      counts = take-filled shelf zs (length shelf) refl;
      parts = take-filled vs ys (length vs) refl;
      received = take-filled ks ys (length vs) w.level;
    })
