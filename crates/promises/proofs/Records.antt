-- A text that is not a record's is refused where it leaves the form. Assumes nothing.
use Prim.Native.Nat.{ℕ, zero, suc, ◌+◌, ◌-◌, ◌≤◌, ◌<◌}
use mathlib.Core.Path.{◌≡◌, refl, sym, ◌∙◌, ap, subst}
use mathlib.Core.Bool.{true, false}
use mathlib.Core.Logic.{◌⊎◌, inl, inr}
use mathlib.Core.List.{List, [], ◌∷◌, ◌++◌, append_assoc}
use native.Mathlib.Omega.{arith}
use lib.ListN.{length, get_or, set, drop, replicate, length-replicate, drop_of_length-le}
use lib.Dec.{eqb, ltb, leb}
use borrow.Author.Tests.{lt-ltb, le-ltb, ltb-true, leb-true, leb-false, eqb-true, eq-eqb, ne_eqb}
use Rattle.refusal.specs.declared.Refusal.{Refusal}
use Rattle.std.specs.Prelude.{Result, Ok, Err, Option, Some, None}
use Rattle.weights.specs.declared.Measure.{Measure}
use Rattle.weights.specs.Choice.{pick}
use Rattle.weights.proofs.Choice.{apart, both_true}
use Rattle.refusal.specs.declared.Refusal.TheVariants.{Text}
use Rattle.columns.specs.Columns.{Entries, Columns}
use Rattle.columns.specs.Acceptance.{all_below}
use Rattle.inventory.specs.Shelf.{most_events}
use Rattle.text.specs.Render.{digits, tail_text}
use Rattle.text.specs.Machine.{digit_of}
use Rattle.text.proofs.Digits.{pick_by}
use Rattle.cursor.specs.declared.Separator.{Separator}
use Rattle.cursor.specs.declared.Separator.TheVariants as separator
use Rattle.cursor.specs.Cursor.{number_at, separator_at}
use Rattle.reading.specs.Lines.{agreeing}
use Rattle.reader.proofs.Fields.{Stops}
use Rattle.report.specs.Report.{most_input}
use Rattle.reply.specs.Reply.{second_refused}
use Rattle.ledger.specs.declared.Next.{Next}
use Rattle.ledger.specs.declared.Next.TheVariants as next
use Rattle.ledger.specs.declared.EventLine.{EventLine}
use Rattle.ledger.specs.declared.EventLine.TheVariants as line
use Rattle.ledger.specs.Record.{
  number_limit,
  most_shelf,
  stock_word,
  as_next,
  found_number,
  on_separator,
  next_at,
  Gathered,
  on_next,
  on_full,
  counts_from,
  shelf_in,
  on_pieces,
  pieces_at,
  on_part,
  event_at,
  Listed,
  on_event,
  events_from,
  with_counts,
  on_counts,
  read_record,
}
use Rattle.ledger.specs.Ledger.{stock_line, on_read, replay_said}
use Rattle.ledger.specs.Replayed.{event_line, event_lines, record_text}
use Rattle.ledger.specs.Permitted.{PermittedRecord}
use Rattle.promises.specs.FirstBytes.{BeginsOf, FirstByteOf}
use Rattle.promises.proofs.Commands.{one_number, starts}
use Rattle.promises.proofs.FirstBytes.{
  Fails,
  first_of,
  from_column,
  to_column,
  Passes,
  join,
  up_to,
  byte_first,
  byte_here,
  stuck_at,
  stuck,
  step_plain,
  byte_passes,
  mapped,
  EndOr,
  not_empty,
  in_line,
  Then,
  then_more,
  then_less,
  then_first,
  then_stops,
  then_stuck,
  line_passes,
  line_stuck,
  line_stops,
  begins_then,
  NumberThen,
  ToldAt,
  begins_number,
  number_told_at,
}

-- The form --------------------------------------------------------------------------------------------------------------------------------------------

abbrev Pieces : (List ℕ → Type 0) → ℕ → List ℕ → Type 0
Pieces R k = Then 10 R

abbrev Part : (List ℕ → Type 0) → ℕ → List ℕ → Type 0
Part R v = Then 32 (NumberThen number_limit (Pieces R))

-- at most `left` more events
unfoldable EventForm : ℕ → List ℕ → Type 0
EventForm zero x = x ≡ []
EventForm (suc left) x = EndOr (NumberThen number_limit (Part (EventForm left))) x

-- a space and A, or an LF and B
abbrev Either : (A B : List ℕ → Type 0) → List ℕ → Type 0
Either A B x = Then 32 A x ⊎ Then 10 B x

-- at most `left` more counts, then the events
unfoldable ShelfForm : ℕ → List ℕ → Type 0
ShelfForm zero x = Then 10 (EventForm most_events) x
ShelfForm (suc left) x = Either (NumberThen number_limit (λ _. ShelfForm left)) (EventForm most_events) x

-- a word, then K
abbrev Word : List ℕ → (List ℕ → Type 0) → List ℕ → Type 0
Word [] K x = K x
Word (w ∷ ws) K x = Then w (Word ws K) x

abbrev RecordForm : List ℕ → Type 0
RecordForm = Word stock_word (ShelfForm most_shelf)

-- each can be finished
events_end : (left : ℕ) → BeginsOf (EventForm left) []
unfolding EventForm
events_end zero = record { rest = []; whole = refl }
events_end (suc left) = record { rest = []; whole = inl refl }

shelf_end : (left : ℕ) → BeginsOf (ShelfForm left) []
unfolding ShelfForm
shelf_end zero = begins_then 10 (EventForm most_events) (events_end most_events)
shelf_end (suc left) = let B = begins_then 10 (EventForm most_events) (events_end most_events) in record { rest = B.rest; whole = inr B.whole }

space_other : 10 ≤ digit_of 32
unfolding digit_of
space_other = omega arith

shelf_stops : (left : ℕ) (x : List ℕ) → ShelfForm left x → Stops x
unfolding ShelfForm
shelf_stops zero x h = line_stops (EventForm most_events) x h
shelf_stops (suc left) x (inl h) = then_stops 32 (NumberThen number_limit (λ _. ShelfForm left)) space_other x h
shelf_stops (suc left) x (inr h) = line_stops (EventForm most_events) x h

module _ (R : List ℕ → Type 0) (B : BeginsOf R []) where
  pieces_stops : (k : ℕ) (x : List ℕ) → Pieces R k x → Stops x
  pieces_stops k = line_stops R

  pieces_ends : (k : ℕ) → BeginsOf (Pieces R k) []
  pieces_ends k = begins_then 10 R B

  pieces_begin : BeginsOf (NumberThen number_limit (Pieces R)) []
  pieces_begin = begins_number number_limit (omega arith) (Pieces R) pieces_stops pieces_ends

  part_stops : (v : ℕ) (x : List ℕ) → Part R v x → Stops x
  part_stops v = then_stops 32 (NumberThen number_limit (Pieces R)) space_other

  part_ends : (v : ℕ) → BeginsOf (Part R v) []
  part_ends v = begins_then 32 (NumberThen number_limit (Pieces R)) pieces_begin

-- A separator -----------------------------------------------------------------------------------------------------------------------------------------

abbrev SeparatorTold : (s : List ℕ) → ℕ → Separator → Type 0
SeparatorTold s at (separator.Space i) = (i ≡ at + 1) × (drop at s ≡ 32 ∷ drop (at + 1) s) × (eqb (get_or s at 0) 10 ≡ false)
SeparatorTold s at (separator.LineEnd i) = (i ≡ at + 1) × (eqb (get_or s at 0) 10 ≡ true) × (eqb (get_or s at 0) 32 ≡ false)
SeparatorTold s at separator.Neither = (eqb (get_or s at 0) 32 ≡ false) × (eqb (get_or s at 0) 10 ≡ false)

separator_told : (s : List ℕ) (at : ℕ) → SeparatorTold s at (separator_at s at)
unfolding separator_at
separator_told s at =
    pick_by (SeparatorTold s at) (eqb (get_or s at 0) 32)
    (λ e. let b = eqb-true (get_or s at 0) 32 e in (refl, byte_here s at 32 b (omega arith), ne_eqb (get_or s at 0) 10 (λ q. omega arith)))
    (λ e. pick_by (SeparatorTold s at) (eqb (get_or s at 0) 10) (λ f. (refl, f, e)) (λ f. (e, f)))

other_byte : (s : List ℕ) (at b : ℕ) → eqb (get_or s at 0) b ≡ false → ¬ (get_or (drop at s) 0 0 ≡ b)
other_byte s at b e q = apart (sym e ∙ eq-eqb (get_or s at 0) b (sym (byte_first s at) ∙ q))

space_passes : (R : List ℕ → Type 0) (s : List ℕ) (at : ℕ) → drop at s ≡ 32 ∷ drop (at + 1) s → (l c : ℕ) → Passes (Then 32 R) R s at (at + 1) l c l (suc c)
space_passes R s at e = byte_passes (Then 32 R) R 32 s at e (then_more 32 R) (then_less 32 R)

-- the first byte tells which of two forms it is
module _ (A B : List ℕ → Type 0) (s : List ℕ) (at : ℕ) where
  less_left : (x : List ℕ) → Either A B (32 ∷ x) → A x
  less_left x (inl t) = then_less 32 A x t
  less_left x (inr t) = let q : ◌≡◌ {A = ℕ} 32 10 = then_first 10 B (32 ∷ x) t in absurd (omega arith)

  less_right : (x : List ℕ) → Either A B (10 ∷ x) → B x
  less_right x (inl t) = let q : ◌≡◌ {A = ℕ} 10 32 = then_first 32 A (10 ∷ x) t in absurd (omega arith)
  less_right x (inr t) = then_less 10 B x t

  left_passes : drop at s ≡ 32 ∷ drop (at + 1) s → (l c : ℕ) → Passes (Either A B) A s at (at + 1) l c l (suc c)
  left_passes e = byte_passes (Either A B) A 32 s at e (λ z k. inl (then_more 32 A z k)) less_left

  right_passes : eqb (get_or s at 0) 10 ≡ true → (l c : ℕ) → Passes (Either A B) B s at (at + 1) l c (suc l) 1
  right_passes q = byte_passes (Either A B) B 10 s at (byte_here s at 10 (eqb-true _ _ q) (omega arith)) (λ z k. inr (then_more 10 B z k)) less_right

  neither_stuck : eqb (get_or s at 0) 32 ≡ false → eqb (get_or s at 0) 10 ≡ false → BeginsOf B [] → (l c : ℕ) → Fails (Either A B) (drop at s) l c l c
  neither_stuck n m E l c =
      let T = begins_then 10 B E in
      stuck (Either A B) (drop at s) l c (record { rest = T.rest; whole = inr T.whole }) none
    where
      none : (x : List ℕ) → get_or x 0 0 ≡ get_or (drop at s) 0 0 → ¬ Either A B x
      none x e (inl t) = other_byte s at 32 n (sym e ∙ then_first 32 A x t)
      none x e (inr t) = other_byte s at 10 m (sym e ∙ then_first 10 B x t)

-- The counts ------------------------------------------------------------------------------------------------------------------------------------------

-- the counts from a place of the first line on, up to the next line
abbrev CountsTold : (left : ℕ) → List ℕ → ℕ → Result (ℕ × ℕ) ℕ → Type 0
CountsTold left s at (Ok (k, i)) = Passes (ShelfForm left) (EventForm most_events) s at i 1 (at + 1) 2 1
CountsTold left s at (Err p) = Fails (ShelfForm left) (drop at s) 1 (at + 1) 1 (p + 1)

full_told : (s : List ℕ) (at i : ℕ) (x : Separator) → SeparatorTold s at x → CountsTold zero s at (on_full at i x)
unfolding ShelfForm
full_told s at i (separator.Space j) e = line_stuck (EventForm most_events) s at e.2 (events_end most_events) 1 (at + 1)
full_told s at i (separator.LineEnd j) e =
    subst (λ (z : ℕ). Passes (Then 10 (EventForm most_events)) (EventForm most_events) s at z 1 (at + 1) 2 1) (sym e.0) (line_passes (EventForm most_events) s at e.1 1 (at + 1))
full_told s at i separator.Neither e = line_stuck (EventForm most_events) s at e.1 (events_end most_events) 1 (at + 1)

module _ (left : ℕ) (s : List ℕ) (at : ℕ) where
  abbrev Count : ℕ → List ℕ → Type 0
  Count v = ShelfForm left

  abbrev CountTold : Next → Type 0
  CountTold (next.Number v stop) = Passes (ShelfForm (suc left)) (ShelfForm left) s at stop 1 (at + 1) 1 (stop + 1)
  CountTold (next.End i) = Passes (ShelfForm (suc left)) (EventForm most_events) s at i 1 (at + 1) 2 1
  CountTold (next.Wrong p) = Fails (ShelfForm (suc left)) (drop at s) 1 (at + 1) 1 (p + 1)

  -- a number after a space
  found_told : drop at s ≡ 32 ∷ drop (at + 1) s → (stop : ℕ) (f : Option ℕ) → ToldAt number_limit Count s (at + 1) stop f → CountTold (as_next stop f)
  unfolding ShelfForm
  found_told e stop (Some v) R =
      let h = R.from in
      join (left_passes (NumberThen number_limit Count) (EventForm most_events) s at e 1 (at + 1)) (up_to (R.passes 1 (suc (at + 1))) (omega arith))
  found_told e stop None B =
      let h = B.from in
      (left_passes (NumberThen number_limit Count) (EventForm most_events) s at e 1 (at + 1)).on 1 (stop + 1) (to_column (B.fails 1 (suc (at + 1))) (omega arith))

  by_separator : (x : Separator) → SeparatorTold s at x → CountTold (on_separator s at x)
  unfolding ShelfForm found_number
  by_separator (separator.Space i) e =
      let t = number_at s (at + 1) number_limit in
      subst (λ (z : ℕ). CountTold (found_number s z)) (sym e.0)
      (found_told e.1 t.stop t.found (number_told_at number_limit (omega arith) Count (λ _. shelf_stops left) (λ _. shelf_end left) s (at + 1)))
  by_separator (separator.LineEnd i) e =
      subst (λ (z : ℕ). CountTold (next.End z)) (sym e.0) (right_passes (NumberThen number_limit Count) (EventForm most_events) s at e.1 1 (at + 1))
  by_separator separator.Neither e = neither_stuck (NumberThen number_limit Count) (EventForm most_events) s at e.0 e.1 (events_end most_events) 1 (at + 1)

  next_told : CountTold (next_at s at)
  unfolding next_at
  next_told = by_separator (separator_at s at) (separator_told s at)

  counted_more : (stop : ℕ) → Passes (ShelfForm (suc left)) (ShelfForm left) s at stop 1 (at + 1) 1 (stop + 1) → (x : Result (ℕ × ℕ) ℕ) → CountsTold left s stop x → CountsTold (suc left) s at x
  counted_more stop P (Ok (k, i)) o = join P o
  counted_more stop P (Err p) o = P.on 1 (p + 1) o

  by_next : (i : ℕ) (c : List ℕ) (x : Next) → CountTold x → (more : (v stop : ℕ) → Gathered) → ((v stop : ℕ) → CountsTold left s stop (more v stop).counts)
      → CountsTold (suc left) s at (on_next x i c more).counts
  by_next i c (next.End j) o more f = o
  by_next i c (next.Wrong p) o more f = o
  by_next i c (next.Number v stop) o more f = counted_more stop o (more v stop).counts (f v stop)

counts_told : (left : ℕ) (s : List ℕ) (at i : ℕ) (c : List ℕ) → CountsTold left s at (counts_from left s at i c).counts
unfolding counts_from
counts_told zero s at i c = full_told s at i (separator_at s at) (separator_told s at)
counts_told (suc left) s at i c =
    by_next left s at i c (next_at s at) (next_told left s at) (λ v stop. counts_from left s stop (i + 1) (set c i v)) (λ v stop. counts_told left s stop (i + 1) (set c i v))

-- The events ------------------------------------------------------------------------------------------------------------------------------------------

module _ (left : ℕ) (s : List ℕ) (at : ℕ) where
  abbrev Rest : List ℕ → Type 0
  Rest = EventForm left

  abbrev EventTold : EventLine → Type 0
  EventTold line.End = drop at s ≡ []
  EventTold (line.Wrong p) = (l : ℕ) → Fails (EventForm (suc left)) (drop at s) l 1 l (p - at + 1)
  EventTold (line.Event v k i) = (l : ℕ) → Passes (EventForm (suc left)) Rest s at i l 1 (suc l) 1

  -- up to a place of the line the text is right, and this form is to follow
  abbrev Up : (F : List ℕ → Type 0) → ℕ → Type 0
  Up F i = (at ≤ i) × ((l : ℕ) → Passes (EventForm (suc left)) F s at i l 1 l (i - at + 1))

  wrong : (F : List ℕ → Type 0) (i p : ℕ) → Up F i → ((l : ℕ) → Fails F (drop i s) l (i - at + 1) l (p - at + 1)) → EventTold (line.Wrong p)
  wrong F i p U f = λ l. (U.1 l).on l (p - at + 1) (f l)

  -- after the pieces: the line's end
  by_end : (v k stop : ℕ) → Up (Pieces Rest k) stop → EventTold (pick (eqb (get_or s stop 0) 10) (line.Event v k (stop + 1)) (line.Wrong stop))
  by_end v k stop U =
      pick_by EventTold (eqb (get_or s stop 0) 10) (λ e l. join (U.1 l) (line_passes Rest s stop e l (stop - at + 1)))
      (λ e. wrong (Pieces Rest k) stop stop U (λ l. line_stuck Rest s stop e (events_end left) l (stop - at + 1)))

  -- after a space: the pieces
  by_pieces : (v i stop : ℕ) (f : Option ℕ) → Up (NumberThen number_limit (Pieces Rest)) i → ToldAt number_limit (Pieces Rest) s i stop f → (j : ℕ) → EventTold (on_pieces s v j (as_next stop f))
  by_pieces v i stop (Some k) U R j =
      let a = U.0 in
      let b = R.from in
      by_end v k stop (omega arith, λ l. join (U.1 l) (up_to (R.passes l (i - at + 1)) (omega arith)))
  by_pieces v i stop None U B j =
      let a = U.0 in
      let b = B.from in
      wrong (NumberThen number_limit (Pieces Rest)) i stop U (λ l. to_column (B.fails l (i - at + 1)) (omega arith))

  no_space : (v i : ℕ) → Up (Part Rest v) i → eqb (get_or s i 0) 32 ≡ false → EventTold (line.Wrong i)
  no_space v i U e =
      wrong (Part Rest v) i i U (λ l. then_stuck 32 (NumberThen number_limit (Pieces Rest)) (drop i s) l (i - at + 1) (other_byte s i 32 e) (pieces_begin Rest (events_end left)))

  -- after the part: a space
  after_part : (v i : ℕ) → Up (Part Rest v) i → (x : Separator) → SeparatorTold s i x → EventTold (on_pieces s v i (on_separator s i x))
  unfolding found_number
  after_part v i U (separator.Space j) e =
      let a = U.0 in
      let t = number_at s (i + 1) number_limit in
      let N = NumberThen number_limit (Pieces Rest) in
      subst (λ (z : ℕ). EventTold (on_pieces s v i (found_number s z))) (sym e.0)
      (by_pieces v (i + 1) t.stop t.found (omega arith, λ l. join (U.1 l) (up_to (space_passes N s i e.1 l (i - at + 1)) (omega arith)))
      (number_told_at number_limit (omega arith) (Pieces Rest) (pieces_stops Rest (events_end left)) (pieces_ends Rest (events_end left)) s (i + 1)) i)
  after_part v i U (separator.LineEnd j) e = no_space v i U e.2
  after_part v i U separator.Neither e = no_space v i U e.0

  by_part : at < length s → (stop : ℕ) (f : Option ℕ) → ToldAt number_limit (Part Rest) s at stop f → EventTold (on_part s stop f)
  unfolding EventForm pieces_at next_at
  by_part h stop (Some v) R =
      let b = R.from in
      after_part v stop (b, λ l. join (in_line (NumberThen number_limit (Part Rest)) s at h l) (up_to (R.passes l 1) (omega arith))) (separator_at s stop) (separator_told s stop)
  by_part h stop None B = λ l. (in_line (NumberThen number_limit (Part Rest)) s at h l).on l (stop - at + 1) (to_column (B.fails l 1) (omega arith))

  event_told : EventTold (event_at s at)
  unfolding event_at
  event_told =
      let t = number_at s at number_limit in
      pick_by EventTold (leb (length s) at) (λ e. drop_of_length-le s (leb-true (length s) at e))
      (λ e. by_part (leb-false (length s) at e) t.stop t.found
      (number_told_at number_limit (omega arith) (Part Rest) (part_stops Rest (events_end left)) (part_ends Rest (events_end left)) s at))

abbrev EventsTold : (left : ℕ) → List ℕ → (at i : ℕ) → Result ℕ Refusal → Type 0
EventsTold left s at i (Ok k) = EventForm left (drop at s)
EventsTold left s at i (Err r) = (l c : ℕ) × (r ≡ Text (record { 0 = l }) (record { 0 = c })) × Fails (EventForm left) (drop at s) (i + 2) 1 l c

too_many : (s : List ℕ) (l c : ℕ) → ¬ (s ≡ []) → Fails (EventForm zero) s l c l c
unfolding EventForm
too_many [] l c n = absurd (n refl)
too_many (b ∷ s) l c n = stuck_at (EventForm zero) b s l c (events_end zero) (λ x e. let q : suc (length x) ≡ 0 = ap length e in absurd (omega arith))

module _ (left : ℕ) (s : List ℕ) (at i : ℕ) where
  lifted : (j : ℕ) → ((l : ℕ) → Passes (EventForm (suc left)) (EventForm left) s at j l 1 (suc l) 1) → (x : Result ℕ Refusal) → EventsTold left s j (i + 1) x → EventsTold (suc left) s at i x
  lifted j L (Ok k) o = (L 0).right o
  lifted j L (Err r) o =
      let q : i + 1 + 2 ≡ suc (i + 2) = omega arith in
      (o.0, o.1, o.2, (L (i + 2)).on o.0 o.1 (subst (λ (l : ℕ). Fails (EventForm left) (drop j s) l 1 o.0 o.1) q o.3))

  by_event : (vs ks : List ℕ) (x : EventLine) → EventTold left s at x → (more : (v k j : ℕ) → Listed) → ((v k j : ℕ) → EventsTold left s j (i + 1) (more v k j).events)
      → EventsTold (suc left) s at i (on_event x at i vs ks more).events
  by_event vs ks line.End e more f = unfold EventForm in inl e
  by_event vs ks (line.Wrong p) F more f = (i + 2, p - at + 1, refl, F (i + 2))
  by_event vs ks (line.Event v k j) L more f = lifted j L (more v k j).events (f v k j)

events_told : (left : ℕ) (s : List ℕ) (at i : ℕ) (vs ks : List ℕ) → EventsTold left s at i (events_from left s at i vs ks).events
unfolding events_from
events_told zero s at i vs ks =
    pick_by (EventsTold zero s at i) (leb (length s) at) (λ e. unfold EventForm in drop_of_length-le s (leb-true (length s) at e))
    (λ e. (i + 2, at - at + 1, refl, to_column (too_many (drop at s) (i + 2) 1 (not_empty s at (leb-false (length s) at e))) (omega arith)))
events_told (suc left) s at i vs ks =
    by_event left s at i vs ks (event_at s at) (event_told left s at) (λ v k j. events_from left s j (i + 1) (set vs i v) (set ks i k))
    (λ v k j. events_told left s j (i + 1) (set vs i v) (set ks i k))

-- The record ------------------------------------------------------------------------------------------------------------------------------------------

-- every byte of a word is above 10
abbrev Plain : List ℕ → Type 0
Plain [] = Unit {0}
Plain (w ∷ ws) = (10 < w) × Plain ws

module _ (K : List ℕ → Type 0) where
  word_end : (ws : List ℕ) → BeginsOf K [] → BeginsOf (Word ws K) []
  word_end [] B = B
  word_end (w ∷ ws) B = begins_then w (Word ws K) (word_end ws B)

  word_holds : (ws x : List ℕ) → K x → Word ws K (ws ++ x)
  word_holds [] x k = k
  word_holds (w ∷ ws) x k = then_more w (Word ws K) (ws ++ x) (word_holds ws x k)

  word_on : (ws x : List ℕ) (l c l' c' : ℕ) → Plain ws → Fails K x l (c + length ws) l' c' → Fails (Word ws K) (ws ++ x) l c l' c'
  word_on [] x l c l' c' p F = from_column F (omega arith)
  word_on (w ∷ ws) x l c l' c' p F =
      step_plain (Then w (Word ws K)) (Word ws K) w (ws ++ x) l c l' c' (ne_eqb w 10 (λ e. omega (arith, p.0))) (then_more w (Word ws K)) (then_less w (Word ws K))
      (word_on ws x l (suc c) l' c' p.1 (from_column F (omega arith)))

  word_stuck : (ws s : List ℕ) (l c : ℕ) → Plain ws → BeginsOf K [] → ¬ (agreeing ws s ≡ length ws) → Fails (Word ws K) s l c l (c + agreeing ws s)
  unfolding agreeing
  word_stuck [] s l c p B n = absurd (n refl)
  word_stuck (w ∷ ws) [] l c p B n =
      let h = p.0 in
      to_column (then_stuck w (Word ws K) [] l c (λ e. omega arith) (word_end ws B)) (omega arith)
  word_stuck (w ∷ ws) (b ∷ s) l c p B n =
      let k = agreeing ws s in
      let h = p.0 in
      pick_by (λ (j : ℕ). ¬ (j ≡ suc (length ws)) → Fails (Word (w ∷ ws) K) (b ∷ s) l c l (c + j)) (eqb b w)
      (λ e m.
      let F = word_stuck ws s l (suc c) p.1 B (λ x. m (ap suc x)) in
      subst (λ (y : ℕ). Fails (Word (w ∷ ws) K) (y ∷ s) l c l (c + suc k)) (sym (eqb-true b w e))
      (step_plain (Then w (Word ws K)) (Word ws K) w s l c l (c + suc k) (ne_eqb w 10 (λ x. omega arith)) (then_more w (Word ws K)) (then_less w (Word ws K))
      (to_column F (omega arith))))
      (λ e m. to_column (then_stuck w (Word ws K) (b ∷ s) l c (λ x. apart (sym e ∙ eq-eqb b w x)) (word_end ws B)) (omega arith)) n

stock_plain : Plain stock_word
stock_plain = (omega arith, (omega arith, (omega arith, (omega arith, (omega arith, tt)))))

abbrev ShelfTold : (s : List ℕ) → Result (ℕ × ℕ) ℕ → Type 0
ShelfTold s (Ok (k, i)) = Passes RecordForm (EventForm most_events) s 0 i 1 1 2 1
ShelfTold s (Err p) = Fails RecordForm s 1 1 1 (p + 1)

module _ (s : List ℕ) where
  word_passes : agreeing stock_word s ≡ 5 → Passes RecordForm (ShelfForm most_shelf) s 0 5 1 1 1 6
  word_passes e =
      let q = sym (starts stock_word s (omega arith)) in
      record {
        on = λ x y F. subst (λ (z : List ℕ). Fails RecordForm z 1 1 x y) q (word_on (ShelfForm most_shelf) stock_word (drop 5 s) 1 1 x y stock_plain F);
        right = λ r. subst RecordForm q (word_holds (ShelfForm most_shelf) stock_word (drop 5 s) r);
      }

  worded : agreeing stock_word s ≡ 5 → (x : Result (ℕ × ℕ) ℕ) → CountsTold most_shelf s 5 x → ShelfTold s x
  worded e (Ok (k, i)) o = join (word_passes e) o
  worded e (Err p) o = (word_passes e).on 1 (p + 1) o

  shelf_told : (c : List ℕ) → length c ≡ most_shelf → ShelfTold s (shelf_in s c).counts
  unfolding shelf_in
  shelf_told c e =
      let k = agreeing stock_word s in
      pick_by (λ (g : Gathered). ShelfTold s g.counts) (eqb k 5)
      (λ q. worded (eqb-true k 5 q) (counts_from (length c) s 5 0 c).counts (subst (λ (n : ℕ). CountsTold n s 5 (counts_from (length c) s 5 0 c).counts) e (counts_told (length c) s 5 0 c)))
      (λ q. to_column (word_stuck (ShelfForm most_shelf) stock_word s 1 1 stock_plain (shelf_end most_shelf) (λ x. apart (sym q ∙ eq-eqb k 5 x))) (omega arith))

  abbrev RecordTold : Result (ℕ × ℕ) Refusal → Type 0
  RecordTold (Ok (k, e)) = RecordForm s
  RecordTold (Err r) = (l c : ℕ) × (r ≡ Text (record { 0 = l }) (record { 0 = c })) × Fails RecordForm s 1 1 l c

  by_events : (k i : ℕ) → Passes RecordForm (EventForm most_events) s 0 i 1 1 2 1 → (x : Result ℕ Refusal) → EventsTold most_events s i 0 x → RecordTold (with_counts k x)
  by_events k i B (Ok e) o = B.right o
  by_events k i B (Err r) o = (o.0, o.1, o.2, B.on o.0 o.1 o.3)

  by_counts : (x : Result (ℕ × ℕ) ℕ) (c vs ks : List ℕ) → length vs ≡ most_events → ShelfTold s x → RecordTold (on_counts s x c vs ks).result
  by_counts (Err p) c vs ks e F = (1, p - 0 + 1, refl, to_column F (omega arith))
  by_counts (Ok (k, i)) c vs ks e B =
      by_events k i B (events_from (length vs) s i 0 vs ks).events (subst (λ (n : ℕ). EventsTold n s i 0 (events_from (length vs) s i 0 vs ks).events) e (events_told (length vs) s i 0 vs ks))

  record_told : (c vs ks : List ℕ) → length c ≡ most_shelf → length vs ≡ most_events → RecordTold (read_record s c vs ks).result
  unfolding read_record
  record_told c vs ks e f = by_counts (shelf_in s c).counts (shelf_in s c).column vs ks f (shelf_told c e)

-- The form and the rendering --------------------------------------------------------------------------------------------------------------------------

head_below : (x : ℕ) (xs : List ℕ) → all_below number_limit (x ∷ xs) ≡ true → (x < number_limit) × (all_below number_limit xs ≡ true)
unfolding all_below
head_below x xs e = let b = both_true {a = ltb x number_limit} {b = all_below number_limit xs} e in (ltb-true x number_limit b.0, b.1)

more-below : (x : ℕ) (xs : List ℕ) → x < number_limit → all_below number_limit xs ≡ true → all_below number_limit (x ∷ xs) ≡ true
unfolding all_below
more-below x xs h e = rw (lt-ltb x number_limit h) e

one_event : (v k : ℕ) (vs ks : List ℕ) → event_lines (v ∷ vs) (k ∷ ks) ≡ digits v ++ (32 ∷ (digits k ++ (10 ∷ event_lines vs ks)))
unfolding event_lines event_line
one_event v k vs ks =
    append_assoc (digits v ++ (32 ∷ digits k)) (10 ∷ []) (event_lines vs ks) ∙ append_assoc (digits v) (32 ∷ digits k) (10 ∷ event_lines vs ks)

record Evented (left : ℕ) (x : List ℕ) : Type 0 where
  parts : List ℕ
  received : List ℕ
  same : x ≡ event_lines parts received
  few : length parts ≤ left
  level : length received ≡ length parts
  parts_below : all_below number_limit parts ≡ true
  received-below : all_below number_limit received ≡ true

no_events : (left : ℕ) (x : List ℕ) → x ≡ [] → Evented left x
unfolding event_lines all_below
no_events left x e = record { parts = []; received = []; same = e; few = omega arith; level = refl; parts_below = refl; received-below = refl }

events_of : (left : ℕ) (x : List ℕ) → EventForm left x → Evented left x
unfolding EventForm
events_of zero x e = no_events zero x e
events_of (suc left) x (inl e) = no_events (suc left) x e
events_of (suc left) x (inr N) =
    let M = N.holds.holds in
    let E = events_of left M.holds.rest M.holds.holds in
    record {
      parts = N.value ∷ E.parts;
      received = M.value ∷ E.received;
      same = N.bytes
          ∙ ap (λ (z : List ℕ). digits N.value ++ z) (N.holds.bytes ∙ ap (λ (z : List ℕ). 32 ∷ z) (M.bytes
          ∙ ap (λ (z : List ℕ). digits M.value ++ z) (M.holds.bytes ∙ ap (λ (z : List ℕ). 10 ∷ z) E.same)))
          ∙ sym (one_event N.value M.value E.parts E.received);
      few = omega (arith, E.few);
      level = ap suc E.level;
      parts_below = more-below N.value E.parts N.below E.parts_below;
      received-below = more-below M.value E.received M.below E.received-below;
    }

events_to : (left : ℕ) (vs ks : List ℕ) → length vs ≤ left → length ks ≡ length vs → all_below number_limit vs ≡ true → all_below number_limit ks ≡ true
    → EventForm left (event_lines vs ks)
unfolding EventForm
events_to zero [] ks h e b d = unfold event_lines in refl
events_to (suc left) [] ks h e b d = inl (unfold event_lines in refl)
events_to zero (v ∷ vs) ks h e b d = absurd (omega arith)
events_to (suc left) (v ∷ vs) [] h e b d = absurd (omega arith)
events_to (suc left) (v ∷ vs) (k ∷ ks) h e b d =
    let bv = head_below v vs b in
    let bk = head_below k ks d in
    let M = NumberThen number_limit (Pieces (EventForm left)) in
    let more = events_to left vs ks (omega arith) (omega arith) bv.1 bk.1 in
    inr (record {
      value = v;
      rest = 32 ∷ (digits k ++ (10 ∷ event_lines vs ks));
      below = bv.0;
      bytes = one_event v k vs ks;
      holds = then_more 32 M (digits k ++ (10 ∷ event_lines vs ks))
          (record { value = k; rest = 10 ∷ event_lines vs ks; below = bk.0; bytes = refl; holds = then_more 10 (EventForm left) (event_lines vs ks) more });
    })

record Shelved (left : ℕ) (x : List ℕ) : Type 0 where
  shelf : List ℕ
  rest : List ℕ
  same : x ≡ tail_text shelf ++ 10 ∷ rest
  few : length shelf ≤ left
  below : all_below number_limit shelf ≡ true
  events : EventForm most_events rest

no_counts : (left : ℕ) (x : List ℕ) → Then 10 (EventForm most_events) x → Shelved left x
unfolding tail_text all_below
no_counts left x t = record { shelf = []; rest = t.rest; same = t.bytes; few = omega arith; below = refl; events = t.holds }

shelf_of : (left : ℕ) (x : List ℕ) → ShelfForm left x → Shelved left x
unfolding ShelfForm
shelf_of zero x t = no_counts zero x t
shelf_of (suc left) x (inr t) = no_counts (suc left) x t
shelf_of (suc left) x (inl t) =
    let N = t.holds in
    let S = shelf_of left N.rest N.holds in
    record {
      shelf = N.value ∷ S.shelf;
      rest = S.rest;
      same = t.bytes ∙ ap (λ (z : List ℕ). 32 ∷ z) (N.bytes ∙ ap (λ (z : List ℕ). digits N.value ++ z) S.same) ∙ sym (one_number N.value S.shelf (10 ∷ S.rest));
      few = omega (arith, S.few);
      below = more-below N.value S.shelf N.below S.below;
      events = S.events;
    }

shelf_to : (left : ℕ) (xs rest : List ℕ) → length xs ≤ left → all_below number_limit xs ≡ true → EventForm most_events rest → ShelfForm left (tail_text xs ++ 10 ∷ rest)
unfolding ShelfForm
shelf_to zero [] rest h b r = unfold tail_text in then_more 10 (EventForm most_events) rest r
shelf_to (suc left) [] rest h b r = unfold tail_text in inr (then_more 10 (EventForm most_events) rest r)
shelf_to zero (x ∷ xs) rest h b r = absurd (omega arith)
shelf_to (suc left) (x ∷ xs) rest h b r =
    let c = head_below x xs b in
    let N = NumberThen number_limit (λ _. ShelfForm left) in
    let more : List ℕ = tail_text xs ++ 10 ∷ rest in
    inl (subst (Then 32 N) (sym (one_number x xs (10 ∷ rest)))
    (then_more 32 N (digits x ++ more) (record { value = x; rest = more; below = c.0; bytes = refl; holds = shelf_to left xs rest (omega arith) c.1 r })))

text_split : (shelf vs ks : List ℕ) → record_text shelf vs ks ≡ stock_word ++ (tail_text shelf ++ 10 ∷ event_lines vs ks)
unfolding record_text stock_line
text_split shelf vs ks = ap (λ (z : List ℕ). stock_word ++ z) (append_assoc (tail_text shelf) (10 ∷ []) (event_lines vs ks))

record Worded (ws : List ℕ) (K : List ℕ → Type 0) (x : List ℕ) : Type 0 where
  rest : List ℕ
  same : x ≡ ws ++ rest
  holds : K rest

word_of : (ws : List ℕ) (K : List ℕ → Type 0) (x : List ℕ) → Word ws K x → Worded ws K x
word_of [] K x k = record { rest = x; same = refl; holds = k }
word_of (w ∷ ws) K x t =
    let W = word_of ws K t.rest t.holds in
    record { rest = W.rest; same = t.bytes ∙ ap (λ (z : List ℕ). w ∷ z) W.same; holds = W.holds }

form_permitted : (s : List ℕ) → RecordForm s → PermittedRecord s
form_permitted s r =
    let W = word_of stock_word (ShelfForm most_shelf) s r in
    let S = shelf_of most_shelf W.rest W.holds in
    let E = events_of most_events S.rest S.events in
    record {
      shelf = S.shelf;
      parts = E.parts;
      received = E.received;
      writable = record { counts = S.few; events = E.few; level = E.level; counts_below = S.below; parts_below = E.parts_below; pieces_below = E.received-below };
      same = W.same ∙ ap (λ (z : List ℕ). stock_word ++ z) (S.same ∙ ap (λ (z : List ℕ). tail_text S.shelf ++ 10 ∷ z) E.same) ∙ sym (text_split S.shelf E.parts E.received);
    }

permitted_form : (s : List ℕ) → PermittedRecord s → RecordForm s
permitted_form s p =
    let w = p.writable in
    let rest = event_lines p.parts p.received in
    subst RecordForm (sym (p.same ∙ text_split p.shelf p.parts p.received))
    (word_holds (ShelfForm most_shelf) stock_word (tail_text p.shelf ++ 10 ∷ rest)
    (shelf_to most_shelf p.shelf rest w.counts w.counts_below (events_to most_events p.parts p.received w.events w.level w.parts_below w.pieces_below)))

-- What is said ----------------------------------------------------------------------------------------------------------------------------------------

module _ (m : Measure) (c : Columns) (a : Entries) (s : List ℕ) where
  by_result : ¬ PermittedRecord s → (x : Result (ℕ × ℕ) Refusal) (shelf vs ks : List ℕ) → RecordTold s x
      → (l k : ℕ) × (on_read m c a x shelf vs ks ≡ second_refused (Text (record { 0 = l }) (record { 0 = k }))) × FirstByteOf PermittedRecord s l k
  by_result n (Ok (k, e)) shelf vs ks o = absurd (n (form_permitted s o))
  by_result n (Err r) shelf vs ks o =
      (o.0, o.1, ap second_refused o.2, first_of PermittedRecord s o.0 o.1 (mapped PermittedRecord RecordForm s 1 1 o.0 o.1 form_permitted (λ x _. permitted_form x) o.3))

  pub record_refused : length s ≤ most_input → ¬ PermittedRecord s
      → (l k : ℕ) × (replay_said m c a s ≡ second_refused (Text (record { 0 = l }) (record { 0 = k }))) × FirstByteOf PermittedRecord s l k
  unfolding replay_said
  record_refused h n =
      let zs : List ℕ = replicate most_shelf 0 in
      let ys : List ℕ = replicate most_events 0 in
      let x = read_record s zs ys ys in
      let u = by_result n x.result x.shelf x.parts x.received (record_told s zs ys ys (length-replicate {A = ℕ} most_shelf 0) (length-replicate {A = ℕ} most_events 0)) in
      (u.0, u.1, rw (le-ltb most_input (length s) h) u.2, u.3)
