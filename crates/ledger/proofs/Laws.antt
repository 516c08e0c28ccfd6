-- The laws of reading a record: what stands behind a word or a number, the counts one after the other, and the events line by line; and where a wrong byte stands.
-- Assumes nothing.
use mathlib.Core.Path.{◌≡◌, refl, sym, ◌∙◌, ap, subst}
use mathlib.Core.List.{List, [], ◌∷◌}
use Prim.Native.Nat.{ℕ, zero, suc, ◌+◌, ◌-◌, ◌≤◌, ◌<◌}
use native.Mathlib.Omega.{arith}
use lib.ListN.{length, get_or, set, length-set}
use lib.Dec.{leb, eqb}
use borrow.Author.Tests.{le-leb, lt-leb, leb-false, eq-eqb, ne_eqb, eqb-true}
use Rattle.std.specs.Prelude.{Result, Ok, Err, Option, Some, None}
use Rattle.refusal.specs.declared.Refusal.{Refusal}
use Rattle.text.proofs.Digits.{pick_by}
use Rattle.cursor.specs.declared.Token.{Token}
use Rattle.cursor.specs.declared.Separator.{Separator}
use Rattle.cursor.specs.Cursor.{number_at, separator_at}
use Rattle.cursor.proofs.Counts.{byte_within, token_within}
use Rattle.reading.specs.Lines.{agreeing}
use Rattle.ledger.specs.declared.Next.{Next}
use Rattle.ledger.specs.declared.Next.TheVariants as next
use Rattle.ledger.specs.declared.EventLine.{EventLine}
use Rattle.ledger.specs.declared.EventLine.TheVariants as line
use Rattle.ledger.specs.Record.{
  number_limit,
  wrong_at,
  stock_word,
  as_next,
  found_number,
  on_separator,
  next_at,
  Gathered,
  gathered,
  on_next,
  on_full,
  counts_from,
  shelf_in,
  on_pieces,
  pieces_at,
  on_part,
  event_at,
  Listed,
  listed,
  on_event,
  events_from,
  Entered,
  entered,
  with_counts,
  on_events,
  on_counts,
  read_record,
}

-- What stands behind a word or a number --------------------------------------------------------------------------------------------------------------

pub found_is : (s : List ℕ) (at : ℕ) (t : Token) → t ≡ number_at s at number_limit → (f : (Option ℕ)) → t.found ≡ f → as_next t.stop f ≡ found_number s at
unfolding found_number
found_is s at t e f g = ap (as_next t.stop) (sym g) ∙ ap (λ (z : Token). as_next z.stop z.found) e

pub next_is : (s : List ℕ) (at : ℕ) (x y : Separator) → x ≡ separator_at s at → x ≡ y → on_separator s at y ≡ next_at s at
unfolding next_at
next_is s at x y e f = ap (on_separator s at) (sym f ∙ e)

-- the place that it tells: behind the number, of the next line, or of the wrong byte
abbrev pub place_of : Next → ℕ
place_of (next.Number v p) = p
place_of (next.End p) = p
place_of (next.Wrong p) = p

-- it is not before a place, and within the text
abbrev pub Within : List ℕ → (at place : ℕ) → Type 0
Within s at p = (at ≤ p) × (p ≤ length s)

found_within : (s : List ℕ) (at stop : ℕ) (f : (Option ℕ)) → Within s at stop → Within s at (place_of (as_next stop f))
found_within s at stop (Some v) h = h
found_within s at stop None h = h

number_within : (s : List ℕ) (at : ℕ) → at ≤ length s → Within s at (place_of (found_number s at))
unfolding found_number
number_within s at h =
    let t = token_within s at number_limit in
    let u = t.1 in
    found_within s at (number_at s at number_limit).stop (number_at s at number_limit).found (t.0, omega arith)

pub next_within : (s : List ℕ) (at : ℕ) → at ≤ length s → Within s at (place_of (next_at s at))
unfolding next_at separator_at
next_within s at h =
    let P : Separator → Type 0 = λ x. Within s at (place_of (on_separator s at x)) in
    pick_by P (eqb (get_or s at 0) 32)
    (λ e. let b = byte_within s at 32 (eqb-true _ _ e) (omega arith) in let w = number_within s (at + 1) (omega arith) in let l = w.0 in (omega arith, w.1))
    (λ _. pick_by P (eqb (get_or s at 0) 10) (λ e. let b = byte_within s at 10 (eqb-true _ _ e) (omega arith) in (omega arith, omega arith)) (λ _. (omega arith, h)))

-- The counts -----------------------------------------------------------------------------------------------------------------------------------------

module _ (s : List ℕ) (at i : ℕ) (c : List ℕ) where
  next-counts : (left rest : ℕ) (x : Next) → left ≡ suc rest → next_at s at ≡ x
      → counts_from left s at i c ≡ on_next x i c (λ v stop. counts_from rest s stop (i + 1) (set c i v))
  unfolding counts_from
  next-counts left rest x q e =
      ap (λ (k : ℕ). counts_from k s at i c) q ∙ ap (λ (z : Next). on_next z i c (λ v stop. counts_from rest s stop (i + 1) (set c i v))) e

  pub counts_end : (l : ℕ) → i < length c → next_at s at ≡ next.End l → counts_from (length c - i) s at i c ≡ gathered (Ok (i, l)) c
  counts_end l h e = next-counts (length c - i) (length c - (i + 1)) (next.End l) (omega arith) e

  pub counts_wrong : (p : ℕ) → i < length c → next_at s at ≡ next.Wrong p → counts_from (length c - i) s at i c ≡ gathered (Err p) c
  counts_wrong p h e = next-counts (length c - i) (length c - (i + 1)) (next.Wrong p) (omega arith) e

  pub counts-more : (v stop : ℕ) → i < length c → next_at s at ≡ next.Number v stop
      → counts_from (length (set c i v) - (i + 1)) s stop (i + 1) (set c i v) ≡ counts_from (length c - i) s at i c
  counts-more v stop h e =
      ap (λ (k : ℕ). counts_from (k - (i + 1)) s stop (i + 1) (set c i v)) (length-set c i v)
      ∙ sym (next-counts (length c - i) (length c - (i + 1)) (next.Number v stop) (omega arith) e)

  pub counts_full : (left : ℕ) (x : Separator) → left ≡ 0 → separator_at s at ≡ x → counts_from left s at i c ≡ gathered (on_full at i x) c
  unfolding counts_from
  counts_full left x q e = ap (λ (k : ℕ). counts_from k s at i c) q ∙ ap (λ (z : Separator). gathered (on_full at i z) c) e

-- no more counts than there are places, as many places as there were, and the place that is told is within the text
abbrev pub FewCounts : List ℕ → ℕ → Result (ℕ × ℕ) ℕ → Type 0
FewCounts s n (Ok (k, l)) = (k ≤ n) × (l ≤ length s)
FewCounts s n (Err p) = p ≤ length s

abbrev pub KeptCounts : List ℕ → ℕ → Gathered → Type 0
KeptCounts s n x = FewCounts s n x.counts × (length x.column ≡ n)

next_kept : (s : List ℕ) (n : ℕ) (x : Next) (i : ℕ) (c : List ℕ) (more : (v stop : ℕ) → Gathered) → place_of x ≤ length s → i ≤ n → length c ≡ n
    → ((v stop : ℕ) → stop ≤ length s → KeptCounts s n (more v stop)) → KeptCounts s n (on_next x i c more)
next_kept s n (next.End l) i c more h g e f = ((g, h), e)
next_kept s n (next.Wrong p) i c more h g e f = (h, e)
next_kept s n (next.Number v stop) i c more h g e f = f v stop h

full_few : (s : List ℕ) (n at i : ℕ) → at ≤ length s → i ≤ n → FewCounts s n (on_full at i (separator_at s at))
unfolding separator_at
full_few s n at i h g =
    let P : Separator → Type 0 = λ x. FewCounts s n (on_full at i x) in
    pick_by P (eqb (get_or s at 0) 32) (λ _. h)
    (λ _. pick_by P (eqb (get_or s at 0) 10) (λ e. let b = byte_within s at 10 (eqb-true _ _ e) (omega arith) in (g, omega arith)) (λ _. h))

counts_kept : (left : ℕ) (s : List ℕ) (at i : ℕ) (c : List ℕ) (n : ℕ) → at ≤ length s → i + left ≤ n → length c ≡ n → KeptCounts s n (counts_from left s at i c)
unfolding counts_from
counts_kept zero s at i c n h g e = (full_few s n at i h (omega arith), e)
counts_kept (suc left) s at i c n h g e =
    next_kept s n (next_at s at) i c (λ v stop. counts_from left s stop (i + 1) (set c i v)) (next_within s at h).1 (omega arith) e
    (λ v stop l. counts_kept left s stop (i + 1) (set c i v) n l (omega arith) (length-set c i v ∙ e))

agreeing_within : (w s : List ℕ) → agreeing w s ≤ length s
unfolding agreeing
agreeing_within [] s = omega arith
agreeing_within (w ∷ ws) [] = omega arith
agreeing_within (w ∷ ws) (b ∷ s) =
    let r = agreeing_within ws s in
    pick_by (λ (k : ℕ). k ≤ length (b ∷ s)) (eqb b w) (λ _. omega arith) (λ _. omega arith)

pub shelf_kept : (s c : List ℕ) → KeptCounts s (length c) (shelf_in s c)
unfolding shelf_in
shelf_kept s c =
    let w = agreeing_within stock_word s in
    pick_by (KeptCounts s (length c)) (eqb (agreeing stock_word s) 5)
    (λ e. let q = eqb-true (agreeing stock_word s) 5 e in counts_kept (length c) s 5 0 c (length c) (omega arith) (omega arith) refl)
    (λ _. (w, refl))

pub shelf_word : (s c : List ℕ) → agreeing stock_word s ≡ 5 → counts_from (length c) s 5 0 c ≡ shelf_in s c
unfolding shelf_in
shelf_word s c e = rw (eq-eqb (agreeing stock_word s) 5 e)

pub shelf_other : (s c : List ℕ) (k : ℕ) → k ≡ agreeing stock_word s → (k ≡ 5 → ⊥) → gathered (Err k) c ≡ shelf_in s c
unfolding shelf_in
shelf_other s c k e n = ap (λ (z : ℕ). gathered (Err z) c) e ∙ rw (ne_eqb (agreeing stock_word s) 5 (λ q. n (e ∙ q)))

-- A line of an event ---------------------------------------------------------------------------------------------------------------------------------

pub pieces_is : (s : List ℕ) (v at : ℕ) (x y : Next) → x ≡ next_at s at → x ≡ y → on_pieces s v at y ≡ pieces_at s v at
unfolding pieces_at
pieces_is s v at x y e f = ap (on_pieces s v at) (sym f ∙ e)

module _ (s : List ℕ) (v at k stop : ℕ) (x : Next) (e : x ≡ next_at s at) (f : x ≡ next.Number k stop) where
  pub pieces_line : get_or s stop 0 ≡ 10 → line.Event v k (stop + 1) ≡ pieces_at s v at
  pieces_line q = here ∙ pieces_is s v at x (next.Number k stop) e f
    where
      here : line.Event v k (stop + 1) ≡ on_pieces s v at (next.Number k stop)
      here = rw (eq-eqb (get_or s stop 0) 10 q)

  pub pieces_other : (get_or s stop 0 ≡ 10 → ⊥) → line.Wrong stop ≡ pieces_at s v at
  pieces_other q = here ∙ pieces_is s v at x (next.Number k stop) e f
    where
      here : line.Wrong stop ≡ on_pieces s v at (next.Number k stop)
      here = rw (ne_eqb (get_or s stop 0) 10 q)

pub event_end : (s : List ℕ) (at : ℕ) → length s ≤ at → line.End ≡ event_at s at
unfolding event_at
event_end s at h = rw (le-leb (length s) at h)

pub event_is : (s : List ℕ) (at : ℕ) (t : Token) (f : (Option ℕ)) → at < length s → t ≡ number_at s at number_limit → t.found ≡ f → on_part s t.stop f ≡ event_at s at
unfolding event_at
event_is s at t f h e g = ap (on_part s t.stop) (sym g) ∙ ap (λ (z : Token). on_part s z.stop z.found) e ∙ rw (lt-leb (length s) at h)

-- where a wrong byte stands: in the line, within the text; and so the next line
abbrev pub Placed : List ℕ → ℕ → EventLine → Type 0
Placed s at (line.Event v k l) = Within s at l
Placed s at (line.Wrong p) = Within s at p
Placed s at line.End = Unit {0}

pieces_placed : (s : List ℕ) (v start at : ℕ) (x : Next) → start ≤ at → at ≤ length s → Within s at (place_of x) → Placed s start (on_pieces s v at x)
pieces_placed s v start at (next.End l) h g w = (h, g)
pieces_placed s v start at (next.Wrong p) h g w = (let l = w.0 in omega arith, w.1)
pieces_placed s v start at (next.Number k stop) h g w =
    let l = w.0 in
    let r = w.1 in
    pick_by (Placed s start) (eqb (get_or s stop 0) 10)
    (λ e. let b = byte_within s stop 10 (eqb-true _ _ e) (omega arith) in (omega arith, omega arith)) (λ _. (omega arith, r))

part_placed : (s : List ℕ) (at stop : ℕ) (f : (Option ℕ)) → Within s at stop → Placed s at (on_part s stop f)
unfolding pieces_at
part_placed s at stop (Some v) w = pieces_placed s v at stop (next_at s stop) w.0 w.1 (next_within s stop w.1)
part_placed s at stop None w = w

pub event_placed : (s : List ℕ) (at : ℕ) → Placed s at (event_at s at)
unfolding event_at
event_placed s at =
    pick_by (Placed s at) (leb (length s) at) (λ _. tt)
    (λ e. let l = leb-false (length s) at e in
    let t = token_within s at number_limit in
    let u = t.1 in
    part_placed s at (number_at s at number_limit).stop (number_at s at number_limit).found (t.0, omega arith))

pub wrong_placed : (s : List ℕ) (at p : ℕ) → event_at s at ≡ line.Wrong p → Within s at p
wrong_placed s at p e = subst (Placed s at) e (event_placed s at)

pub line_placed : (s : List ℕ) (at v k l : ℕ) → event_at s at ≡ line.Event v k l → Within s at l
line_placed s at v k l e = subst (Placed s at) e (event_placed s at)

-- The events -----------------------------------------------------------------------------------------------------------------------------------------

module _ (s : List ℕ) (at i : ℕ) (vs ks : List ℕ) where
  event_next : (left rest : ℕ) (x : EventLine) → left ≡ suc rest → event_at s at ≡ x
      → events_from left s at i vs ks ≡ on_event x at i vs ks (λ v k l. events_from rest s l (i + 1) (set vs i v) (set ks i k))
  unfolding events_from
  event_next left rest x q e =
      ap (λ (n : ℕ). events_from n s at i vs ks) q
      ∙ ap (λ (z : EventLine). on_event z at i vs ks (λ v k l. events_from rest s l (i + 1) (set vs i v) (set ks i k))) e

  pub events_end : i < length vs → event_at s at ≡ line.End → events_from (length vs - i) s at i vs ks ≡ listed (Ok i) vs ks
  events_end h e = event_next (length vs - i) (length vs - (i + 1)) line.End (omega arith) e

  pub events_wrong : (p : ℕ) → i < length vs → event_at s at ≡ line.Wrong p → events_from (length vs - i) s at i vs ks ≡ listed (Err (wrong_at (i + 2) at p)) vs ks
  events_wrong p h e = event_next (length vs - i) (length vs - (i + 1)) (line.Wrong p) (omega arith) e

  pub events_more : (v k l : ℕ) → i < length vs → event_at s at ≡ line.Event v k l
      → events_from (length (set vs i v) - (i + 1)) s l (i + 1) (set vs i v) (set ks i k) ≡ events_from (length vs - i) s at i vs ks
  events_more v k l h e =
      ap (λ (n : ℕ). events_from (n - (i + 1)) s l (i + 1) (set vs i v) (set ks i k)) (length-set vs i v)
      ∙ sym (event_next (length vs - i) (length vs - (i + 1)) (line.Event v k l) (omega arith) e)

  pub events_all : (left : ℕ) → left ≡ 0 → length s ≤ at → events_from left s at i vs ks ≡ listed (Ok i) vs ks
  unfolding events_from
  events_all left q h = ap (λ (n : ℕ). events_from n s at i vs ks) q ∙ rw (le-leb (length s) at h)

  pub events_many : (left : ℕ) → left ≡ 0 → at < length s → events_from left s at i vs ks ≡ listed (Err (wrong_at (i + 2) at at)) vs ks
  unfolding events_from
  events_many left q h = ap (λ (n : ℕ). events_from n s at i vs ks) q ∙ rw (lt-leb (length s) at h)

-- no more events than there are places, and as many places as there were
abbrev pub FewEvents : ℕ → Result ℕ Refusal → Type 0
FewEvents n (Ok k) = k ≤ n
FewEvents n (Err r) = Unit {0}

abbrev pub KeptEvents : ℕ → Listed → Type 0
KeptEvents n x = FewEvents n x.events × (length x.parts ≡ n) × (length x.received ≡ n)

event_kept : (n : ℕ) (x : EventLine) (at i : ℕ) (vs ks : List ℕ) (more : (v k l : ℕ) → Listed) → i ≤ n → length vs ≡ n → length ks ≡ n
    → ((v k l : ℕ) → KeptEvents n (more v k l)) → KeptEvents n (on_event x at i vs ks more)
event_kept n line.End at i vs ks more h e g f = (h, e, g)
event_kept n (line.Wrong p) at i vs ks more h e g f = (tt, e, g)
event_kept n (line.Event v k l) at i vs ks more h e g f = f v k l

pub events_kept : (left : ℕ) (s : List ℕ) (at i : ℕ) (vs ks : List ℕ) (n : ℕ) → i + left ≤ n → length vs ≡ n → length ks ≡ n → KeptEvents n (events_from left s at i vs ks)
unfolding events_from
events_kept zero s at i vs ks n h e g = (pick_by (FewEvents n) (leb (length s) at) (λ _. omega arith) (λ _. tt), e, g)
events_kept (suc left) s at i vs ks n h e g =
    event_kept n (event_at s at) at i vs ks (λ v k l. events_from left s l (i + 1) (set vs i v) (set ks i k)) (omega arith) e g
    (λ v k l. events_kept left s l (i + 1) (set vs i v) (set ks i k) n (omega arith) (length-set vs i v ∙ e) (length-set ks i k ∙ g))

-- The record -----------------------------------------------------------------------------------------------------------------------------------------

module _ (s shelf vs ks : List ℕ) (x : Result (ℕ × ℕ) ℕ) (c : List ℕ) (q : gathered x c ≡ shelf_in s shelf) where
  on_counts_lem : on_counts s x c vs ks ≡ read_record s shelf vs ks
  unfolding read_record
  on_counts_lem = ap (λ (g : Gathered). on_counts s g.counts g.column vs ks) q

  counts_few : FewCounts s (length shelf) x
  counts_few = subst (λ (g : Gathered). FewCounts s (length shelf) g.counts) (sym q) (shelf_kept s shelf).0

  pub shelf_wrong : (p : ℕ) → x ≡ Err p → p ≤ length s
  shelf_wrong p e = subst (FewCounts s (length shelf)) e counts_few

  pub shelf_right : (k l : ℕ) → x ≡ Ok (k, l) → l ≤ length s
  shelf_right k l e = (subst (FewCounts s (length shelf)) e counts_few).1

  pub record_wrong : (p : ℕ) (r : Refusal) → x ≡ Err p → r ≡ wrong_at 1 0 p → entered (Err r) c vs ks ≡ read_record s shelf vs ks
  record_wrong p r e f = ap (λ (z : Refusal). entered (Err z) c vs ks) f ∙ ap (λ (z : Result (ℕ × ℕ) ℕ). on_counts s z c vs ks) (sym e) ∙ on_counts_lem

  pub record_is : (k l : ℕ) (y : Result ℕ Refusal) (vs' ks' : List ℕ) → x ≡ Ok (k, l) → listed y vs' ks' ≡ events_from (length vs) s l 0 vs ks → (z : Result ℕ Refusal) → y ≡ z
      → entered (with_counts k z) c vs' ks' ≡ read_record s shelf vs ks
  record_is k l y vs' ks' e f z g =
      ap (λ (w : Result ℕ Refusal). entered (with_counts k w) c vs' ks') (sym g) ∙ ap (on_events k c) f ∙ ap (λ (w : Result (ℕ × ℕ) ℕ). on_counts s w c vs ks) (sym e) ∙ on_counts_lem

-- no more counts and events than there are places, and as many places as there were
abbrev pub FewRead : (n m : ℕ) → Result (ℕ × ℕ) Refusal → Type 0
FewRead n m (Ok (k, e)) = (k ≤ n) × (e ≤ m)
FewRead n m (Err r) = Unit {0}

pub record KeptRecord (n m : ℕ) (x : Entered) : Type 0 where
  pub few : FewRead n m x.result
  pub shelf : length x.shelf ≡ n
  pub parts : length x.parts ≡ m
  pub received : length x.received ≡ m

with_few : (n m k : ℕ) (y : Result ℕ Refusal) → k ≤ n → FewEvents m y → FewRead n m (with_counts k y)
with_few n m k (Ok e) h g = (h, g)
with_few n m k (Err r) h g = tt

counts-entered : (s shelf vs ks : List ℕ) (x : Result (ℕ × ℕ) ℕ) (c : List ℕ) → length ks ≡ length vs → length c ≡ length shelf → FewCounts s (length shelf) x
    → KeptRecord (length shelf) (length vs) (on_counts s x c vs ks)
counts-entered s shelf vs ks (Err p) c h e f = record { few = tt; shelf = e; parts = refl; received = h }
counts-entered s shelf vs ks (Ok (k, l)) c h e f =
    let w = events_kept (length vs) s l 0 vs ks (length vs) (omega arith) refl h in
    record { few = with_few (length shelf) (length vs) k (events_from (length vs) s l 0 vs ks).events f.0 w.0; shelf = e; parts = w.1; received = w.2 }

pub record_kept : (s shelf vs ks : List ℕ) → length ks ≡ length vs → KeptRecord (length shelf) (length vs) (read_record s shelf vs ks)
unfolding read_record
record_kept s shelf vs ks h = let w = shelf_kept s shelf in counts-entered s shelf vs ks (shelf_in s shelf).counts (shelf_in s shelf).column h w.1 w.0
